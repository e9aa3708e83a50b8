-- A run that goes on, and the iterations of a region from there on.
use Rattle.std.proofs.Common.{◌≡◌, refl, sym, ap, ◌∙◌, subst, arith, ℕ, suc, ◌+◌, ◌-◌, Bool, false, if◌then◌else◌, List, [], ◌∷◌, ◌++◌, length-append, length}
use Rattle.std.proofs.Common.{cond, nat_lt, count_by, All, Some, slice_get}
use Rattle.std.proofs.lemmas.List.Elements.{All-head, All-tail}
use Rattle.std.proofs.lemmas.List.Sums.{sum_by-append}
use Rattle.dp_room.proofs.ListLemmas.{get_behind}
use Rattle.dp_tree.specs.declared.Program.{Program}
use Rattle.dp_tree.specs.Inlined.{IsInlined}
use Rattle.dp_tree.specs.InMain.{StandsInMain}
use Rattle.dp_tree.specs.Step.{Config, Event}
use Rattle.dp_tree.specs.Trace.{Run, run_of}
use Rattle.dp_tree.specs.Iteration.{cells_after, cells_in, places, stands_at_head}
use Rattle.dp_tree.specs.GoesOn.{GoesOnAs, starts_before}
use Rattle.dp_tree.proofs.GoesOn.{goes_on}
use Rattle.dp_tree.proofs.InMain.{stays_in_main}
use Rattle.dp_tree.proofs.MovedLists.{count_above, count_below, places_split}
use Rattle.dp_meaning.specs.Continues.{Continues}
use Rattle.dp_meaning.specs.MachineState.{MachineState, fuel_left, rest_of_run}
use Rattle.dp_meaning.proofs.ContinuesLemmas.{fuel_of_run}
use Rattle.dp_meaning.proofs.NextLemmas.{run_begins}
use Rattle.dp_auditor.specs.Regions.{SameRun}

pub no_place : {X : Type 0} (test : X → Bool) (k : ℕ) (xs : List X) → All (λ x. test x ≡ false) xs → places test k xs ≡ []
no_place test k [] h = refl
no_place {X = X} test k (x ∷ xs) h =
    ap (λ (b : Bool). if b then k ∷ places test (suc k) xs else places test (suc k) xs) (All-head (λ (y : X). test y ≡ false) x xs h)
    ∙ no_place test (suc k) xs (All-tail (λ (y : X). test y ≡ false) x xs h)

module _ (old new : MachineState) (same : SameRun old new) (events : List Event) (configs : List Config)
    (piece : Continues (rest_of_run old) events configs (rest_of_run new)) where
  abbrev first : Run
  first = rest_of_run old

  abbrev rest : Run
  rest = rest_of_run new

  left : fuel_left old - length events ≡ fuel_left new
  left =
      let a = fuel_of_run old.program old.input (fuel_left old) old.config in
      let b = fuel_of_run new.program new.input (fuel_left new) new.config in
      omega (arith, a, b, piece.fuel)

  pub config_there : slice_get first.configs (length events) ≡ Some new.config
  config_there =
      let begins = run_begins new.program new.input (fuel_left new) new.config in
      let e : length events ≡ length configs + 0 = omega (arith, piece.paired) in
      ap (λ (cs : List Config). slice_get cs (length events)) piece.configs ∙ ap (slice_get (configs ++ rest.configs)) e ∙ get_behind configs rest.configs 0
      ∙ ap (λ (cs : List Config). slice_get cs 0) begins.1

  run_there : run_of old.program old.input (fuel_left old - length events) new.config ≡ rest
  run_there = λ i. run_of (sym same.program_is i) (sym same.input_is i) (left i) new.config

  -- The machine stands in `main` as before.
  pub stands_there : (p : Program) → IsInlined p → old.program ≡ p → StandsInMain p old.config → StandsInMain p new.config
  stands_there p h is s =
      stays_in_main p old.input h.regions (fuel_left old) (length events) old.config new.config s
      (subst (λ (x : Program). slice_get (run_of x old.input (fuel_left old) old.config).configs (length events) ≡ Some new.config) is config_there)

  -- the memory behind all steps
  pub last_cells : cells_after first (length first.trace) ≡ cells_after rest (length rest.trace)
  last_cells =
      let size : length first.trace ≡ length configs + length rest.trace = omega
      (arith, ap length piece.trace, length-append events rest.trace, piece.paired) in
      ap (cells_after first) size ∙ ap (λ (cs : List Config). cells_in (slice_get cs (length configs + length rest.trace))) piece.configs
      ∙ ap cells_in (get_behind configs rest.configs (length rest.trace))

  module _ (q : ℕ) where
    heads_before : starts_before first q (length events) ≡ length (places (stands_at_head q) 0 configs)
    heads_before =
        let k = length events in
        let ahead = places (stands_at_head q) 0 configs in
        let behind = places (stands_at_head q) (0 + length configs) rest.configs in
        let sum : count_by (λ m. nat_lt m k) (ahead ++ behind) ≡ count_by (λ m. nat_lt m k) ahead + count_by (λ m. nat_lt m k) behind = sum_by-append
        (λ (m : ℕ). cond (nat_lt m k) 1 0) ahead behind in
        let low : count_by (λ m. nat_lt m k) ahead ≡ length ahead = count_below (stands_at_head q) k 0 configs (omega (arith, piece.paired)) in
        let high : count_by (λ m. nat_lt m k) behind ≡ 0 = count_above (stands_at_head q) k (0 + length configs) rest.configs (omega (arith, piece.paired)) in
        let all : count_by (λ m. nat_lt m k) (ahead ++ behind) ≡ length ahead = omega (arith, sum, low, high) in
        ap (λ (cs : List Config). count_by (λ m. nat_lt m k) (places (stands_at_head q) 0 cs)) piece.configs
        ∙ ap (λ (ns : List ℕ). count_by (λ m. nat_lt m k) ns) (places_split (stands_at_head q) 0 configs rest.configs) ∙ all

    pub goes_so : GoesOnAs q (length (places (stands_at_head q) 0 configs)) (length events) first rest
    goes_so =
        subst (λ (m : ℕ). GoesOnAs q m (length events) first rest) heads_before
        (subst (λ (run : Run). GoesOnAs q (starts_before first q (length events)) (length events) first run) run_there
        (goes_on old.program old.input (fuel_left old) (length events) q old.config new.config config_there))

    pub goes_past : All (λ c. stands_at_head q c ≡ false) configs → GoesOnAs q 0 (length events) first rest
    goes_past off = subst (λ (ns : List ℕ). GoesOnAs q (length ns) (length events) first rest) (no_place (stands_at_head q) 0 configs off) goes_so
