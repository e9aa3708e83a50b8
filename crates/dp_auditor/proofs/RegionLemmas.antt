-- A region where it comes next, and its lines around those of its iterations.
use Rattle.std.proofs.Common.{eq-eqb, get_or, pos, ◌≡◌, ◌≢◌, refl, sym, ap, ◌∙◌, subst, arith, lt-ltb, ne_eqb, ℕ, ◌+◌, ◌<◌, ◌==◌, Bool, true, false, cond}
use Rattle.std.proofs.Common.{if◌then◌else◌, nat_lt, count_by, List, [], ◌∷◌, ◌++◌, append_assoc, append-nil, length, ℤ, Some, slice_get}
use Rattle.std.proofs.lemmas.Bool.{and_parts}
use Rattle.std.proofs.lemmas.List.Sums.{sum_by-cons}
use Rattle.dp_base.specs.declared.End.{End}
use Rattle.dp_base.specs.declared.End.TheVariants.{Fuel}
use Rattle.dp_tree.specs.declared.Stmt.{Stmt, out-Stmt}
use Rattle.dp_tree.specs.declared.Stmt.TheOpen.{Stmt-F, Region}
use Rattle.dp_tree.specs.declared.Program.{Program}
use Rattle.dp_tree.specs.Step.{Config, clear_locals, cleared_at, standing}
use Rattle.dp_tree.specs.Trace.{Run, run_of, start_cells}
use Rattle.dp_tree.specs.Iteration.{begun_count, cells_in, is_region, memory_after, memory_from, places, stands_at_head, start, starts}
use Rattle.dp_tree.proofs.MovedLists.{count_above}
use Rattle.dp_plan.specs.declared.Plan.{Plan}
use Rattle.dp_semantics.specs.EpochKey.{statements_from}
use Rattle.dp_semantics.specs.Verdict.{to_do_in}
use Rattle.dp_semantics.proofs.Setting.{Accepted, all_free}
use Rattle.dp_semantics.proofs.Names.{is_free}
use Rattle.dp_theorem.proofs.Fitting.{accepted}
use Rattle.dp_theorem.proofs.GivenFits.{given_fits}
use Rattle.dp_theorem.proofs.Iterations.{iteration_is}
use Rattle.dp_theorem.proofs.Memory.{clear-still}
use Rattle.dp_theorem.proofs.Placed.{behind, not_at_head, standing-length}
use Rattle.dp_meaning.specs.declared.ends.Part.TheVariants as part
use Rattle.dp_meaning.specs.MachineState.{MachineState, fuel_left, part_from, part_of, rest_of_run}
use Rattle.dp_meaning.proofs.ContinuesLemmas.{ends_at_fuel, fuel_of_run}
use Rattle.dp_meaning.proofs.NextLemmas.{on_region, run_begins}
use Rattle.dp_log.specs.LogText.{closed_line, iterations_bytes, region_bytes, region_line, was_left}
use Rattle.dp_auditor.specs.Comparing.{Compared, Fails, PassesPiece}
use Rattle.dp_auditor.specs.Regions.{AtRegion}
use Rattle.dp_auditor.specs.Walking.{IterationsCompared, RegionCompared}
use Rattle.dp_auditor.specs.declared.iterations.After.TheVariants as after
use Rattle.dp_auditor.proofs.PieceLemmas.{fails_behind, passes_join, passes_none}
use Rattle.dp_auditor.proofs.TextLemmas.{silent}

-- where the fuel is spent no iteration is begun
pub spent_begins : (m : MachineState) → fuel_left m ≡ 0 → (q : ℕ) → begun_count (rest_of_run m) q ≡ 0
spent_begins m e q =
    ap (λ (n : ℕ). count_by (λ k. nat_lt k n) (starts (rest_of_run m) q)) (fuel_of_run m.program m.input (fuel_left m) m.config ∙ e)
    ∙ count_above (stands_at_head q) 0 0 (rest_of_run m).configs (omega arith)

pub spent_ends : (m : MachineState) → fuel_left m ≡ 0 → part_of m.config.to_do ≢ part.Finished → (rest_of_run m).end ≡ Fuel
spent_ends m e some =
    ap (λ (n : ℕ). (run_of m.program m.input n m.config).end) e ∙ ap (λ (run : Run). run.end) (ends_at_fuel m.program m.input m.config some)

-- the region's condition is the first evaluation
pub starts_here : (m : MachineState) (r : ℕ) → part_of m.config.to_do ≡ part.Region r → (later : List ℕ) × (starts (rest_of_run m) r ≡ 0 ∷ later)
starts_here m r head =
    let begins = run_begins m.program m.input (fuel_left m) m.config in (
      places (stands_at_head r) 1 begins.0,
      ap (places (stands_at_head r) 0) begins.1
          ∙ ap (λ (b : Bool). if b then 0 ∷ places (stands_at_head r) 1 begins.0 else places (stands_at_head r) 1 begins.0) (on_region r m.config head),
    )

pub begun_here : (m : MachineState) (r : ℕ) → part_of m.config.to_do ≡ part.Region r → 0 < fuel_left m → (k : ℕ) × (begun_count (rest_of_run m) r ≡ 1 + k)
begun_here m r head left =
    let s = starts_here m r head in
    let fuel : (rest_of_run m).fuel ≡ fuel_left m = fuel_of_run m.program m.input (fuel_left m) m.config in (
      count_by (λ n. nat_lt n (rest_of_run m).fuel) s.0,
      ap (λ (ns : List ℕ). count_by (λ n. nat_lt n (rest_of_run m).fuel) ns) s.1 ∙ sum_by-cons (λ (n : ℕ). cond (nat_lt n (rest_of_run m).fuel) 1 0) 0 s.0
          ∙ ap (λ (b : Bool). cond b 1 0 + count_by (λ n. nat_lt n (rest_of_run m).fuel) s.0) (lt-ltb 0 (rest_of_run m).fuel (omega (arith, fuel, left))),
    )

-- ---- the machine that is made for the region

standing_there : (p : Program) (r : ℕ) (xs : List Stmt) (cells : List ℤ) → part_of xs ≡ part.Region r →
    standing p xs cells ≡ record { to_do = xs; cells = clear_locals r p.vars cells }
standing_there p r [] cells e = absurd (cc)
standing_there p r (s ∷ rest) cells e = by (out-Stmt s) e
  where
    by : (h : Stmt-F Stmt) → part_from h ≡ part.Region r → ◌≡◌ {A = Config} (record { to_do = s ∷ rest; cells = cleared_at p h cells })
        (record { to_do = s ∷ rest; cells = clear_locals r p.vars cells })
    by (Region q site c body) e = let same : q ≡ r = cc in ap (λ (n : ℕ). record { to_do = s ∷ rest; cells = clear_locals n p.vars cells }) same
    by _ e = absurd (cc)

from_behind : (r : ℕ) (front : List Stmt) (x : Stmt) (tail : List Stmt) → all_free r front ≡ true → is_region r (out-Stmt x) ≡ true →
    statements_from r (front ++ x ∷ tail) ≡ x ∷ tail
from_behind r [] x tail free is = ap (λ (b : Bool). if b then x ∷ tail else statements_from r tail) is
from_behind r (y ∷ front) x tail free is =
    let both = and_parts (is_free r y) (all_free r front) free in
    ap (λ (b : Bool). if b then y ∷ front ++ x ∷ tail else statements_from r (front ++ x ∷ tail)) (not_at_head r y both.0)
    ∙ from_behind r front x tail both.1 is

module _ (p : Program) (plan : Plan) (m : MachineState) (at : AtRegion p plan m) where
  abbrev pub ok : Accepted p plan
  ok = accepted p plan (given_fits p at.inlined plan at.is_plan)

  pub run_is : rest_of_run m ≡ run_of p m.input (fuel_left m) m.config
  run_is = ap (λ (x : Program). run_of x m.input (fuel_left m) m.config) at.program_is

  pub start_is : start (run_of p m.input (fuel_left m) m.config) plan.region 0 ≡ Some 0
  start_is = ap (λ (run : Run). slice_get (starts run plan.region) 0) (sym run_is) ∙ ap (λ (ns : List ℕ). slice_get ns 0) (starts_here m plan.region at.head).1

  first_config : slice_get (run_of p m.input (fuel_left m) m.config).configs 0 ≡ Some m.config
  first_config = ap (λ (cs : List Config). slice_get cs 0) (run_begins p m.input (fuel_left m) m.config).1

  pub memory_is : memory_after (run_of p m.input (fuel_left m) m.config) plan.region 0 ≡ m.config.cells
  memory_is = ap (λ (o : _). memory_from (run_of p m.input (fuel_left m) m.config) o (start (run_of p m.input (fuel_left m) m.config) plan.region 0)) start_is
      ∙ ap cells_in first_config

  pub to_do_is : m.config.to_do ≡ behind ok
  to_do_is = sym (ap to_do_in first_config) ∙ (iteration_is ok m.input (fuel_left m) m.config at.stands 0 0 start_is).to_do_is

  cells_still : clear_locals plan.region p.vars m.config.cells ≡ m.config.cells
  cells_still =
      let cleared = (iteration_is ok m.input (fuel_left m) m.config at.stands 0 0 start_is).cleared in
      clear-still plan.region p.vars m.config.cells (λ c local. subst (λ (cells : List ℤ). get_or cells c (pos 0) ≡ pos 0) memory_is (cleared c local))

  from_is : statements_from plan.region p.main ≡ m.config.to_do
  from_is =
      ap (statements_from plan.region) ok.split.main_is
      ∙ from_behind plan.region ok.split.front ok.statement ok.split.tail ok.split.front_free (ap (is_region plan.region) ok.part.is
      ∙ eq-eqb plan.region plan.region refl)
      ∙ sym to_do_is

  -- A machine that is made for the region stands as this one does.
  pub config_is : standing p (statements_from plan.region p.main) m.config.cells ≡ m.config
  config_is =
      ap (λ (xs : List Stmt). standing p xs m.config.cells) from_is ∙ standing_there p plan.region m.config.to_do m.config.cells at.head
      ∙ ap (λ (cells : List ℤ). record { to_do = m.config.to_do; cells = cells }) cells_still

  -- with as many cells as the program has
  pub size_is : length m.config.cells ≡ length (start_cells p.vars)
  size_is =
      let s = at.stands in
      ap (λ (c : Config). length c.cells) s.config_is ∙ standing-length p (s.inner ++ s.behind) s.cells ∙ s.cells_are

-- ---- the lines around those of the iterations

module _ (p : Program) (plan : Plan) (first last : MachineState) (old : Compared) where
  abbrev run : Run
  run = rest_of_run first

  abbrev lines : List ℕ
  lines = iterations_bytes p plan (rest_of_run first) 0 (begun_count (rest_of_run first) plan.region)

  -- the fuel is spent where the region comes next
  pub spent_region : AtRegion p plan first → first.steps ≡ first.fuel → RegionCompared p plan first first old old (after.Ends Fuel)
  spent_region at spent =
      let none : fuel_left first ≡ 0 = omega (arith, spent) in (
        subst (PassesPiece old old) (sym (silent p plan run (spent_begins first none plan.region))) (passes_none old),
        (λ q other. spent_begins first none q),
        spent_ends first none (λ e. let clash : part.Region plan.region ≡ part.Finished = sym at.head ∙ e in absurd (cc clash)),
      )

  module _ (at : AtRegion p plan first) (left : 0 < fuel_left first) where
    text_is : region_bytes p plan run ≡ region_line plan.region ++ lines ++ (if was_left run plan.region then closed_line plan.region else [])
    text_is =
        let begun = begun_here first plan.region at.head left in
        let some : (begun_count run plan.region == 0) ≡ false = ne_eqb (begun_count run plan.region) 0 (λ e. omega (arith, e, begun.1)) in
        ap (λ (b : Bool). if◌then◌else◌ {A = List ℕ} b [] (region_line plan.region ++ lines
        ++ (if was_left run plan.region then closed_line plan.region else []))) some

    -- the first line differs
    pub differs_first : (line : ℕ) → ((later : List ℕ) → Fails old (region_line plan.region ++ later) line) →
        RegionCompared p plan first last old old (after.Differs line)
    differs_first line h later =
        let end = if was_left run plan.region then closed_line plan.region else [] in
        subst (λ (xs : List ℕ). Fails old xs line)
        (sym (append_assoc (region_line plan.region) (lines ++ end) later)
        ∙ ap (λ (xs : List ℕ). xs ++ later) (sym (append_assoc (region_line plan.region) lines end)) ∙ ap (λ (xs : List ℕ). xs ++ later) (sym text_is))
        (h ((lines ++ end) ++ later))

    module _ (mid new : Compared) (passes : PassesPiece old mid (region_line plan.region)) where
      pub ends_region : (end : End) → IterationsCompared p plan first last mid new (after.Ends end) → RegionCompared p plan first last old new (after.Ends end)
      ends_region end h =
          let text : region_line plan.region ++ lines ≡ region_bytes p plan run =
          sym (append-nil (region_line plan.region ++ lines))
          ∙ ap (λ (b : Bool). region_line plan.region ++ lines ++ (if b then closed_line plan.region else [])) (sym h.1) ∙ sym text_is in
          (subst (PassesPiece old new) text (passes_join old mid new (region_line plan.region) lines passes h.0), h.2, h.3)

      pub differs_region : (line : ℕ) → IterationsCompared p plan first last mid new (after.Differs line) →
          RegionCompared p plan first last old new (after.Differs line)
      differs_region line h later =
          let end = if was_left run plan.region then closed_line plan.region else [] in
          subst (λ (xs : List ℕ). Fails old xs line)
          (ap (λ (xs : List ℕ). region_line plan.region ++ xs) (sym (append_assoc lines end later))
          ∙ sym (append_assoc (region_line plan.region) (lines ++ end) later)
          ∙ ap (λ (xs : List ℕ). xs ++ later) (sym (append_assoc (region_line plan.region) lines end) ∙ sym text_is))
          (fails_behind old mid (region_line plan.region) (lines ++ (end ++ later)) line passes (h (end ++ later)))

      module _ (h : IterationsCompared p plan first last mid new after.Left) where
        closed_is : region_bytes p plan run ≡ region_line plan.region ++ lines ++ closed_line plan.region
        closed_is = text_is ∙ ap (λ (b : Bool). region_line plan.region ++ lines ++ (if b then closed_line plan.region else [])) h.1

        pub left_region : (end : Compared) → PassesPiece new end (closed_line plan.region) → RegionCompared p plan first last old end after.Left
        left_region end closed = (
          subst (PassesPiece old end) (sym closed_is) (passes_join old new end (region_line plan.region ++ lines) (closed_line plan.region)
              (passes_join old mid new (region_line plan.region) lines passes h.0) closed),
          h.2,
        )

        pub differs_last : (end : Compared) (line : ℕ) → ((later : List ℕ) → Fails new (closed_line plan.region ++ later) line) →
            RegionCompared p plan first last old end (after.Differs line)
        differs_last end line closed later =
            subst (λ (xs : List ℕ). Fails old xs line)
            (sym (append_assoc (region_line plan.region ++ lines) (closed_line plan.region) later) ∙ ap (λ (xs : List ℕ). xs ++ later) (sym closed_is))
            (fails_behind old new (region_line plan.region ++ lines) (closed_line plan.region ++ later) line
            (passes_join old mid new (region_line plan.region) lines passes h.0) (closed later))
