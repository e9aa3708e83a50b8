-- The log of a region's own run is that of the region in the whole run.
use Rattle.std.proofs.Common.{◌≡◌, refl, sym, ap, ◌∙◌, subst, ℕ, suc, ◌+◌, ◌-◌, ◌==◌, Bool, if◌then◌else◌, List, [], ◌∷◌, ◌++◌, ℤ, length, length-append}
use Rattle.std.specs.List.{flat_map}
use Rattle.dp_tree.specs.declared.Program.{Program}
use Rattle.dp_tree.specs.Step.{Event}
use Rattle.dp_tree.specs.Trace.{Run, prints}
use Rattle.dp_tree.specs.Numbering.{numbers_from}
use Rattle.dp_tree.specs.Iteration.{begun_count, cells_after, cells_in, has_ended, is_closing, iteration, memory_after}
use Rattle.dp_plan.specs.declared.Plan.{Plan}
use Rattle.dp_semantics.specs.Recovery.{is_recovered}
use Rattle.dp_semantics.specs.Shift.{SameRegion}
use Rattle.dp_meaning.specs.MachineState.{MachineState, rest_of_run}
use Rattle.dp_log.specs.Changes.{changes_between, changes_of, memory_behind}
use Rattle.dp_log.specs.LogText.{closed_line, group_bytes, iteration_bytes, iterations_bytes, region_bytes, region_line, was_left}
use Rattle.dp_epoch.specs.RegionRun.{IsPlanned, region_run}
use Rattle.dp_run.specs.Stretches.{Between}
use Rattle.dp_run.proofs.Passing.{config_at}
use Rattle.dp_run.proofs.Regions.{comes}
use Rattle.dp_run.proofs.Reporting.{own_is, same}

flat_same : (f g : ℕ → List ℕ) → ((n : ℕ) → f n ≡ g n) → (ns : List ℕ) → flat_map f ns ≡ flat_map g ns
flat_same f g h [] = refl
flat_same f g h (n ∷ ns) = ap (λ (x : List ℕ). x ++ flat_map f ns) (h n) ∙ ap (λ (x : List ℕ). g n ++ x) (flat_same f g h ns)

-- where two runs have the same iterations in the region, and the same memory at the end
module _ (p : Program) (plan : Plan) (k : ℕ) (run own : Run) (s : SameRegion p plan k run own)
    (last : cells_after run (length run.trace) ≡ cells_after own (length own.trace)) where
  memory_same : (i : ℕ) → memory_behind run plan.region i ≡ memory_behind own plan.region i
  memory_same i =
      ap (λ (b : Bool). if b then memory_after run plan.region (suc i) else cells_after run (length run.trace)) (s.ended i)
      ∙ ap (λ (cells : List ℤ). if has_ended own plan.region i then cells else cells_after run (length run.trace)) (s.memory (suc i))
      ∙ ap (λ (cells : List ℤ). if has_ended own plan.region i then memory_after own plan.region (suc i) else cells) last

  iteration_same : (i : ℕ) → iteration_bytes p plan run i ≡ iteration_bytes p plan own i
  iteration_same i =
      ap (λ (b : Bool). group_bytes i b (changes_of p plan run i) (prints (iteration run plan.region i))) (s.again i)
      ∙ ap (λ (before : List ℤ). group_bytes i (is_recovered p plan own i) (changes_between p plan before (memory_behind run plan.region i))
      (prints (iteration run plan.region i))) (s.memory i)
      ∙ ap (λ (after : List ℤ). group_bytes i (is_recovered p plan own i) (changes_between p plan (memory_after own plan.region i) after)
      (prints (iteration run plan.region i))) (memory_same i)
      ∙ ap (λ (es : List Event). group_bytes i (is_recovered p plan own i) (changes_of p plan own i) (prints es)) (s.iterations i)

  left_same : was_left run plan.region ≡ was_left own plan.region
  left_same = ap (λ (n : ℕ). is_closing run plan.region (n - 1)) s.begun_in_all ∙ s.closing (begun_count own plan.region - 1)

  pub region_same : region_bytes p plan run ≡ region_bytes p plan own
  region_same =
      ap (λ (n : ℕ). if◌then◌else◌ {A = List ℕ} (n == 0) [] (region_line plan.region ++ iterations_bytes p plan run 0 n
      ++ (if was_left run plan.region then closed_line plan.region else []))) s.begun_in_all
      ∙ ap (λ (x : List ℕ). if◌then◌else◌ {A = List ℕ} (begun_count own plan.region == 0) [] (region_line plan.region ++ x
      ++ (if was_left run plan.region then closed_line plan.region else [])))
      (flat_same (iteration_bytes p plan run) (iteration_bytes p plan own) iteration_same (numbers_from 0 (begun_count own plan.region)))
      ∙ ap (λ (b : Bool). if◌then◌else◌ {A = List ℕ} (begun_count own plan.region == 0) [] (region_line plan.region ++ iterations_bytes p plan own 0
      (begun_count own plan.region) ++ (if b then closed_line plan.region else []))) left_same

module _ (p : Program) (plan : Plan) (input : List ℤ) (fuel : ℕ) (run : Run) (n : ℕ) (m : MachineState) (planned : IsPlanned p plan)
    (number : plan.region ≡ suc n) (b : Between p input fuel run n m) where
  last_same : cells_after run (length run.trace) ≡ cells_after (region_run m) (length (region_run m).trace)
  last_same =
      let c = b.behind.passed.piece in
      let size : length run.trace ≡ length b.behind.passed.events + length (rest_of_run m).trace = ap (λ (es : List Event). length es) c.trace
      ∙ length-append b.behind.passed.events (rest_of_run m).trace in
      ap (cells_after run) size ∙ ap cells_in (config_at run (rest_of_run m) b.behind.passed.events b.behind.passed.configs c (length (rest_of_run m).trace))

  pub region_lines : region_bytes p plan (region_run m) ≡ region_bytes p plan run
  region_lines =
      let here = comes p plan input fuel run n m planned number b in
      let is = own_is p plan input fuel run n m number b here in
      sym (region_same p plan (length b.behind.passed.events + 0) run (region_run m) (subst (SameRegion p plan (length b.behind.passed.events + 0) run) is
      (same p plan input fuel run n m number b here)) last_same)
