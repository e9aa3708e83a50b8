-- The lines of regions in a run that goes on.
use Rattle.std.proofs.Common.{◌≡◌, refl, sym, ap, ap₂, ◌∙◌, arith, ℕ, zero, suc, ◌+◌, ◌-◌, ◌==◌, Bool, true, false, if◌then◌else◌, List, [], ◌∷◌, ◌++◌, length}
use Rattle.std.proofs.Common.{is_some, nat_lt, count_by, slice_get, All}
use Rattle.dp_base.specs.declared.End.{End}
use Rattle.dp_tree.specs.declared.Program.{Program}
use Rattle.dp_tree.specs.Step.{Config, Event}
use Rattle.dp_tree.specs.Trace.{Run, ended, prints}
use Rattle.dp_tree.specs.Iteration.{begun_count, cells_after, has_ended, is_closing, iteration, memory_after, stands_at_head, start, starts}
use Rattle.dp_tree.specs.GoesOn.{GoesOnAs}
use Rattle.dp_plan.specs.declared.Plan.{Plan}
use Rattle.dp_plan.specs.Each.{Each}
use Rattle.dp_semantics.specs.Recovery.{is_recovered, nowhere}
use Rattle.dp_theorem.proofs.Shift.{epochs_shift}
use Rattle.dp_log.specs.Changes.{changes_between, memory_behind}
use Rattle.dp_log.specs.LogText.{closed_line, group_bytes, iteration_bytes, iterations_bytes, region_bytes, region_line, logged_regions, was_left}
use Rattle.dp_meaning.specs.Continues.{Continues}
use Rattle.dp_meaning.specs.MachineState.{MachineState, rest_of_run}
use Rattle.dp_auditor.specs.Regions.{SameRun}
use Rattle.dp_auditor.proofs.HeadLemmas.{goes_past, last_cells}

-- the lines of region r, of which so many iterations are begun
abbrev pub text_of : ℕ → ℕ → List ℕ → Bool → List ℕ
text_of r n lines left = if n == 0 then [] else region_line r ++ lines ++ (if left then closed_line r else [])

-- a region of which none is begun has no line
pub silent : (p : Program) (plan : Plan) (run : Run) → begun_count run plan.region ≡ 0 → region_bytes p plan run ≡ []
silent p plan run e = ap (λ (n : ℕ). text_of plan.region n (iterations_bytes p plan run 0 (begun_count run plan.region)) (was_left run plan.region)) e

pub all_silent : (p : Program) (plans : List Plan) (run : Run) → Each (λ plan. begun_count run plan.region ≡ 0) plans → logged_regions p plans run ≡ []
all_silent p [] run h = refl
all_silent p (plan ∷ plans) run h = ap₂ (λ (a b : List ℕ). a ++ b) (silent p plan run h.0) (all_silent p plans run h.1)

-- none is begun where the run is over and the region isn't at the head
pub over_silent : (n : ℕ) (c : Config) (why : End) (q : ℕ) → stands_at_head q c ≡ false → begun_count (ended n c why) q ≡ 0
over_silent n c why q e = ap (λ (b : Bool). count_by (λ (k : ℕ). nat_lt k n) (if b then 0 ∷ [] else [])) e

module _ (p : Program) (plan : Plan) (k : ℕ) (run rest : Run) (g : GoesOnAs plan.region 0 k run rest)
    (last : cells_after run (length run.trace) ≡ cells_after rest (length rest.trace)) where
  abbrev r : ℕ
  r = plan.region

  none_more : (i : ℕ) → i ≡ 0 + i
  none_more i = omega arith

  count_same : begun_count run r ≡ begun_count rest r
  count_same = g.begun_in_all ∙ sym (none_more (begun_count rest r))

  module _ (reached : is_some (start rest r 0) ≡ true) where
    ended_same : (i : ℕ) → has_ended run r i ≡ has_ended rest r i
    ended_same i = ap (has_ended run r) (none_more i) ∙ g.ended i

    memory_same : (i : ℕ) → memory_after run r i ≡ memory_after rest r i
    memory_same i = ap (memory_after run r) (none_more i) ∙ g.memory reached i

    behind_same : (i : ℕ) → memory_behind run r i ≡ memory_behind rest r i
    behind_same i = ap (λ (b : Bool). if b then memory_after run r (suc i) else cells_after run (length run.trace)) (ended_same i) ∙ by (has_ended rest r i)
      where
        by : (b : Bool) → (if b then memory_after run r (suc i) else cells_after run (length run.trace)) ≡ (if b then memory_after rest r (suc i)
            else cells_after rest (length rest.trace))
        by true = memory_same (suc i)
        by false = last

    again_same : (i : ℕ) → is_recovered p plan run i ≡ is_recovered p plan rest i
    again_same i = ap (is_recovered p plan run) (none_more i) ∙ (epochs_shift p plan 0 k run rest g reached nowhere refl).again i

    events_same : (i : ℕ) → iteration run r i ≡ iteration rest r i
    events_same i = ap (iteration run r) (none_more i) ∙ g.iterations i

    lines_same : (i : ℕ) → iteration_bytes p plan run i ≡ iteration_bytes p plan rest i
    lines_same i = λ j. group_bytes i (again_same i j) (changes_between p plan (memory_same i j) (behind_same i j)) (prints (events_same i j))

    all_same : (i n : ℕ) → iterations_bytes p plan run i n ≡ iterations_bytes p plan rest i n
    all_same i zero = refl
    all_same i (suc n) = ap₂ (λ (a b : List ℕ). a ++ b) (lines_same i) (all_same (i + 1) n)

    left_same : was_left run r ≡ was_left rest r
    left_same = ap (λ (n : ℕ). is_closing run r (n - 1)) count_same ∙ ap (is_closing run r) (none_more (begun_count rest r - 1))
        ∙ g.closing (begun_count rest r - 1)

    reached_text : region_bytes p plan run ≡ region_bytes p plan rest
    reached_text =
        ap (λ (n : ℕ). text_of r n (iterations_bytes p plan run 0 n) (was_left run r)) count_same
        ∙ ap₂ (text_of r (begun_count rest r)) (all_same 0 (begun_count rest r)) left_same

  -- A region that isn't reached in the piece has the lines that it has in the rest.
  pub same_text : region_bytes p plan run ≡ region_bytes p plan rest
  same_text = by (starts rest r) refl
    where
      by : (ns : List ℕ) → starts rest r ≡ ns → region_bytes p plan run ≡ region_bytes p plan rest
      by [] e =
          let none : begun_count rest r ≡ 0 = ap (count_by (λ (n : ℕ). nat_lt n rest.fuel)) e in
          silent p plan run (count_same ∙ none) ∙ sym (silent p plan rest none)
      by (n ∷ ns) e = reached_text (ap (λ (ms : List ℕ). is_some (slice_get ms 0)) e)

-- the region isn't the next evaluation in one of these configurations
abbrev pub IsPassed : List Config → Plan → Type 0
IsPassed configs plan = All (λ c. stands_at_head plan.region c ≡ false) configs

module _ (p : Program) (old new : MachineState) (same : SameRun old new) (events : List Event) (configs : List Config)
    (piece : Continues (rest_of_run old) events configs (rest_of_run new)) where
  pub plan_text : (plan : Plan) → IsPassed configs plan → region_bytes p plan (rest_of_run old) ≡ region_bytes p plan (rest_of_run new)
  plan_text plan off =
      same_text p plan (length events) (rest_of_run old) (rest_of_run new) (goes_past old new same events configs piece plan.region off)
      (last_cells old new same events configs piece)

  pub plans_text : (plans : List Plan) → Each (IsPassed configs) plans → logged_regions p plans (rest_of_run old) ≡ logged_regions p plans (rest_of_run new)
  plans_text [] h = refl
  plans_text (plan ∷ plans) h = ap₂ (λ (a b : List ℕ). a ++ b) (plan_text plan h.0) (plans_text plans h.1)
