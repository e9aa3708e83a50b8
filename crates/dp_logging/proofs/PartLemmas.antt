-- The parts of `main` with their logs, plan by plan.
use Rattle.std.proofs.Common.{◌≡◌, refl, sym, ap, ◌∙◌, subst, ℕ, zero, suc, ◌+◌, ◌-◌, ◌≤◌, eq-eqb, Bool, if◌then◌else◌, List, [], ◌∷◌, ◌++◌, ℤ, length, map}
use Rattle.std.proofs.Common.{drop, Option, Some, None, slice_get, arith}
use Rattle.dp_base.specs.declared.End.{End}
use Rattle.dp_tree.specs.declared.Program.{Program}
use Rattle.dp_tree.specs.Numbering.{numbers_from}
use Rattle.dp_tree.specs.Trace.{Run}
use Rattle.dp_tree.specs.Iteration.{begun_count, starts}
use Rattle.dp_plan.specs.declared.Plan.{Plan}
use Rattle.dp_plan.specs.GivenPlans.{region_of}
use Rattle.dp_meaning.specs.MachineState.{MachineState}
use Rattle.dp_log.specs.LogText.{closed_line, iterations_bytes, region_bytes, region_line, logged_regions, was_left}
use Rattle.dp_prepared.specs.Planned.{Prepared}
use Rattle.dp_run.specs.Given.{AreNext}
use Rattle.dp_run.specs.Prepared.{AreOf}
use Rattle.dp_run.specs.Stretches.{Between, Leads, Over}
use Rattle.dp_run.proofs.Ending.{numbers_behind}
use Rattle.dp_run.proofs.PlansIn.{of_at}
use Rattle.dp_logging.specs.Parts.{WentBy}

module _ (p : Program) (run : Run) where
  -- a region that wasn't reached has no line
  silent : (plan : Plan) → starts run plan.region ≡ [] → region_bytes p plan run ≡ []
  silent plan none =
      let unbegun : begun_count run plan.region ≡ 0 = rw none refl in
      ap (λ (b : Bool). if◌then◌else◌ {A = List ℕ} b [] (region_line plan.region ++ iterations_bytes p plan run 0 (begun_count run plan.region)
      ++ (if was_left run plan.region then closed_line plan.region else []))) (eq-eqb (begun_count run plan.region) 0 unbegun)

  pub all_silent : (k : ℕ) (plans : List Plan) → ((r : ℕ) → k ≤ r → starts run r ≡ []) → (count : ℕ) → map region_of plans ≡ numbers_from k count →
      logged_regions p plans run ≡ []
  all_silent k [] none count numbers = refl
  all_silent k (x ∷ plans) none zero numbers = absurd (cc numbers)
  all_silent k (x ∷ plans) none (suc count) numbers =
      let first : x.region ≡ k = cc numbers in
      let rest : map region_of plans ≡ numbers_from (k + 1) count = cc numbers in
      ap (λ (line : List ℕ). line ++ logged_regions p plans run) (silent x (none x.region (omega (arith, first))))
      ∙ all_silent (k + 1) plans (λ r h. none r (omega (arith, h))) count rest

  -- the next plan's lines come first
  pub next_lines : (plans : List Plan) (k : ℕ) (plan : Plan) → slice_get plans k ≡ Some plan → logged_regions p (drop k plans) run ≡ region_bytes p plan run
      ++ logged_regions p (drop (k + 1) plans) run
  next_lines [] k plan e = absurd (cc e)
  next_lines (x ∷ plans) zero plan e = let same : x ≡ plan = cc e in ap (λ (y : Plan). region_bytes p y run ++ logged_regions p plans run) same
  next_lines (x ∷ plans) (suc k) plan e = let up : suc (k + 1) ≡ suc k + 1 = omega arith in
      next_lines plans k plan e ∙ ap (λ (j : ℕ). region_bytes p plan run ++ logged_regions p (drop j (x ∷ plans)) run) up

module _ (p : Program) (plans : List Plan) (input : List ℤ) (fuel : ℕ) (run : Run) (n : ℕ) where
  -- The run has ended behind the first of the plans' regions: the others have no line.
  pub none_behind : AreNext p n plans → (k : ℕ) → k ≤ length plans → (m : MachineState) (end : End) → Over run (n + k) m end →
      logged_regions p (drop k plans) run ≡ []
  none_behind next k within m end over =
      let numbers = numbers_behind k plans (suc n) (length plans) within next.regions in
      all_silent p run (k + suc n) (drop k plans) (λ r h. over.unreached r (omega (arith, h))) (length plans - k) numbers

  module _ (k : ℕ) (m : MachineState) where
    pub went_so : k ≤ length plans → (o : Option End) (end : End) → o ≡ Some end → Leads p input fuel run (n + k) m o →
        WentBy p plans input fuel run n m (Some end)
    went_so within o end is leads = record { count = k; within = within; all = λ e. absurd (cc e); leads = subst (Leads p input fuel run (n + k) m) is leads }

    pub went_all : k ≡ length plans → Between p input fuel run (n + k) m → WentBy p plans input fuel run n m None
    went_all all b = record { count = k; within = omega (arith, all); all = λ e. all; leads = b }

    pub over_so : (o : Option End) (end : End) → o ≡ Some end → Leads p input fuel run (n + k) m o → Over run (n + k) m end
    over_so o end is leads = subst (Leads p input fuel run (n + k) m) is leads

  -- .. within the machine's own fuel
  pub at_own : (k : ℕ) (m : MachineState) → Between p input fuel run k m → Between p input m.fuel run k m
  at_own k m b = subst (λ (f : ℕ). Between p input f run k m) (sym b.behind.fuel_is) b

-- what is so of the lines of a region of the program's is so of the program's lines
pub lines_there : (P : List ℕ → Type 0) (p : Program) (regions : List Prepared) (k : ℕ) (r : Prepared) → AreOf p regions → slice_get regions k ≡ Some r →
    (input : List ℤ) (m : MachineState) →
    ((run : Run) (n : ℕ) → r.plan.region ≡ suc n → Between r.program input m.fuel run n m → P (region_bytes r.program r.plan run)) → (run : Run) (n : ℕ) →
    r.plan.region ≡ suc n → Between p input m.fuel run n m → P (region_bytes p r.plan run)
lines_there P p regions k r are is input m = subst (λ (q : Program). (run : Run) (n : ℕ) → r.plan.region ≡ suc n → Between q input m.fuel run n m →
    P (region_bytes q r.plan run)) (of_at p regions k r are is)
