-- The run after each plan's region, and where it ends.
use Rattle.std.proofs.Common.{◌≡◌, sym, ap, subst, ◌∙◌, ℕ, suc, ◌+◌, ◌-◌, ◌<◌, ◌≤◌, ◌^◌, Bool, List, [], ◌∷◌, ◌++◌, ℤ, length, slice_get, Option, Some, None}
use Rattle.std.proofs.Common.{arith}
use Rattle.dp_base.specs.declared.End.{End}
use Rattle.dp_base.specs.declared.RegionReport.{RegionReport}
use Rattle.dp_tree.specs.declared.Program.{Program}
use Rattle.dp_tree.specs.Trace.{Run}
use Rattle.dp_plan.specs.declared.Plan.{Plan}
use Rattle.dp_plan.proofs.RegionFacts.{few_regions}
use Rattle.dp_semantics.specs.Reported.{region_report}
use Rattle.dp_theorem.proofs.Central.{fuel_is}
use Rattle.dp_meaning.specs.MachineState.{MachineState, rest_of_run}
use Rattle.dp_crew.specs.Output.{Emits}
use Rattle.dp_run.specs.Given.{AreNext}
use Rattle.dp_run.specs.RunText.{committed_count}
use Rattle.dp_epoch.specs.Accounts.{told_when}
use Rattle.dp_run.specs.Stretches.{Ahead, Between, Counted, FrontBefore, Leads, RunsFrom, Went, to_come}
use Rattle.dp_run.proofs.Before.{before_less, before_on}
use Rattle.dp_run.proofs.Leading.{behind_own}
use Rattle.dp_run.proofs.Counting.{counted_next, number_is, room}

-- the run makes no more steps than the fuel allows
run_few : (p : Program) (input : List ℤ) (fuel : ℕ) (run : Run) → RunsFrom p input fuel run → fuel ≤ 1000000000 → run.fuel ≤ 1000000000
run_few p input fuel run b few = let all : run.fuel ≡ b.steps = ap (λ (u : Run). u.fuel) b.run_is ∙ fuel_is p input b.steps b.from in
    omega (arith, all, b.within, few)

module _ (p : Program) (plans : List Plan) (input : List ℤ) (fuel : ℕ) (run : Run) (n : ℕ) where
  -- The next part comes.
  pub goes_on : (k : ℕ) (m : MachineState) (o : Option End) → o ≡ None → Leads p input fuel run k m o → Between p input fuel run k m
  goes_on k m o is leads = subst (Leads p input fuel run k m) is leads

  module _ {why : Bool} (k : ℕ) (m : MachineState) (told reports : List RegionReport) (before now : ℕ)
      (counted : Counted why p plans run k told reports before now) where
    -- The run has ended.
    pub ended_here : k ≤ length plans → (o : Option End) (end : End) → o ≡ Some end → Leads p input fuel run (n + k) m o →
        Went why p plans input fuel run n m (Some end) told reports before now
    ended_here within o end is leads =
        record { count = k; within = within; all = λ e. absurd (cc e); leads = subst (Leads p input fuel run (n + k) m) is leads; counted = counted }

    -- The regions of all plans are left behind.
    pub went_by_all : k ≡ length plans → Between p input fuel run (n + k) m → Went why p plans input fuel run n m None told reports before now
    went_by_all all b = record { count = k; within = omega (arith, all); all = λ e. all; leads = b; counted = counted }

    -- there is room to count a verdict for each step that is left
    pub room_here : AreNext p n plans → k < length plans → fuel ≤ 1000000000 → before < 2 ^ 63 → Between p input fuel run (n + k) m →
        now + (m.fuel - m.steps) < 2 ^ 64
    room_here given more few start b =
        let regions = few_regions p given.inlined in
        let most : m.fuel - m.steps ≤ 1000000000 = omega (arith, b.behind.fuel_is, few) in
        room p plans run (run_few p input fuel run b.behind.begins few) k (omega (arith, regions, given.within, more)) told reports before now
        (m.fuel - m.steps) start most counted

-- The next plan's region is run.
module _ (p : Program) (plans : List Plan) (input : List ℤ) (fuel : ℕ) (run : Run) (n k : ℕ) (given : AreNext p n plans) (plan : Plan)
    (is : slice_get plans k ≡ Some plan) (m : MachineState) (b : Between p input fuel run (n + k) m) where
  number : plan.region ≡ suc (n + k)
  number = number_is p n plans given k plan is

  at_own : Between p input m.fuel run (n + k) m
  at_own = subst (λ (f : ℕ). Between p input f run (n + k) m) (sym b.behind.fuel_is) b

  one_more : suc (n + k) ≡ n + (k + 1)
  one_more = omega arith

  pub starts_next : (u : Run) × (j : ℕ) × (plan.region ≡ suc j) × Between p input m.fuel u j m
  starts_next = (run, n + k, number, at_own)

  -- where it leads
  pub leads_next : (last : MachineState) (o : Option End) → ((u : Run) (j : ℕ) → plan.region ≡ suc j → Between p input m.fuel u j m →
      Leads p input m.fuel u (suc j) last o) → Leads p input fuel run (n + (k + 1)) last o
  leads_next last o ran =
      subst (λ (f : ℕ). Leads p input f run (n + (k + 1)) last o) b.behind.fuel_is (subst (λ (j : ℕ). Leads p input m.fuel run j last o) one_more
      (ran run (n + k) number at_own))

  -- its report, and how many of its iterations are counted
  pub counts_next : {why : Bool} (told reports more : List RegionReport) (before mid now : ℕ) → Counted why p plans run k told reports before mid →
      ((u : Run) (j : ℕ) → plan.region ≡ suc j → Between p input m.fuel u j m → more ≡ reports ++ told_when why (region_report p plan u) ∷ []) →
      ((u : Run) (j : ℕ) → plan.region ≡ suc j → Between p input m.fuel u j m → now ≡ mid + committed_count p plan u) →
      Counted why p plans run (k + 1) told more before now
  counts_next {why = why} told reports more before mid now counted reported tally =
      let next : suc k ≡ k + 1 = omega arith in
      subst (λ (j : ℕ). Counted why p plans run j told more before now) next
      (counted_next p plans run k plan is told reports more before mid now counted (reported run (n + k) number at_own) (tally run (n + k) number at_own))

-- It stopped in the next plan's region, or in the plain part behind it: so before each region behind those of all plans.
pub front_next : (p : Program) (plans : List Plan) (input : List ℤ) (fuel : ℕ) (run : Run) (n : ℕ) (first : MachineState) →
    Ahead p plans input fuel run n first → (k : ℕ) → k < length plans → (plan : Plan) → slice_get plans k ≡ Some plan →
    (m : MachineState) → (Ahead p plans input fuel (rest_of_run first) n first → Between p input fuel (rest_of_run first) (n + k) m) →
    (told mid tells : Option (List ℕ)) → Emits (to_come first) (to_come m) told mid →
    FrontBefore (suc plan.region) [] m mid tells → FrontBefore (suc (n + length plans)) [] first told tells
front_next p plans input fuel run n first a k below plan is m there told mid tells e f =
    let b = there (record { next = a.next; behind = behind_own p input fuel run n first a.behind a.next.inlined }) in
    let number = number_is p n plans a.next k plan is in
    before_on first m (suc (n + k)) b.behind.passed [] [] told mid tells e (suc (n + length plans)) (omega (arith, below))
    (before_less [] m mid tells (suc plan.region) (suc (n + length plans)) (omega (arith, number, below)) f)
