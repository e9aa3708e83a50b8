-- One turn of the comparison of a region's iterations, by what was compared of one.
use Rattle.std.proofs.Common.{◌≡◌, ◌≢◌, sym, ◌∙◌, subst, arith, ℕ, ◌+◌, ◌<◌, ◌-◌, List, [], ℤ, Option, Some, None, is_some}
use Rattle.std.proofs.lemmas.Option.{none-some, same_Some}
use Rattle.dp_tree.specs.declared.Program.{Program}
use Rattle.dp_tree.specs.Step.{Event}
use Rattle.dp_plan.specs.declared.Plan.{Plan}
use Rattle.dp_meaning.specs.declared.ends.IterEnd.{IterEnd}
use Rattle.dp_meaning.specs.declared.ends.IterEnd.TheVariants.{Next, Closed, Fault, Fuel, Going}
use Rattle.dp_meaning.specs.IterationRun.{IterationRun}
use Rattle.dp_meaning.specs.MachineState.{MachineState}
use Rattle.dp_log.specs.LogText.{group_bytes}
use Rattle.dp_view.specs.Changed.{Cleared}
use Rattle.dp_view.specs.Heard.{Comes, WereMade}
use Rattle.dp_view.specs.Viewed.{Viewed, settled}
use Rattle.dp_auditor.specs.Comparing.{Compared, Compares}
use Rattle.dp_auditor.specs.Ending.{if_differs}
use Rattle.dp_auditor.specs.Gathered.{sets_between}
use Rattle.dp_auditor.specs.Regions.{AtRegion}
use Rattle.dp_auditor.specs.Turned.{LastCompared, NextCompared, OneCompared}
use Rattle.dp_auditor.specs.Walking.{IterationsCompared}
use Rattle.dp_auditor.specs.declared.iterations.After.{After}
use Rattle.dp_auditor.specs.declared.iterations.After.TheVariants as after
use Rattle.dp_auditor.proofs.ReachedLemmas.{Reached}
use Rattle.dp_auditor.proofs.StepLemmas as step

module _ (p : Program) (plan : Plan) (first ahead behind : MachineState) (v : Viewed) (old now : Compared) (i : ℕ) (at : AtRegion p plan first)
    (h : Reached p plan first ahead behind v old now i) where
  module _ (beyond other : MachineState) (before printed : List ℤ) (clear : before ≡ []) (until : ℕ) (until_is : until ≡ beyond.steps) (w : Viewed)
      (follows : (events later : List Event) → Comes behind until v.source events later → WereMade other until v w events later) where
    -- what is kept tells what an iteration has changed that another one follows
    pub is_cleared : (end : IterEnd) → IterationRun plan.region 4294967295 ahead beyond before printed end → end ≡ Next → Cleared w.program w.plan w.before
    is_cleared end call is =
        step.cleared p plan first ahead behind v old now i at h beyond other before printed clear until until_is w follows
        (subst (λ (x : IterEnd). IterationRun plan.region 4294967295 ahead beyond before printed x) is call)

    module _ (few : ahead.steps < ahead.fuel) (x : Viewed) (new : Compared) (comes : Option After) where
      differs : IterationRun plan.region 4294967295 ahead beyond before printed Next → NextCompared i printed w x now new comes → (behind_it : After) →
          comes ≡ Some behind_it → IterationsCompared p plan first beyond old new behind_it
      differs call is behind_it some = by is.line is.compares (sym is.comes_is ∙ some)
        where
          by : (line : Option ℕ) → Compares now new (group_bytes i (is_some w.found) (sets_between w.before (settled w).source) printed) line →
              if_differs line ≡ Some behind_it → IterationsCompared p plan first beyond old new behind_it
          by None told e = absurd (none-some behind_it e)
          by (Some line) told e =
              subst (λ (a : After). IterationsCompared p plan first beyond old new a) (same_Some (after.Differs line) behind_it e)
              (step.differs p plan first ahead behind v old now i at h beyond other before printed clear until until_is w follows call new line
              (omega (arith, few)) told)

      last : (end : IterEnd) → end ≢ Next → IterationRun plan.region 4294967295 ahead beyond before printed end → (a : After) → comes ≡ Some a →
          LastCompared p plan end i printed beyond.config.cells w now new a →
          (behind_it : After) → comes ≡ Some behind_it → IterationsCompared p plan first beyond old new behind_it
      last end off call a e is behind_it some =
          subst (λ (b : After). IterationsCompared p plan first beyond old new b) (sym is.comes_is ∙ same_Some a behind_it (sym e ∙ some))
          (step.told p plan first ahead behind v old now i at h beyond other before printed clear until until_is w follows few new is.line end
          off call is.compares)

      -- No iteration follows, or a line differs.
      pub ends_so : (end : IterEnd) → IterationRun plan.region 4294967295 ahead beyond before printed end →
          OneCompared p plan end i printed beyond.config.cells w x now new comes → (behind_it : After) → comes ≡ Some behind_it →
          IterationsCompared p plan first beyond old new behind_it
      ends_so Next call one behind_it some = differs call one behind_it some
      ends_so Closed call one behind_it some = last Closed (λ e. absurd (cc e)) call one.0 one.1 one.2 behind_it some
      ends_so (Fault fault) call one behind_it some = last (Fault fault) (λ e. absurd (cc e)) call one.0 one.1 one.2 behind_it some
      ends_so Fuel call one behind_it some = last Fuel (λ e. absurd (cc e)) call one.0 one.1 one.2 behind_it some
      ends_so Going call one behind_it some = last Going (λ e. absurd (cc e)) call one.0 one.1 one.2 behind_it some

      goes : IterationRun plan.region 4294967295 ahead beyond before printed Next → NextCompared i printed w x now new comes → comes ≡ None →
          Reached p plan first beyond other x old new (i + 1)
      goes call is none = by is.line is.compares (sym none ∙ is.comes_is)
        where
          by : (line : Option ℕ) → Compares now new (group_bytes i (is_some w.found) (sets_between w.before (settled w).source) printed) line →
              None ≡ if_differs line → Reached p plan first beyond other x old new (i + 1)
          by None told e = step.reached p plan first ahead behind v old now i at h beyond other before printed clear until until_is w follows
              call x new is.kept told
          by (Some line) told e = absurd (none-some (after.Differs line) e)

      shorter : IterationRun plan.region 4294967295 ahead beyond before printed Next → beyond.fuel - beyond.steps < ahead.fuel - ahead.steps
      shorter call =
          let some = call.stops.some h.at.between in
          let steps = call.moved.steps in let fuel = call.moved.fuel in
          omega (arith, few, some, steps, fuel)

      -- Another one follows: it is reached, with fewer steps left.
      pub goes_on : (end : IterEnd) → IterationRun plan.region 4294967295 ahead beyond before printed end →
          OneCompared p plan end i printed beyond.config.cells w x now new comes → comes ≡ None →
          Reached p plan first beyond other x old new (i + 1) × (beyond.fuel - beyond.steps < ahead.fuel - ahead.steps)
      goes_on Next call one none = (goes call one none, shorter call)
      goes_on Closed call one none = absurd (none-some one.0 (sym none ∙ one.1))
      goes_on (Fault fault) call one none = absurd (none-some one.0 (sym none ∙ one.1))
      goes_on Fuel call one none = absurd (none-some one.0 (sym none ∙ one.1))
      goes_on Going call one none = absurd (none-some one.0 (sym none ∙ one.1))
