use Rattle.std.proofs.Common.{◌∙◌, subst, refl, arith}
use Rattle.dp_meaning.specs.MachineState.{rest_of_run}
use Rattle.dp_room.proofs.ResultLemmas.{on_err}
use Rattle.dp_run.proofs.Before.{before_on}
use Rattle.dp_run.proofs.Passing.{passed_none}
use Rattle.dp_meaning.specs.declared.ends.PartEnd.{PartEnd}
use Rattle.dp_run.specs.steps.Calls.{PartSteps}
use Rattle.dp_crew.proofs.StreamLemmas.{emits_nothing, emits_on}
use Rattle.dp_run.proofs.PartLemmas.{part_going, part_ends, part_faults, part_spent, steps_passed}
use Rattle.dp_run.proofs.plain.finish_plain.Goals as goal

pub calls-preserved : goal.calls-preserved
calls-preserved g c =
    let s = subst (λ (end : PartEnd). PartSteps c.calls.machine c.go_on.new.machine end) c.in-Going.is c.in_ok-go_on.ensures.ok in
    record {
      so_far = part_going _ _ _ c.calls.invariant.so_far s;
      emits = emits_on _ _ _ _ _ _ c.calls.invariant.emits c.in_ok-go_on.ensures.streams;
      faults = c.in_ok-go_on.ensures.faults ∙ c.calls.invariant.faults;
      tally = c.in_ok-go_on.ensures.tally ∙ c.calls.invariant.tally;
    }

pub returns-in-Done-clause-ok : goal.returns-in-Done-clause-ok
returns-in-Done-clause-ok g c =
    part_ends _ _ _ c.calls.invariant.so_far (subst (λ (end : PartEnd). PartSteps c.calls.machine c.go_on.new.machine end) c.in-Done.is
    c.in_ok-go_on.ensures.ok)

pub returns-in-Done-clause-streams : goal.returns-in-Done-clause-streams
returns-in-Done-clause-streams g c = emits_on _ _ _ _ _ _ c.calls.invariant.emits c.in_ok-go_on.ensures.streams

pub returns-in-Fault-clause-ok : goal.returns-in-Fault-clause-ok
returns-in-Fault-clause-ok g c =
    part_faults _ _ _ c.calls.invariant.so_far c.in-Fault.fault (subst (λ (end : PartEnd). PartSteps c.calls.machine c.go_on.new.machine end) c.in-Fault.is
    c.in_ok-go_on.ensures.ok)

pub returns-in-Fault-clause-streams : goal.returns-in-Fault-clause-streams
returns-in-Fault-clause-streams g c = emits_on _ _ _ _ _ _ c.calls.invariant.emits c.in_ok-go_on.ensures.streams

pub returns-in-Fuel-clause-ok : goal.returns-in-Fuel-clause-ok
returns-in-Fuel-clause-ok g c =
    part_spent _ _ _ c.calls.invariant.so_far (subst (λ (end : PartEnd). PartSteps c.calls.machine c.go_on.new.machine end) c.in-Fuel.is
    c.in_ok-go_on.ensures.ok)

pub returns-in-Fuel-clause-streams : goal.returns-in-Fuel-clause-streams
returns-in-Fuel-clause-streams g c = emits_on _ _ _ _ _ _ c.calls.invariant.emits c.in_ok-go_on.ensures.streams

pub calls-init : goal.calls-init
calls-init g c = record {
  so_far = record { plain = c.requires.part; passed = passed_none (rest_of_run c.args.machine.now) 0; behind = λ p input fuel run n b. b };
  emits = emits_nothing _ _;
  faults = refl;
  tally = refl;
}

pub returns-in_err-go_on-clause-before : goal.returns-in_err-go_on-clause-before
returns-in_err-go_on-clause-before g c =
    on_err c.from_residual.result _ (before_on c.args.machine.now c.calls.machine 0 c.calls.invariant.so_far.passed c.args.waiting.now c.calls.waiting _ _ _
    c.calls.invariant.emits 0 (omega arith) c.in_err-go_on.ensures.before)

pub returns-in-Done-clause-passes : goal.returns-in-Done-clause-passes
returns-in-Done-clause-passes g c = steps_passed _ _ _ c.calls.invariant.so_far _ c.in_ok-go_on.ensures.ok

pub returns-in-Fault-clause-passes : goal.returns-in-Fault-clause-passes
returns-in-Fault-clause-passes g c = steps_passed _ _ _ c.calls.invariant.so_far _ c.in_ok-go_on.ensures.ok

pub returns-in-Fuel-clause-passes : goal.returns-in-Fuel-clause-passes
returns-in-Fuel-clause-passes g c = steps_passed _ _ _ c.calls.invariant.so_far _ c.in_ok-go_on.ensures.ok
