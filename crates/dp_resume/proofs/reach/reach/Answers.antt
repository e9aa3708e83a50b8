use Rattle.std.proofs.Common.{sym, subst, refl}
use Rattle.dp_base.specs.declared.RegionReport.{RegionReport}
use Rattle.dp_room.proofs.ResultLemmas.{on_err}
use Rattle.dp_edge.proofs.FrontLemmas.{front_nothing}
use Rattle.dp_prepared.specs.Planned.{Prepared}
use Rattle.dp_meaning.specs.MachineState.{MachineState}
use Rattle.dp_epoch.specs.RegionRun.{RegionStart}
use Rattle.dp_audit.specs.Runs.{RegionStands}
use Rattle.dp_resume.specs.steps.Reaching.{Stops, machine_of}
use Rattle.dp_resume.proofs.reach.reach.Goals as goal

pub begin-requires-clause-start : goal.begin-requires-clause-start
begin-requires-clause-start g c = subst (λ (x : Prepared). RegionStart x.program x.plan c.args.input.now c.args.machine) (sym c.region.ensures) c.requires.start

pub make-requires-clause-stands : goal.make-requires-clause-stands
make-requires-clause-stands g c = (
  c.args.region.now.program,
  c.args.region.now.plan,
  c.args.input.now,
  c.args.machine,
  (subst
      (λ (x : Prepared). RegionStands x.program x.plan c.args.input.now c.args.machine 0 c.in_ok-runner.runner) c.region.ensures c.in_ok-runner.ensures),
)

pub returns-in_err-runner-clause-front : goal.returns-in_err-runner-clause-front
returns-in_err-runner-clause-front g c = on_err c.from_residual.result _ (front_nothing _ _ _ refl)

pub returns-in_err-end-clause-front : goal.returns-in_err-end-clause-front
returns-in_err-end-clause-front g c = on_err c.from_residual-in_err-end.result _ (c.in_err-end.ensures.front c.args.region.now.program c.args.region.now.plan
    c.args.input.now c.args.machine (subst (λ (x : Prepared). RegionStands x.program x.plan c.args.input.now c.args.machine 0 c.in_ok-runner.runner)
    c.region.ensures c.in_ok-runner.ensures))

pub returns-clause-stops : goal.returns-clause-stops
returns-clause-stops g c =
    let p = c.args.region.now.program in let plan = c.args.region.now.plan in let first = c.args.machine in let after = c.args.after in
    subst (λ (m : MachineState). Stops p plan first after m c.settle-machine.result.1 c.in_ok-end.end) (sym c.settle-machine.ensures.machine)
    (subst (λ (r : RegionReport). Stops p plan first after (machine_of c.make.new.runner) r c.in_ok-end.end) (sym c.settle-machine.ensures.report)
    (c.in_ok-end.ensures.stops c.args.region.now.program c.args.region.now.plan c.args.input.now c.args.machine
    (subst (λ (x : Prepared). RegionStands x.program x.plan c.args.input.now c.args.machine 0 c.in_ok-runner.runner) c.region.ensures c.in_ok-runner.ensures)))
