use Rattle.dp_lean_epoch.specs.Steps.{StageSteps, WorkersBegin}
use Rattle.dp_lean_epoch.proofs.Arriving.{void_stays}
use Rattle.dp_lean_epoch.proofs.Stepping.{stage_steps, workers_begin}
use Rattle.dp_lean_epoch.proofs.WorkersOn.{workers_go_on}
use Rattle.dp_lean_epoch.proofs.Caps.{in_inlined}
use Rattle.dp_lean_epoch.proofs.law.stages_step.Goals as goal

pub returns-clause-steps : goal.returns-clause-steps
returns-clause-steps c = in_inlined StageSteps c.args.p.now c.args.plan.now c.requires.inlined c.requires.fits
    (λ key inlined fits pays. stage_steps key inlined fits pays (workers_go_on key inlined fits pays))

pub returns-clause-workers : goal.returns-clause-workers
returns-clause-workers c = in_inlined WorkersBegin c.args.p.now c.args.plan.now c.requires.inlined c.requires.fits workers_begin

pub returns-clause-voids : goal.returns-clause-voids
returns-clause-voids c = void_stays
