use Rattle.dp_lean_epoch.specs.JudgeSteps.{JudgeSteps, VoidsRecover}
use Rattle.dp_lean_epoch.proofs.JudgeStepping.{judge_steps, voids_recover}
use Rattle.dp_lean_epoch.proofs.Caps.{in_inlined}
use Rattle.dp_lean_epoch.proofs.law.judges_step.Goals as goal

pub returns-clause-steps : goal.returns-clause-steps
returns-clause-steps c = in_inlined JudgeSteps c.args.p.now c.args.plan.now c.requires.inlined c.requires.fits judge_steps

pub returns-clause-voids : goal.returns-clause-voids
returns-clause-voids c = in_inlined VoidsRecover c.args.p.now c.args.plan.now c.requires.inlined c.requires.fits voids_recover
