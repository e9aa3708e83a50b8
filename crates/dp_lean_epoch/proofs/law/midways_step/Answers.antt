use Rattle.dp_semantics.specs.EpochKey.{EpochKey}
use Rattle.dp_net.specs.NetItems.{Marks}
use Rattle.dp_lean_epoch.specs.Holding.{HavePlaces}
use Rattle.dp_lean_epoch.specs.Midway.{MidwaySteps, JudgeMidwaySteps}
use Rattle.dp_lean_epoch.proofs.Midways.{midway_steps}
use Rattle.dp_lean_epoch.proofs.JudgeMidways.{judge_midway_steps}
use Rattle.dp_lean_epoch.proofs.Caps.{in_inlined}
use Rattle.dp_lean_epoch.proofs.law.midways_step.Goals as goal

pub returns-clause-stage : goal.returns-clause-stage
returns-clause-stage c = λ kept kinds. in_inlined (λ (m : Marks) (key : EpochKey). HavePlaces m key kept kinds → MidwaySteps m key kept kinds)
    c.args.p.now c.args.plan.now c.requires.inlined c.requires.fits (λ key inlined fits pays. midway_steps key inlined fits pays kept kinds)

pub returns-clause-judge : goal.returns-clause-judge
returns-clause-judge c = in_inlined JudgeMidwaySteps c.args.p.now c.args.plan.now c.requires.inlined c.requires.fits judge_midway_steps
