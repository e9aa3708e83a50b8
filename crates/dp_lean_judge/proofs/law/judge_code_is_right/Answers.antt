use Rattle.dp_lean_judge.proofs.JudgeCodes.{judge_code_is_right}
use Rattle.dp_lean_judge.proofs.law.judge_code_is_right.Goals as goal

pub returns : goal.returns
returns c = judge_code_is_right c.args.p.now c.args.plan.now c.requires.inlined c.requires.fits c.requires.stages
