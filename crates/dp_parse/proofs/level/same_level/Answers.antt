use Rattle.std.proofs.Common.{rules}
use Rattle.dp_parse.specs.steps.Operators.{same_level}
use Rattle.dp_parse.proofs.level.same_level.Goals as goal

pub returns : goal.returns
unfolding same_level
returns c = search rules
