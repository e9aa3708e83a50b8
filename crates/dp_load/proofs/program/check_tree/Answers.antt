use Rattle.dp_check.proofs.CheckedLemmas.{checked}
use Rattle.dp_load.proofs.LoadLemmas.{offending}
use Rattle.dp_load.proofs.program.check_tree.Goals as goal

pub expand_calls-requires : goal.expand_calls-requires
expand_calls-requires c = checked _ _ c.requires.lengths c.requires.exits c.in-Ok.ensures

pub returns-in_ok-offending-in-Err : goal.returns-in_ok-offending-in-Err
returns-in_ok-offending-in-Err c =
    let refused = c.in_ok-offending-in-Err.ensures.ok in offending _ _ _ (c.in-Err.ensures refused.0) refused.1
