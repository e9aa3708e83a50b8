use Rattle.dp_load.proofs.accepted.Lengths.{lengths}
use Rattle.dp_load.proofs.accepted.Exits.{exits}
use Rattle.dp_load.proofs.program.read_program.Goals as goal

pub check_tree-requires-clause-lengths : goal.check_tree-requires-clause-lengths
check_tree-requires-clause-lengths c = lengths _ _ c.in-Ok.ensures

pub check_tree-requires-clause-exits : goal.check_tree-requires-clause-exits
check_tree-requires-clause-exits c = exits _ _ c.in-Ok.ensures
