use Rattle.std.proofs.Common.{◌≡◌, ◌++◌, drop}
use Rattle.std.specs.List.{flat_map}
use Rattle.dp_tree.specs.Statements.{asked}
use Rattle.dp_sites.proofs.walk.+walk.Given as goal

abbrev pub invariant-ask_all-loop-statement : goal.invariant-ask_all-loop-statement
invariant-ask_all-loop-statement g l =
    l.out ++ flat_map (asked g.Q.Question.gives) (drop l.statement-index l.all) ≡ l.initial.out ++ flat_map (asked g.Q.Question.gives) l.all
