use Rattle.std.proofs.Common.{◌≡◌, ◌++◌, drop}
use Rattle.dp_tree_text.specs.StatementText.{statement_texts}
use Rattle.dp_tree_text.proofs.statements.+statements.Given as goal

abbrev pub invariant-put_statements-loop-statement : goal.invariant-put_statements-loop-statement
invariant-put_statements-loop-statement l = l.out ++ statement_texts (drop l.statement-index l.all) ≡ l.initial.out ++ statement_texts l.all
