use Rattle.std.proofs.Common.{◌+◌, ◌<◌, ◌++◌, ◌∙◌, length, drop, arith}
use Rattle.std.proofs.lemmas.List.{at_drop_all}
use Rattle.dp_tree_text.specs.StatementText.{statement_text, statement_texts}
use Rattle.dp_tree_text.proofs.StatementForms.{joins_all, joins_more, texts-next, texts-none}
use Rattle.dp_tree_text.proofs.statements.+statements.Goals as goal

pub put_statements-loop-statement-preserved : goal.put_statements-loop-statement-preserved
put_statements-loop-statement-preserved t c =
    let all = c.args.all.now in let i = c.loop-statement.statement-index in
    let below : c.loop-statement.statement-index < length c.args.all.now = omega arith in
    joins_more (c.args.out.now ++ statement_texts all) c.loop-statement.out c.put_statement.new.out (statement_texts (drop i all))
    (statement_text c.statement-item.result) (statement_texts (drop (i + 1) all)) c.loop-statement.invariant
    (texts-next all i c.statement-item.result below c.statement-item.is) c.in_ok-put_statement.ensures

pub put_statements-returns : goal.put_statements-returns
put_statements-returns t c =
    joins_all (c.args.out.now ++ statement_texts c.args.all.now) c.loop-statement.out (statement_texts (drop c.loop-statement.statement-index c.args.all.now))
    c.loop-statement.invariant
    (at_drop_all statement_texts c.args.all.now c.loop-statement.statement-index (omega arith) ∙ texts-none)
