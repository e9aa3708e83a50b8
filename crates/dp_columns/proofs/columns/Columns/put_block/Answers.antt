use Rattle.std.proofs.Common.{◌∙◌, ap, List, map}
use Rattle.std.proofs.lemmas.Result.{on_ok_weaker, on_err_weaker}
use Rattle.dp_tree.specs.Step.{Effect}
use Rattle.dp_columns.specs.Paired.{pair_load}
use Rattle.dp_columns.specs.Columned.{with_block_stores, block_ended}
use Rattle.dp_columns.proofs.PairLists.{stores_of_pairs}
use Rattle.dp_columns.proofs.ColumnLists.{block_put, same_told}
use Rattle.dp_columns.proofs.columns.Columns.put_block.Goals as goal

pub returns-in-Some-clause-ok : goal.returns-in-Some-clause-ok
returns-in-Some-clause-ok c =
    let at = c.in-Some.ensures.value in
    let stores = c.args.stores.now in
    on_ok_weaker c.put.result (λ e. block_put c.self.inside.told c.self.inside.loads c.args.place c.in-Some.column.now at c.args.self.now c.self.view_is
    c.put.new.self (map pair_load stores) c.requires e
    ∙ ap (λ (ss : List Effect). block_ended c.args.place (with_block_stores c.args.place ss c.args.self.now)) (stores_of_pairs stores)) c.put.ensures.ok

pub returns-in-Some-clause-err : goal.returns-in-Some-clause-err
returns-in-Some-clause-err c =
    let at = c.in-Some.ensures.value in
    on_err_weaker c.put.result (same_told c.self.inside.told c.self.inside.loads c.args.place c.in-Some.column.now at c.args.self.now c.self.view_is
    c.put.new.self c.requires) c.put.ensures.err
