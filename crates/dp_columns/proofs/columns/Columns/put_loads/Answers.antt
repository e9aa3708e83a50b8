use Rattle.std.proofs.Common.{map}
use Rattle.std.proofs.lemmas.Result.{on_ok_weaker, on_err_weaker}
use Rattle.dp_columns.specs.Paired.{pair_load}
use Rattle.dp_columns.proofs.ColumnLists.{loads_put, same_loads}
use Rattle.dp_columns.proofs.columns.Columns.put_loads.Goals as goal

pub returns-in-Some-clause-ok : goal.returns-in-Some-clause-ok
returns-in-Some-clause-ok c =
    let at = c.in-Some.ensures.value in
    on_ok_weaker c.put.result (loads_put c.self.inside.told c.self.inside.loads c.args.place c.in-Some.events.now at c.args.self.now c.self.view_is
    c.put.new.self (map pair_load c.args.loads.now)) c.put.ensures.ok

pub returns-in-Some-clause-err : goal.returns-in-Some-clause-err
returns-in-Some-clause-err c =
    let at = c.in-Some.ensures.value in
    on_err_weaker c.put.result (same_loads c.self.inside.told c.self.inside.loads c.args.place c.in-Some.events.now at c.args.self.now c.self.view_is
    c.put.new.self) c.put.ensures.err
