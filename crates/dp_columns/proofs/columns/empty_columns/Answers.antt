use Rattle.std.proofs.Common.{◌<◌, length, arith}
use Rattle.std.proofs.lemmas.Option.{slice_get-get_or}
use Rattle.dp_columns.proofs.ColumnLists.{column_pushed}
use Rattle.dp_columns.proofs.columns.empty_columns.Goals as goal

pub loop-kind-preserved : goal.loop-kind-preserved
loop-kind-preserved c =
    let i = c.loop-kind.kind-index in
    let kinds = c.args.kinds.now in
    let lt : i < length kinds = omega (arith, c.loop-kind-test.true) in
    column_pushed kinds c.loop-kind.told c.push.new.self c.new.result i _ (slice_get-get_or kinds i _ lt) c.new.ensures.kind c.new.ensures.empty
    c.in_ok-push.ensures.ok c.loop-kind.invariant
