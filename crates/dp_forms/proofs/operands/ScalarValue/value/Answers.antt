use Rattle.std.proofs.Common.{◌≡◌, ◌<◌, rules, to_z, of_z, w64, length, get_or, pos, slice_index_or}
use Rattle.dp_forms.proofs.ValueLemmas.{scalar_value}
use Rattle.dp_forms.proofs.operands.ScalarValue.value.Goals as goal

pub returns-then-this : goal.returns-then-this
returns-then-this g c =
    let within : g.row.K < length c.args.registers.now = search rules in
    let same : get_or c.args.registers.now g.row.K (pos 0) ≡ to_z w64 (of_z w64 (slice_index_or c.args.registers.now g.row.K (pos 0))) = search rules in
    scalar_value g.row.K within same
