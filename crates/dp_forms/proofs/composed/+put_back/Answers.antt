use Rattle.std.proofs.Common.{◌≡◌, ◌∙◌, ap, arith, rules, drop, take, ◌-◌, length, set, slice_index_or, ℤ, pos, to_z, of_z, w64}
use Rattle.dp_forms.specs.Registers.{merged}
use Rattle.dp_forms.proofs.WholeLemmas.{put_no_home, put_no_value, put_more, put_outside}
use Rattle.dp_forms.proofs.composed.+put_back.Goals as goal

pub returns-in-empty : goal.returns-in-empty
returns-in-empty t c = put_no_home _ _ _ (omega (arith, c.in-empty.len_below))

pub returns-in-empty-registers : goal.returns-in-empty-registers
returns-in-empty-registers t c = put_no_value _ _ _ (omega (arith, c.in-empty-registers.len_below))

pub returns-then-place-cells : goal.returns-then-place-cells
returns-then-place-cells t c =
    let value = slice_index_or c.args.registers.now 0 (pos 0) in
    let same : to_z w64 (of_z w64 value) ≡ value = search rules in
    let behind : c.put_back.new.cells ≡ merged (take (length c.args.homes.now - 1) (drop 1 c.args.homes.now))
    (take (length c.args.registers.now - 1) (drop 1 c.args.registers.now)) c.args.cells.now = c.put_back.ensures in
    ap (λ (v : ℤ). set c.put_back.new.cells (slice_index_or c.args.homes.now 0 0) v) same ∙ put_more c.args.homes.now c.args.registers.now c.args.cells.now
    c.put_back.new.cells (omega (arith, c.in-len1-up.len_at_least)) (omega (arith, c.in-len1-up-registers.len_at_least)) behind

pub returns-else-place-cells : goal.returns-else-place-cells
returns-else-place-cells t c =
    let behind : c.put_back.new.cells ≡ merged (take (length c.args.homes.now - 1) (drop 1 c.args.homes.now))
    (take (length c.args.registers.now - 1) (drop 1 c.args.registers.now)) c.args.cells.now = c.put_back.ensures in
    put_outside c.args.homes.now c.args.registers.now c.args.cells.now c.put_back.new.cells (omega (arith, c.in-len1-up.len_at_least))
    (omega (arith, c.in-len1-up-registers.len_at_least)) behind (omega (arith, c.if-place-cells.false))
