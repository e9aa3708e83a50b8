use Rattle.std.proofs.Common.{◌≡◌, ◌∙◌, sym, ap, refl, ◌||◌, ◌&&◌, ℤ, set, w64, to_z, of_z, rules}
use Rattle.dp_tree.specs.Step.{Stored}
use Rattle.dp_base.specs.Arithmetic.{is_zero}
use Rattle.dp_lean_turn.proofs.Owns.{event, is_event, goes, goes_not}
use Rattle.dp_lean_turn.proofs.Turn.stored.Goals as goal

pub returns-in-Ok-clause-does : goal.returns-in-Ok-clause-does
returns-in-Ok-clause-does g c = λ m before st pending.
    let cells = g.M.Memory.cells in
    let f = c.args.frame.now in
    let t = c.args.self.now in
    let same : to_z w64 (of_z w64 c.args.value) ≡ c.args.value = search rules in
    let effect = Stored c.args.cell c.args.value in
    let is = is_event cells f m before t st c.args.note.now pending c.args.site c.requires.own effect c.args.cell
    (to_z w64 (of_z w64 c.args.value)) refl (sym same) in
    goes cells f m before t st c.args.note.now pending c.args.site c.requires.own effect _ c.args.next
    (c.in-Goes.ensures.adds m before st.held (event cells f m before t st c.args.note.now pending c.args.site c.requires.own effect) is
    (ap (Stored c.args.cell) (sym same)))
    (c.in-Ok.ensures ∙ ap (set (cells t.memory) c.args.cell) same) refl (c.close.ensures
    ∙ ap (λ (z : ℤ). t.closing || c.args.note.now.closes && is_zero z) same) refl

pub returns-in_default : goal.returns-in_default
returns-in_default g c = record {
  does = λ m before st pending.
      let cells = g.M.Memory.cells in
      let f = c.args.frame.now in
      let t = c.args.self.now in
      let same : to_z w64 (of_z w64 c.args.value) ≡ c.args.value = search rules in
      let effect = Stored c.args.cell c.args.value in
      let is = is_event cells f m before t st c.args.note.now pending c.args.site c.requires.own effect c.args.cell
      (to_z w64 (of_z w64 c.args.value)) refl (sym same) in
      goes_not cells f m before t st c.args.note.now pending c.args.site c.requires.own effect _ c.args.next c.stored.result c.in_default.not-Goes
      (c.stored.ensures.adds m before st.held (event cells f m before t st c.args.note.now pending c.args.site c.requires.own effect) is
      (ap (Stored c.args.cell) (sym same)));
  keeps = record { own = c.stored.ensures.grown; read = refl };
}
