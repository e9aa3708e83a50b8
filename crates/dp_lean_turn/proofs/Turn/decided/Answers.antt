use Rattle.std.proofs.Common.{◌≡◌, ◌∙◌, sym, ap, refl, ◌||◌, ◌&&◌, ℤ, w64, to_z, of_z, rules}
use Rattle.dp_base.specs.Arithmetic.{is_zero}
use Rattle.dp_lean_turn.proofs.Owns.{event, is_event, goes, goes_not, not_cell, not_changed}
use Rattle.dp_lean_turn.proofs.Turn.decided.Goals as goal

pub returns-in-Goes-clause-does : goal.returns-in-Goes-clause-does
returns-in-Goes-clause-does g c = λ m before st done pending value other assumed.
    let cells = g.M.Memory.cells in
    let f = c.args.frame.now in
    let t = c.args.self.now in
    let same : to_z w64 (of_z w64 c.args.value) ≡ c.args.value = search rules in
    let is = is_event cells f m before t st c.args.note.now pending c.args.site c.requires.own done 0 (to_z w64 (of_z w64 c.args.value)) (not_cell done other)
    (value ∙ sym same) in
    goes cells f m before t st c.args.note.now pending c.args.site c.requires.own done _ c.args.next
    (c.in-Goes.ensures.adds m before st.held (event cells f m before t st c.args.note.now pending c.args.site c.requires.own done) is other assumed)
    (sym (not_changed done (cells t.memory) other)) refl (c.close.ensures ∙ ap (λ (z : ℤ). t.closing || c.args.note.now.closes && is_zero z)
    (same ∙ sym value)) refl

pub returns-in_default : goal.returns-in_default
returns-in_default g c = record {
  does = λ m before st done pending value other assumed.
      let cells = g.M.Memory.cells in
      let f = c.args.frame.now in
      let t = c.args.self.now in
      let same : to_z w64 (of_z w64 c.args.value) ≡ c.args.value = search rules in
      let is = is_event cells f m before t st c.args.note.now pending c.args.site c.requires.own done 0 (to_z w64 (of_z w64 c.args.value)) (not_cell done other)
      (value ∙ sym same) in
      goes_not cells f m before t st c.args.note.now pending c.args.site c.requires.own done _ c.args.next c.decided.result c.in_default.not-Goes
      (c.decided.ensures.adds m before st.held (event cells f m before t st c.args.note.now pending c.args.site c.requires.own done) is other assumed);
  keeps = record { own = c.decided.ensures.grown; read = refl };
}
