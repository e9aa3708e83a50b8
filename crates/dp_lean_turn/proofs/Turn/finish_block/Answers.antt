use Rattle.std.proofs.Common.{◌∙◌, sym, ap}
use Rattle.dp_lean_turn.specs.Notes.{kind_at}
use Rattle.dp_lean_turn.proofs.OwnBlocks.{finishes}
use Rattle.dp_lean_turn.proofs.Turn.finish_block.Goals as goal

pub returns-in-Ok-clause-does : goal.returns-in-Ok-clause-does
returns-in-Ok-clause-does g c = λ m before st stands.
    let f = c.args.frame.now in
    let t = c.args.self.now in
    let own_kind = c.requires.kind ∙ ap (kind_at f.kinds.own.now) (sym c.if-self-note.false) in
    let kind = own_kind ∙ ap (λ kinds. kind_at kinds t.teller.log.place) (sym c.requires.kinds.own) in
    finishes g.M.Memory.cells f m before t st stands c.args.note.now c.if-not-self.false kind own_kind c.finish_block.new.self c.in-Ok.ensures.ok
    c.args.next c.requires.behind
