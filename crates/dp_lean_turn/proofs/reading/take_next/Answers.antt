use Rattle.std.proofs.Common.{◌∙◌, ◌-◌, ap}
use Rattle.dp_columns.specs.Left.{Left}
use Rattle.dp_columns.proofs.Places.{same_map}
use Rattle.dp_lean_turn.specs.Notes.{kind_at}
use Rattle.dp_lean_turn.proofs.Readers.{kinds_are}
use Rattle.dp_lean_turn.proofs.reading.take_next.Goals as goal

pub next_of-requires : goal.next_of-requires
next_of-requires c = record {
  kind = c.requires.kind ∙ ap (λ kinds. kind_at kinds c.args.note.now.place) (kinds_are c.args.readers.now c.args.note.now.stage c.in-Some.reader.now
      c.if-note-eq0.false c.in-Some.ensures.value);
}

pub returns-in-Some-clause-kinds : goal.returns-in-Some-clause-kinds
returns-in-Some-clause-kinds c =
    same_map (λ (r : Left). r.kinds) c.args.readers.now (c.args.note.now.stage - 1) c.in-Some.reader.now c.next_of.new.reader c.in-Some.ensures.value
    c.next_of.ensures.kinds
