use Rattle.std.proofs.Common.{List, ℕ, sym, ap, subst, ◌∙◌}
use Rattle.dp_text.specs.Lines.{lines_of, read_from}
use Rattle.dp_list.specs.Refused.{ReadsAsList}
use Rattle.dp_list.specs.steps.Naming.{has_name, with_name}
use Rattle.dp_list.proofs.ReadOn.{read_short, text_read}
use Rattle.dp_list.proofs.read.read_list.Goals as goal

pub finished-requires : goal.finished-requires
finished-requires c =
    read_short c.args.bytes.now c.in_ok-reading.reading (c.in_ok-reading.ensures
    ∙ ap (λ (names : List (List ℕ)). read_from with_name has_name 1 names (lines_of c.args.bytes.now)) c.new.ensures)

pub returns : goal.returns
returns c =
    let same = c.in_ok-reading.ensures ∙ ap (λ (names : List (List ℕ)). read_from with_name has_name 1 names (lines_of c.args.bytes.now)) c.new.ensures in
    subst (ReadsAsList c.args.bytes.now) (sym c.finished.ensures) (text_read c.args.bytes.now c.in_ok-reading.reading same)
