use Rattle.std.proofs.Common.{◌+◌, ◌∷◌, [], ◌++◌, drop, sym, ap, ◌∙◌}
use Rattle.dp_text.specs.Lines.{lines_of}
use Rattle.dp_text.proofs.CutLemmas.{at_end}
use Rattle.dp_text.proofs.lines.next_line.Goals as goal

pub returns-clause-lines : goal.returns-clause-lines
returns-clause-lines c =
    at_end c.args.text.now c.in_ok-len.len (sym c.first_end.ensures ∙ c.in_ok-len.was)
    ∙ ap (λ w. (w ++ 10 ∷ []) ∷ lines_of (drop (c.in_ok-len.len + 1) c.args.text.now)) (sym c.split_at.ensures.front)
    ∙ ap (λ rest. (c.split_at.result.0.now ++ 10 ∷ []) ∷ lines_of rest) (sym c.split_at-2.ensures.back)
