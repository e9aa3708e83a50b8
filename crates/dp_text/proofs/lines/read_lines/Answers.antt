use Rattle.std.proofs.Common.{◌≡◌, ◌<◌, ◌∷◌, [], ◌++◌, length, Some, None, sym, ◌∙◌, arith}
use Rattle.dp_text.specs.Lines.{lines_of}
use Rattle.dp_text.proofs.TurnLemmas.{turn, at_rest}
use Rattle.dp_text.proofs.lines.read_lines.Goals as goal

pub returns-in-None : goal.returns-in-None
returns-in-None g c =
    c.ended.ensures ∙ sym (at_rest (g.G.LineGrammar.next c.args.grammar.now) g.G.LineGrammar.over c.lines.line c.lines.state c.lines.rest.now
    c.in-None.ensures.lines) ∙ c.lines.invariant.0

pub returns-in-None-next : goal.returns-in-None-next
returns-in-None-next g c =
    let cut : lines_of c.lines.rest.now ≡ (c.in-Some.bytes.now ++ 10 ∷ []) ∷ lines_of c.in-Some.more.now = c.in-Some.ensures.lines in
    sym (turn (g.G.LineGrammar.next c.args.grammar.now) g.G.LineGrammar.over c.lines.line c.lines.state c.lines.rest.now c.in-Some.bytes.now
    c.in-Some.more.now None cut
    (sym c.in-None-next.is ∙ c.in_ok-next-in-Some.ensures)) ∙ c.lines.invariant.0

pub lines-preserved : goal.lines-preserved
lines-preserved g c =
    let cut : lines_of c.lines.rest.now ≡ (c.in-Some.bytes.now ++ 10 ∷ []) ∷ lines_of c.in-Some.more.now = c.in-Some.ensures.lines in
    let shorter : length c.in-Some.more.now < length c.lines.rest.now = c.in-Some.ensures.shorter in (
      sym (turn (g.G.LineGrammar.next c.args.grammar.now) g.G.LineGrammar.over c.lines.line c.lines.state c.lines.rest.now c.in-Some.bytes.now
          c.in-Some.more.now (Some c.in-Some-next.after) cut
          (sym c.in-Some-next.is ∙ c.in_ok-next-in-Some.ensures)) ∙ c.lines.invariant.0,
      omega (arith, c.lines.invariant.1, shorter),
    )
