use Rattle.std.proofs.Common.{◌≡◌, ◌+◌, ◌≤◌, length}
use Rattle.dp_text.specs.Lines.{lines_of, read_from}
use Rattle.dp_text.proofs.lines.read_lines.Given as goal

abbrev pub invariant-lines : goal.invariant-lines
invariant-lines g l =
    (read_from (g.G.LineGrammar.next l.grammar) g.G.LineGrammar.over l.line l.state (lines_of l.rest) ≡ read_from (g.G.LineGrammar.next l.grammar)
    g.G.LineGrammar.over 1 l.fn.start (lines_of l.text))
    × (l.line + length l.rest ≤ length l.text + 1)

abbrev pub decreases-lines : goal.decreases-lines
decreases-lines g l = length l.rest
