use Rattle.std.proofs.Common.{◌≡◌, ◌+◌, ◌<◌, ◌≤◌, [], drop, take, length, ap, arith}
use Rattle.std.proofs.lemmas.List.{take_rest}
use Rattle.dp_lex.specs.Characters.{line_ends}
use Rattle.dp_lex.specs.Tokens.{Reading, ReadsTokens, stays}
use Rattle.dp_lex.specs.Scan.{skipped}
use Rattle.dp_lex.proofs.Reading.{reads_skip, inside_skip}
use Rattle.dp_lex.proofs.lexer.Lexer.skip.Goals as goal

pub loop-rest-init : goal.loop-rest-init
loop-rest-init c =
    let none : ReadsTokens c.args.self.now.text c.args.self.now.place [] c.self.inside.place = rw (← c.self.view_is) stays in
    record { inside = c.self.invariant; same = ap (λ (v : Reading). v.text) c.self.view_is; reads = none }

pub loop-rest-preserved : goal.loop-rest-preserved
loop-rest-preserved c =
    let text = c.loop-rest.self-inside.text.now in let place = c.loop-rest.self-inside.place in
    let line = c.loop-rest.self-inside.line in let n = c.skipped-n.result in
    let value : n ≡ skipped (drop place text) = rw (take_rest text place) at c.skipped-n.ensures.value in
    let within : n ≤ length (drop place text) = rw (take_rest text place) at c.skipped-n.ensures.within in
    let ends : c.line_ends.result ≡ line_ends (take n (drop place text)) = rw (take_rest text place) at c.line_ends.ensures.value in
    let more : 0 < skipped (drop place text) = omega (arith, value, c.if-n-eq0.false) in
    let reads : ReadsTokens text c.args.self.now.place [] place = rw c.loop-rest.invariant.same c.loop-rest.invariant.reads in
    let on : ReadsTokens text c.args.self.now.place [] (place + n) = rw value (reads_skip text c.args.self.now.place place reads more) in
    record {
      inside = rw ends (inside_skip text place line n c.loop-rest.invariant.inside within);
      same = c.loop-rest.invariant.same;
      reads = rw (← c.loop-rest.invariant.same) on;
    }
