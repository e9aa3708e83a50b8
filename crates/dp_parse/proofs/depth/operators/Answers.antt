use Rattle.std.proofs.Common.{◌≡◌, refl, ap, ◌∙◌, ◌+◌, max, drop, arith}
use Rattle.dp_parse.specs.Depth.{operators_after}
use Rattle.dp_parse.proofs.Counts.{operators_at, operators_from, operators_next, operators_after-le, symbols, symbols_step}
use Rattle.dp_parse.proofs.depth.operators.Goals as goal

pub loop-token-init : goal.loop-token-init
loop-token-init c = (operators_at c.args.tokens.now, omega arith, omega arith, c.requires)

pub loop-token-preserved : goal.loop-token-preserved
loop-token-preserved c =
    let l = c.loop-token in let ts = c.args.tokens.now in let s = c.symbol_of.result in
    let rest = symbols (drop (l.token-index + 1) ts) in
    let step = symbols_step ts l.token-index s _ c.loop-token-test.true c.symbol_of.ensures in
    let here : c.operators_after-here.result ≡ operators_after l.here s = c.operators_after-here.ensures in
    let most : c.max-most.result ≡ max l.most (operators_after l.here s) = c.max-most.ensures ∙ ap (max l.most) here in
    let small = operators_after-le l.here s in let inv = l.invariant in let a = inv.1 in let b = inv.2 in
    (inv.0 ∙ ap (operators_from l.here l.most) step ∙ operators_next l.here l.most s rest inv.2 ∙ rw (here, most) refl, omega arith, omega arith, c.requires)
