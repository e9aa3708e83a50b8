use Rattle.std.proofs.Common.{◌≡◌, refl, ap, ap₂, ◌∙◌, ◌+◌, ◌-◌, max, drop, arith}
use Rattle.dp_parse.specs.Depth.{opens, closes_brace}
use Rattle.dp_parse.proofs.Counts.{nesting_at, nesting_from, nesting_next, symbols, symbols_step, one, one-le, byte_one}
use Rattle.dp_parse.proofs.depth.nesting.Goals as goal

pub loop-token-init : goal.loop-token-init
loop-token-init c = (nesting_at c.args.tokens.now, omega arith, omega arith, omega arith, c.requires)

pub loop-token-preserved : goal.loop-token-preserved
loop-token-preserved c =
    let l = c.loop-token in let ts = c.args.tokens.now in let s = c.symbol_of-symbol.result in
    let rest = symbols (drop (l.token-index + 1) ts) in
    let step = symbols_step ts l.token-index s _ c.loop-token-test.true c.symbol_of-symbol.ensures in
    let opened : c.from-opened.result ≡ one (opens s) = c.from-opened.ensures ∙ byte_one c.opens.result ∙ ap one c.opens.ensures in
    let closed : c.from-closed.result ≡ one (closes_brace s) = c.from-closed.ensures ∙ byte_one c.closes.result ∙ ap one c.closes.ensures in
    let most : c.max-most.result ≡ max l.most ((l.opened + one (opens s)) - (l.closed + one (closes_brace s))) =
    c.max-most.ensures ∙ ap (max l.most) (c.saturating_sub.ensures ∙ ap₂ (λ a b. (l.opened + a) - (l.closed + b)) opened closed) in
    let small_opened = one-le (opens s) in let small_closed = one-le (closes_brace s) in let inv = l.invariant in
    let a = inv.1 in let b = inv.2 in
    let d = inv.3 in (
      inv.0 ∙ ap (nesting_from l.opened l.closed l.most) step ∙ nesting_next l.opened l.closed l.most s rest inv.3 ∙ rw (opened, closed, most) refl,
      omega arith,
      omega arith,
      omega arith,
      c.requires,
    )
