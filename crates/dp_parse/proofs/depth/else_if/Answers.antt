use Rattle.std.proofs.Common.{◌≡◌, ap, ◌∙◌, ◌+◌, ◌&&◌, drop, arith}
use Rattle.dp_parse.specs.Depth.{is_if}
use Rattle.dp_parse.proofs.Counts.{else_at, else_from, else_next, else_end, symbols, symbols_step, symbols_over, one, one-le, byte_one}
use Rattle.dp_parse.proofs.depth.else_if.Goals as goal

pub loop-token-init : goal.loop-token-init
loop-token-init c = let h = else_at c.args.tokens.now in (omega arith, omega arith, c.requires)

pub loop-token-preserved : goal.loop-token-preserved
loop-token-preserved c =
    let l = c.loop-token in let ts = c.args.tokens.now in let s = c.symbol_of-symbol.result in
    let rest = symbols (drop (l.token-index + 1) ts) in
    let step = ap (else_from l.after_else) (symbols_step ts l.token-index s _ c.loop-token-test.true c.symbol_of-symbol.ensures)
    ∙ else_next l.after_else s rest in
    let counted : c.from-count.result ≡ one (l.after_else && is_if s) = c.from-count.ensures ∙ byte_one c.is_if_after.result ∙ ap one c.is_if_after.ensures in
    let after = ap (λ b. else_from b rest) c.is_else-after_else.ensures in
    let small = one-le (l.after_else && is_if s) in let inv = l.invariant in let a = inv.0 in let b = inv.1 in
    (omega arith, omega arith, c.requires)

pub returns : goal.returns
returns c =
    let l = c.loop-token in
    let over = ap (else_from l.after_else) (symbols_over c.args.tokens.now l.token-index (omega arith)) ∙ else_end l.after_else in
    let a = l.invariant.0 in
    omega arith
