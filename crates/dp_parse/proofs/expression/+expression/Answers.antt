use Rattle.std.proofs.Common.{◌≡◌, refl, ap, ◌∙◌, sym, rules, arith, suc, ◌-◌, ◌<◌, length, Some, None, Err}
use Rattle.std.proofs.lemmas.Grind.{common_steps}
use Rattle.dp_tokens.specs.Symbols.{symbol_at}
use Rattle.dp_parse.specs.Levels.{operands}
use Rattle.dp_tree.specs.declared.raw.RawExpr.{RawExpr}
use Rattle.dp_tree.specs.declared.raw.RawExpr.TheVariants as tree
use Rattle.dp_tokens.specs.Steps.{Outcome, parse_then, pure}
use Rattle.dp_parse.specs.steps.Operators.{join_at, prefix_at}
use Rattle.dp_parse.specs.steps.Expressions as read
use Rattle.dp_parse.proofs.StepLemmas.{rest-le}
use Rattle.dp_parse.specs.Rules as rule
use Rattle.dp_parse.proofs.Spans.{shorter}
use Rattle.dp_parse.proofs.ExpressionSound.{sound_expression, sound_nested}
use Rattle.dp_parse.proofs.Levels.{level_ends, level_prefixed, level_chain, level_none, chain_end, chain_turn, chain_none}
use Rattle.dp_parse.proofs.expression.+expression.Goals as goal

pub expression-returns-in_default : goal.expression-returns-in_default
expression-returns-in_default t c =
    let none : operands c.args.level ≡ None = sym c.operands.ensures ∙ c.in_default.is in
    rw (level_ends (read.nested c.args.depth) c.args.level none) c.primary.ensures

pub expression-returns-in_err-operand : goal.expression-returns-in_err-operand
expression-returns-in_err-operand t c =
    let nested = read.nested c.args.depth in
    let inner : operands c.args.level ≡ Some c.in-Some.inner = sym c.operands.ensures ∙ c.in-Some.is in
    let op : prefix_at c.args.level (symbol_at c.args.tokens.now) ≡ Some c.in-Some-prefix_at.op =
    ap (prefix_at c.args.level) (sym c.peek.ensures) ∙ sym c.prefix_at.ensures ∙ c.in-Some-prefix_at.is in
    let fails : nested c.args.level c.advance.new.self ≡ Err c.nested.new.tokens →
    read.expression nested c.args.level c.args.tokens.now ≡ Err c.nested.new.tokens = λ h.
    level_prefixed nested c.args.level c.in-Some.inner inner c.args.tokens.now c.in-Some-prefix_at.op op
    ∙ ap (λ (o : Outcome RawExpr). parse_then o (λ x. pure (tree.Unary c.in-Some-prefix_at.op x))) (ap (nested c.args.level) (sym c.advance.ensures) ∙ h) in
    first_of (search rules, grind (arith, common_steps))

pub expression-returns-in-Some-prefix_at : goal.expression-returns-in-Some-prefix_at
expression-returns-in-Some-prefix_at t c =
    let nested = read.nested c.args.depth in
    let inner : operands c.args.level ≡ Some c.in-Some.inner = sym c.operands.ensures ∙ c.in-Some.is in
    let op : prefix_at c.args.level (symbol_at c.args.tokens.now) ≡ Some c.in-Some-prefix_at.op =
    ap (prefix_at c.args.level) (sym c.peek.ensures) ∙ sym c.prefix_at.ensures ∙ c.in-Some-prefix_at.is in
    level_prefixed nested c.args.level c.in-Some.inner inner c.args.tokens.now c.in-Some-prefix_at.op op
    ∙ ap (λ (o : Outcome RawExpr). parse_then o (λ x. pure (tree.Unary c.in-Some-prefix_at.op x))) (ap (nested c.args.level) (sym c.advance.ensures)
    ∙ c.in_ok-operand.ensures)
    ∙ rw c.in_ok-prefixed.ensures refl

pub expression-returns-in_err-found : goal.expression-returns-in_err-found
expression-returns-in_err-found t c =
    let nested = read.nested c.args.depth in
    let inner : operands c.args.level ≡ Some c.in-Some.inner = sym c.operands.ensures ∙ c.in-Some.is in
    let bare : prefix_at c.args.level (symbol_at c.args.tokens.now) ≡ None = ap (prefix_at c.args.level) (sym c.peek.ensures) ∙ sym c.prefix_at.ensures
    ∙ c.in_default-prefix_at.is in
    let left = c.expression.new.tokens in
    let fails : read.expression nested c.in-Some.inner c.args.tokens.now ≡ Err left → read.expression nested c.args.level c.args.tokens.now ≡ Err left =
    λ h. level_none nested c.args.level c.in-Some.inner inner c.args.tokens.now left bare h in
    first_of (search rules, grind (arith, common_steps))

pub expression-loop-join-init : goal.expression-loop-join-init
expression-loop-join-init t c =
    let nested = read.nested c.args.depth in
    let inner : operands c.args.level ≡ Some c.in-Some.inner = sym c.operands.ensures ∙ c.in-Some.is in
    let bare : prefix_at c.args.level (symbol_at c.args.tokens.now) ≡ None = ap (prefix_at c.args.level) (sym c.peek.ensures) ∙ sym c.prefix_at.ensures
    ∙ c.in_default-prefix_at.is in (
      length c.expression.new.tokens,
      omega arith,
      level_chain nested c.args.level c.in-Some.inner inner c.args.tokens.now c.in_ok-found.found
          c.expression.new.tokens bare c.in_ok-found.ensures,
    )

pub expression-returns-in_err-right : goal.expression-returns-in_err-right
expression-returns-in_err-right t c =
    let nested = read.nested c.args.depth in let l = c.loop-join in
    let joins : join_at c.args.level (symbol_at l.tokens) ≡ Some c.in-Some-join_at.join = ap (join_at c.args.level) (sym c.peek-in-loop-join.ensures)
    ∙ sym c.join_at.ensures ∙ c.in-Some-join_at.is in
    let operand = read.expression nested c.in-Some.inner in let left = c.expression-in-Some-join_at.new.tokens in
    let fails : operand c.advance-in-Some-join_at.new.self ≡ Err left → read.expression nested c.args.level c.args.tokens.now ≡ Err left = λ h.
    l.invariant.2 ∙ chain_none c.args.level operand l.invariant.0 l.found l.tokens left c.in-Some-join_at.join joins
    (ap operand (sym c.advance-in-Some-join_at.ensures) ∙ h) l.invariant.1 in
    first_of (search rules, grind (arith, common_steps))

pub expression-loop-join-smaller : goal.expression-loop-join-smaller
expression-loop-join-smaller t c =
    let l = c.loop-join in
    let less = shorter (rule.Expression _) _ _ refl (
      _,
      sound_expression (read.nested c.args.depth) (sound_nested c.args.depth) c.in-Some.inner c.advance-in-Some-join_at.new.self
          c.expression-in-Some-join_at.new.tokens c.in_ok-right.right c.in_ok-right.ensures,
    ) in
    let passed = rest-le l.tokens in let same = ap length c.advance-in-Some-join_at.ensures in
    let smaller : length c.expression-in-Some-join_at.new.tokens < length l.tokens = omega arith in smaller

pub expression-loop-join-preserved : goal.expression-loop-join-preserved
expression-loop-join-preserved t c =
    let nested = read.nested c.args.depth in let operand = read.expression nested c.in-Some.inner in
    let l = c.loop-join in
    let joins : join_at c.args.level (symbol_at l.tokens) ≡ Some c.in-Some-join_at.join = ap (join_at c.args.level) (sym c.peek-in-loop-join.ensures)
    ∙ sym c.join_at.ensures ∙ c.in-Some-join_at.is in
    let less = shorter (rule.Expression _) _ _ refl (
      _,
      sound_expression nested (sound_nested c.args.depth) c.in-Some.inner c.advance-in-Some-join_at.new.self
          c.expression-in-Some-join_at.new.tokens c.in_ok-right.right c.in_ok-right.ensures,
    ) in
    let passed = rest-le l.tokens in let same = ap length c.advance-in-Some-join_at.ensures in
    let fits = l.invariant.1 in
    let turn = chain_turn c.args.level operand l.invariant.0 l.found c.in_ok-right.right l.tokens c.expression-in-Some-join_at.new.tokens
    c.in-Some-join_at.join joins
    (ap operand (sym c.advance-in-Some-join_at.ensures) ∙ c.in_ok-right.ensures) l.invariant.1 in
    (l.invariant.0 - 1, omega arith, l.invariant.2 ∙ turn ∙ rw c.in_ok-found-2.ensures refl)

pub expression-returns : goal.expression-returns
expression-returns t c =
    let l = c.loop-join in
    let ends : join_at c.args.level (symbol_at l.tokens) ≡ None = ap (join_at c.args.level) (sym c.peek-in-loop-join.ensures) ∙ sym c.join_at.ensures
    ∙ c.in_default-join_at.is in
    l.invariant.2 ∙ chain_end c.args.level (read.expression (read.nested c.args.depth) c.in-Some.inner) l.invariant.0 l.found l.tokens ends

pub nested-returns-then-depth-eq0 : goal.nested-returns-then-depth-eq0
unfolding read.nested
nested-returns-then-depth-eq0 t c _ = let none : c.args.depth ≡ 0 = omega arith in ap (λ n. read.nested n c.args.level c.args.tokens.now) none

pub nested-returns : goal.nested-returns
unfolding read.nested
nested-returns t c =
    let deeper : c.args.depth ≡ suc (c.args.depth - 1) = omega arith in
    let same = ap (λ n. read.nested n c.args.level c.args.tokens.now) deeper in
    rw same c.expression.ensures
