-- An expression is read at least to the end of what begins it.
use Rattle.std.proofs.Common.{◌≡◌, refl, ap, ◌∙◌, sym, ℕ, zero, suc, ◌≤◌, ◌-◌, Bool, true, false, List, ◌∷◌, length, Option, Some, None, Ok, Err, arith}
use Rattle.dp_lex.specs.Token.{Lexeme}
use Rattle.dp_tree.specs.declared.raw.RawExpr.{RawExpr}
use Rattle.dp_tree.specs.declared.raw.RawExpr.TheVariants as tree
use Rattle.dp_tokens.specs.declared.symbol.Symbol.{Symbol}
use Rattle.dp_tokens.specs.declared.symbol.Symbol.TheVariants.{Name, OpenParen, CloseParen, OpenBracket, CloseBracket}
use Rattle.dp_parse.specs.declared.level.Level.{Level}
use Rattle.dp_parse.specs.declared.level.Level.TheVariants as level
use Rattle.dp_parse.specs.declared.level.Join.{Join}
use Rattle.dp_tokens.specs.Symbols.{symbol, symbol_at, Is}
use Rattle.dp_parse.specs.Levels.{operands, joining, prefixing, joined_trees}
use Rattle.dp_tokens.specs.Leaves.{name_of}
use Rattle.dp_parse.specs.Rules.{Expression, Part, Word}
use Rattle.dp_parse.specs.Rules as rule
use Rattle.dp_tokens.specs.Steps.{Outcome, Parser, parse_then, ◌>>=◌, pure, expect, rest}
use Rattle.dp_parse.specs.steps.Operators.{join_at, prefix_at}
use Rattle.dp_tokens.specs.Steps as step
use Rattle.dp_parse.specs.steps.Expressions as read
use Rattle.dp_parse.proofs.StepLemmas.{expects, eats, rest-le}
use Rattle.dp_parse.proofs.Levels.{level_prefixed, level_chain, level_none, chain_by, joins, prefixes, prefix_level, follows_join}
use Rattle.dp_parse.proofs.ExpressionSound.{sound_expression, sound_nested, sound_whole}
use Rattle.dp_parse.proofs.ExpressionComplete.{operand_by, reached, number_read, named_read, element_read, nested_read, closes, follows, unprefixed}
use Rattle.dp_parse.proofs.ExpressionComplete.{parenthesized_read, whole_read}
use Rattle.dp_parse.proofs.StuckExpressions.{expression_stuck, nested_stuck, whole_stuck}
use Rattle.dp_parse.proofs.Going.{Goes, by, last, token, last_number, within, past, word_first}
use Rattle.dp_parse.proofs.Spans.{shorter}
use Rattle.dp_parse.proofs.Beyond.{Beyond, Shrinks, shrinks_as, further, ok_beyond, err_beyond, same_beyond, and_on, expect_shrinks, pure_shrinks, Inner}

nested_shrinks : (n : ℕ) (l : Level) → Shrinks (read.nested n l)
nested_shrinks n l = shrinks_as (Expression l) (read.nested n l) (λ from to a e. (a, sound_nested n l from to a e)) (nested_stuck n l)

expression_shrinks : (n : ℕ) (l : Level) → Shrinks (read.expression (read.nested n) l)
expression_shrinks n l = shrinks_as (Expression l) (read.expression (read.nested n) l)
    (λ from to a e. (a, sound_expression (read.nested n) (sound_nested n) l from to a e)) (expression_stuck (read.nested n) (sound_nested n) (nested_stuck n) l)

module _ (l : Level) (operand : Parser RawExpr) (shrinks : Shrinks operand) where
  longer_shrinks : (again : RawExpr → Parser RawExpr) → ((found : RawExpr) → Shrinks (again found)) → (found : RawExpr) (j : Option Join) →
      Shrinks (read.longer again operand found j)
  longer_shrinks again goes found None from = omega arith
  longer_shrinks again goes found (Some join) from =
      further _ (rest from) from (rest-le from) (and_on operand (λ right. again (joined_trees join found right)) (λ right. goes (joined_trees join found right))
      (rest from) (rest from) (shrinks (rest from)))

  pub chain_shrinks : (k : ℕ) (found : RawExpr) → Shrinks (read.chain l operand k found)
  unfolding read.chain
  chain_shrinks zero found from = omega arith
  chain_shrinks (suc k) found from = longer_shrinks (read.chain l operand k) (chain_shrinks k) found (join_at l (symbol_at from)) from

  -- a chain whose next operator comes gets as far as its operand
  chain_beyond : (k : ℕ) (found : RawExpr) (op : Lexeme) (from to : List Lexeme) (join : Join) → join_at l (symbol_at (op ∷ from)) ≡ Some join →
      length (op ∷ from) ≤ k → Beyond (operand from) to →
      Beyond (read.chain l operand k found (op ∷ from)) to
  unfolding rest
  chain_beyond k found op from to join at fits h =
      same_beyond to (chain_by l operand k found (op ∷ from) join at fits)
      (and_on operand (λ right. read.chain l operand (k - 1) (joined_trees join found right))
      (λ right. chain_shrinks (k - 1) (joined_trees join found right)) from to h)

module _ (n : ℕ) (l m : Level) (o : operands l ≡ Some m) (from to : List Lexeme) (bare : prefix_at l (symbol_at from) ≡ None) where
  operand_by_beyond : (r : Outcome RawExpr) → read.expression (read.nested n) m from ≡ r → Beyond r to → Beyond (read.expression (read.nested n) l from) to
  operand_by_beyond (Ok x) is h =
      same_beyond to (level_chain (read.nested n) l m o from x.0 x.1 bare is)
      (further _ x.1 to h (chain_shrinks l (read.expression (read.nested n) m) (expression_shrinks n m) (length x.1) x.0 x.1))
  operand_by_beyond (Err left) is h = err_beyond to (level_none (read.nested n) l m o from left bare is) h

module _ (nested : Level → Parser RawExpr) (shrinks : (l : Level) → Shrinks (nested l)) where
  index_shrinks : (name : _) (b : Bool) → Shrinks (read.variable_by nested name b)
  index_shrinks name true from =
      and_on (nested level.Or) (λ index. expect CloseBracket >>= (λ _. pure (tree.Element name index))) (λ index. λ left. and_on (expect CloseBracket)
      (λ _. pure (tree.Element name index)) (λ _. pure_shrinks (tree.Element name index)) left left (expect_shrinks CloseBracket left))
      from from (shrinks level.Or from)
  index_shrinks name false from = omega arith

  variable_shrinks : (name : _) → Shrinks (read.variable nested name)
  unfolding read.variable
  variable_shrinks name from = further _ (step.after OpenBracket from) from (Rattle.dp_parse.proofs.StepLemmas.after-le OpenBracket from)
      (index_shrinks name (step.sees_symbol OpenBracket from) (step.after OpenBracket from))

  -- an index that is open gets as far as its expression
  index_beyond : (t opening : Lexeme) (from to : List Lexeme) → Is Name t → Is OpenBracket opening → Beyond (nested level.Or from) to →
      Beyond (read.expression nested level.Primary (t ∷ opening ∷ from)) to
  unfolding read.variable
  index_beyond t opening from to n o h =
      let name = name_of t in
      same_beyond to (named_read nested t (opening ∷ from) n ∙ eats OpenBracket (read.variable_by nested name) opening from o)
      (and_on (nested level.Or) (λ index. expect CloseBracket >>= (λ _. pure (tree.Element name index))) (λ index. λ left. and_on (expect CloseBracket)
      (λ _. pure (tree.Element name index)) (λ _. pure_shrinks (tree.Element name index)) left left (expect_shrinks CloseBracket left))
      from to h)

  name_beyond : (t : Lexeme) (to : List Lexeme) → Is Name t → Beyond (read.expression nested level.Primary (t ∷ to)) to
  name_beyond t to n = same_beyond to (named_read nested t to n) (variable_shrinks (name_of t) to)

  paren_beyond : (opening : Lexeme) (from to : List Lexeme) → Is OpenParen opening → Beyond (nested level.Or from) to →
      Beyond (read.expression nested level.Primary (opening ∷ from)) to
  unfolding read.expression read.primary read.parenthesized symbol_at
  paren_beyond opening from to o h =
      same_beyond to (ap (λ (k : Symbol). read.primary_by nested k (opening ∷ from)) o
      ∙ ap (λ (r : Outcome Lexeme). parse_then r (λ _. nested level.Or >>= (λ x. expect CloseParen >>= (λ _. pure x)))) (expects OpenParen opening from o))
      (and_on (nested level.Or) (λ x. expect CloseParen >>= (λ _. pure x)) (λ x. λ left. and_on (expect CloseParen) (λ _. pure x) (λ _. pure_shrinks x) left
      left (expect_shrinks CloseParen left)) from to h)

-- an expression one deeper
nested_beyond : (n : ℕ) (l : Level) (from to : List Lexeme) → length from ≤ n →
    ((k : ℕ) → length from ≤ suc k → Beyond (read.expression (read.nested k) l from) to) → Beyond (read.nested n l from) to
unfolding read.nested
nested_beyond zero l from to fits again = omega arith
nested_beyond (suc k) l from to fits again = again k fits

pub expr_beyond : {l : Level} {from to : List Lexeme} → Goes (Expression l) from to → (n : ℕ) → length from ≤ suc n →
    Beyond (read.expression (read.nested n) l from) to
unfolding rest symbol_at
expr_beyond (by {from} {to} (rule.operand {l} {m} o) (within g)) n fits =
    operand_by_beyond n l m o from to (unprefixed l m from to o g) (read.expression (read.nested n) m from) refl (expr_beyond g n fits)
expr_beyond (by (rule.chain j o) (within g)) n fits = expr_beyond g n fits
expr_beyond (by {from} {to} (rule.chain {l} {m} {s} {join} j o) (past d (last {t = op} a))) n fits =
    let at : joining (symbol op) ≡ Some (l, join) = ap joining a ∙ j in
    let r = reached d.1 n fits (follows_join l (symbol op) join at) in let p = operand_by n (operands l) in
    let same : p ≡ read.expression (read.nested n) m = ap (operand_by n) o in
    let shrinks : Shrinks p = rw same (expression_shrinks n m) in
    same_beyond to r.is (chain_beyond l p shrinks r.turns d.0 op to to join (joins l (symbol op) join at) r.enough (shrinks to))
expr_beyond (by {from} {to} (rule.chain {l} {m} {s} {join} j o) (past d (token {t = op} {from = middle} a (within g)))) n fits =
    let at : joining (symbol op) ≡ Some (l, join) = ap joining a ∙ j in
    let r = reached d.1 n fits (follows_join l (symbol op) join at) in let p = operand_by n (operands l) in
    let same : p ≡ read.expression (read.nested n) m = ap (operand_by n) o in
    let shrinks : Shrinks p = rw same (expression_shrinks n m) in let less = shorter (Expression _) _ _ refl d in
    let h : Beyond (p middle) to = rw same (expr_beyond g n (omega arith)) in
    same_beyond to r.is (chain_beyond l p shrinks r.turns d.0 op middle to join (joins l (symbol op) join at) r.enough h)
expr_beyond (by (rule.prefix {l} {s} {is} p) (last {t = op} {to} a)) n fits =
    let at = ap prefixing a ∙ p in
    same_beyond to (level_prefixed (read.nested n) l level.Primary (ap operands (prefix_level l (symbol op) is at)) (op ∷ to) is (prefixes l (symbol op) is at))
    (and_on (read.nested n l) (λ x. pure (tree.Unary is x)) (λ x. pure_shrinks (tree.Unary is x)) to to (nested_shrinks n l to))
expr_beyond (by {to} (rule.prefix {l} {s} {is} p) (token {t = op} {from = middle} a (within g))) n fits =
    let at = ap prefixing a ∙ p in
    same_beyond to (level_prefixed (read.nested n) l level.Primary (ap operands (prefix_level l (symbol op) is at)) (op ∷ middle) is
    (prefixes l (symbol op) is at))
    (and_on (read.nested n l) (λ x. pure (tree.Unary is x)) (λ x. pure_shrinks (tree.Unary is x)) middle to
    (nested_beyond n l middle to (omega arith) (λ k le. expr_beyond g k le)))
expr_beyond (by rule.number (last_number {t} {to} a)) n fits = ok_beyond to (number_read (read.nested n) t a.0 to a.1) (omega arith)
expr_beyond (by rule.scalar (last {t} {to} a)) n fits = name_beyond (read.nested n) (nested_shrinks n) t to a
expr_beyond (by rule.element (last {t} {to} a)) n fits = name_beyond (read.nested n) (nested_shrinks n) t to a
expr_beyond (by rule.element (token {t} a (last {t = opening} {to} o))) n fits =
    index_beyond (read.nested n) (nested_shrinks n) t opening to to a o (nested_shrinks n level.Or to)
expr_beyond (by {to} rule.element (token {t} a (token {t = opening} {from = middle} o (within g)))) n fits =
    index_beyond (read.nested n) (nested_shrinks n) t opening middle to a o (nested_beyond n level.Or middle to (omega arith) (λ k le. expr_beyond g k le))
expr_beyond (by rule.element (token {t} a (token {t = opening} {from = middle} o (past d (last {t = closing} {to} c))))) n fits =
    ok_beyond to (element_read (read.nested n) t opening closing middle to d.0 a o
    (nested_read n level.Or middle (closing ∷ to) d.0 (omega arith) (shorter (Expression _) _ _ refl d) (closes CloseBracket closing to refl c)
    (λ k le. reached d.1 k le (follows CloseBracket closing to refl (λ e. cc e) c))) c) (omega arith)
expr_beyond (by rule.parenthesized (last {t} {to} o)) n fits = paren_beyond (read.nested n) (nested_shrinks n) t to to o (nested_shrinks n level.Or to)
expr_beyond (by {to} rule.parenthesized (token {t} {from = middle} o (within g))) n fits =
    paren_beyond (read.nested n) (nested_shrinks n) t middle to o (nested_beyond n level.Or middle to (omega arith) (λ k le. expr_beyond g k le))
expr_beyond (by rule.parenthesized (token {t} {from = middle} o (past d (last {t = closing} {to} c)))) n fits =
    ok_beyond to (parenthesized_read (read.nested n) t closing middle to d.0 o
    (nested_read n level.Or middle (closing ∷ to) d.0 (omega arith) (shorter (Expression _) _ _ refl d) (closes CloseParen closing to refl c)
    (λ k le. reached d.1 k le (follows CloseParen closing to refl (λ e. cc e) c))) c) (omega arith)

pub whole_goes : (from to : List Lexeme) → Goes (Expression level.Or) from to → Beyond (read.whole from) to
unfolding read.whole
whole_goes from to g = nested_beyond (length from) level.Or from to (omega arith) (λ k le. expr_beyond g k le)

pub whole_shrinks : Shrinks read.whole
whole_shrinks = shrinks_as (Expression level.Or) read.whole (λ from to a e. (a, sound_whole from to a e)) whole_stuck

-- a whole expression before a symbol that joins nothing and opens no index
pub expr_before : (s : Symbol) (n : ℕ) (parts : List Part) → joining s ≡ None → (s ≡ OpenBracket → ⊥) →
    Inner read.whole (Expression level.Or) n (Word s ∷ parts)
expr_before s n parts none other = record {
  shrinks = whole_shrinks;
  goes = λ from to fits g. whole_goes from to g;
  reads = λ from middle to fits d g.
      let at = word_first g in
      (d.0, whole_read from middle d.0 d.1 (ap joining at ∙ none) (λ k. other (sym at ∙ k)));
}
