-- What the grammar derives as an expression, the descent reads.
use Rattle.std.proofs.Common.{◌≡◌, refl, ap, ◌∙◌, sym, ℕ, zero, suc, ◌-◌, ◌<◌, ◌≤◌, pos, List, ◌∷◌, length, Option, Some, None, arith, subst, Ok}
use Rattle.std.proofs.lemmas.Option.{same_Some}
use Rattle.dp_base.specs.declared.UnOp.{UnOp}
use Rattle.dp_lex.specs.Token.{Lexeme}
use Rattle.dp_tree.specs.declared.raw.RawExpr.{RawExpr}
use Rattle.dp_tree.specs.declared.raw.RawExpr.TheVariants as tree
use Rattle.dp_tokens.specs.declared.symbol.Symbol.{Symbol}
use Rattle.dp_tokens.specs.declared.symbol.Symbol.TheVariants.{Name, OpenParen, CloseParen, OpenBracket, CloseBracket}
use Rattle.dp_parse.specs.declared.level.Level.{Level}
use Rattle.dp_parse.specs.declared.level.Level.TheVariants as level
use Rattle.dp_tokens.specs.Symbols.{symbol, symbol_at, Is}
use Rattle.dp_parse.specs.Levels.{operands, joining, prefixing}
use Rattle.dp_tokens.specs.Leaves.{name_of, IsNumber}
use Rattle.dp_parse.specs.Expressions.{DerivesExpr, operand, chain, prefix, number, scalar, element, parenthesized}
use Rattle.dp_tokens.specs.Steps.{Outcome, Parser, pure, parse_then, rest}
use Rattle.dp_parse.specs.steps.Operators.{join_at, prefix_at}
use Rattle.dp_tokens.specs.Steps as step
use Rattle.dp_parse.specs.steps.Operators as operators
use Rattle.dp_parse.specs.steps.Expressions as read
use Rattle.dp_parse.proofs.StepLemmas.{expects, eats, stays}
use Rattle.dp_parse.proofs.LeafLemmas.{reads_name, reads_number}
use Rattle.dp_parse.specs.Rules as rule
use Rattle.dp_parse.proofs.Spans.{shorter}
use Rattle.dp_parse.proofs.Going.{Goes, by, last_number, word_first, goes_whole}
use Rattle.dp_parse.proofs.Levels.{rank, tighter, level_prefixed, level_chain, chain_end, chain_turn, Follows, joins, joins_not, prefixes, prefix_level}
use Rattle.dp_parse.proofs.Levels.{prefixes_not, joins_not_tight, follows_join, follows_any, follows_tighter}

-- what reads the operands of a level
abbrev pub operand_by : ℕ → Option Level → Parser RawExpr
operand_by n None = step.refuse
operand_by n (Some m) = read.expression (read.nested n) m

-- an expression of a level is reached: what is left to do is to go on with a chain behind it
pub record Reached (n : ℕ) (l : Level) (from to : List Lexeme) (e : RawExpr) : Type 0 where
  pub turns : ℕ
  pub enough : length to ≤ turns
  pub is : read.expression (read.nested n) l from ≡ read.chain l (operand_by n (operands l)) turns e to

-- where nothing of the level follows, it is read as a whole
pub ended : {n : ℕ} {l : Level} {from to : List Lexeme} {e : RawExpr} → Reached n l from to e → join_at l (symbol_at to) ≡ None →
    read.expression (read.nested n) l from ≡ Ok (e, to)
ended {n} {l} {from} {to} {e} r none = r.is ∙ chain_end l (operand_by n (operands l)) r.turns e to none

read_whole : (n : ℕ) (l : Level) (from to : List Lexeme) (e : RawExpr) → join_at l (symbol_at to) ≡ None → read.expression (read.nested n) l from ≡ Ok (e, to) →
    Reached n l from to e
read_whole n l from to e none h =
    record { turns = length to; enough = omega arith; is = h ∙ sym (chain_end l (operand_by n (operands l)) (length to) e to none) }

-- an expression one deeper
pub nested_read : (n : ℕ) (l : Level) (from to : List Lexeme) (e : RawExpr) → length from ≤ n → length to < length from → join_at l (symbol_at to) ≡ None →
    ((k : ℕ) → length from ≤ suc k → Reached k l from to e) → read.nested n l from ≡ Ok (e, to)
unfolding read.nested
nested_read zero l from to e fits some none again = absurd (omega arith)
nested_read (suc k) l from to e fits some none again = ended (again k fits) none

-- what begins a primary expression is no prefix operator
primary_goes : {from to : List Lexeme} → Goes (rule.Expression level.Primary) from to → prefixing (symbol_at from) ≡ None
unfolding symbol_at
primary_goes (by (rule.operand o) g) = absurd (cc o)
primary_goes (by (rule.chain j o) g) = absurd (cc o)
primary_goes (by (rule.prefix {s} {is} p) g) = let clash = prefix_level level.Primary s is p in absurd (cc clash)
primary_goes (by rule.number (last_number a)) = ap prefixing a.1.number
primary_goes (by rule.scalar g) = ap prefixing (word_first g)
primary_goes (by rule.element g) = ap prefixing (word_first g)
primary_goes (by rule.parenthesized g) = ap prefixing (word_first g)

pub unprefixed : (l m : Level) (from to : List Lexeme) → operands l ≡ Some m → Goes (rule.Expression m) from to → prefix_at l (symbol_at from) ≡ None
unfolding prefix_at
unprefixed level.Unary m from to o g =
    let at : Goes (rule.Expression level.Primary) from to = subst (λ k. Goes (rule.Expression k) from to) (sym (same_Some level.Primary m o)) g in
    ap (operators.own level.Unary) (primary_goes at)
unprefixed level.Primary m from to o g = absurd (cc o)
unprefixed l m from to o g = prefixes_not l (symbol_at from) (λ k. cc)

-- the symbols that close an expression join nothing
pub closes : (s : Symbol) (t : Lexeme) (to : List Lexeme) → joining s ≡ None → Is s t → join_at level.Or (symbol_at (t ∷ to)) ≡ None
unfolding symbol_at join_at
closes s t to none c = ap (operators.own level.Or) (ap joining c ∙ none)

pub follows : (s : Symbol) (t : Lexeme) (to : List Lexeme) → joining s ≡ None → (s ≡ OpenBracket → ⊥) → Is s t → Follows level.Or (symbol_at (t ∷ to))
unfolding symbol_at
follows s t to none other c = follows_any level.Or (symbol t) (ap joining c ∙ none) (λ e. other (sym c ∙ e))

-- the forms of a primary expression
module _ (nested : Level → Parser RawExpr) where
  pub number_read : (t : Lexeme) (n : ℕ) (to : List Lexeme) → IsNumber t n → read.expression nested level.Primary (t ∷ to) ≡ Ok (tree.Number (pos n), to)
  unfolding read.expression read.primary symbol_at
  number_read t n to h = rw h.number (rw (reads_number t n to h))

  pub named_read : (t : Lexeme) (to : List Lexeme) → Is Name t → read.expression nested level.Primary (t ∷ to) ≡ read.variable nested (name_of t) to
  unfolding read.expression read.primary symbol_at
  named_read t to h = rw h (rw (reads_name t to h))

  scalar_read : (t : Lexeme) (to : List Lexeme) → Is Name t → (symbol_at to ≡ OpenBracket → ⊥) → read.expression nested level.Primary (t ∷ to) ≡ Ok
      (tree.Scalar (name_of t), to)
  unfolding read.variable
  scalar_read t to h other = named_read t to h ∙ stays OpenBracket (read.variable_by nested (name_of t)) to other

  pub element_read : (t opening closing : Lexeme) (from to : List Lexeme) (e : RawExpr) → Is Name t → Is OpenBracket opening →
      nested level.Or from ≡ Ok (e, closing ∷ to) → Is CloseBracket closing →
      read.expression nested level.Primary (t ∷ opening ∷ from) ≡ Ok (tree.Element (name_of t) e, to)
  unfolding read.variable
  element_read t opening closing from to e h o d c =
      named_read t (opening ∷ from) h ∙ eats OpenBracket (read.variable_by nested (name_of t)) opening from o
      ∙ rw d (rw (expects CloseBracket closing to c))

  pub parenthesized_read : (opening closing : Lexeme) (from to : List Lexeme) (e : RawExpr) → Is OpenParen opening →
      nested level.Or from ≡ Ok (e, closing ∷ to) → Is CloseParen closing →
      read.expression nested level.Primary (opening ∷ from) ≡ Ok (e, to)
  unfolding read.expression read.primary read.parenthesized symbol_at
  parenthesized_read opening closing from to e o d c = rw o (rw (expects OpenParen opening from o) (rw d (rw (expects CloseParen closing to c))))

prefixed_read : (n : ℕ) (l : Level) (op : Lexeme) (is : UnOp) (from to : List Lexeme) (e : RawExpr) → prefixing (symbol op) ≡ Some (l, is) →
    read.nested n l from ≡ Ok (e, to) →
    read.expression (read.nested n) l (op ∷ from) ≡ Ok (tree.Unary is e, to)
unfolding rest symbol_at
prefixed_read n l op is from to e p h =
    level_prefixed (read.nested n) l level.Primary (ap operands (prefix_level l (symbol op) is p)) (op ∷ from) is (prefixes l (symbol op) is p)
    ∙ ap (λ (o : Outcome RawExpr). parse_then o (λ x. pure (tree.Unary is x))) h

pub reached : {l : Level} {from to : List Lexeme} {e : RawExpr} → DerivesExpr l from to e → (n : ℕ) → length from ≤ suc n → Follows l (symbol_at to) →
    Reached n l from to e
unfolding rest symbol_at
reached (operand {l} {m} {from} {to} {e} o d) n fits f =
    let tight = tighter l m o in let none = joins_not l m (symbol_at to) f (omega arith) in
    let first = ended (reached d n fits (follows_tighter l m (symbol_at to) (omega arith) f)) none in
    record {
      turns = length to;
      enough = omega arith;
      is = level_chain (read.nested n) l m o from e to (unprefixed l m from to o (goes_whole (rule.Expression m) refl (_, d))) first
          ∙ ap (λ (p : Parser RawExpr). read.chain l p (length to) e to) (sym (ap (operand_by n) o));
    }
reached (chain {l} {m} {op} {join} {from} {middle} {to} {a} {b} j o d f) n fits follow =
    let tight = tighter l m o in let left = shorter (rule.Expression _) _ _ refl (_, d) in
    let right = shorter (rule.Expression _) _ _ refl (_, f) in
    let r = reached d n fits (follows_join l (symbol op) join j) in let enough = r.enough in
    let none = joins_not l m (symbol_at to) follow (omega arith) in
    let second = ended (reached f n (omega arith) (follows_tighter l m (symbol_at to) (omega arith) follow)) none in
    record {
      turns = r.turns - 1;
      enough = omega arith;
      is = r.is ∙ chain_turn l (operand_by n (operands l)) r.turns a b (op ∷ middle) to join (joins l (symbol op) join j)
          (ap (λ (p : Parser RawExpr). p middle) (ap (operand_by n) o) ∙ second) r.enough;
    }
reached (prefix {l} {op} {is} {from} {to} {e} p d) n fits f =
    let some = shorter (rule.Expression _) _ _ refl (_, d) in let tight = ap rank (prefix_level l (symbol op) is p) in
    let none = joins_not_tight l (symbol_at to) (omega arith) in
    read_whole n l (op ∷ from) to (tree.Unary is e) none
    (prefixed_read n l op is from to e p (nested_read n l from to e (omega arith) some none (λ k le. reached d k le f)))
reached (number {t} {n = v} {to} h) n fits f =
    read_whole n level.Primary (t ∷ to) to (tree.Number (pos v)) (joins_not_tight level.Primary (symbol_at to) (omega arith))
    (number_read (read.nested n) t v to h)
reached (scalar {name = t} {to} h) n fits f =
    read_whole n level.Primary (t ∷ to) to (tree.Scalar (name_of t)) (joins_not_tight level.Primary (symbol_at to) (omega arith))
    (scalar_read (read.nested n) t to h f.no_index)
reached (element {name = t} {opening} {closing} {from} {to} {e} h o d c) n fits f =
    let some = shorter (rule.Expression _) _ _ refl (_, d) in
    read_whole n level.Primary (t ∷ opening ∷ from) to (tree.Element (name_of t) e) (joins_not_tight level.Primary (symbol_at to) (omega arith))
    (element_read (read.nested n) t opening closing from to e h o
    (nested_read n level.Or from (closing ∷ to) e (omega arith) some (closes CloseBracket closing to refl c)
    (λ k le. reached d k le (follows CloseBracket closing to refl (λ e. cc e) c))) c)
reached (parenthesized {opening} {closing} {from} {to} {e} o d c) n fits f =
    let some = shorter (rule.Expression _) _ _ refl (_, d) in
    read_whole n level.Primary (opening ∷ from) to e (joins_not_tight level.Primary (symbol_at to) (omega arith))
    (parenthesized_read (read.nested n) opening closing from to e o
    (nested_read n level.Or from (closing ∷ to) e (omega arith) some (closes CloseParen closing to refl c)
    (λ k le. reached d k le (follows CloseParen closing to refl (λ e. cc e) c))) c)

-- an expression is read as a whole before a symbol that joins nothing and opens no index
pub whole_read : (from to : List Lexeme) (e : RawExpr) → DerivesExpr level.Or from to e → joining (symbol_at to) ≡ None → (symbol_at to ≡ OpenBracket → ⊥) →
    read.whole from ≡ Ok (e, to)
unfolding read.whole join_at
whole_read from to e d none other =
    nested_read (length from) level.Or from to e (omega arith) (shorter (rule.Expression _) _ _ refl (_, d)) (ap (operators.own level.Or) none)
    (λ k le. reached d k le (follows_any level.Or (symbol_at to) none other))
