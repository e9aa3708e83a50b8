-- The table of levels; and a level of an expression as it is read: its operands, its operators, and the turns of a chain.
use Rattle.std.proofs.Common.{◌≡◌, refl, ap, ◌∙◌, ℕ, zero, suc, ◌+◌, ◌-◌, ◌<◌, ◌≤◌, List, [], ◌∷◌, length, Option, Some, None, arith, Ok, Err, sym, Bool}
use Rattle.std.proofs.Common.{if◌then◌else◌}
use Rattle.std.proofs.lemmas.Option.{same_Some}
use Rattle.dp_base.specs.declared.UnOp.{UnOp}
use Rattle.dp_lex.specs.Token.{Lexeme}
use Rattle.dp_tree.specs.declared.raw.RawExpr.{RawExpr}
use Rattle.dp_tree.specs.declared.raw.RawExpr.TheVariants as tree
use Rattle.dp_parse.specs.declared.level.Level.{Level}
use Rattle.dp_parse.specs.declared.level.Level.TheVariants as level
use Rattle.dp_parse.specs.declared.level.Join.{Join}
use Rattle.dp_tokens.specs.Symbols.{symbol_at}
use Rattle.dp_parse.specs.Levels.{operands, joined_trees, joining, prefixing}
use Rattle.dp_tokens.specs.Steps.{Outcome, Parser, ◌>>=◌, parse_then, pure, rest}
use Rattle.dp_parse.specs.steps.Operators.{join_at, prefix_at, own}
use Rattle.dp_parse.specs.steps.Expressions as read
use Rattle.dp_tokens.specs.declared.symbol.Symbol.{Symbol}
use Rattle.dp_tokens.specs.declared.symbol.Symbol.TheVariants as symbol
use Rattle.dp_parse.proofs.StepLemmas.{same_levels, other_levels}

-- how many levels are tighter
abbrev pub rank : Level → ℕ
rank level.Or = 7
rank level.And = 6
rank level.Equality = 5
rank level.Relation = 4
rank level.Sum = 3
rank level.Product = 2
rank level.Unary = 1
rank level.Primary = 0

-- the operands' level is the next
pub tighter : (l m : Level) → operands l ≡ Some m → rank m + 1 ≡ rank l
tighter level.Or m o = rw (← same_Some level.And m o) refl
tighter level.And m o = rw (← same_Some level.Equality m o) refl
tighter level.Equality m o = rw (← same_Some level.Relation m o) refl
tighter level.Relation m o = rw (← same_Some level.Sum m o) refl
tighter level.Sum m o = rw (← same_Some level.Product m o) refl
tighter level.Product m o = rw (← same_Some level.Unary m o) refl
tighter level.Unary m o = rw (← same_Some level.Primary m o) refl
tighter level.Primary m o = absurd (cc)

module _ (nested : Level → Parser RawExpr) where
  pub level_opens : (l m : Level) → operands l ≡ Some m → read.expression nested l ≡ read.level_of nested l (read.expression nested m)
  unfolding read.expression
  level_opens level.Or m o = rw (← same_Some level.And m o) refl
  level_opens level.And m o = rw (← same_Some level.Equality m o) refl
  level_opens level.Equality m o = rw (← same_Some level.Relation m o) refl
  level_opens level.Relation m o = rw (← same_Some level.Sum m o) refl
  level_opens level.Sum m o = rw (← same_Some level.Product m o) refl
  level_opens level.Product m o = rw (← same_Some level.Unary m o) refl
  level_opens level.Unary m o = rw (← same_Some level.Primary m o) refl
  level_opens level.Primary m o = absurd (cc)

  pub level_ends : (l : Level) → operands l ≡ None → read.expression nested l ≡ read.primary nested
  unfolding read.expression
  level_ends level.Primary o = refl
  level_ends _ o = absurd (cc)

  module _ (l m : Level) (o : operands l ≡ Some m) (ts : List Lexeme) where
    -- by the prefix operator that comes next, if any
    pub level_by : (op : Option UnOp) → prefix_at l (symbol_at ts) ≡ op → read.expression nested l ts ≡ read.level_by nested l (read.expression nested m) op ts
    unfolding read.level_of
    level_by op e = ap (λ (p : Parser RawExpr). p ts) (level_opens l m o) ∙ ap (λ (s : Option UnOp). read.level_by nested l (read.expression nested m) s ts) e

    pub level_prefixed : (op : UnOp) → prefix_at l (symbol_at ts) ≡ Some op →
        read.expression nested l ts ≡ (nested l >>= (λ x. pure (tree.Unary op x))) (rest ts)
    level_prefixed op e = level_by (Some op) e

    pub level_chain : (first : RawExpr) (middle : List Lexeme) → prefix_at l (symbol_at ts) ≡ None → read.expression nested m ts ≡ Ok (first, middle) →
        read.expression nested l ts ≡ read.chain l (read.expression nested m) (length middle) first middle
    level_chain first middle e h =
        level_by None e ∙ ap (λ (o : Outcome RawExpr). parse_then o (λ first. λ ts. read.chain l (read.expression nested m) (length ts) first ts)) h

    pub level_none : (left : List Lexeme) → prefix_at l (symbol_at ts) ≡ None → read.expression nested m ts ≡ Err left → read.expression nested l ts ≡ Err left
    level_none left e h =
        level_by None e ∙ ap (λ (o : Outcome RawExpr). parse_then o (λ first. λ ts. read.chain l (read.expression nested m) (length ts) first ts)) h

module _ (l : Level) (operand : Parser RawExpr) where
  pub joins_some : (ts : List Lexeme) (join : Join) → join_at l (symbol_at ts) ≡ Some join → 0 < length ts
  unfolding join_at symbol_at
  joins_some [] join e = absurd (cc)
  joins_some (t ∷ ts) join e = omega arith

  pub chain_end : (k : ℕ) (found : RawExpr) (ts : List Lexeme) → join_at l (symbol_at ts) ≡ None → read.chain l operand k found ts ≡ Ok (found, ts)
  unfolding read.chain
  chain_end zero found ts e = refl
  chain_end (suc k) found ts e = ap (λ (j : Option Join). read.longer (read.chain l operand k) operand found j ts) e

  pub chain_by : (k : ℕ) (found : RawExpr) (ts : List Lexeme) (join : Join) → join_at l (symbol_at ts) ≡ Some join → length ts ≤ k →
      read.chain l operand k found ts ≡ (operand >>= (λ right. read.chain l operand (k - 1) (joined_trees join found right))) (rest ts)
  unfolding read.chain
  chain_by zero found ts join e fits = let some : 0 < length ts = joins_some ts join e in absurd (omega arith)
  chain_by (suc k) found ts join e fits =
      let same : suc k - 1 ≡ k = omega arith in
      rw (same) (ap (λ (j : Option Join). read.longer (read.chain l operand k) operand found j ts) e)

  pub chain_turn : (k : ℕ) (found right : RawExpr) (ts middle : List Lexeme) (join : Join) → join_at l (symbol_at ts) ≡ Some join →
      operand (rest ts) ≡ Ok (right, middle) → length ts ≤ k →
      read.chain l operand k found ts ≡ read.chain l operand (k - 1) (joined_trees join found right) middle
  chain_turn k found right ts middle join e h fits =
      chain_by k found ts join e fits ∙ ap (λ (o : Outcome RawExpr). parse_then o (λ right. read.chain l operand (k - 1) (joined_trees join found right))) h

  pub chain_none : (k : ℕ) (found : RawExpr) (ts left : List Lexeme) (join : Join) → join_at l (symbol_at ts) ≡ Some join →
      operand (rest ts) ≡ Err left → length ts ≤ k →
      read.chain l operand k found ts ≡ Err left
  chain_none k found ts left join e h fits =
      chain_by k found ts join e fits ∙ ap (λ (o : Outcome RawExpr). parse_then o (λ right. read.chain l operand (k - 1) (joined_trees join found right))) h

-- the symbol joins nothing tighter than the level, and opens no index
pub record Follows (l : Level) (s : Symbol) : Type 0 where
  pub no_index : s ≡ symbol.OpenBracket → ⊥
  pub loose : (m : Level) (join : Join) → joining s ≡ Some (m, join) → rank l ≤ rank m

own_none : {A : Type 0} (l : Level) (o : Option (Level × A)) → ((m : Level) (a : A) → o ≡ Some (m, a) → m ≡ l → ⊥) → own l o ≡ None
own_none l None f = refl
own_none {A} l (Some p) f = ap (λ (b : Bool). if b then Some p.1 else None) (other_levels p.0 l (f p.0 p.1 refl))

-- a symbol that joins at a level joins there
pub joins : (l : Level) (s : Symbol) (join : Join) → joining s ≡ Some (l, join) → join_at l s ≡ Some join
unfolding join_at
joins l s join e = ap (own l) e ∙ ap (λ (b : Bool). if b then Some join else None) (same_levels l l refl)

pub joins_not : (l m : Level) (s : Symbol) → Follows l s → rank m < rank l → join_at m s ≡ None
unfolding join_at
joins_not l m s f less = own_none m (joining s) (λ n join e same. let a = f.loose n join e in let b = ap rank same in omega arith)

pub prefixes : (l : Level) (s : Symbol) (op : UnOp) → prefixing s ≡ Some (l, op) → prefix_at l s ≡ Some op
unfolding prefix_at
prefixes l s op e = ap (own l) e ∙ ap (λ (b : Bool). if b then Some op else None) (same_levels l l refl)

-- what a prefix operator stands at
abbrev level_of : {A : Type 0} → Option (Level × A) → Level
level_of None = level.Unary
level_of (Some p) = p.0

unary_only : (s : Symbol) → level_of (prefixing s) ≡ level.Unary
unary_only symbol.Minus = refl
unary_only _ = refl

pub prefix_level : (l : Level) (s : Symbol) (op : UnOp) → prefixing s ≡ Some (l, op) → l ≡ level.Unary
prefix_level l s op e = sym (ap level_of e) ∙ unary_only s

pub prefixes_not : (l : Level) (s : Symbol) → (l ≡ level.Unary → ⊥) → prefix_at l s ≡ None
unfolding prefix_at
prefixes_not l s f = own_none l (prefixing s) (λ m op e same. f (sym same ∙ prefix_level m s op e))

-- infix operators stand above the unary ones
abbrev rank_of : Option (Level × Join) → ℕ
rank_of None = 2
rank_of (Some p) = rank p.0

infix_by : (s : Symbol) → 2 ≤ rank_of (joining s)
infix_by symbol.Or = omega arith
infix_by symbol.And = omega arith
infix_by symbol.Equal = omega arith
infix_by symbol.NotEqual = omega arith
infix_by symbol.Less = omega arith
infix_by symbol.LessEqual = omega arith
infix_by symbol.Greater = omega arith
infix_by symbol.GreaterEqual = omega arith
infix_by symbol.Plus = omega arith
infix_by symbol.Minus = omega arith
infix_by symbol.Star = omega arith
infix_by symbol.Slash = omega arith
infix_by symbol.Percent = omega arith
infix_by _ = omega arith

pub infix_above : (l : Level) (s : Symbol) (join : Join) → joining s ≡ Some (l, join) → 2 ≤ rank l
infix_above l s join e = let a = infix_by s in let b = ap rank_of e in omega arith

-- no level as tight as a prefix operator's joins
pub joins_not_tight : (l : Level) (s : Symbol) → rank l < 2 → join_at l s ≡ None
unfolding join_at
joins_not_tight l s less = own_none l (joining s) (λ m join e same. let a = infix_above m s join e in let b = ap rank same in omega arith)

-- an infix operator may stand after an operand of its level
pub follows_join : (l : Level) (s : Symbol) (join : Join) → joining s ≡ Some (l, join) → Follows l s
follows_join l s join e = record {
  no_index = λ at. let clash : joining symbol.OpenBracket ≡ Some (l, join) = sym (ap joining at) ∙ e in absurd (cc clash);
  loose = λ m other e'. let same = ap rank_of (sym e ∙ e') in omega arith;
}

-- what joins nothing and opens no index may stand after any operand
pub follows_any : (l : Level) (s : Symbol) → joining s ≡ None → (s ≡ symbol.OpenBracket → ⊥) → Follows l s
follows_any l s none f =
    record { no_index = f; loose = λ m join e. let clash : ◌≡◌ {A = Option (Level × Join)} None (Some (m, join)) = sym none ∙ e in absurd (cc clash) }

pub follows_tighter : (l m : Level) (s : Symbol) → rank m ≤ rank l → Follows l s → Follows m s
follows_tighter l m s le f = record { no_index = f.no_index; loose = λ n join e. let a = f.loose n join e in omega arith }
