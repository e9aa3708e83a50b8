-- What the descent reads as an expression, the grammar derives.
use Rattle.std.proofs.Common.{◌≡◌, refl, ap, ◌∙◌, sym, ℕ, zero, suc, Bool, true, false, if◌then◌else◌, List, [], ◌∷◌, length, Option, Some, None, Ok}
use Rattle.dp_base.specs.declared.UnOp.{UnOp}
use Rattle.dp_lex.specs.Token.{Lexeme}
use Rattle.dp_tree.specs.declared.raw.RawExpr.{RawExpr}
use Rattle.dp_tree.specs.declared.raw.RawExpr.TheVariants as tree
use Rattle.dp_tokens.specs.declared.symbol.Symbol.{Symbol}
use Rattle.dp_tokens.specs.declared.symbol.Symbol.TheVariants.{Name, Number, OpenParen, CloseParen, OpenBracket, CloseBracket}
use Rattle.dp_parse.specs.declared.level.Level.{Level}
use Rattle.dp_parse.specs.declared.level.Level.TheVariants as level
use Rattle.dp_parse.specs.declared.level.Join.{Join}
use Rattle.dp_tokens.specs.Symbols.{symbol, symbol_at, Is}
use Rattle.dp_parse.specs.Levels.{operands, joining, prefixing, joined_trees}
use Rattle.dp_tokens.specs.Leaves.{name_of}
use Rattle.dp_parse.specs.Expressions.{DerivesExpr, operand, chain, prefix, number, scalar, element, parenthesized}
use Rattle.dp_tokens.specs.Steps.{Parser, ◌>>=◌, pure, expect, rest}
use Rattle.dp_parse.specs.steps.Operators.{own, same_level, join_at, prefix_at}
use Rattle.dp_tokens.specs.Steps as step
use Rattle.dp_tokens.specs.Numbers as numbers
use Rattle.dp_parse.specs.steps.Expressions as read
use Rattle.dp_parse.proofs.StepLemmas.{Sound, then_of, same_pair, takes, Ate, passed, stayed, ate, level_is, closed, moved, taken}
use Rattle.dp_parse.proofs.LeafLemmas.{read_name, read_number}

-- an operator that was found at its level
own_by : {A : Type 0} (l m : Level) (x a : A) (b : Bool) → same_level m l ≡ b → (if b then Some x else None) ≡ Some a → (m ≡ l) × (x ≡ a)
own_by l m x a true same e = (level_is m l same, cc)
own_by l m x a false same e = absurd (cc)

pub own_is : {A : Type 0} (l : Level) (o : Option (Level × A)) (a : A) → own l o ≡ Some a → o ≡ Some (l, a)
own_is l None a e = absurd (cc)
own_is l (Some p) a e = let h = own_by l p.0 p.1 a (same_level p.0 l) refl e in rw (← h.0, ← h.1) refl

module _ (nested : Level → Parser RawExpr) (sound : (l : Level) → Sound (nested l) (DerivesExpr l)) where
  variable_ate : (name : Lexeme) (from to : List Lexeme) (e : RawExpr) → Is Name name → Ate OpenBracket (read.variable_by nested (name_of name)) from e to →
      DerivesExpr level.Primary (name ∷ from) to e
  variable_ate name from to e is (passed t middle opens splits h) =
      let c = closed (nested level.Or) CloseBracket (tree.Element (name_of name)) e middle to h in
      moved (DerivesExpr level.Primary) (taken name splits) refl c.made (element is opens (sound level.Or middle (c.closing ∷ to) c.value c.first) c.is)
  variable_ate name from to e is (stayed other h) =
      let parts = same_pair {a = tree.Scalar (name_of name)} {b = e} {x = from} {y = to} h in
      moved (DerivesExpr level.Primary) (taken name parts.1) refl (sym parts.0) (scalar is)

  sound_variable : (name : Lexeme) (from to : List Lexeme) (e : RawExpr) → Is Name name → read.variable nested (name_of name) from ≡ Ok (e, to) →
      DerivesExpr level.Primary (name ∷ from) to e
  unfolding read.variable
  sound_variable name from to e is h = variable_ate name from to e is (ate OpenBracket (read.variable_by nested (name_of name)) e to from (λ k. cc) h)

  sound_parenthesized : Sound (read.parenthesized nested) (DerivesExpr level.Primary)
  unfolding read.parenthesized
  sound_parenthesized from to e h =
      let o = takes OpenParen from (λ _. nested level.Or >>= (λ x. expect CloseParen >>= (λ _. pure x))) e to h in
      let c = closed (nested level.Or) CloseParen (λ x. x) e o.middle to o.second in
      moved (DerivesExpr level.Primary) o.splits refl c.made (parenthesized o.is (sound level.Or o.middle (c.closing ∷ to) c.value c.first) c.is)

  sound_number : (from to : List Lexeme) (e : RawExpr) → (numbers.number >>= (λ z. pure (tree.Number z))) from ≡ Ok (e, to) →
      DerivesExpr level.Primary from to e
  sound_number from to e h =
      let o = then_of (numbers.number from) (λ z. pure (tree.Number z)) e to h in
      let n = read_number from o.middle o.value o.first in
      let parts = same_pair {a = tree.Number o.value} {b = e} {x = o.middle} {y = to} o.second in
      moved (DerivesExpr level.Primary) n.splits (sym parts.1) (sym parts.0 ∙ ap tree.Number n.reads) (number n.is)

  sound_named : (from to : List Lexeme) (e : RawExpr) → (step.name >>= read.variable nested) from ≡ Ok (e, to) → DerivesExpr level.Primary from to e
  sound_named from to e h =
      let o = then_of (step.name from) (read.variable nested) e to h in
      let n = read_name from o.middle o.value o.first in
      moved (DerivesExpr level.Primary) n.splits refl refl
      (sound_variable n.token o.middle to e n.is (ap (λ x. read.variable nested x o.middle) (sym n.called) ∙ o.second))

  primary_at : (s : Symbol) (from to : List Lexeme) (e : RawExpr) → read.primary_by nested s from ≡ Ok (e, to) → DerivesExpr level.Primary from to e
  primary_at Number from to e h = sound_number from to e h
  primary_at Name from to e h = sound_named from to e h
  primary_at _ from to e h = sound_parenthesized from to e h

  pub sound_primary : Sound (read.primary nested) (DerivesExpr level.Primary)
  unfolding read.primary
  sound_primary from to e h = primary_at (symbol_at from) from to e h

  -- a chain of operands of the level m goes on
  module _ (l m : Level) (o : operands l ≡ Some m) (p : Parser RawExpr) (reads : Sound p (DerivesExpr m)) where
    abbrev Goes : (RawExpr → Parser RawExpr) → Type 0
    Goes again = (from middle to : List Lexeme) (found e : RawExpr) → DerivesExpr l from middle found → again found middle ≡ Ok (e, to) →
        DerivesExpr l from to e

    ends : (from middle to : List Lexeme) (found e : RawExpr) → DerivesExpr l from middle found → pure found middle ≡ Ok (e, to) → DerivesExpr l from to e
    ends from middle to found e d h = let parts = same_pair {a = found} {b = e} {x = middle} {y = to} h in
        moved (DerivesExpr l) refl (sym parts.1) (sym parts.0) d

    sound_longer : (again : RawExpr → Parser RawExpr) → Goes again → (middle : List Lexeme) (j : Option Join) → join_at l (symbol_at middle) ≡ j →
        (from to : List Lexeme) (found e : RawExpr) → DerivesExpr l from middle found → read.longer again p found j middle ≡ Ok (e, to) →
        DerivesExpr l from to e
    unfolding join_at symbol_at rest
    sound_longer again goes middle None is from to found e d h = ends from middle to found e d h
    sound_longer again goes [] (Some join) is from to found e d h = absurd (cc)
    sound_longer again goes (op ∷ middle) (Some join) is from to found e d h =
        let r = then_of (p middle) (λ right. again (joined_trees join found right)) e to h in
        goes from r.middle to (joined_trees join found r.value) e (chain (own_is l (joining (symbol op)) join is) o d
        (reads middle r.middle r.value r.first)) r.second

    sound_chain : (n : ℕ) → Goes (read.chain l p n)
    unfolding read.chain
    sound_chain zero from middle to found e d h = ends from middle to found e d h
    sound_chain (suc n) from middle to found e d h =
        sound_longer (read.chain l p n) (sound_chain n) middle (join_at l (symbol_at middle)) refl from to found e d h

    level_at : (from to : List Lexeme) (e : RawExpr) (s : Option UnOp) → prefix_at l (symbol_at from) ≡ s → read.level_by nested l p s from ≡ Ok (e, to) →
        DerivesExpr l from to e
    unfolding prefix_at symbol_at rest
    level_at from to e None is h =
        let r = then_of (p from) (λ first. λ ts. read.chain l p (length ts) first ts) e to h in
        sound_chain (length r.middle) from r.middle to r.value e (operand o (reads from r.middle r.value r.first)) r.second
    level_at [] to e (Some op) is h = absurd (cc)
    level_at (t ∷ from) to e (Some op) is h =
        let r = then_of (nested l from) (λ x. pure (tree.Unary op x)) e to h in
        let parts = same_pair {a = tree.Unary op r.value} {b = e} {x = r.middle} {y = to} r.second in
        moved (DerivesExpr l) refl (sym parts.1) (sym parts.0) (prefix (own_is l (prefixing (symbol t)) op is) (sound l from r.middle r.value r.first))

    sound_level : Sound (read.level_of nested l p) (DerivesExpr l)
    unfolding read.level_of
    sound_level from to e h = level_at from to e (prefix_at l (symbol_at from)) refl h

  sound_unary : Sound (read.unary nested) (DerivesExpr level.Unary)
  sound_unary = sound_level level.Unary level.Primary refl (read.primary nested) sound_primary

  sound_product : Sound (read.product nested) (DerivesExpr level.Product)
  sound_product = sound_level level.Product level.Unary refl (read.unary nested) sound_unary

  sound_sum : Sound (read.sum nested) (DerivesExpr level.Sum)
  sound_sum = sound_level level.Sum level.Product refl (read.product nested) sound_product

  sound_relation : Sound (read.relation nested) (DerivesExpr level.Relation)
  sound_relation = sound_level level.Relation level.Sum refl (read.sum nested) sound_sum

  sound_equality : Sound (read.equality nested) (DerivesExpr level.Equality)
  sound_equality = sound_level level.Equality level.Relation refl (read.relation nested) sound_relation

  sound_conjunction : Sound (read.conjunction nested) (DerivesExpr level.And)
  sound_conjunction = sound_level level.And level.Equality refl (read.equality nested) sound_equality

  pub sound_expression : (l : Level) → Sound (read.expression nested l) (DerivesExpr l)
  unfolding read.expression
  sound_expression level.Or = sound_level level.Or level.And refl (read.conjunction nested) sound_conjunction
  sound_expression level.And = sound_conjunction
  sound_expression level.Equality = sound_equality
  sound_expression level.Relation = sound_relation
  sound_expression level.Sum = sound_sum
  sound_expression level.Product = sound_product
  sound_expression level.Unary = sound_unary
  sound_expression level.Primary = sound_primary

pub sound_nested : (n : ℕ) (l : Level) → Sound (read.nested n l) (DerivesExpr l)
unfolding read.nested
sound_nested zero l from to e h = absurd (cc)
sound_nested (suc n) l from to e h = sound_expression (read.nested n) (sound_nested n) l from to e h

pub sound_whole : Sound read.whole (DerivesExpr level.Or)
unfolding read.whole
sound_whole from to e h = sound_nested (length from) level.Or from to e h
