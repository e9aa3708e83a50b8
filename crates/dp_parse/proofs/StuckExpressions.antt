-- Where an expression is stuck, the tokens before that place begin one.
use Rattle.std.proofs.Common.{◌≡◌, refl, ap, ◌∙◌, sym, ℕ, zero, suc, List, [], ◌∷◌, length, Option, Some, None, Ok, Err}
use Rattle.dp_base.specs.declared.UnOp.{UnOp}
use Rattle.dp_lex.specs.Token.{Lexeme}
use Rattle.dp_tree.specs.declared.raw.Name.{Name as TreeName}
use Rattle.dp_tree.specs.declared.raw.RawExpr.{RawExpr}
use Rattle.dp_tokens.specs.declared.symbol.Symbol.{Symbol}
use Rattle.dp_tokens.specs.declared.symbol.Symbol.TheVariants.{Name, Number, OpenParen, CloseParen, OpenBracket, CloseBracket}
use Rattle.dp_parse.specs.declared.level.Level.{Level}
use Rattle.dp_parse.specs.declared.level.Level.TheVariants as level
use Rattle.dp_parse.specs.declared.level.Join.{Join}
use Rattle.dp_tokens.specs.Symbols.{symbol, symbol_at, Is}
use Rattle.dp_parse.specs.Levels.{operands, joining, prefixing, joined_trees}
use Rattle.dp_tokens.specs.Leaves.{name_of}
use Rattle.dp_parse.specs.Expressions.{DerivesExpr}
use Rattle.dp_parse.specs.Expressions as derives
use Rattle.dp_parse.specs.Rules.{Expression, Expressions, Of}
use Rattle.dp_parse.specs.Begins.{Begins, nothing, by, within, token, past}
use Rattle.dp_parse.specs.Rules as rule
use Rattle.dp_tokens.specs.Steps.{Outcome, Parser, parse_then, rest}
use Rattle.dp_parse.specs.steps.Operators.{join_at, prefix_at}
use Rattle.dp_tokens.specs.Steps as step
use Rattle.dp_parse.specs.steps.Expressions as read
use Rattle.dp_parse.proofs.StepLemmas.{Sound}
use Rattle.dp_parse.proofs.LeafLemmas.{read_name}
use Rattle.dp_parse.proofs.ExpressionSound.{own_is, sound_expression, sound_primary, sound_nested, sound_whole}
use Rattle.dp_parse.proofs.Stuck.{Reader, seq, done, word, name_stuck, counted, reader, Eaten, passed, stayed, eaten, refused, separated_stuck}

module _ (nested : Level → Parser RawExpr) (sound : (l : Level) → Sound (nested l) (DerivesExpr l))
    (fails : (l : Level) (from to : List Lexeme) → nested l from ≡ Err to → Begins (Expression l) from to) where
  inner : (l : Level) → Reader (nested l) (Of (Expression l))
  inner l = reader (Expression l) (nested l) (λ from to a e. (a, sound l from to a e)) (fails l)

  variable_at : (name : Lexeme) (from to : List Lexeme) → Is Name name → Eaten OpenBracket (read.variable_by nested (name_of name)) from (Err to) →
      Begins (Expression level.Primary) (name ∷ from) to
  variable_at name from to is (passed t middle opens splits h) =
      rw splits (by rule.element (token is (token opens (seq (inner level.Or) _ (λ index. seq (word CloseBracket) _ (λ _. done)) middle to h))))
  variable_at name from to is (stayed other h) = absurd (cc h)

  variable_stuck : (name : Lexeme) (from to : List Lexeme) → Is Name name → read.variable nested (name_of name) from ≡ Err to →
      Begins (Expression level.Primary) (name ∷ from) to
  unfolding read.variable
  variable_stuck name from to is h = variable_at name from to is (eaten OpenBracket (read.variable_by nested (name_of name)) (Err to) from (λ k. cc k) h)

  parenthesized_stuck : (from to : List Lexeme) → read.parenthesized nested from ≡ Err to → Begins (Expression level.Primary) from to
  unfolding read.parenthesized
  parenthesized_stuck from to h =
      by rule.parenthesized (seq (word OpenParen) _ (λ _. seq (inner level.Or) _ (λ inside. seq (word CloseParen) _ (λ _. done))) from to h)

  named_at : (from to : List Lexeme) (o : Outcome TreeName) → step.name from ≡ o → parse_then o (read.variable nested) ≡ Err to →
      Begins (Expression level.Primary) from to
  named_at from to (Ok x) is h =
      let n = read_name from x.1 x.0 is in
      rw n.splits (variable_stuck n.token x.1 to n.is (ap (λ (name : TreeName). read.variable nested name x.1) (sym n.called) ∙ h))
  named_at from to (Err left) is h = let same : left ≡ to = cc h in rw (name_stuck from to (is ∙ ap Err same)) nothing

  primary_at : (s : Symbol) (from to : List Lexeme) → read.primary_by nested s from ≡ Err to → Begins (Expression level.Primary) from to
  primary_at Number from to h = by rule.number (seq counted _ (λ _. done) from to h)
  primary_at Name from to h = named_at from to (step.name from) refl h
  primary_at _ from to h = parenthesized_stuck from to h

  primary_stuck : (from to : List Lexeme) → read.primary nested from ≡ Err to → Begins (Expression level.Primary) from to
  unfolding read.primary
  primary_stuck from to h = primary_at (symbol_at from) from to h

  -- a chain of operands of the level m goes on
  module _ (l m : Level) (o : operands l ≡ Some m) (p : Parser RawExpr) (reads : Sound p (DerivesExpr m))
      (stuck : (from to : List Lexeme) → p from ≡ Err to → Begins (Expression m) from to) where
    abbrev Goes : (RawExpr → Parser RawExpr) → Type 0
    Goes again = (from middle to : List Lexeme) (found : RawExpr) → DerivesExpr l from middle found → again found middle ≡ Err to →
        Begins (Expression l) from to

    operand_at : (again : RawExpr → Parser RawExpr) → Goes again → (op : Lexeme) (join : Join) → joining (symbol op) ≡ Some (l, join) →
        (middle from to : List Lexeme) (found : RawExpr) → DerivesExpr l from (op ∷ middle) found →
        (r : Outcome RawExpr) → p middle ≡ r → parse_then r (λ right. again (joined_trees join found right)) ≡ Err to → Begins (Expression l) from to
    operand_at again goes op join j middle from to found d (Ok x) is h =
        goes from x.1 to (joined_trees join found x.0) (derives.chain j o d (reads middle x.1 x.0 is)) h
    operand_at again goes op join j middle from to found d (Err left) is h =
        let same : left ≡ to = cc h in
        by (rule.chain {s = symbol op} j o) (past (found, d) (token refl (within (stuck middle to (is ∙ ap Err same)))))

    longer_stuck : (again : RawExpr → Parser RawExpr) → Goes again → (middle : List Lexeme) (j : Option Join) → join_at l (symbol_at middle) ≡ j →
        (from to : List Lexeme) (found : RawExpr) → DerivesExpr l from middle found → read.longer again p found j middle ≡ Err to →
        Begins (Expression l) from to
    unfolding join_at symbol_at rest
    longer_stuck again goes middle None is from to found d h = absurd (cc h)
    longer_stuck again goes [] (Some join) is from to found d h = absurd (cc is)
    longer_stuck again goes (op ∷ middle) (Some join) is from to found d h =
        operand_at again goes op join (own_is l (joining (symbol op)) join is) middle from to found d (p middle) refl h

    chain_stuck : (n : ℕ) → Goes (read.chain l p n)
    unfolding read.chain
    chain_stuck zero from middle to found d h = absurd (cc h)
    chain_stuck (suc n) from middle to found d h =
        longer_stuck (read.chain l p n) (chain_stuck n) middle (join_at l (symbol_at middle)) refl from to found d h

    first_at : (from to : List Lexeme) (r : Outcome RawExpr) → p from ≡ r → parse_then r (λ first. λ ts. read.chain l p (length ts) first ts) ≡ Err to →
        Begins (Expression l) from to
    first_at from to (Ok x) is h = chain_stuck (length x.1) from x.1 to x.0 (derives.operand o (reads from x.1 x.0 is)) h
    first_at from to (Err left) is h = let same : left ≡ to = cc h in by (rule.operand o) (within (stuck from to (is ∙ ap Err same)))

    level_at : (from to : List Lexeme) (s : Option UnOp) → prefix_at l (symbol_at from) ≡ s → read.level_by nested l p s from ≡ Err to →
        Begins (Expression l) from to
    unfolding prefix_at symbol_at rest
    level_at from to None is h = first_at from to (p from) refl h
    level_at [] to (Some op) is h = absurd (cc is)
    level_at (t ∷ from) to (Some op) is h =
        by (rule.prefix {s = symbol t} (own_is l (prefixing (symbol t)) op is)) (token refl (seq (inner l) _ (λ _. done) from to h))

    level_stuck : (from to : List Lexeme) → read.level_of nested l p from ≡ Err to → Begins (Expression l) from to
    unfolding read.level_of
    level_stuck from to h = level_at from to (prefix_at l (symbol_at from)) refl h

  abbrev Stuck : Level → Parser RawExpr → Type 0
  Stuck l p = (from to : List Lexeme) → p from ≡ Err to → Begins (Expression l) from to

  unary_stuck : Stuck level.Unary (read.unary nested)
  unary_stuck = level_stuck level.Unary level.Primary refl (read.primary nested) (sound_primary nested sound) primary_stuck

  product_stuck : Stuck level.Product (read.product nested)
  unfolding read.expression
  product_stuck = level_stuck level.Product level.Unary refl (read.unary nested) (sound_expression nested sound level.Unary) unary_stuck

  sum_stuck : Stuck level.Sum (read.sum nested)
  unfolding read.expression
  sum_stuck = level_stuck level.Sum level.Product refl (read.product nested) (sound_expression nested sound level.Product) product_stuck

  relation_stuck : Stuck level.Relation (read.relation nested)
  unfolding read.expression
  relation_stuck = level_stuck level.Relation level.Sum refl (read.sum nested) (sound_expression nested sound level.Sum) sum_stuck

  equality_stuck : Stuck level.Equality (read.equality nested)
  unfolding read.expression
  equality_stuck = level_stuck level.Equality level.Relation refl (read.relation nested) (sound_expression nested sound level.Relation) relation_stuck

  conjunction_stuck : Stuck level.And (read.conjunction nested)
  unfolding read.expression
  conjunction_stuck = level_stuck level.And level.Equality refl (read.equality nested) (sound_expression nested sound level.Equality) equality_stuck

  pub expression_stuck : (l : Level) → Stuck l (read.expression nested l)
  unfolding read.expression
  expression_stuck level.Or = level_stuck level.Or level.And refl (read.conjunction nested) (sound_expression nested sound level.And) conjunction_stuck
  expression_stuck level.And = conjunction_stuck
  expression_stuck level.Equality = equality_stuck
  expression_stuck level.Relation = relation_stuck
  expression_stuck level.Sum = sum_stuck
  expression_stuck level.Product = product_stuck
  expression_stuck level.Unary = unary_stuck
  expression_stuck level.Primary = primary_stuck

pub nested_stuck : (n : ℕ) (l : Level) (from to : List Lexeme) → read.nested n l from ≡ Err to → Begins (Expression l) from to
unfolding read.nested
nested_stuck zero l from to h = refused from to h
nested_stuck (suc n) l from to h = expression_stuck (read.nested n) (sound_nested n) (nested_stuck n) l from to h

pub whole_stuck : (from to : List Lexeme) → read.whole from ≡ Err to → Begins (Expression level.Or) from to
unfolding read.whole
whole_stuck from to h = nested_stuck (length from) level.Or from to h

pub expr : Reader read.whole (Of (Expression level.Or))
expr = reader (Expression level.Or) read.whole (λ from to a e. (a, sound_whole from to a e)) whole_stuck

pub list_stuck : (from to : List Lexeme) → read.list from ≡ Err to → Begins Expressions from to
unfolding read.list
list_stuck from to h =
    separated_stuck Expressions read.whole (λ from to e. by rule.last_expression (within (whole_stuck from to e)))
    (λ from left to t x e is b. by rule.more_expressions (past (x, sound_whole from (t ∷ left) x e) (token is (within b)))) (length from) [] from to h
