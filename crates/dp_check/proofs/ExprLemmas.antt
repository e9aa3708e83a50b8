-- What is answered for each form of expression.
use Rattle.std.proofs.Common.{◌≡◌, refl, ap, ◌∙◌, ℤ, List, [], ◌∷◌, map, Ok}
use Rattle.dp_base.specs.declared.BinOp.{BinOp}
use Rattle.dp_base.specs.declared.UnOp.{UnOp}
use Rattle.dp_tree.specs.declared.Expr.TheVariants as tree
use Rattle.dp_tree.specs.declared.raw.Name.{Name}
use Rattle.dp_tree.specs.declared.raw.RawExpr.{RawExpr}
use Rattle.dp_tree.specs.declared.raw.RawExpr.TheVariants as raw
use Rattle.dp_check.specs.Names.{Named, named}
use Rattle.dp_check.specs.Offence.{offence, first_offence, Reads, ReadsElement}
use Rattle.dp_check.specs.Tokens.{token, expr_tokens, args_tokens}
use Rattle.dp_check.specs.Resolved.{scalar_expr, array_of, element_expr, resolved_expr}
use Rattle.dp_check.specs.Answer.{answer, expr_answer, args_answer}
use Rattle.dp_check.proofs.AnswerLemmas.{and_then, option_or-None, first_offence-append, answer-one, answer-two}

-- what opens where an expression is made
unfoldable opened : Unit {0}
unfolding
    Rattle.dp_tree.specs.declared.raw.RawExpr.TheBlock.shape-the_row-RawExpr-0 Rattle.dp_tree.specs.declared.raw.RawExpr.TheBlock.hidden-the_row-RawExpr-0
    denote.Hole.Carrier.hidden
opened = tt

module _ (names : List Named) where
  pub answer-Number : (n : ℤ) → expr_answer names (raw.Number n) ≡ Ok (tree.Number n)
  unfolding expr_answer
  answer-Number n = refl

  pub answer-Scalar : (name : Name) → expr_answer names (raw.Scalar name) ≡ answer (offence (token names Reads name)) (scalar_expr (named names name.text))
  unfolding expr_answer
  answer-Scalar name = ap (λ o. answer o (scalar_expr (named names name.text))) (option_or-None (offence (token names Reads name)))

  pub answer-Element : (name : Name) (e : RawExpr) → expr_answer names (raw.Element name e)
      ≡ and_then (answer (offence (token names ReadsElement name)) (array_of (named names name.text)))
      (λ a. and_then (expr_answer names e) (λ i. Ok (element_expr a i)))
  unfolding expr_answer opened
  answer-Element name e =
      answer-two (offence (token names ReadsElement name)) (first_offence (expr_tokens names e)) (array_of (named names name.text))
      (resolved_expr names e) element_expr

  pub answer-Unary : (op : UnOp) (a : RawExpr) → expr_answer names (raw.Unary op a) ≡ and_then (expr_answer names a) (λ x. Ok (tree.Unary op x))
  unfolding expr_answer opened
  answer-Unary op a = answer-one (first_offence (expr_tokens names a)) (resolved_expr names a) (tree.Unary op)

  pub answer-Binary : (op : BinOp) (a b : RawExpr) →
      expr_answer names (raw.Binary op a b) ≡ and_then (expr_answer names a) (λ x. and_then (expr_answer names b) (λ y. Ok (tree.Binary op x y)))
  unfolding expr_answer opened
  answer-Binary op a b =
      ap (λ o. answer o (tree.Binary op (resolved_expr names a) (resolved_expr names b))) (first_offence-append (expr_tokens names a) (expr_tokens names b))
      ∙ answer-two (first_offence (expr_tokens names a)) (first_offence (expr_tokens names b)) (resolved_expr names a) (resolved_expr names b) (tree.Binary op)

  pub answer-And : (a b : RawExpr) → expr_answer names (raw.And a b) ≡ and_then (expr_answer names a)
      (λ x. and_then (expr_answer names b) (λ y. Ok (tree.And x y)))
  unfolding expr_answer opened
  answer-And a b =
      ap (λ o. answer o (tree.And (resolved_expr names a) (resolved_expr names b))) (first_offence-append (expr_tokens names a) (expr_tokens names b))
      ∙ answer-two (first_offence (expr_tokens names a)) (first_offence (expr_tokens names b)) (resolved_expr names a) (resolved_expr names b) tree.And

  pub answer-Or : (a b : RawExpr) → expr_answer names (raw.Or a b) ≡ and_then (expr_answer names a)
      (λ x. and_then (expr_answer names b) (λ y. Ok (tree.Or x y)))
  unfolding expr_answer opened
  answer-Or a b =
      ap (λ o. answer o (tree.Or (resolved_expr names a) (resolved_expr names b))) (first_offence-append (expr_tokens names a) (expr_tokens names b))
      ∙ answer-two (first_offence (expr_tokens names a)) (first_offence (expr_tokens names b)) (resolved_expr names a) (resolved_expr names b) tree.Or

  pub args_answer-none : args_answer names [] ≡ Ok []
  unfolding args_answer
  args_answer-none = refl

  pub args_answer-more : (e : RawExpr) (rest : List RawExpr) →
      args_answer names (e ∷ rest) ≡ and_then (expr_answer names e) (λ x. and_then (args_answer names rest) (λ xs. Ok (x ∷ xs)))
  unfolding args_answer expr_answer
  args_answer-more e rest =
      ap (λ o. answer o (resolved_expr names e ∷ map (resolved_expr names) rest)) (first_offence-append (expr_tokens names e) (args_tokens names rest))
      ∙ answer-two (first_offence (expr_tokens names e)) (first_offence (args_tokens names rest)) (resolved_expr names e)
      (map (resolved_expr names) rest) (λ x xs. x ∷ xs)

pub ruleset expr_answers = (answer-Number, answer-Scalar, answer-Element, answer-Unary, answer-Binary, answer-And, answer-Or)
