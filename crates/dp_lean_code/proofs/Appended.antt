-- What a condition, its op and its branches come to, appended one after the other.
use Rattle.std.proofs.Common.{◌≡◌, sym, ap, ◌∙◌, append_assoc, length-append, arith, ℕ, ◌+◌, List, [], ◌∷◌, ◌++◌, length}
use Rattle.dp_base.specs.declared.SiteId.{SiteId}
use Rattle.dp_tree.specs.declared.Expr.{Expr}
use Rattle.dp_tree.specs.declared.Program.{Program}
use Rattle.dp_plan.specs.declared.Plan.{Plan}
use Rattle.dp_lean_code.specs.declared.LeanOp.{LeanOp}
use Rattle.dp_lean_code.specs.LeanCode.{test_code}
use Rattle.dp_lean_code.specs.steps.Walked.{tested}

module _ (p : Program) (plan : Plan) (s : ℕ) (site : SiteId) (cond : Expr) (old : List LeanOp) where
  -- the code with the condition's value
  abbrev pub tested_code : List LeanOp
  tested_code = old ++ test_code p plan s site cond (length old)

  module _ (fork : ℕ) (fork_is : fork ≡ length tested_code) where
    -- where the condition's op stands
    pub fork_at : fork ≡ length old + length (test_code p plan s site cond (length old))
    fork_at = fork_is ∙ length-append old (test_code p plan s site cond (length old))

    -- a piece that stands behind the test
    pub behind_test : (f : ℕ → List LeanOp) → tested_code ++ f fork ≡ old ++ tested p plan s site cond f (length old)
    behind_test f =
        ap (λ n. tested_code ++ f n) fork_at
        ∙ append_assoc old (test_code p plan s site cond (length old)) (f (length old + length (test_code p plan s site cond (length old))))

    module _ (two : List LeanOp) (zero_op : LeanOp) (two_is : two ≡ tested_code ++ zero_op ∷ []) (a : ℕ → List LeanOp) where
      two_length : length two ≡ fork + 1
      two_length = ap length two_is ∙ length-append tested_code (zero_op ∷ []) ∙ ap (λ n. n + 1) (sym fork_is)

      -- the body behind the condition's op
      pub body_shape : (three : List LeanOp) → three ≡ two ++ a (length two) → three ≡ tested_code ++ zero_op ∷ a (fork + 1)
      body_shape three three_is =
          three_is ∙ ap (λ n. two ++ a n) two_length ∙ ap (λ xs. xs ++ a (fork + 1)) two_is ∙ append_assoc tested_code (zero_op ∷ []) (a (fork + 1))

      -- .. its end
      pub jump_at : (three : List LeanOp) (jump : ℕ) → three ≡ two ++ a (length two) → jump ≡ length three → jump ≡ fork + 1 + length (a (fork + 1))
      jump_at three jump three_is jump_is =
          omega (arith, jump_is, ap length (body_shape three three_is), length-append tested_code (zero_op ∷ a (fork + 1)), fork_is)

      -- .. and a jump
      pub front_shape : (three four : List LeanOp) (pass : LeanOp) → three ≡ two ++ a (length two) → four ≡ three ++ pass ∷ [] →
          four ≡ tested_code ++ zero_op ∷ (a (fork + 1) ++ pass ∷ [])
      front_shape three four pass three_is four_is =
          four_is ∙ ap (λ xs. xs ++ pass ∷ []) (body_shape three three_is) ∙ append_assoc tested_code (zero_op ∷ a (fork + 1)) (pass ∷ [])

    module _ (front : List LeanOp) (b : ℕ → List LeanOp) (four five : List LeanOp) (zero_op pass : LeanOp)
        (four_is : four ≡ tested_code ++ zero_op ∷ (front ++ pass ∷ [])) (five_is : five ≡ four ++ b (length four)) where
      four_length : length four ≡ fork + 1 + length front + 1
      four_length = omega (arith, ap length four_is, length-append tested_code (zero_op ∷ (front ++ pass ∷ [])), length-append front (pass ∷ []), fork_is)

      -- both branches, with a jump between them
      pub choice_shape : five ≡ tested_code ++ zero_op ∷ (front ++ pass ∷ b (fork + 1 + length front + 1))
      choice_shape =
          let k = fork + 1 + length front + 1 in
          five_is ∙ ap (λ n. four ++ b n) four_length ∙ ap (λ xs. xs ++ b k) four_is ∙ append_assoc tested_code (zero_op ∷ (front ++ pass ∷ [])) (b k)
          ∙ ap (λ xs. tested_code ++ zero_op ∷ xs) (append_assoc front (pass ∷ []) (b k))
