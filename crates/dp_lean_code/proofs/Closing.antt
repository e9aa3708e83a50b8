-- What was appended piece by piece, with its skips written at the end, is the code of a choice or a loop.
use Rattle.std.proofs.Common.{◌≡◌, sym, ap, ◌∙◌, append_assoc, length-append, arith, ℕ, ◌+◌, List, [], ◌∷◌, ◌++◌, length, slice_set, take}
use Rattle.std.proofs.Math.Seq.{set-append_seam, take-append_seam}
use Rattle.dp_code.specs.declared.Op.TheVariants as op
use Rattle.dp_lean_code.specs.declared.LeanOp.{LeanOp}
use Rattle.dp_lean_code.specs.declared.LeanOp.TheVariants.{Plain}
use Rattle.dp_lean_code.specs.LeanCode.{either}

-- A choice is ended.
module _ (base tc : List LeanOp) (condition passing : LeanOp) (fork jump : ℕ) (fork_is : fork ≡ length base) (jump_is : jump ≡ fork + 1 + length tc) where
  abbrev front_is : List LeanOp
  front_is = base ++ condition ∷ tc

  front_length : length front_is ≡ jump
  front_length = omega (arith, length-append base (condition ∷ tc), fork_is, jump_is)

  apart : (ec : List LeanOp) → base ++ condition ∷ (tc ++ passing ∷ ec) ≡ front_is ++ passing ∷ ec
  apart ec = sym (append_assoc base (condition ∷ tc) (passing ∷ ec))

  pub no_else : (branch : ℕ → LeanOp) (ec all short new : List LeanOp) (end : ℕ) → all ≡ base ++ condition ∷ (tc ++ passing ∷ ec) → end ≡ length all →
      jump + 1 ≡ end → short ≡ take jump all → new ≡ slice_set short fork (branch jump) →
      new ≡ base ++ either fork branch tc ec
  no_else branch [] all short new end all_is end_is other short_is new_is =
      let short_front : short ≡ front_is = short_is ∙ ap (take jump) (all_is ∙ apart []) ∙ ap (λ n. take n (front_is ++ passing ∷ [])) (sym front_length)
      ∙ take-append_seam front_is (passing ∷ []) in
      new_is ∙ ap (λ xs. slice_set xs fork (branch jump)) short_front ∙ ap (λ n. slice_set front_is n (branch jump)) fork_is
      ∙ set-append_seam base condition tc (branch jump)
      ∙ ap (λ n. base ++ branch n ∷ tc) jump_is
  no_else branch (o ∷ ec) all short new end all_is end_is other short_is new_is =
      absurd (omega (arith, end_is, other, ap length (all_is ∙ apart (o ∷ ec)), length-append front_is (passing ∷ o ∷ ec), front_length))

  pub with_else : (branch : ℕ → LeanOp) (ec all jumped new : List LeanOp) (end : ℕ) → all ≡ base ++ condition ∷ (tc ++ passing ∷ ec) → end ≡ length all →
      (jump + 1 ≡ end → ⊥) → jumped ≡ slice_set all jump (Plain (op.Jump end)) → new ≡ slice_set jumped fork (branch (jump + 1)) →
      new ≡ base ++ either fork branch tc ec
  with_else branch [] all jumped new end all_is end_is differ jumped_is new_is =
      absurd (differ (omega (arith, end_is, ap length (all_is ∙ apart []), length-append front_is (passing ∷ []), front_length)))
  with_else branch (o ∷ ec) all jumped new end all_is end_is differ jumped_is new_is =
      let rest = o ∷ ec in
      let end_at : end ≡ fork + 1 + length tc + 1 + length rest = omega (
        arith,
        end_is,
        ap length (all_is ∙ apart rest),
        length-append front_is (passing
            ∷ rest),
        front_length,
        jump_is,
      ) in
      let jumped_front : jumped ≡ base ++ condition ∷ (tc ++ Plain (op.Jump end) ∷ rest) =
      jumped_is ∙ ap (λ xs. slice_set xs jump (Plain (op.Jump end))) (all_is ∙ apart rest)
      ∙ ap (λ n. slice_set (front_is ++ passing ∷ rest) n (Plain (op.Jump end))) (sym front_length)
      ∙ set-append_seam front_is passing rest (Plain (op.Jump end)) ∙ append_assoc base (condition ∷ tc) (Plain (op.Jump end) ∷ rest) in
      new_is ∙ ap (λ xs. slice_set xs fork (branch (jump + 1))) jumped_front
      ∙ ap (λ n. slice_set (base ++ condition ∷ (tc ++ Plain (op.Jump end) ∷ rest)) n (branch (jump + 1))) fork_is
      ∙ set-append_seam base condition (tc ++ Plain (op.Jump end) ∷ rest) (branch (jump + 1))
      ∙ (λ i. base ++ branch (ap (λ n. n + 1) jump_is i) ∷ (tc ++ Plain (op.Jump (end_at i)) ∷ rest))

-- A condition's op is written over.
pub forked_at : (base body all new : List LeanOp) (condition written : LeanOp) (fork : ℕ) → all ≡ base ++ condition ∷ body → fork ≡ length base →
    new ≡ slice_set all fork written → new ≡ base ++ written ∷ body
forked_at base body all new condition written fork all_is fork_is new_is =
    new_is ∙ ap (λ xs. slice_set xs fork written) all_is ∙ ap (λ n. slice_set (base ++ condition ∷ body) n written) fork_is
    ∙ set-append_seam base condition body written

pub loop_closed : (base body all more new : List LeanOp) (condition written : LeanOp) (branch : ℕ → LeanOp) (fork start end : ℕ) →
    all ≡ base ++ condition ∷ body → fork ≡ length base → more ≡ all ++ Plain (op.Jump start) ∷ [] → end ≡ length more → written ≡ branch end →
    new ≡ slice_set more fork written →
    new ≡ base ++ branch (fork + 1 + length body + 1) ∷ (body ++ Plain (op.Jump start) ∷ [])
loop_closed base body all more new condition written branch fork start end all_is fork_is more_is end_is written_is new_is =
    let whole : more ≡ base ++ condition ∷ (body ++ Plain (op.Jump start) ∷ []) = more_is ∙ ap (λ xs. xs ++ Plain (op.Jump start) ∷ []) all_is
    ∙ append_assoc base (condition ∷ body) (Plain (op.Jump start) ∷ []) in
    let end_at : end ≡ fork + 1 + length body + 1 = omega (
      arith,
      end_is,
      ap length whole,
      length-append base (condition ∷ (body ++ Plain (op.Jump start) ∷ [])),
      length-append body (Plain
          (op.Jump start) ∷ []),
      fork_is,
    ) in
    forked_at base (body ++ Plain (op.Jump start) ∷ []) more new condition written fork whole fork_is new_is
    ∙ ap (λ o. base ++ o ∷ (body ++ Plain (op.Jump start) ∷ [])) (written_is ∙ ap branch end_at)
