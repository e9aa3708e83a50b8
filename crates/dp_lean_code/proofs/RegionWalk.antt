-- The code of the plan's region among the program's statements.
use Rattle.dp_semantics.proofs.Names.{◌≡◌, refl, sym, ap, ◌∙◌, append_assoc, append-nil, length-append, ℕ, ◌+◌, ◌<◌, if◌then◌else◌, Bool, true, false, List, []}
use Rattle.dp_semantics.proofs.Names.{◌∷◌, ◌++◌, length, drop, get_or, filter, Stmt, Program, Plan, is_region_at}
use Rattle.dp_room.proofs.ListLemmas.{next_of}
use Rattle.dp_plan.specs.Walks.{is_region_of}
use Rattle.dp_code.specs.declared.Op.TheVariants as op
use Rattle.dp_lean_code.specs.declared.LeanOp.{LeanOp}
use Rattle.dp_lean_code.specs.declared.LeanOp.TheVariants.{Plain}
use Rattle.dp_lean_code.specs.steps.Walked.{Known}
unfoldable use Rattle.dp_lean_code.specs.steps.Walked.{part, regions}

module _ (p : Program) (plan : Plan) (s : ℕ) (k : Known) where
  abbrev pub in_region : List Stmt → ℕ → List LeanOp
  in_region xs at = regions p plan s k (filter (is_region_at plan.region) xs) at

  region_case : (x : Stmt) (xs : List Stmt) (at : ℕ) (b : Bool) → is_region_at plan.region x ≡ b →
      in_region (x ∷ xs) at ≡ (if b then part p plan s k x at ++ in_region xs (at + length (part p plan s k x at)) else in_region xs at)
  unfolding regions
  region_case x xs at true e = rw e refl
  region_case x xs at false e = rw e refl

  pub region_more : (xs : List Stmt) (i : ℕ) (x : Stmt) (ops new whole : List LeanOp) → ops ++ in_region (drop i xs) (length ops) ≡ whole →
      i < length xs → x ≡ get_or xs i x →
      is_region_of plan.region x ≡ true → new ≡ ops ++ part p plan s k x (length ops) → new ++ in_region (drop (i + 1) xs) (length new) ≡ whole
  unfolding is_region_of
  region_more xs i x ops new whole kept h is e new_is =
      let here = part p plan s k x (length ops) in
      let rest = in_region (drop (i + 1) xs) (length ops + length here) in
      ap (λ n. new ++ in_region (drop (i + 1) xs) n) (ap length new_is ∙ length-append ops here) ∙ ap (λ ys. ys ++ rest) new_is ∙ append_assoc ops here rest
      ∙ ap (λ ys. ops ++ ys) (sym (ap (λ ys. in_region ys (length ops)) (next_of xs i x h is) ∙ region_case x (drop (i + 1) xs) (length ops) true e)) ∙ kept

  pub region_skip : (xs : List Stmt) (i : ℕ) (x : Stmt) (ops whole : List LeanOp) → ops ++ in_region (drop i xs) (length ops) ≡ whole →
      i < length xs → x ≡ get_or xs i x →
      is_region_of plan.region x ≡ false → ops ++ in_region (drop (i + 1) xs) (length ops) ≡ whole
  unfolding is_region_of
  region_skip xs i x ops whole kept h is e =
      ap (λ ys. ops ++ ys) (sym (ap (λ ys. in_region ys (length ops)) (next_of xs i x h is) ∙ region_case x (drop (i + 1) xs) (length ops) false e)) ∙ kept

  pub region_done : (xs : List Stmt) (ops new whole : List LeanOp) → ops ++ in_region xs (length ops) ≡ whole → xs ≡ [] → new ≡ ops ++ Plain op.End ∷ [] →
      new ≡ whole ++ Plain op.End ∷ []
  unfolding regions
  region_done xs ops new whole kept none new_is =
      new_is ∙ ap (λ ys. ys ++ Plain op.End ∷ []) (sym (append-nil ops) ∙ ap (λ ys. ops ++ in_region ys (length ops)) (sym none) ∙ kept)
