-- What the walk appends, a choice, a loop or a statement at a time, is its code.
use Rattle.std.proofs.Common.{add-one, drop-cons}
use Rattle.dp_semantics.proofs.Names.{◌≡◌, refl, sym, ap, ◌∙◌, append_assoc, append-nil, length-append, ℕ, zero, suc, ◌+◌, ◌-◌, ◌<◌, ◌||◌, if◌then◌else◌, Bool}
use Rattle.dp_semantics.proofs.Names.{true, false, List, [], ◌∷◌, ◌++◌, length, drop, take, get_or, Some, None, SiteId, Expr, Stmt, out-Stmt, Program, Plan}
use Rattle.dp_semantics.proofs.Names.{site_of, assumed_in}
use Rattle.std.proofs.lemmas.List.{length-drop}
use Rattle.dp_tree.specs.declared.Stmt.TheVariants as tree
use Rattle.dp_lean_code.specs.declared.LeanOp.{LeanOp}
use Rattle.dp_lean_code.specs.LeanCode.{either, choice, repetition, branch, test_code}
use Rattle.dp_lean_code.specs.steps.Walked.{Known, reaches, keeps, has_ops, where_filled, tested, choice_part, loop_part, reached_loop, block_part, head_part}
unfoldable use Rattle.dp_lean_code.specs.steps.Walked.{part, parts}
use Rattle.dp_lean_code.proofs.Appended.{tested_code, fork_at, behind_test}
use Rattle.dp_lean_code.proofs.WalkForms.{code, part-If}

take_length : {X : Type 0} (xs : List X) → take (length xs) xs ≡ xs
take_length [] = refl
take_length (x ∷ xs) = ap (λ ys. x ∷ ys) (take_length xs)

-- all that stands from a place on
pub take_drop : {X : Type 0} (xs : List X) (i : ℕ) → take (length xs - i) (drop i xs) ≡ drop i xs
take_drop xs i = ap (λ n. take n (drop i xs)) (sym (length-drop i xs)) ∙ take_length (drop i xs)

-- something, where it is filled
filled_by : (filled : Bool) (old whole more : List LeanOp) → whole ≡ old ++ more → where_filled filled old whole ≡ old ++ (if filled then more else [])
filled_by true old whole more e = e
filled_by false old whole more e = sym (append-nil old)

module _ (p : Program) (plan : Plan) (s : ℕ) (k : Known) where
  module _ (site : SiteId) (cond : Expr) (old : List LeanOp) (fork : ℕ) (fork_is : fork ≡ length (tested_code p plan s site cond old)) where
    inner : fork + 1 ≡ length old + length (test_code p plan s site cond (length old)) + 1
    inner = ap (λ n. n + 1) (fork_at p plan s site cond old fork fork_is)

    pub choice_filled : (a b : ℕ → List LeanOp) →
        where_filled (keeps p plan s k site || (has_ops (a (fork + 1)) || has_ops (b (fork + 1 + length (a (fork + 1)) + 1)))) old
        (tested_code p plan s site cond old ++ either fork (branch p plan s site) (a (fork + 1)) (b (fork + 1 + length (a (fork + 1)) + 1)))
        ≡ old ++ choice_part p plan s k site cond a b (length old)
    choice_filled a b =
        filled_by _ old _ (tested p plan s site cond (choice (branch p plan s site) a b) (length old)) (behind_test p plan s site cond old fork fork_is
        (choice (branch p plan s site) a b))
        ∙ ap (λ n. old ++ (if keeps p plan s k site || (has_ops (a n) || has_ops (b (n + length (a n) + 1))) then tested p plan s site cond
        (choice (branch p plan s site) a b) (length old) else [])) inner

    pub loop_filled : (a : ℕ → List LeanOp) (start : ℕ) → start ≡ length old →
        where_filled (keeps p plan s k site || has_ops (a (fork + 1))) old (tested_code p plan s site cond old
        ++ repetition start (branch p plan s site) a fork)
        ≡ old ++ loop_part p plan s k site cond a (length old)
    loop_filled a start start_is =
        filled_by _ old _ (tested p plan s site cond (repetition start (branch p plan s site) a) (length old)) (behind_test p plan s site cond old fork fork_is
        (repetition start (branch p plan s site) a))
        ∙ ap (λ n. old ++ (if keeps p plan s k site || has_ops (a n) then tested p plan s site cond (repetition start (branch p plan s site) a)
        (length old) else [])) inner
        ∙ ap (λ n. old ++ (if keeps p plan s k site || has_ops (a (length old + length (test_code p plan s site cond (length old)) + 1))
        then tested p plan s site cond (repetition n (branch p plan s site) a) (length old) else [])) start_is

  -- an `if` by whether the stage reaches it, and by what is assumed
  module _ (site : SiteId) (cond : Expr) (a b : List Stmt) (at : ℕ) where
    pub if_reached : reaches p plan s k site ≡ true → part p plan s k (tree.If site cond a b) at ≡ choice_part p plan s k site cond (code p plan s k a)
        (code p plan s k b) at
    if_reached h = part-If p plan s k site cond a b at ∙ rw h refl

    pub if_taken : reaches p plan s k site ≡ false → assumed_in plan.assume site.0 ≡ Some true →
        part p plan s k (tree.If site cond a b) at ≡ code p plan s k a at
    if_taken h e = part-If p plan s k site cond a b at ∙ rw h (rw e refl)

    pub if_passed : reaches p plan s k site ≡ false → assumed_in plan.assume site.0 ≡ Some false →
        part p plan s k (tree.If site cond a b) at ≡ code p plan s k b at
    if_passed h e = part-If p plan s k site cond a b at ∙ rw h (rw e refl)

    pub if_dropped : reaches p plan s k site ≡ false → assumed_in plan.assume site.0 ≡ None → part p plan s k (tree.If site cond a b) at ≡ []
    if_dropped h e = part-If p plan s k site cond a b at ∙ rw h (rw e refl)

  pub loop_reached : (site : SiteId) (cond : Expr) (a : ℕ → List LeanOp) (at : ℕ) → reaches p plan s k site ≡ true →
      loop_part p plan s k site cond a at ≡ reached_loop p plan s k site cond a at
  loop_reached site cond a at h = rw h refl

  pub loop_dropped : (site : SiteId) (cond : Expr) (a : ℕ → List LeanOp) (old : List LeanOp) → reaches p plan s k site ≡ false →
      old ≡ old ++ reached_loop p plan s k site cond a (length old)
  loop_dropped site cond a old h = rw h (sym (append-nil old))

  -- nothing is appended
  pub nothing_more : (old : List LeanOp) (x y : Stmt) → x ≡ y → part p plan s k y (length old) ≡ [] → old ≡ old ++ part p plan s k x (length old)
  nothing_more old x y e none = sym (append-nil old) ∙ ap (λ xs. old ++ xs) (sym none) ∙ ap (λ z. old ++ part p plan s k z (length old)) (sym e)

  -- ---- lists, item by item

  module _ (all : List Stmt) (i : ℕ) (x : Stmt) (h : i < length all) (is : x ≡ get_or all i x) (ops whole : List LeanOp) where
    cons : drop i all ≡ x ∷ drop (i + 1) all
    cons = rw add-one (drop-cons all i x h ∙ ap (λ (y : Stmt). y ∷ drop (suc i) all) (sym is))

    -- one of a block that stands in the code already
    pub one_passed : (left less : ℕ) → left ≡ suc less → ops ++ parts p plan s k left (drop i all) (length ops) ≡ whole →
        ops ++ parts p plan s k less (drop (i + 1) all) (length ops) ≡ whole
    unfolding parts
    one_passed left less e kept =
        ap (λ xs. ops ++ parts p plan s k (suc less) xs (length ops)) (sym cons) ∙ ap (λ n. ops ++ parts p plan s k n (drop i all) (length ops)) (sym e) ∙ kept

    headed : (new here : List LeanOp) (n : ℕ) → new ≡ ops ++ here →
        ops ++ (here ++ parts p plan s k n (drop (i + 1) all) (length ops + length here)) ≡ whole →
        new ++ parts p plan s k n (drop (i + 1) all) (length new) ≡ whole
    headed new here n new_is kept =
        ap (λ j. new ++ parts p plan s k n (drop (i + 1) all) j) (ap length new_is ∙ length-append ops here)
        ∙ ap (λ ys. ys ++ parts p plan s k n (drop (i + 1) all) (length ops + length here)) new_is
        ∙ append_assoc ops here (parts p plan s k n (drop (i + 1) all) (length ops + length here)) ∙ kept

    module _ (kept : ops ++ parts p plan s k zero (drop i all) (length ops) ≡ whole) where
      at_head : (n : ℕ) → k.count (site_of (out-Stmt x)).0 ≡ n →
          ops ++ head_part p plan s k n x (drop (i + 1) all) (λ j. part p plan s k x j) (λ n j. parts p plan s k n (drop (i + 1) all) j) (length ops) ≡ whole
      unfolding parts
      at_head n e =
          ap (λ c. ops ++ head_part p plan s k c x (drop (i + 1) all) (λ j. part p plan s k x j) (λ n j. parts p plan s k n (drop (i + 1) all) j)
          (length ops)) (sym e)
          ∙ ap (λ xs. ops ++ parts p plan s k zero xs (length ops)) (sym cons) ∙ kept

      -- a statement outside of blocks
      pub one_more : (new : List LeanOp) → k.count (site_of (out-Stmt x)).0 ≡ 0 → new ≡ ops ++ part p plan s k x (length ops) →
          new ++ parts p plan s k zero (drop (i + 1) all) (length new) ≡ whole
      one_more new none new_is = headed new (part p plan s k x (length ops)) zero new_is (at_head zero none)

      -- a block
      pub block_more : (new : List LeanOp) (count less : ℕ) → k.count (site_of (out-Stmt x)).0 ≡ count → count ≡ suc less →
          new ≡ ops ++ block_part p plan s k (site_of (out-Stmt x)) (take count (drop i all)) (length ops) →
          new ++ parts p plan s k less (drop (i + 1) all) (length new) ≡ whole
      block_more new count less is_count e new_is =
          headed new (block_part p plan s k (site_of (out-Stmt x)) (x ∷ take less (drop (i + 1) all)) (length ops)) less
          (new_is ∙ ap (λ n. ops ++ block_part p plan s k (site_of (out-Stmt x)) (take n (drop i all)) (length ops)) e
          ∙ ap (λ xs. ops ++ block_part p plan s k (site_of (out-Stmt x)) (take (suc less) xs) (length ops)) cons)
          (at_head (suc less) (is_count ∙ e))

  pub all_done : (left : ℕ) (xs : List Stmt) (ops whole : List LeanOp) → ops ++ parts p plan s k left xs (length ops) ≡ whole → xs ≡ [] → ops ≡ whole
  unfolding parts
  all_done left xs ops whole kept none =
      sym (append-nil ops) ∙ ap (λ ys. ops ++ ys) (sym (nothing left)) ∙ ap (λ ys. ops ++ parts p plan s k left ys (length ops)) (sym none) ∙ kept
    where
      nothing : (left : ℕ) → parts p plan s k left [] (length ops) ≡ []
      nothing zero = refl
      nothing (suc n) = refl
