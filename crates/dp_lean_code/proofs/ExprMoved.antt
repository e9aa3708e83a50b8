-- The code of an expression that stands further on is its code with its skips moved.
use Rattle.std.proofs.Common.{◌≡◌, refl, sym, ap, ◌∙◌, append-nil, arith, ℕ, ◌+◌, ◌≤◌, List, [], ◌∷◌, ◌++◌, length, map, drop}
use Rattle.std.proofs.Math.ListN.{drop_of_length-le}
use Rattle.std.proofs.lemmas.List.{map-append, length-map}
use Rattle.dp_tree.specs.declared.Program.{Program}
use Rattle.dp_tree.specs.declared.Expr.{Expr, end_of-Expr, more_of-Expr}
use Rattle.dp_tree.specs.declared.Expr.TheVariants as expr
use Rattle.dp_code.specs.declared.Op.{Op}
use Rattle.dp_code.specs.declared.Op.TheVariants as op
use Rattle.dp_code.specs.Code.{guarded}
unfoldable use Rattle.dp_code.specs.Code.{expr_code}
use Rattle.dp_lean_code.specs.declared.LeanOp.{LeanOp}
use Rattle.dp_lean_code.specs.declared.LeanOp.TheVariants.{Plain}
use Rattle.dp_lean_code.specs.LeanCode.{value_code}
use Rattle.dp_lean_code.specs.steps.Moved.{moved_by}

module _ (n : ℕ) where
  abbrev moved : List Op → List Op
  moved ops = map (moved_by n) ops

  -- code that may stand anywhere
  abbrev Moves : (ℕ → List Op) → Type 0
  Moves code = (k : ℕ) → moved (code k) ≡ code (n + k)

  -- what stands behind such code is moved as far
  past : (code : ℕ → List Op) → Moves code → (k : ℕ) → n + (k + length (code k)) ≡ n + k + length (code (n + k))
  past code so k =
      let e = ap length (so k) in
      let f = length-map (code k) (moved_by n) in
      omega (arith, e, f)

  one_moved : (code : ℕ → List Op) → Moves code → (o : Op) → moved_by n o ≡ o → (k : ℕ) → moved (code k ++ o ∷ []) ≡ code (n + k) ++ o ∷ []
  one_moved code so o same k =
      map-append (moved_by n) (code k) (o ∷ []) ∙ ap (λ ops. ops ++ moved_by n o ∷ []) (so k) ∙ ap (λ (x : Op). code (n + k) ++ x ∷ []) same

  -- one piece behind the other
  then_moved : (code next : ℕ → List Op) → Moves code → Moves next → (k : ℕ) →
      moved (code k ++ next (k + length (code k))) ≡ code (n + k) ++ next (n + k + length (code (n + k)))
  then_moved code next so also k =
      map-append (moved_by n) (code k) (next (k + length (code k))) ∙ ap (λ ops. ops ++ moved (next (k + length (code k)))) (so k)
      ∙ ap (λ ops. code (n + k) ++ ops) (also (k + length (code k))) ∙ ap (λ j. code (n + k) ++ next j) (past code so k)

  guard_moved : (skip : ℕ → Op) → ((to : ℕ) → moved_by n (skip to) ≡ skip (n + to)) → (right : ℕ → List Op) → Moves right → Moves (λ k. guarded skip k right)
  guard_moved skip led right so k =
      let inner = right (k + 1) in
      let e : n + (k + 1) ≡ n + k + 1 = omega arith in
      let lengths = ap length (so (k + 1)) in
      let same = length-map inner (moved_by n) in
      let there : moved inner ≡ right (n + k + 1) = so (k + 1) ∙ ap right e in
      let long = ap length there in
      let to : n + (k + 1 + length inner + 1) ≡ n + k + 1 + length (right (n + k + 1)) + 1 = omega (arith, long, same) in
      ap (λ ops. moved_by n (skip (k + 1 + length inner + 1)) ∷ ops) (map-append (moved_by n) inner (op.Truth ∷ []) ∙ ap (λ ops. ops ++ op.Truth ∷ []) there)
      ∙ ap (λ (o : Op). o ∷ (right (n + k + 1) ++ op.Truth ∷ [])) (led (k + 1 + length inner + 1) ∙ ap skip to)

  module _ (p : Program) where
    pub expr_moved : (e : Expr) → Moves (expr_code p e)
    unfolding expr_code
    expr_moved (expr.Number z) k = refl
    expr_moved (expr.Input' _ (more_of-Expr e end_of-Expr)) k = one_moved (expr_code p e) (λ j. expr_moved e j) op.Input refl k
    expr_moved expr.InputLen k = refl
    expr_moved (expr.Scalar x) k = refl
    expr_moved (expr.Element' x _ (more_of-Expr e end_of-Expr)) k = one_moved (expr_code p e) (λ j. expr_moved e j) _ refl k
    expr_moved (expr.Unary' o _ (more_of-Expr e end_of-Expr)) k = one_moved (expr_code p e) (λ j. expr_moved e j) (op.Unary o) refl k
    expr_moved (expr.Binary' o _ (more_of-Expr a end_of-Expr) _ (more_of-Expr b end_of-Expr)) k =
        then_moved (expr_code p a) (λ j. expr_code p b j ++ op.Binary o ∷ []) (λ j. expr_moved a j) (one_moved (expr_code p b) (λ j. expr_moved b j)
        (op.Binary o) refl) k
    expr_moved (expr.And' _ (more_of-Expr a end_of-Expr) _ (more_of-Expr b end_of-Expr)) k =
        then_moved (expr_code p a) (λ j. guarded op.SkipIfZero j (expr_code p b)) (λ j. expr_moved a j) (guard_moved op.SkipIfZero (λ to. refl) (expr_code p b)
        (λ j. expr_moved b j)) k
    expr_moved (expr.Or' _ (more_of-Expr a end_of-Expr) _ (more_of-Expr b end_of-Expr)) k =
        then_moved (expr_code p a) (λ j. guarded op.SkipIfNotZero j (expr_code p b)) (λ j. expr_moved a j)
        (guard_moved op.SkipIfNotZero (λ to. refl) (expr_code p b) (λ j. expr_moved b j)) k

-- the ops of an expression's code, appended one by one
pub value_appended : (p : Program) (e : Expr) (old ops : List LeanOp) (items code fresh : List Op) (by i : ℕ) →
    ops ++ map Plain (map (moved_by by) (drop i items)) ≡ old ++ map Plain (map (moved_by by) items) → length items ≤ i → items ≡ code →
    code ≡ fresh ++ expr_code p e (length fresh) → fresh ≡ [] → by ≡ length old → ops ≡ old ++ value_code p e (length old)
value_appended p e old ops items code fresh by i kept over items_are code_is empty by_is =
    let all : items ≡ expr_code p e 0 = items_are ∙ code_is ∙ ap (λ (xs : List Op). xs ++ expr_code p e (length xs)) empty in
    let at : by + 0 ≡ length old = omega (arith, by_is) in
    sym (append-nil ops) ∙ ap (λ xs. ops ++ map Plain (map (moved_by by) xs)) (sym (drop_of_length-le items over)) ∙ kept
    ∙ ap (λ xs. old ++ map Plain (map (moved_by by) xs)) all
    ∙ ap (λ xs. old ++ map Plain xs) (expr_moved by p e 0 ∙ ap (expr_code p e) at)
