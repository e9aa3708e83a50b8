-- The code of an own block's statements, by form and one after the other.
use Rattle.dp_semantics.proofs.Names.{opened_statement, hidden-the_row-Stmt-0, ◌≡◌, refl, sym, ap, ◌∙◌, append_assoc, append-nil, length-append, ℕ, zero, suc}
use Rattle.dp_semantics.proofs.Names.{◌+◌, ◌<◌, List, [], ◌∷◌, ◌++◌, length, drop, get_or, SiteId, Expr, Stmt, Program, Plan}
use Rattle.std.proofs.Common.{add-one, drop-cons}
use Rattle.dp_base.specs.declared.VarId.{VarId}
use Rattle.dp_tree.specs.declared.Stmt.TheVariants as tree
use Rattle.dp_lean_code.specs.declared.LeanOp.{LeanOp}
use Rattle.dp_lean_code.specs.LeanCode.{choice, repetition, branch, no_blocks, row_code, list_code}
unfoldable use Rattle.dp_lean_code.specs.LeanCode.{stmt_code}
use Rattle.dp_lean_code.specs.steps.Walked.{assign_code, store_code, print_code, break_code, tested}
use Rattle.dp_lean_code.specs.steps.Silenced.{silent_if, silent_while}
unfoldable use Rattle.dp_lean_code.specs.steps.Silenced.{silent_part, silent_parts}
use Rattle.dp_lean_code.proofs.LeanStanding.{row_hidden}

module _ (p : Program) (plan : Plan) (s : ℕ) where
  abbrev none : SiteId → List Stmt → ℕ → List LeanOp
  none site block at = []

  hidden : (xs : List Stmt) (at : ℕ) → row_code p plan s (no_blocks p plan s) none zero (hidden-the_row-Stmt-0 xs) at ≡ list_code p plan s
      (no_blocks p plan s) none zero xs at
  hidden xs at = row_hidden p plan s (no_blocks p plan s) none (λ f y ys is. absurd (cc is)) zero xs at

  pub silent-Assign : (site : SiteId) (x : VarId) (e : Expr) (at : ℕ) → silent_part p plan s (tree.Assign site x e) at ≡ assign_code p plan s site x e at
  unfolding silent_part stmt_code
  silent-Assign site x e at = refl

  pub silent-Store : (site : SiteId) (x : VarId) (i e : Expr) (at : ℕ) → silent_part p plan s (tree.Store site x i e) at ≡ store_code p plan s site x i e at
  unfolding silent_part stmt_code
  silent-Store site x i e at = refl

  pub silent-Print : (site : SiteId) (e : Expr) (at : ℕ) → silent_part p plan s (tree.Print site e) at ≡ print_code p plan s site e at
  unfolding silent_part stmt_code
  silent-Print site e at = refl

  pub silent-Break : (site : SiteId) (e : Expr) (at : ℕ) → silent_part p plan s (tree.Break site e) at ≡ break_code p plan s site e at
  unfolding silent_part stmt_code
  silent-Break site e at = refl

  pub silent-Region : (r : ℕ) (site : SiteId) (cond : Expr) (a : List Stmt) (at : ℕ) → silent_part p plan s (tree.Region r site cond a) at ≡ []
  unfolding silent_part stmt_code opened_statement
  silent-Region r site cond a at = refl

  pub silent-Call : (f line : ℕ) (args : List Expr) (at : ℕ) → silent_part p plan s (tree.Call f line args) at ≡ []
  unfolding silent_part stmt_code
  silent-Call f line args at = refl

  pub silent-If : (site : SiteId) (cond : Expr) (a b : List Stmt) (at : ℕ) → silent_part p plan s (tree.If site cond a b) at ≡ silent_if p
      plan s site cond a b at
  unfolding silent_part silent_parts stmt_code opened_statement
  silent-If site cond a b at = λ i. tested p plan s site cond (choice (branch p plan s site) (λ k. hidden a k i) (λ k. hidden b k i)) at

  pub silent-While : (site : SiteId) (cond : Expr) (a : List Stmt) (at : ℕ) → silent_part p plan s (tree.While site cond a) at ≡ silent_while p
      plan s site cond a at
  unfolding silent_part silent_parts stmt_code opened_statement
  silent-While site cond a at = λ i. tested p plan s site cond (repetition at (branch p plan s site) (λ k. hidden a k i)) at

  silent-none : (at : ℕ) → silent_parts p plan s [] at ≡ []
  unfolding silent_parts
  silent-none at = refl

  silent-cons : (x : Stmt) (xs : List Stmt) (at : ℕ) → silent_parts p plan s (x ∷ xs) at ≡ silent_part p plan s x at ++ silent_parts p plan s xs
      (at + length (silent_part p plan s x at))
  unfolding silent_parts silent_part
  silent-cons x xs at = refl

  silent-next : (xs : List Stmt) (i : ℕ) (x : Stmt) (at : ℕ) → i < length xs → x ≡ get_or xs i x →
      silent_parts p plan s (drop i xs) at ≡ silent_part p plan s x at ++ silent_parts p plan s (drop (i + 1) xs) (at + length (silent_part p plan s x at))
  silent-next xs i x at h is =
      let cons : drop i xs ≡ x ∷ drop (i + 1) xs = rw add-one (drop-cons xs i x h ∙ ap (λ (y : Stmt). y ∷ drop (suc i) xs) (sym is)) in
      ap (λ ys. silent_parts p plan s ys at) cons ∙ silent-cons x (drop (i + 1) xs) at

  -- one statement more, and the last one
  pub one_more : (xs : List Stmt) (i : ℕ) (x : Stmt) (ops new whole : List LeanOp) → ops ++ silent_parts p plan s (drop i xs) (length ops) ≡ whole →
      i < length xs → x ≡ get_or xs i x → new ≡ ops ++ silent_part p plan s x (length ops) → new ++ silent_parts p plan s (drop (i + 1) xs) (length new) ≡ whole
  one_more xs i x ops new whole kept h is new_is =
      let here = silent_part p plan s x (length ops) in
      let rest = silent_parts p plan s (drop (i + 1) xs) (length ops + length here) in
      ap (λ n. new ++ silent_parts p plan s (drop (i + 1) xs) n) (ap length new_is ∙ length-append ops here) ∙ ap (λ ys. ys ++ rest) new_is
      ∙ append_assoc ops here rest ∙ ap (λ ys. ops ++ ys) (sym (silent-next xs i x (length ops) h is)) ∙ kept

  pub all_done : (xs : List Stmt) (ops whole : List LeanOp) → ops ++ silent_parts p plan s xs (length ops) ≡ whole → xs ≡ [] → ops ≡ whole
  all_done xs ops whole kept end =
      sym (append-nil ops) ∙ ap (λ ys. ops ++ ys) (sym (silent-none (length ops))) ∙ ap (λ ys. ops ++ silent_parts p plan s ys (length ops)) (sym end) ∙ kept

  -- nothing is appended
  pub nothing_more : (old : List LeanOp) (x y : Stmt) → x ≡ y → silent_part p plan s y (length old) ≡ [] → old ≡ old ++ silent_part p plan s x (length old)
  nothing_more old x y e nothing =
      sym (append-nil old) ∙ ap (λ xs. old ++ xs) (sym nothing) ∙ ap (λ z. old ++ silent_part p plan s z (length old)) (sym e)
