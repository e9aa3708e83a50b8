-- How much is left to expand: what each call of the code has less of than its caller.
use Rattle.std.proofs.Common.{◌≡◌, refl, sym, ap, ap₂, ◌∙◌, ℕ, zero, suc, ◌+◌, ◌-◌, ◌<◌, List, [], ◌∷◌, Some, length, get_or, slice_get, arith}
use Rattle.dp_base.specs.declared.SiteId.{SiteId}
use Rattle.dp_tree.specs.declared.Expr.{Expr}
use Rattle.dp_tree.specs.declared.Stmt.{Stmt, Row_of-Stmt, end_of-Stmt, more_of-Stmt}
use Rattle.dp_tree.specs.declared.Stmt.TheVariants as tree
use Rattle.dp_tree.specs.declared.Function.{Function}
use Rattle.dp_tree.specs.declared.Program.{Program}
use Rattle.dp_tree.specs.Functions.{body_in}
use Rattle.dp_tree.proofs.Heads.{opened_statement}

unfoldable mutual
  pub work_one : (ℕ → ℕ) → Stmt → ℕ
  work_one calls (tree.If' site cond _ a _ b) = 3 + (work_rows calls a + work_rows calls b)
  work_one calls (tree.While' site cond _ a) = 3 + work_rows calls a
  work_one calls (tree.Region' q site cond _ a) = 3 + work_rows calls a
  work_one calls (tree.Call f line args) = 2 + calls f
  work_one calls _ = 0

  pub work_rows : {n : _} → (ℕ → ℕ) → Row_of-Stmt n → ℕ
  work_rows calls end_of-Stmt = 0
  work_rows calls (more_of-Stmt s rest) = 1 + (work_one calls s + work_rows calls rest)

unfoldable pub work_list : (ℕ → ℕ) → List Stmt → ℕ
work_list calls [] = 0
work_list calls (s ∷ rest) = 1 + (work_one calls s + work_list calls rest)

unfoldable pub work_within : Program → ℕ → ℕ → ℕ
work_within p zero f = 0
work_within p (suc depth) f = work_list (work_within p depth) (body_in (slice_get p.functions f))

abbrev hidden_work : (ℕ → ℕ) → List Stmt → ℕ
hidden_work calls xs = work_rows calls (Rattle.dp_tree.specs.declared.Stmt.TheBlock.hidden-the_row-Stmt-0 xs)

module _ (calls : ℕ → ℕ) where
  work_hidden : (xs : List Stmt) → hidden_work calls xs ≡ work_list calls xs
  unfolding work_one work_list opened_statement
  work_hidden [] = refl
  work_hidden (x ∷ xs) = ap (λ (n : ℕ). 1 + (work_one calls x + n)) (work_hidden xs)

  pub work-If : (site : SiteId) (cond : Expr) (a b : List Stmt) → work_one calls (tree.If site cond a b) ≡ 3 + (work_list calls a + work_list calls b)
  unfolding work_one opened_statement
  work-If site cond a b = ap₂ (λ (m n : ℕ). 3 + (m + n)) (work_hidden a) (work_hidden b)

  pub work-While : (site : SiteId) (cond : Expr) (a : List Stmt) → work_one calls (tree.While site cond a) ≡ 3 + work_list calls a
  unfolding work_one opened_statement
  work-While site cond a = ap (λ (m : ℕ). 3 + m) (work_hidden a)

  pub work-Region : (q : ℕ) (site : SiteId) (cond : Expr) (a : List Stmt) → work_one calls (tree.Region q site cond a) ≡ 3 + work_list calls a
  unfolding work_one opened_statement
  work-Region q site cond a = ap (λ (m : ℕ). 3 + m) (work_hidden a)

  pub work-Call : (f line : ℕ) (args : List Expr) → work_one calls (tree.Call f line args) ≡ 2 + calls f
  unfolding work_one opened_statement
  work-Call f line args = refl

  pub work_item : (xs : List Stmt) (i : ℕ) (d : Stmt) → i < length xs → work_one calls (get_or xs i d) < work_list calls xs
  unfolding work_list
  work_item [] i d h = absurd (omega arith)
  work_item (x ∷ xs) zero d h = omega arith
  work_item (x ∷ xs) (suc i) d h = let below : i < length xs = omega arith in let e = work_item xs i d below in omega arith

-- the work of a call is below that of its function's body in a body one deeper
pub work_called : (p : Program) (depth f : ℕ) (fn : Function) → slice_get p.functions f ≡ Some fn → 0 < depth →
    work_list (work_within p (depth - 1)) fn.body ≡ work_within p depth f
unfolding work_within
work_called p zero f fn h more = absurd (omega arith)
work_called p (suc depth) f fn h more = let e : suc depth - 1 ≡ depth = omega arith in ap (λ d. work_list (work_within p d) fn.body) e
    ∙ ap (λ o. work_list (work_within p depth) (body_in o)) (sym h)
