-- The sites that a walk reads, by the statement's form.
use Rattle.dp_semantics.proofs.Names.{opened_statement, hidden-the_row-Stmt-0, ◌≡◌, refl, ap, ◌∙◌, ℕ, zero, suc, if◌then◌else◌, List, [], ◌∷◌, ◌++◌, take}
use Rattle.dp_semantics.proofs.Names.{SiteId, Expr, Stmt, out-Stmt, Program, Plan, site_of, assumed_in}
use Rattle.dp_base.specs.declared.VarId.{VarId}
use Rattle.dp_tree.specs.declared.Stmt.TheVariants as tree
use Rattle.dp_tree.specs.Statements.{listed}
use Rattle.dp_lean.specs.Needed.{is_judge}
use Rattle.dp_lean_code.specs.steps.Walked.{Known, reaches}
use Rattle.dp_lean_kinds.specs.steps.Read.{site_when, leaf_read, choice_read, assumed_read, block_read, head_read}
unfoldable use Rattle.dp_lean_kinds.specs.steps.Read.{read, row_read, list_read}

module _ (p : Program) (plan : Plan) (s : ℕ) (k : Known) where
  abbrev pub all_read : List Stmt → List ℕ
  all_read xs = list_read p plan s k zero xs

  listed_hidden : (xs : List Stmt) → listed (hidden-the_row-Stmt-0 xs) ≡ xs
  unfolding opened_statement
  listed_hidden [] = refl
  listed_hidden (x ∷ xs) = ap (λ ys. x ∷ ys) (listed_hidden xs)

  row_hidden : (skipped : ℕ) (xs : List Stmt) → row_read p plan s k skipped (hidden-the_row-Stmt-0 xs) ≡ list_read p plan s k skipped xs
  unfolding read list_read opened_statement
  row_hidden skipped [] = by skipped
    where
      by : (skipped : ℕ) → row_read p plan s k skipped (hidden-the_row-Stmt-0 []) ≡ list_read p plan s k skipped []
      by zero = refl
      by (suc n) = refl
  row_hidden (suc skipped) (x ∷ xs) = row_hidden skipped xs
  row_hidden zero (x ∷ xs) = by (k.count (site_of (out-Stmt x)).0) (listed (hidden-the_row-Stmt-0 xs)) (listed_hidden xs) (λ n. row_hidden n xs)
    where
      by : (n : ℕ) (rest : List Stmt) → rest ≡ xs → ((n : ℕ) → row_read p plan s k n (hidden-the_row-Stmt-0 xs) ≡ list_read p plan s k n xs) →
          head_read p plan s k n x rest (read p plan s k x) (λ n. row_read p plan s k n (hidden-the_row-Stmt-0 xs))
          ≡ head_read p plan s k n x xs (read p plan s k x) (λ n. list_read p plan s k n xs)
      by zero rest e same = ap (λ ys. read p plan s k x ++ ys) (same zero)
      by (suc n) rest e same =
          ap (λ ys. head_read p plan s k (suc n) x ys (read p plan s k x) (λ n. row_read p plan s k n (hidden-the_row-Stmt-0 xs))) e
          ∙ ap (λ ys. block_read p plan s k (site_of (out-Stmt x)) (x ∷ take n xs) ++ ys) (same n)

  pub read-Assign : (site : SiteId) (x : VarId) (e : Expr) → read p plan s k (tree.Assign site x e) ≡ leaf_read p plan s k site (k.done x.0)
  unfolding read
  read-Assign site x e = refl

  pub read-Store : (site : SiteId) (x : VarId) (i e : Expr) → read p plan s k (tree.Store site x i e) ≡ leaf_read p plan s k site (k.done x.0)
  unfolding read
  read-Store site x i e = refl

  pub read-Print : (site : SiteId) (e : Expr) → read p plan s k (tree.Print site e) ≡ leaf_read p plan s k site (is_judge p plan s)
  unfolding read
  read-Print site e = refl

  pub read-Break : (site : SiteId) (e : Expr) → read p plan s k (tree.Break site e) ≡ site_when (reaches p plan s k site) site
  unfolding read
  read-Break site e = refl

  pub read-Call : (f line : ℕ) (args : List Expr) → read p plan s k (tree.Call f line args) ≡ []
  unfolding read
  read-Call f line args = refl

  -- a choice, by whether the stage reaches it
  abbrev pub if_read : SiteId → List Stmt → List Stmt → List ℕ
  if_read site a b =
      if reaches p plan s k site then choice_read p plan s k site (all_read a ++ all_read b)
      else assumed_read p plan s k (assumed_in plan.assume site.0) (all_read a) (all_read b)

  pub read-If : (site : SiteId) (cond : Expr) (a b : List Stmt) → read p plan s k (tree.If site cond a b) ≡ if_read site a b
  unfolding read opened_statement
  read-If site cond a b = λ i.
      if reaches p plan s k site then choice_read p plan s k site (row_hidden zero a i ++ row_hidden zero b i)
      else assumed_read p plan s k (assumed_in plan.assume site.0) (row_hidden zero a i) (row_hidden zero b i)

  -- .. and a loop
  abbrev pub while_read : SiteId → List Stmt → List ℕ
  while_read site a = if reaches p plan s k site then choice_read p plan s k site (all_read a) else []

  pub read-While : (site : SiteId) (cond : Expr) (a : List Stmt) → read p plan s k (tree.While site cond a) ≡ while_read site a
  unfolding read opened_statement
  read-While site cond a = λ i. if reaches p plan s k site then choice_read p plan s k site (row_hidden zero a i) else []

  pub read-Region : (r : ℕ) (site : SiteId) (cond : Expr) (a : List Stmt) → read p plan s k (tree.Region r site cond a) ≡ choice_read p plan
      s k site (all_read a)
  unfolding read opened_statement
  read-Region r site cond a = λ i. choice_read p plan s k site (row_hidden zero a i)
