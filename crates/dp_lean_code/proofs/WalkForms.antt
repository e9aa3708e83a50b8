-- The code that a walk makes, by the statement's form.
use Rattle.dp_semantics.proofs.Names.{opened_statement, hidden-the_row-Stmt-0, ◌≡◌, refl, ap, ◌∙◌, append_assoc, length-append, ℕ, zero, suc, ◌+◌, ◌==◌}
use Rattle.dp_semantics.proofs.Names.{if◌then◌else◌, true, List, [], ◌∷◌, ◌++◌, length, take, SiteId, Expr, Stmt, out-Stmt, Program, Plan, site_of, stage_of}
use Rattle.dp_semantics.proofs.Names.{assumed_in}
use Rattle.dp_base.specs.declared.VarId.{VarId}
use Rattle.dp_tree.specs.declared.Stmt.TheVariants as tree
use Rattle.dp_tree.specs.Statements.{listed}
use Rattle.dp_lean.specs.Needed.{is_judge}
use Rattle.dp_lean_code.specs.declared.LeanOp.{LeanOp}
use Rattle.dp_lean_code.specs.declared.LeanOp.TheVariants.{Begin, Finish}
use Rattle.dp_lean_code.specs.steps.Walked.{Known, reaches, where_kept, assign_code, store_code, print_code, reached_exit, choice_part, reached_loop}
use Rattle.dp_lean_code.specs.steps.Walked.{assumed_part, block_part, head_part}
unfoldable use Rattle.dp_lean_code.specs.steps.Walked.{part, row, parts}
unfoldable use Rattle.dp_lean_code.specs.steps.Silenced.{silent_parts}

module _ (p : Program) (plan : Plan) (s : ℕ) (k : Known) where
  abbrev pub code : List Stmt → ℕ → List LeanOp
  code xs at = parts p plan s k zero xs at

  listed_hidden : (xs : List Stmt) → listed (hidden-the_row-Stmt-0 xs) ≡ xs
  unfolding opened_statement
  listed_hidden [] = refl
  listed_hidden (x ∷ xs) = ap (λ ys. x ∷ ys) (listed_hidden xs)

  row_hidden : (skipped : ℕ) (xs : List Stmt) (at : ℕ) → row p plan s k skipped (hidden-the_row-Stmt-0 xs) at ≡ parts p plan s k skipped xs at
  unfolding part parts opened_statement
  row_hidden skipped [] at = by skipped
    where
      by : (skipped : ℕ) → row p plan s k skipped (hidden-the_row-Stmt-0 []) at ≡ parts p plan s k skipped [] at
      by zero = refl
      by (suc n) = refl
  row_hidden (suc skipped) (x ∷ xs) at = row_hidden skipped xs at
  row_hidden zero (x ∷ xs) at = by (k.count (site_of (out-Stmt x)).0) (listed (hidden-the_row-Stmt-0 xs)) (listed_hidden xs) (λ n j. row_hidden n xs j)
    where
      by : (n : ℕ) (rest : List Stmt) → rest ≡ xs → ((n j : ℕ) → row p plan s k n (hidden-the_row-Stmt-0 xs) j ≡ parts p plan s k n xs j) →
          head_part p plan s k n x rest (λ j. part p plan s k x j) (λ n j. row p plan s k n (hidden-the_row-Stmt-0 xs) j) at
          ≡ head_part p plan s k n x xs (λ j. part p plan s k x j) (λ n j. parts p plan s k n xs j) at
      by zero rest e same = ap (λ ops. part p plan s k x at ++ ops) (same zero (at + length (part p plan s k x at)))
      by (suc n) rest e same =
          ap (λ ys. head_part p plan s k (suc n) x ys (λ j. part p plan s k x j) (λ n j. row p plan s k n (hidden-the_row-Stmt-0 xs) j) at) e
          ∙ ap (λ ops. block_part p plan s k (site_of (out-Stmt x)) (x ∷ take n xs) at ++ ops)
          (same n (at + length (block_part p plan s k (site_of (out-Stmt x)) (x ∷ take n xs) at)))

  pub part-Assign : (site : SiteId) (x : VarId) (e : Expr) (at : ℕ) → part p plan s k (tree.Assign site x e) at ≡ where_kept p plan s k site (k.done x.0)
      (assign_code p plan s site x e at)
  unfolding part
  part-Assign site x e at = refl

  pub part-Store : (site : SiteId) (x : VarId) (i e : Expr) (at : ℕ) → part p plan s k (tree.Store site x i e) at ≡ where_kept p plan s k site (k.done x.0)
      (store_code p plan s site x i e at)
  unfolding part
  part-Store site x i e at = refl

  pub part-Print : (site : SiteId) (e : Expr) (at : ℕ) → part p plan s k (tree.Print site e) at ≡ where_kept p plan s k site (is_judge p plan s)
      (print_code p plan s site e at)
  unfolding part
  part-Print site e at = refl

  pub part-Break : (site : SiteId) (e : Expr) (at : ℕ) → part p plan s k (tree.Break site e) at ≡ reached_exit p plan s k site e at
  unfolding part
  part-Break site e at = refl

  pub part-Call : (f line : ℕ) (args : List Expr) (at : ℕ) → part p plan s k (tree.Call f line args) at ≡ []
  unfolding part
  part-Call f line args at = refl

  -- a choice, by whether the stage reaches it
  abbrev pub if_part : SiteId → Expr → List Stmt → List Stmt → ℕ → List LeanOp
  if_part site cond a b at =
      if reaches p plan s k site then choice_part p plan s k site cond (code a) (code b) at
      else assumed_part p plan s k (assumed_in plan.assume site.0) (code a at) (code b at)

  pub part-If : (site : SiteId) (cond : Expr) (a b : List Stmt) (at : ℕ) → part p plan s k (tree.If site cond a b) at ≡ if_part site cond a b at
  unfolding part opened_statement
  part-If site cond a b at = λ i.
      if reaches p plan s k site then choice_part p plan s k site cond (λ j. row_hidden zero a j i) (λ j. row_hidden zero b j i) at
      else assumed_part p plan s k (assumed_in plan.assume site.0) (row_hidden zero a at i) (row_hidden zero b at i)

  pub part-While : (site : SiteId) (cond : Expr) (a : List Stmt) (at : ℕ) → part p plan s k (tree.While site cond a) at ≡ reached_loop p plan s k
      site cond (code a) at
  unfolding part opened_statement
  part-While site cond a at = λ i. reached_loop p plan s k site cond (λ j. row_hidden zero a j i) at

  pub part-Region : (r : ℕ) (site : SiteId) (cond : Expr) (a : List Stmt) (at : ℕ) →
      part p plan s k (tree.Region r site cond a) at ≡ choice_part p plan s k site cond (code a) (λ j. []) at
  unfolding part opened_statement
  part-Region r site cond a at = λ i. choice_part p plan s k site cond (λ j. row_hidden zero a j i) (λ j. []) at

  -- an own block, appended
  pub block_own : (site : SiteId) (block : List Stmt) (old one two new : List LeanOp) → reaches p plan s k site ≡ true → (stage_of p plan site.0 == s) ≡ true →
      one ≡ old ++ Begin site ∷ [] → two ≡ one ++ silent_parts p plan s block (length one) → new ≡ two ++ Finish ∷ [] →
      new ≡ old ++ block_part p plan s k site block (length old)
  unfolding silent_parts
  block_own site block old one two new reached own begun said ended =
      let at : length one ≡ length old + 1 = ap length begun ∙ length-append old (Begin site ∷ []) in
      let inner = silent_parts p plan s block (length old + 1) in
      ended ∙ ap (λ ops. ops ++ Finish ∷ []) (said ∙ ap (λ n. one ++ silent_parts p plan s block n) at ∙ ap (λ ops. ops ++ inner) begun
      ∙ append_assoc old (Begin site ∷ []) inner)
      ∙ append_assoc old (Begin site ∷ inner) (Finish ∷ []) ∙ rw (reached, own) refl
