-- The numbers at the sites of statements, by form and one after the other.
use Rattle.dp_semantics.proofs.Names.{opened_statement, hidden-the_row-Stmt-0, ◌≡◌, refl, ap, ◌∙◌, append-nil, ℕ, ◌+◌, Bool, true, false, if◌then◌else◌, List}
use Rattle.dp_semantics.proofs.Names.{[], ◌∷◌, ◌++◌, length, take, Option, None, SiteId, Expr, Stmt, Program, Plan}
use Rattle.dp_base.specs.declared.VarId.{VarId}
use Rattle.dp_tree.specs.declared.Stmt.TheVariants as tree
use Rattle.dp_tree.specs.Statements.{listed}
use Rattle.dp_net.specs.BlockText.{own_stage}
use Rattle.dp_lean_code.specs.steps.Runs.{head_counts, behind_in, quiet_in}
unfoldable use Rattle.dp_lean_code.specs.steps.Runs.{none_at, run_in, inner_counts, row_counts, list_counts}

pub none-Assign : (site : SiteId) (x : VarId) (e : Expr) → none_at (tree.Assign site x e) ≡ 0 ∷ []
unfolding none_at
none-Assign site x e = refl

pub none-Store : (site : SiteId) (x : VarId) (i e : Expr) → none_at (tree.Store site x i e) ≡ 0 ∷ []
unfolding none_at
none-Store site x i e = refl

pub none-Print : (site : SiteId) (e : Expr) → none_at (tree.Print site e) ≡ 0 ∷ []
unfolding none_at
none-Print site e = refl

pub none-If : (site : SiteId) (e : Expr) (a b : List Stmt) → none_at (tree.If site e a b) ≡ 0 ∷ []
unfolding none_at opened_statement
none-If site e a b = refl

pub none-While : (site : SiteId) (e : Expr) (a : List Stmt) → none_at (tree.While site e a) ≡ 0 ∷ []
unfolding none_at opened_statement
none-While site e a = refl

pub none-Region : (r : ℕ) (site : SiteId) (e : Expr) (a : List Stmt) → none_at (tree.Region r site e a) ≡ 0 ∷ []
unfolding none_at opened_statement
none-Region r site e a = refl

pub none-Break : (site : SiteId) (e : Expr) → none_at (tree.Break site e) ≡ 0 ∷ []
unfolding none_at
none-Break site e = refl

pub none-Call : (f line : ℕ) (args : List Expr) → none_at (tree.Call f line args) ≡ []
unfolding none_at
none-Call f line args = refl

pub ruleset none_forms = (append-nil, none-Assign, none-Store, none-Print, none-If, none-While, none-Region, none-Break, none-Call)

module _ (p : Program) (plan : Plan) where
  -- the front of a run is the run
  pub run_taken : (t : ℕ) (xs : List Stmt) → take (length (run_in p plan t xs)) xs ≡ run_in p plan t xs
  unfolding run_in
  run_taken t [] = refl
  run_taken t (x ∷ xs) = by (quiet_in p plan t x) (run_taken t xs)
    where
      by : (c : Bool) → take (length (run_in p plan t xs)) xs ≡ run_in p plan t xs →
          take (length (if c then x ∷ run_in p plan t xs else [])) (x ∷ xs) ≡ (if c then x ∷ run_in p plan t xs else [])
      by true same = ap (λ ys. x ∷ ys) same
      by false same = refl

  module _ (homes : List (Option ℕ)) where
    listed_hidden : (xs : List Stmt) → listed (hidden-the_row-Stmt-0 xs) ≡ xs
    unfolding opened_statement
    listed_hidden [] = refl
    listed_hidden (x ∷ xs) = ap (λ ys. x ∷ ys) (listed_hidden xs)

    counts_hidden : (before : Option ℕ) (xs : List Stmt) → row_counts p plan homes before (hidden-the_row-Stmt-0 xs) ≡ list_counts p plan homes before xs
    unfolding inner_counts list_counts opened_statement
    counts_hidden before [] = refl
    counts_hidden before (x ∷ xs) =
        ap (λ ys. head_counts p plan homes (quiet_in p plan (own_stage p plan x) x) before x ys (inner_counts p plan homes x) ++ row_counts p plan homes
        (behind_in p plan homes x) (hidden-the_row-Stmt-0 xs)) (listed_hidden xs)
        ∙ ap (λ ys. head_counts p plan homes (quiet_in p plan (own_stage p plan x) x) before x xs (inner_counts p plan homes x) ++ ys)
        (counts_hidden (behind_in p plan homes x) xs)

    pub inner-If : (site : SiteId) (e : Expr) (a b : List Stmt) → inner_counts p plan homes (tree.If site e a b) ≡ list_counts p plan homes None a
        ++ list_counts p plan homes None b
    unfolding inner_counts opened_statement
    inner-If site e a b = λ i. counts_hidden None a i ++ counts_hidden None b i

    pub inner-While : (site : SiteId) (e : Expr) (a : List Stmt) → inner_counts p plan homes (tree.While site e a) ≡ list_counts p plan homes None a
    unfolding inner_counts opened_statement
    inner-While site e a = counts_hidden None a

    pub inner-Region : (r : ℕ) (site : SiteId) (e : Expr) (a : List Stmt) → inner_counts p plan homes (tree.Region r site e a) ≡ list_counts p plan homes None a
    unfolding inner_counts opened_statement
    inner-Region r site e a = counts_hidden None a

    pub inner-Assign : (site : SiteId) (x : VarId) (e : Expr) → inner_counts p plan homes (tree.Assign site x e) ≡ []
    unfolding inner_counts
    inner-Assign site x e = refl

    pub inner-Store : (site : SiteId) (x : VarId) (i e : Expr) → inner_counts p plan homes (tree.Store site x i e) ≡ []
    unfolding inner_counts
    inner-Store site x i e = refl

    pub inner-Print : (site : SiteId) (e : Expr) → inner_counts p plan homes (tree.Print site e) ≡ []
    unfolding inner_counts
    inner-Print site e = refl

    pub inner-Break : (site : SiteId) (e : Expr) → inner_counts p plan homes (tree.Break site e) ≡ []
    unfolding inner_counts
    inner-Break site e = refl

    pub inner-Call : (f line : ℕ) (args : List Expr) → inner_counts p plan homes (tree.Call f line args) ≡ []
    unfolding inner_counts
    inner-Call f line args = refl
