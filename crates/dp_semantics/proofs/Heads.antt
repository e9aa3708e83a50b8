-- What the text's definitions say of a statement, by its head.
use Rattle.dp_semantics.proofs.Names.{opened_statement, ◌≡◌, refl, sym, ap, ◌∙◌, ℕ, Bool, true, false, not, ◌&&◌, ◌||◌, ◌==◌, List, [], ◌∷◌, ◌++◌, is_some}
use Rattle.dp_semantics.proofs.Names.{flat_map, list_all, SiteId, Expr, Stmt, out-Stmt, roll-Stmt, roll-out-Stmt, hidden-the_row-Stmt-0, rolls-Assign}
use Rattle.dp_semantics.proofs.Names.{rolls-Store, rolls-Print, rolls-If, rolls-While, rolls-Region, rolls-Break, rolls-Call, Stmt-F, Assign, Store, Print, If}
use Rattle.dp_semantics.proofs.Names.{While, Region, Break, Call, Program, Plan, site_of, Access, accesses, accesses_in, assumed_in, branch_of, where_reached}
use Rattle.dp_semantics.proofs.Names.{project, project_in, project_all, none_earlier, well_nested, well_nested_in, is_free, is_free_in}
use Rattle.dp_tree.specs.declared.Stmt.TheVariants as tree
use Rattle.dp_tree.proofs.Asked.{asked_hidden}
use Rattle.dp_tree.proofs.SitesOf.{everywhere_hidden}
use Rattle.dp_plan.specs.Access.{access_at}
use Rattle.dp_semantics.specs.Nesting.{is_other, nests_at}
use Rattle.dp_semantics.proofs.Evaluation.{head_loads, head_stores}

-- The sites: the statement's own, and those inside it.
abbrev pub accesses_all : List Stmt → List Access
accesses_all statements = flat_map accesses statements

abbrev pub head_access : Stmt-F Stmt → Access
head_access h = record { site = (site_of h).0; loads = head_loads h; stores = head_stores h }

abbrev pub inside : Stmt-F Stmt → List Access
inside (If site cond a b) = accesses_all a ++ accesses_all b
inside (While site cond a) = accesses_all a
inside (Region r site cond a) = accesses_all a
inside _ = []

abbrev pub accesses_at : Stmt-F Stmt → List Access
accesses_at (Call f line args) = []
accesses_at h = head_access h ∷ inside h

accesses_hidden : (xs : List Stmt) → accesses_in (hidden-the_row-Stmt-0 xs) ≡ accesses_all xs
accesses_hidden xs = asked_hidden access_at xs

pub accesses_roll : (h : Stmt-F Stmt) → accesses (roll-Stmt h) ≡ accesses_at h
unfolding opened_statement
accesses_roll (Assign site x e) = ap accesses (rolls-Assign site x e)
accesses_roll (Store site x index e) = ap accesses (rolls-Store site x index e)
accesses_roll (Print site e) = ap accesses (rolls-Print site e)
accesses_roll (If site cond a b) = rw (rolls-If site cond a b, accesses_hidden a, accesses_hidden b)
accesses_roll (While site cond a) = ap accesses (rolls-While site cond a) ∙ ap (λ xs. head_access (While site cond a) ∷ xs) (accesses_hidden a)
accesses_roll (Region r site cond a) = ap accesses (rolls-Region r site cond a) ∙ ap (λ xs. head_access (Region r site cond a) ∷ xs) (accesses_hidden a)
accesses_roll (Break site cond) = ap accesses (rolls-Break site cond)
accesses_roll (Call f line args) = ap accesses (rolls-Call f line args)

pub accesses_out : (x : Stmt) → accesses x ≡ accesses_at (out-Stmt x)
accesses_out x = ap accesses (sym (roll-out-Stmt x)) ∙ accesses_roll (out-Stmt x)

-- Region r doesn't stand inside.
abbrev pub all_free : ℕ → List Stmt → Bool
all_free r statements = list_all (is_free r) statements

module _ (r : ℕ) where
  abbrev pub free_at : Stmt-F Stmt → Bool
  free_at (If site cond a b) = all_free r a && all_free r b
  free_at (While site cond a) = all_free r a
  free_at (Region q site cond a) = not (q == r) && all_free r a
  free_at _ = true

  pub free_hidden : (xs : List Stmt) → is_free_in r (hidden-the_row-Stmt-0 xs) ≡ all_free r xs
  free_hidden xs = everywhere_hidden (is_other r) xs

  free_roll : (h : Stmt-F Stmt) → is_free r (roll-Stmt h) ≡ free_at h
  unfolding opened_statement
  free_roll (Assign site x e) = ap (is_free r) (rolls-Assign site x e)
  free_roll (Store site x index e) = ap (is_free r) (rolls-Store site x index e)
  free_roll (Print site e) = ap (is_free r) (rolls-Print site e)
  free_roll (If site cond a b) = rw (rolls-If site cond a b, free_hidden a, free_hidden b)
  free_roll (While site cond a) = ap (is_free r) (rolls-While site cond a) ∙ free_hidden a
  free_roll (Region q site cond a) = ap (is_free r) (rolls-Region q site cond a) ∙ ap (λ u. not (q == r) && u) (free_hidden a)
  free_roll (Break site cond) = ap (is_free r) (rolls-Break site cond)
  free_roll (Call f line args) = ap (is_free r) (rolls-Call f line args)

  pub free_out : (x : Stmt) → is_free r x ≡ free_at (out-Stmt x)
  free_out x = ap (is_free r) (sym (roll-out-Stmt x)) ∙ free_roll (out-Stmt x)

module _ (p : Program) (plan : Plan) where
  -- The plan's rules on nesting.
  abbrev pub all_well : List Stmt → Bool
  all_well statements = list_all (well_nested p plan) statements

  -- an `if` is assumed, or has no site of an earlier stage inside
  abbrev pub if_rule : ℕ → List Access → Bool
  if_rule site accesses = is_some (assumed_in plan.assume site) || none_earlier p plan site accesses

  abbrev pub well_at : Stmt-F Stmt → Bool
  well_at (If site cond a b) = if_rule site.0 (accesses_all a ++ accesses_all b) && (all_well a && all_well b)
  well_at (While site cond a) = none_earlier p plan site.0 (accesses_all a) && all_well a
  well_at (Region r site cond a) = false
  well_at (Call f line args) = false
  well_at _ = true

  pub well_hidden : (xs : List Stmt) → well_nested_in p plan (hidden-the_row-Stmt-0 xs) ≡ all_well xs
  well_hidden xs = everywhere_hidden (nests_at p plan) xs

  well_roll : (h : Stmt-F Stmt) → well_nested p plan (roll-Stmt h) ≡ well_at h
  unfolding opened_statement
  well_roll (Assign site x e) = ap (well_nested p plan) (rolls-Assign site x e)
  well_roll (Store site x index e) = ap (well_nested p plan) (rolls-Store site x index e)
  well_roll (Print site e) = ap (well_nested p plan) (rolls-Print site e)
  well_roll (If site cond a b) = rw (rolls-If site cond a b, accesses_hidden a, accesses_hidden b, well_hidden a, well_hidden b)
  well_roll (While site cond a) = rw (rolls-While site cond a, accesses_hidden a, well_hidden a)
  well_roll (Region r site cond a) = ap (well_nested p plan) (rolls-Region r site cond a)
  well_roll (Break site cond) = ap (well_nested p plan) (rolls-Break site cond)
  well_roll (Call f line args) = ap (well_nested p plan) (rolls-Call f line args)

  pub well_out : (x : Stmt) → well_nested p plan x ≡ well_at (out-Stmt x)
  well_out x = ap (well_nested p plan) (sym (roll-out-Stmt x)) ∙ well_roll (out-Stmt x)

  -- A stage's part of the text.
  module _ (s : ℕ) where
    -- what stays, and what takes its place, at an `if` and at a `while`
    abbrev if_for : SiteId → Expr → List Stmt → List Stmt → List Stmt
    if_for site cond a b = where_reached p plan s site.0 (tree.If site cond a b ∷ []) (branch_of (assumed_in plan.assume site.0) a b)

    abbrev while_for : SiteId → Expr → List Stmt → List Stmt
    while_for site cond a = where_reached p plan s site.0 (tree.While site cond a ∷ []) []

    abbrev pub project_at : Stmt-F Stmt → List Stmt
    project_at (Assign site x e) = where_reached p plan s site.0 (tree.Assign site x e ∷ []) []
    project_at (Store site x index e) = where_reached p plan s site.0 (tree.Store site x index e ∷ []) []
    project_at (Print site e) = where_reached p plan s site.0 (tree.Print site e ∷ []) []
    project_at (If site cond a b) = if_for site cond (project_all p plan s a) (project_all p plan s b)
    project_at (While site cond a) = while_for site cond (project_all p plan s a)
    project_at (Region r site cond a) = tree.If site cond (project_all p plan s a) [] ∷ []
    project_at (Break site cond) = where_reached p plan s site.0 (tree.Break site cond ∷ []) []
    project_at (Call f line args) = []

    pub project_hidden : (xs : List Stmt) → project_in p plan s (hidden-the_row-Stmt-0 xs) ≡ project_all p plan s xs
    unfolding opened_statement
    project_hidden [] = refl
    project_hidden (x ∷ xs) = ap (λ ys. project p plan s x ++ ys) (project_hidden xs)

    project_roll : (h : Stmt-F Stmt) → project p plan s (roll-Stmt h) ≡ project_at h
    unfolding opened_statement
    project_roll (Assign site x e) = ap (project p plan s) (rolls-Assign site x e)
    project_roll (Store site x index e) = ap (project p plan s) (rolls-Store site x index e)
    project_roll (Print site e) = ap (project p plan s) (rolls-Print site e)
    project_roll (If site cond a b) = rw (rolls-If site cond a b, project_hidden a, project_hidden b)
    project_roll (While site cond a) = ap (project p plan s) (rolls-While site cond a) ∙ ap (λ ys. while_for site cond ys) (project_hidden a)
    project_roll (Region r site cond a) = ap (project p plan s) (rolls-Region r site cond a) ∙ ap (λ ys. tree.If site cond ys [] ∷ []) (project_hidden a)
    project_roll (Break site cond) = ap (project p plan s) (rolls-Break site cond)
    project_roll (Call f line args) = ap (project p plan s) (rolls-Call f line args)

    pub project_out : (x : Stmt) → project p plan s x ≡ project_at (out-Stmt x)
    project_out x = ap (project p plan s) (sym (roll-out-Stmt x)) ∙ project_roll (out-Stmt x)
