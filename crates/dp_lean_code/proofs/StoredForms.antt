-- Which stores are done inside statements, by form.
use Rattle.dp_semantics.proofs.Names.{opened_statement, ◌≡◌, refl, sym, ap, ◌∙◌, ℕ, suc, ◌+◌, ◌<◌, ◌≤◌, Bool, true, false, ◌||◌, List, [], ◌∷◌, ◌++◌, length}
use Rattle.dp_semantics.proofs.Names.{drop, get_or, list_any, flat_map, SiteId, Expr, Stmt, Program, Plan, Access, accesses, accesses_in, hidden-the_row-Stmt-0}
use Rattle.std.proofs.Common.{add-one, drop-cons}
use Rattle.std.proofs.Math.Bool.{or_assoc}
use Rattle.std.proofs.Math.ListN.{drop_of_length-le}
use Rattle.dp_base.specs.declared.VarId.{VarId}
use Rattle.dp_tree.specs.declared.Stmt.TheVariants as tree
use Rattle.dp_tree.proofs.Asked.{asked_hidden}
use Rattle.dp_plan.specs.Access.{access_at}
use Rattle.dp_lean_code.specs.steps.Walked.{Known, does}
unfoldable use Rattle.dp_lean_code.specs.steps.Walked.{stored_in, stored_inside}

any_join : {X : Type 0} (f : X → Bool) (a b : List X) → list_any f (a ++ b) ≡ (list_any f a || list_any f b)
any_join f [] b = refl
any_join f (x ∷ a) b = ap (λ c. f x || c) (any_join f a b) ∙ sym (or_assoc (f x) (list_any f a) (list_any f b))

module _ (p : Program) (plan : Plan) (s : ℕ) (k : Known) where
  abbrev test : Access → Bool
  test a = does p plan s k a.stores

  inner : (xs : List Stmt) → list_any test (accesses_in (hidden-the_row-Stmt-0 xs)) ≡ list_any test (flat_map accesses xs)
  inner xs = ap (list_any test) (asked_hidden access_at xs)

  or_none : (b : Bool) → (b || false) ≡ b
  or_none true = refl
  or_none false = refl

  pub stored-Assign : (site : SiteId) (x : VarId) (e : Expr) → stored_in p plan s k (tree.Assign site x e) ≡ k.done x.0
  unfolding stored_in
  stored-Assign site x e = or_none (k.done x.0)

  pub stored-Store : (site : SiteId) (x : VarId) (i e : Expr) → stored_in p plan s k (tree.Store site x i e) ≡ k.done x.0
  unfolding stored_in
  stored-Store site x i e = or_none (k.done x.0)

  pub stored-Print : (site : SiteId) (e : Expr) → stored_in p plan s k (tree.Print site e) ≡ false
  unfolding stored_in
  stored-Print site e = refl

  pub stored-Break : (site : SiteId) (e : Expr) → stored_in p plan s k (tree.Break site e) ≡ false
  unfolding stored_in
  stored-Break site e = refl

  pub stored-Call : (f line : ℕ) (args : List Expr) → stored_in p plan s k (tree.Call f line args) ≡ false
  unfolding stored_in
  stored-Call f line args = refl

  pub stored-If : (site : SiteId) (e : Expr) (a b : List Stmt) →
      stored_in p plan s k (tree.If site e a b) ≡ (stored_inside p plan s k a || stored_inside p plan s k b)
  unfolding stored_in stored_inside opened_statement
  stored-If site e a b =
      any_join test (accesses_in (hidden-the_row-Stmt-0 a)) (accesses_in (hidden-the_row-Stmt-0 b)) ∙ (λ i. inner a i || inner b i)

  pub stored-While : (site : SiteId) (e : Expr) (a : List Stmt) → stored_in p plan s k (tree.While site e a) ≡ stored_inside p plan s k a
  unfolding stored_in stored_inside opened_statement
  stored-While site e a = inner a

  pub stored-Region : (r : ℕ) (site : SiteId) (e : Expr) (a : List Stmt) → stored_in p plan s k (tree.Region r site e a) ≡ stored_inside p plan s k a
  unfolding stored_in stored_inside opened_statement
  stored-Region r site e a = inner a

  pub stored-none : stored_inside p plan s k [] ≡ false
  unfolding stored_inside
  stored-none = refl

  -- one statement more
  pub stored-next : (all : List Stmt) (i : ℕ) (x : Stmt) → i < length all → x ≡ get_or all i x →
      stored_inside p plan s k (drop i all) ≡ (stored_in p plan s k x || stored_inside p plan s k (drop (i + 1) all))
  unfolding stored_in stored_inside
  stored-next all i x h is =
      let here : drop i all ≡ x ∷ drop (suc i) all = drop-cons all i x h ∙ ap (λ (y : Stmt). y ∷ drop (suc i) all) (sym is) in
      rw add-one (ap (λ l. list_any test (flat_map accesses l)) here ∙ any_join test (accesses x) (flat_map accesses (drop (suc i) all)))

pub ruleset stored_forms = (stored-Assign, stored-Store, stored-Print, stored-Break, stored-Call, stored-If, stored-While, stored-Region)

pub ruleset stored_steps = (stored-none, stored-next)

module _ (p : Program) (plan : Plan) (s : ℕ) (k : Known) (all : List Stmt) (i : ℕ)
    (kept : stored_inside p plan s k (drop i all) ≡ stored_inside p plan s k all) where
  module _ (x : Stmt) (h : i < length all) (is : x ≡ get_or all i x) where
    -- a store is done there
    pub stored_found : stored_in p plan s k x ≡ true → true ≡ stored_inside p plan s k all
    stored_found e = sym (ap (λ b. b || stored_inside p plan s k (drop (i + 1) all)) e) ∙ sym (stored-next p plan s k all i x h is) ∙ kept

    -- .. or isn't
    pub stored_past : stored_in p plan s k x ≡ false → stored_inside p plan s k (drop (i + 1) all) ≡ stored_inside p plan s k all
    stored_past e = sym (ap (λ b. b || stored_inside p plan s k (drop (i + 1) all)) e) ∙ sym (stored-next p plan s k all i x h is) ∙ kept

  -- .. nor at any other
  pub stored_over : length all ≤ i → false ≡ stored_inside p plan s k all
  stored_over h = sym (stored-none p plan s k) ∙ ap (stored_inside p plan s k) (sym (drop_of_length-le all h)) ∙ kept
