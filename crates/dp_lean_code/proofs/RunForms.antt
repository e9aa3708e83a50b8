-- Quiet statements, and those that gain, by form.
use Rattle.dp_semantics.proofs.Names.{opened_statement, ◌≡◌, refl, ap, ◌∙◌, ℕ, ◌&&◌, Bool, true, false, ℤ, List, [], ◌∷◌, ◌++◌, list_all, Option, SiteId, Expr}
use Rattle.dp_semantics.proofs.Names.{Stmt, Program, Plan, hidden-the_row-Stmt-0, first_cell, has_cell}
use Rattle.std.proofs.Math.Bool.{and-true}
use Rattle.dp_base.specs.declared.BinOp.{BinOp}
use Rattle.dp_base.specs.declared.UnOp.{UnOp}
use Rattle.dp_base.specs.declared.VarId.{VarId}
use Rattle.dp_tree.specs.declared.Expr.TheVariants as expr
use Rattle.dp_tree.specs.declared.Stmt.TheVariants as tree
use Rattle.dp_tree.specs.declared.Stmt.TheVariants.{outs-If, outs-While}
use Rattle.dp_tree.specs.declared.Stmt.TheViews.{outs-Assign, outs-Store, outs-Print, outs-Break, outs-Call}
use Rattle.dp_tree.specs.Statements.{everywhere, everywhere_in}
use Rattle.dp_tree.proofs.SitesOf.{everywhere_hidden}
use Rattle.dp_plan.specs.Access.{loaded_by}
use Rattle.dp_plan.proofs.LoadLemmas.{opened}
use Rattle.dp_net.specs.Hidden.{gains_at}
use Rattle.dp_lean_code.specs.steps.Runs.{quiet_site, quiet_here}
unfoldable use Rattle.dp_lean_code.specs.steps.Runs.{known_in, quiet_in, all_quiet_in, hides_from, gains_in}

all_join : {X : Type 0} (f : X → Bool) (a b : List X) → list_all f (a ++ b) ≡ (list_all f a && list_all f b)
all_join f [] b = refl
all_join f (x ∷ a) b = ap (λ c. f x && c) (all_join f a b) ∙ by (f x)
  where
    by : (c : Bool) → (c && (list_all f a && list_all f b)) ≡ ((c && list_all f a) && list_all f b)
    by true = refl
    by false = refl

module _ (p : Program) (plan : Plan) where
  pub known-Number : (n : ℤ) → known_in p plan (expr.Number n) ≡ true
  unfolding known_in
  known-Number n = refl

  pub known-InputLen : known_in p plan expr.InputLen ≡ true
  unfolding known_in
  known-InputLen = refl

  pub known-Scalar : (x : VarId) → known_in p plan (expr.Scalar x) ≡ has_cell p x.0
  unfolding known_in
  known-Scalar x = and-true (has_cell p x.0)

  pub known-Input : (e : Expr) → known_in p plan (expr.Input e) ≡ known_in p plan e
  unfolding known_in opened
  known-Input e = refl

  pub known-Element : (x : VarId) (e : Expr) → known_in p plan (expr.Element x e) ≡ (has_cell p x.0 && known_in p plan e)
  unfolding known_in opened
  known-Element x e = refl

  pub known-Unary : (o : UnOp) (e : Expr) → known_in p plan (expr.Unary o e) ≡ known_in p plan e
  unfolding known_in opened
  known-Unary o e = refl

  pub known-Binary : (o : BinOp) (a b : Expr) → known_in p plan (expr.Binary o a b) ≡ (known_in p plan a && known_in p plan b)
  unfolding known_in opened
  known-Binary o a b = all_join (has_cell p) (loaded_by a) (loaded_by b)

  pub known-And : (a b : Expr) → known_in p plan (expr.And a b) ≡ (known_in p plan a && known_in p plan b)
  unfolding known_in opened
  known-And a b = all_join (has_cell p) (loaded_by a) (loaded_by b)

  pub known-Or : (a b : Expr) → known_in p plan (expr.Or a b) ≡ (known_in p plan a && known_in p plan b)
  unfolding known_in opened
  known-Or a b = all_join (has_cell p) (loaded_by a) (loaded_by b)

  module _ (t : ℕ) where
    inner : (xs : List Stmt) → everywhere_in (quiet_here p plan t) (hidden-the_row-Stmt-0 xs) ≡ list_all (everywhere (quiet_here p plan t)) xs
    inner xs = everywhere_hidden (quiet_here p plan t) xs

    pub quiet-Assign : (site : SiteId) (x : VarId) (e : Expr) →
        quiet_in p plan t (tree.Assign site x e) ≡ (quiet_site p plan t site.0 && (known_in p plan e && has_cell p x.0))
    unfolding quiet_in known_in
    quiet-Assign site x e = refl

    pub quiet-Store : (site : SiteId) (x : VarId) (i e : Expr) →
        quiet_in p plan t (tree.Store site x i e) ≡ (quiet_site p plan t site.0 && ((known_in p plan i && known_in p plan e) && has_cell p x.0))
    unfolding quiet_in known_in
    quiet-Store site x i e = ap (λ c. quiet_site p plan t site.0 && (c && has_cell p x.0)) (all_join (has_cell p) (loaded_by i) (loaded_by e))

    pub quiet-Print : (site : SiteId) (e : Expr) → quiet_in p plan t (tree.Print site e) ≡ false
    unfolding quiet_in
    quiet-Print site e = refl

    pub quiet-Break : (site : SiteId) (e : Expr) → quiet_in p plan t (tree.Break site e) ≡ false
    unfolding quiet_in
    quiet-Break site e = refl

    pub quiet-Call : (f line : ℕ) (args : List Expr) → quiet_in p plan t (tree.Call f line args) ≡ false
    unfolding quiet_in
    quiet-Call f line args = refl

    pub quiet-Region : (r : ℕ) (site : SiteId) (e : Expr) (a : List Stmt) → quiet_in p plan t (tree.Region r site e a) ≡ false
    unfolding quiet_in opened_statement
    quiet-Region r site e a = refl

    pub quiet-If : (site : SiteId) (e : Expr) (a b : List Stmt) →
        quiet_in p plan t (tree.If site e a b) ≡ ((quiet_site p plan t site.0 && known_in p plan e) && (all_quiet_in p plan t a && all_quiet_in p plan t b))
    unfolding quiet_in all_quiet_in known_in opened_statement
    quiet-If site e a b = λ i. (quiet_site p plan t site.0 && and-true (list_all (has_cell p) (loaded_by e)) i) && (inner a i && inner b i)

    pub quiet-While : (site : SiteId) (e : Expr) (a : List Stmt) →
        quiet_in p plan t (tree.While site e a) ≡ ((quiet_site p plan t site.0 && known_in p plan e) && all_quiet_in p plan t a)
    unfolding quiet_in all_quiet_in known_in opened_statement
    quiet-While site e a = λ i. (quiet_site p plan t site.0 && and-true (list_all (has_cell p) (loaded_by e)) i) && inner a i

    module _ (homes : List (Option ℕ)) where
      pub gains-Assign : (site : SiteId) (x : VarId) (e : Expr) → gains_in p plan homes t (tree.Assign site x e) ≡ hides_from p plan t (first_cell p x) 0 homes
      unfolding gains_in
      gains-Assign site x e = ap (gains_at p (λ c. hides_from p plan t c 0 homes)) (outs-Assign site x e)

      pub gains-Store : (site : SiteId) (x : VarId) (i e : Expr) → gains_in p plan homes t (tree.Store site x i e) ≡ false
      unfolding gains_in
      gains-Store site x i e = ap (gains_at p (λ c. hides_from p plan t c 0 homes)) (outs-Store site x i e)

      pub gains-Print : (site : SiteId) (e : Expr) → gains_in p plan homes t (tree.Print site e) ≡ false
      unfolding gains_in
      gains-Print site e = ap (gains_at p (λ c. hides_from p plan t c 0 homes)) (outs-Print site e)

      pub gains-Break : (site : SiteId) (e : Expr) → gains_in p plan homes t (tree.Break site e) ≡ false
      unfolding gains_in
      gains-Break site e = ap (gains_at p (λ c. hides_from p plan t c 0 homes)) (outs-Break site e)

      pub gains-If : (site : SiteId) (e : Expr) (a b : List Stmt) → gains_in p plan homes t (tree.If site e a b) ≡ true
      unfolding gains_in
      gains-If site e a b = ap (gains_at p (λ c. hides_from p plan t c 0 homes)) (outs-If site e a b)

      pub gains-While : (site : SiteId) (e : Expr) (a : List Stmt) → gains_in p plan homes t (tree.While site e a) ≡ true
      unfolding gains_in
      gains-While site e a = ap (gains_at p (λ c. hides_from p plan t c 0 homes)) (outs-While site e a)

      pub gains-Region : (r : ℕ) (site : SiteId) (e : Expr) (a : List Stmt) → gains_in p plan homes t (tree.Region r site e a) ≡ false
      unfolding gains_in
      gains-Region r site e a = ap (gains_at p (λ c. hides_from p plan t c 0 homes)) (Rattle.dp_tree.specs.declared.Stmt.TheVariants.outs-Region r site e a)

      pub gains-Call : (f line : ℕ) (args : List Expr) → gains_in p plan homes t (tree.Call f line args) ≡ false
      unfolding gains_in
      gains-Call f line args = ap (gains_at p (λ c. hides_from p plan t c 0 homes)) (outs-Call f line args)

pub ruleset known_forms = (known-Number, known-InputLen, known-Scalar, known-Input, known-Element, known-Unary, known-Binary, known-And, known-Or)

pub ruleset quiet_forms = (quiet-Assign, quiet-Store, quiet-Print, quiet-Break, quiet-Call, quiet-Region, quiet-If, quiet-While)

pub ruleset gains_forms = (gains-Assign, gains-Store, gains-Print, gains-Break, gains-If, gains-While, gains-Region, gains-Call)
