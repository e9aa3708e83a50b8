-- The one walk over a text's statements: what is asked of a statement by its form, and what is so of all that is found.
use Rattle.std.proofs.Common.{◌≡◌, refl, ap, ◌∙◌, ℕ, List, [], ◌∷◌, ◌++◌}
use Rattle.std.specs.List.{flat_map}
use Rattle.dp_base.specs.declared.SiteId.{SiteId}
use Rattle.dp_tree.specs.declared.Expr.{Expr}
use Rattle.dp_tree.specs.declared.Stmt.{Stmt, Row_of-Stmt, end_of-Stmt, more_of-Stmt}
use Rattle.dp_tree.specs.declared.Stmt.TheBlock.{hidden-the_row-Stmt-0}
use Rattle.dp_tree.specs.declared.Stmt.TheVariants as tree
use Rattle.dp_tree.specs.Statements.{asked, asked_in}
use Rattle.dp_tree.proofs.SitesOf.{opened_statement}

module _ {X : Type 0} (ask : Stmt → List X) where
  abbrev pub asked_all : List Stmt → List X
  asked_all all = flat_map (asked ask) all

  pub asked_hidden : (xs : List Stmt) → asked_in ask (hidden-the_row-Stmt-0 xs) ≡ asked_all xs
  unfolding opened_statement
  asked_hidden [] = refl
  asked_hidden (x ∷ xs) = ap (λ ys. asked ask x ++ ys) (asked_hidden xs)

  pub asked-If : (site : SiteId) (e : Expr) (a b : List Stmt) → asked ask (tree.If site e a b) ≡ ask (tree.If site e a b) ++ (asked_all a ++ asked_all b)
  unfolding opened_statement
  asked-If site e a b =
      ap (λ ys. ask (tree.If site e a b) ++ (ys ++ asked_in ask (hidden-the_row-Stmt-0 b))) (asked_hidden a)
      ∙ ap (λ ys. ask (tree.If site e a b) ++ (asked_all a ++ ys)) (asked_hidden b)

  pub asked-While : (site : SiteId) (e : Expr) (a : List Stmt) → asked ask (tree.While site e a) ≡ ask (tree.While site e a) ++ asked_all a
  unfolding opened_statement
  asked-While site e a = ap (λ ys. ask (tree.While site e a) ++ ys) (asked_hidden a)

  pub asked-Region : (r : ℕ) (site : SiteId) (e : Expr) (a : List Stmt) → asked ask (tree.Region r site e a) ≡ ask (tree.Region r site e a) ++ asked_all a
  unfolding opened_statement
  asked-Region r site e a = ap (λ ys. ask (tree.Region r site e a) ++ ys) (asked_hidden a)

-- What a join of lists keeps, and each statement has of what two questions give of it, is so of all that they give.
module _ {X Y : Type 0} (R : List X → List Y → Type 0) (none : R [] []) (join : (a b : List X) (c d : List Y) → R a c → R b d → R (a ++ b) (c ++ d))
    (f : Stmt → List X) (g : Stmt → List Y) (each : (x : Stmt) → R (f x) (g x)) where
  mutual
    pub asked_both : (x : Stmt) → R (asked f x) (asked g x)
    asked_both (tree.If' site cond h a k b) = join _ _ _ _ (each (tree.If' site cond h a k b)) (join _ _ _ _ (asked_both_in a) (asked_both_in b))
    asked_both (tree.While' site cond h a) = join _ _ _ _ (each (tree.While' site cond h a)) (asked_both_in a)
    asked_both (tree.Region' r site cond h a) = join _ _ _ _ (each (tree.Region' r site cond h a)) (asked_both_in a)
    asked_both (tree.Assign site x e) = each (tree.Assign site x e)
    asked_both (tree.Store site x i e) = each (tree.Store site x i e)
    asked_both (tree.Print site e) = each (tree.Print site e)
    asked_both (tree.Break site cond) = each (tree.Break site cond)
    asked_both (tree.Call f line args) = each (tree.Call f line args)

    asked_both_in : {n : _} (row : Row_of-Stmt n) → R (asked_in f row) (asked_in g row)
    asked_both_in end_of-Stmt = none
    asked_both_in (more_of-Stmt x rest) = join _ _ _ _ (asked_both x) (asked_both_in rest)
