-- An `if` or an inner `while` with the sites inside it.
use Rattle.std.proofs.Common.{◌≡◌, ap, ◌∙◌, ℕ, List, [], ◌∷◌, ◌++◌, map}
use Rattle.dp_base.specs.declared.SiteId.{SiteId}
use Rattle.dp_tree.specs.declared.Expr.{Expr}
use Rattle.dp_tree.specs.declared.Stmt.{Stmt}
use Rattle.dp_tree.specs.declared.Stmt.TheBlock.{hidden-the_row-Stmt-0}
use Rattle.dp_tree.specs.declared.Stmt.TheVariants as tree
use Rattle.dp_tree.proofs.Asked.{asked_hidden}
use Rattle.dp_plan.specs.declared.Enclosing.{Enclosing}
use Rattle.dp_plan.specs.Access.{access_at}
use Rattle.dp_plan.specs.Enclosing.{if_at, inner_while_at, sites_of}
use Rattle.dp_plan.specs.Written.{access_site}
use Rattle.dp_plan.proofs.LoadLemmas.{opened}
use Rattle.dp_sites.specs.Lists.{site_lists}

sites_hidden : (all : List Stmt) → sites_of (hidden-the_row-Stmt-0 all) ≡ site_lists all
unfolding site_lists
sites_hidden all = ap (map access_site) (asked_hidden access_at all)

-- one condition
abbrev pub enclosing : SiteId → List ℕ → List Enclosing
enclosing site inside = record { site = site.0; inside = inside } ∷ []

-- the `if` and the `while` with the sites of their parts
pub if_sites : (site : SiteId) (e : Expr) (a b : List Stmt) → if_at (tree.If site e a b) ≡ enclosing site (site_lists a ++ site_lists b)
unfolding opened
if_sites site e a b =
    ap (λ l. enclosing site (l ++ sites_of (hidden-the_row-Stmt-0 b))) (sites_hidden a) ∙ ap (λ l. enclosing site (site_lists a ++ l)) (sites_hidden b)

pub while_sites : (site : SiteId) (e : Expr) (a : List Stmt) → inner_while_at (tree.While site e a) ≡ enclosing site (site_lists a)
unfolding opened
while_sites site e a = ap (enclosing site) (sites_hidden a)
