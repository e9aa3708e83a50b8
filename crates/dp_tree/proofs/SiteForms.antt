-- The numbers and the roles of sites, by a statement's form and of statements behind one another.
use Rattle.std.proofs.Common.{◌≡◌, refl, sym, ap, ◌∙◌, ℕ, List, [], ◌∷◌, ◌++◌, append_assoc}
use Rattle.std.proofs.lemmas.Grind.{flat_map-append}
use Rattle.dp_base.specs.declared.SiteId.{SiteId}
use Rattle.dp_tree.specs.declared.Expr.{Expr}
use Rattle.dp_tree.specs.declared.Stmt.{Stmt}
use Rattle.dp_tree.specs.declared.Stmt.TheBlock.{hidden-the_row-Stmt-0}
use Rattle.dp_tree.specs.declared.Stmt.TheVariants as tree
use Rattle.dp_tree.specs.declared.SiteKind.{SiteKind}
use Rattle.dp_tree.specs.declared.SiteKind.TheVariants as kind
use Rattle.dp_tree.specs.Numbering.{number_at, site_numbers, site_numbers_all}
use Rattle.dp_tree.specs.SiteTable.{site_roles, site_roles_in, site_roles_all}
use Rattle.dp_tree.proofs.Asked.{asked-If, asked-While, asked-Region}
use Rattle.dp_tree.proofs.SitesOf.{opened_statement}

pub numbers-If : (site : SiteId) (cond : Expr) (a b : List Stmt) → site_numbers (tree.If site cond a b) ≡ site.0 ∷ (site_numbers_all a ++ site_numbers_all b)
unfolding opened_statement
numbers-If site cond a b = asked-If number_at site cond a b

pub numbers-While : (site : SiteId) (cond : Expr) (a : List Stmt) → site_numbers (tree.While site cond a) ≡ site.0 ∷ site_numbers_all a
unfolding opened_statement
numbers-While site cond a = asked-While number_at site cond a

pub numbers-Region : (q : ℕ) (site : SiteId) (cond : Expr) (a : List Stmt) → site_numbers (tree.Region q site cond a) ≡ site.0 ∷ site_numbers_all a
unfolding opened_statement
numbers-Region q site cond a = asked-Region number_at q site cond a

pub numbers_both : (a b : List Stmt) → site_numbers_all (a ++ b) ≡ site_numbers_all a ++ site_numbers_all b
numbers_both a b = flat_map-append site_numbers a b

roles_hidden : (r : ℕ) (xs : List Stmt) → site_roles_in r (hidden-the_row-Stmt-0 xs) ≡ site_roles_all r xs
unfolding opened_statement
roles_hidden r [] = refl
roles_hidden r (x ∷ xs) = ap (λ (ks : List (SiteKind × ℕ)). site_roles r x ++ ks) (roles_hidden r xs)

pub roles-If : (r : ℕ) (site : SiteId) (cond : Expr) (a b : List Stmt) → site_roles r (tree.If site cond a b) ≡ (kind.If, r)
    ∷ (site_roles_all r a ++ site_roles_all r b)
unfolding opened_statement
roles-If r site cond a b = λ i. (kind.If, r) ∷ (roles_hidden r a i ++ roles_hidden r b i)

pub roles-While : (r : ℕ) (site : SiteId) (cond : Expr) (a : List Stmt) → site_roles r (tree.While site cond a) ≡ (kind.While, r) ∷ site_roles_all r a
unfolding opened_statement
roles-While r site cond a = λ i. (kind.While, r) ∷ roles_hidden r a i

pub roles-Region : (r q : ℕ) (site : SiteId) (cond : Expr) (a : List Stmt) → site_roles r (tree.Region q site cond a) ≡ (kind.While, q) ∷ site_roles_all q a
unfolding opened_statement
roles-Region r q site cond a = λ i. (kind.While, q) ∷ roles_hidden q a i

pub roles_both : (r : ℕ) (a b : List Stmt) → site_roles_all r (a ++ b) ≡ site_roles_all r a ++ site_roles_all r b
roles_both r [] b = refl
roles_both r (x ∷ a) b =
    ap (λ (ks : List (SiteKind × ℕ)). site_roles r x ++ ks) (roles_both r a b) ∙ sym (append_assoc (site_roles r x) (site_roles_all r a) (site_roles_all r b))
