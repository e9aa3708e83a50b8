-- Plain statements leave the regions' numbers as they are.
use Rattle.std.proofs.Common.{◌≡◌, refl, ap, ◌∙◌, ℕ, true, List, [], ◌∷◌, ◌++◌}
use Rattle.std.specs.List.{list_all}
use Rattle.dp_tree.specs.declared.Stmt.{Stmt}
use Rattle.dp_tree.specs.declared.Stmt.TheVariants as tree
use Rattle.dp_tree.specs.Numbering.{is_plain, top_fits, next_region, regions_in_order}
use Rattle.dp_tree.proofs.SitesOf.{and_make, and_true}

plain_top : (r : ℕ) (s : Stmt) → is_plain s ≡ true → (top_fits r s ≡ true) × (next_region r s ≡ r)
plain_top r (tree.If' site cond _ a _ b) h = (h, refl)
plain_top r (tree.While' site cond _ a) h = (h, refl)
plain_top r (tree.Region' q site cond _ a) h = absurd (cc)
plain_top r (tree.Break site cond) h = absurd (cc)
plain_top r _ h = (refl, refl)

pub plain_front : (r : ℕ) (a b : List Stmt) → list_all is_plain a ≡ true → regions_in_order r b ≡ true → regions_in_order r (a ++ b) ≡ true
plain_front r [] b h k = k
plain_front r (s ∷ a) b h k =
    let both = and_true (is_plain s) (list_all is_plain a) h in let top = plain_top r s both.0 in
    and_make (top_fits r s) (regions_in_order (next_region r s) (a ++ b)) top.0 (ap (λ q. regions_in_order q (a ++ b)) top.1 ∙ plain_front r a b both.1 k)
