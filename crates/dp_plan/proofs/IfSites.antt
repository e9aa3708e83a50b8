-- Each `if` of a region is one of its sites.
use Rattle.std.proofs.Common.{◌≡◌, refl, sym, ap, ◌∙◌, ℕ, ◌==◌, Bool, true, false, ◌||◌, List, [], ◌∷◌, ◌++◌, map}
use Rattle.std.specs.List.{flat_map}
use Rattle.std.proofs.lemmas.Bool.{or_right}
use Rattle.std.proofs.lemmas.List.{map-append}
use Rattle.std.proofs.lemmas.List.Folds.{list_any-append}
use Rattle.dp_tree.specs.declared.Stmt.{Stmt}
use Rattle.dp_tree.specs.declared.Stmt.TheVariants as tree
use Rattle.dp_tree.specs.declared.Program.{Program}
use Rattle.dp_tree.proofs.Asked.{asked_both}
use Rattle.dp_plan.specs.Access.{Access, access_at, accesses, region_in}
use Rattle.dp_plan.specs.Written.{has, access_site, region_sites}
use Rattle.dp_plan.specs.Enclosing.{Enclosing, if_at, ifs, region_ifs}
use Rattle.dp_plan.specs.Rules.{site_of_condition}

-- the number is found among the sites where it is among the conditions
abbrev Within : ℕ → List Enclosing → List Access → Type 0
Within n conditions all = has n (map site_of_condition conditions) ≡ true → has n (map access_site all) ≡ true

or_both : (a b c d : Bool) → (a ≡ true → c ≡ true) → (b ≡ true → d ≡ true) → (a || b) ≡ true → (c || d) ≡ true
or_both true b true d f g e = refl
or_both true b false d f g e = let clash : false ≡ true = f refl in absurd (cc clash)
or_both false b c d f g e = or_right c d (g e)

has_mapped : {X : Type 0} (f : X → ℕ) (n : ℕ) (xs ys : List X) → has n (map f (xs ++ ys)) ≡ (has n (map f xs) || has n (map f ys))
has_mapped f n xs ys = ap (has n) (map-append f xs ys) ∙ list_any-append (λ m. m == n) (map f xs) (map f ys)

within-append : (n : ℕ) (a b : List Enclosing) (xs ys : List Access) → Within n a xs → Within n b ys → Within n (a ++ b) (xs ++ ys)
within-append n a b xs ys first second e =
    has_mapped access_site n xs ys ∙ or_both (has n (map site_of_condition a)) (has n (map site_of_condition b)) (has n (map access_site xs))
    (has n (map access_site ys)) first second (sym (has_mapped site_of_condition n a b) ∙ e)

within_own : (n : ℕ) (x : Stmt) → Within n (if_at x) (access_at x)
within_own n (tree.If' site cond _ a _ b) = λ e. e
within_own n _ = λ e. absurd (cc e)

within : (n : ℕ) (x : Stmt) → Within n (ifs x) (accesses x)
within n x = asked_both (Within n) (λ e. absurd (cc e)) (within-append n) if_at access_at (within_own n) x

within_all : (n : ℕ) (all : List Stmt) → Within n (flat_map ifs all) (flat_map accesses all)
within_all n [] = λ e. absurd (cc e)
within_all n (x ∷ rest) = within-append n (ifs x) (flat_map ifs rest) (accesses x) (flat_map accesses rest) (within n x) (within_all n rest)

pub ifs_are_sites : (p : Program) (r site : ℕ) → has site (map site_of_condition (region_ifs p r)) ≡ true → has site (region_sites p r) ≡ true
ifs_are_sites p r site e = within_all site (region_in p r) e
