-- The statements at the top of `main`: their sites, which of them are regions, and the entries of these.
use Rattle.std.proofs.Common.{◌≡◌, refl, sym, ap, subst, ◌∙◌, ℕ, ◌+◌, ◌≤◌, ◌==◌, ◌&&◌, Bool, true, false, List, [], ◌∷◌, ◌++◌, map, length, length-append}
use Rattle.std.proofs.Common.{arith}
use Rattle.std.proofs.lemmas.Bool.{and_parts}
use Rattle.std.proofs.lemmas.List.{map-append}
use Rattle.dp_tree.specs.declared.RegionInfo.{RegionInfo}
use Rattle.dp_base.specs.declared.SiteId.{SiteId}
use Rattle.dp_tree.specs.declared.Expr.{Expr}
use Rattle.dp_tree.specs.declared.Stmt.{Stmt, out-Stmt, out-roll-Stmt, roll-Stmt, roll-out-Stmt}
use Rattle.dp_tree.specs.declared.Stmt.TheBlock.{hidden-the_row-Stmt-0}
use Rattle.dp_tree.specs.declared.Stmt.TheOpen.{Assign, Break, Call, If, Print, Region, Stmt-F, Store, While}
use Rattle.dp_tree.specs.declared.Stmt.TheVariants as tree
use Rattle.dp_tree.specs.declared.Stmt.TheViews.{rolls-Assign, rolls-Break, rolls-Call, rolls-If, rolls-Print, rolls-Region, rolls-Store, rolls-While}
use Rattle.dp_tree.specs.Iteration.{is_region}
use Rattle.dp_tree.specs.Numbering.{has_numbers, is_marked, is_inner_in, is_plain, listed_first, next_region, number_at, regions_listed, site_numbers}
use Rattle.dp_tree.specs.Numbering.{site_numbers_all, top_fits}
use Rattle.dp_tree.proofs.Asked.{asked_both}
use Rattle.dp_plan.specs.Access.{Access, access_at, accesses, is_region_at}
use Rattle.dp_plan.specs.Written.{access_site}
use Rattle.dp_plan.proofs.LoadLemmas.{opened}

number_is : (x : Stmt) → number_at x ≡ map access_site (access_at x)
number_is (tree.Call f line args) = refl
number_is _ = refl

-- a statement's numbers are its sites
pub sites_are : (x : Stmt) → site_numbers x ≡ map access_site (accesses x)
sites_are x = asked_both (λ (ns : List ℕ) (xs : List Access). ns ≡ map access_site xs) refl
    (λ a b xs ys p q. ap (λ ns. ns ++ b) p ∙ ap (λ ns. map access_site xs ++ ns) q ∙ sym (map-append access_site xs ys)) number_at access_at number_is x

-- a statement at the top: a region, or none
pub data Top (x : Stmt) : Type 0 where
  marked : (q : ℕ) (site : SiteId) (cond : Expr) (body : List Stmt) → out-Stmt x ≡ Region q site cond body → x ≡ tree.Region q site cond body →
      is_marked x ≡ true → ((k : ℕ) → next_region k x ≡ k + 1) →
      ((k : ℕ) → top_fits k x ≡ ((q == k) && is_inner_in (hidden-the_row-Stmt-0 body))) → Top x
  unmarked : ((r : ℕ) → is_region_at r x ≡ false) → is_marked x ≡ false → ((k : ℕ) → next_region k x ≡ k) → ((k : ℕ) → top_fits k x ≡ is_plain x) → Top x

other_top : (h : Stmt-F Stmt) (y : Stmt) → roll-Stmt h ≡ y → ((r : ℕ) → is_region r h ≡ false) → is_marked y ≡ false → ((k : ℕ) → next_region k y ≡ k) →
    ((k : ℕ) → top_fits k y ≡ is_plain y) → Top (roll-Stmt h)
other_top h y o none m n t = unmarked (λ r. ap (is_region r) (out-roll-Stmt h) ∙ none r) (ap is_marked o ∙ m) (λ k. ap (next_region k) o ∙ n k)
    (λ k. ap (top_fits k) o ∙ t k ∙ ap is_plain (sym o))

top_roll : (h : Stmt-F Stmt) → Top (roll-Stmt h)
unfolding opened
top_roll (Assign site v e) = other_top _ _ (rolls-Assign site v e) (λ r. refl) refl (λ k. refl) (λ k. refl)
top_roll (Store site v index e) = other_top _ _ (rolls-Store site v index e) (λ r. refl) refl (λ k. refl) (λ k. refl)
top_roll (Print site e) = other_top _ _ (rolls-Print site e) (λ r. refl) refl (λ k. refl) (λ k. refl)
top_roll (If site cond a b) = other_top _ _ (rolls-If site cond a b) (λ r. refl) refl (λ k. refl) (λ k. refl)
top_roll (While site cond a) = other_top _ _ (rolls-While site cond a) (λ r. refl) refl (λ k. refl) (λ k. refl)
top_roll (Break site cond) = other_top _ _ (rolls-Break site cond) (λ r. refl) refl (λ k. refl) (λ k. refl)
top_roll (Call f line args) = other_top _ _ (rolls-Call f line args) (λ r. refl) refl (λ k. refl) (λ k. refl)
top_roll (Region q site cond body) = let o = rolls-Region q site cond body in
    marked q site cond body (out-roll-Stmt (Region q site cond body)) o (ap is_marked o) (λ k. ap (next_region k) o) (λ k. ap (top_fits k) o)

pub top : (x : Stmt) → Top x
top x = subst (λ (y : Stmt). Top y) (roll-out-Stmt x) (top_roll (out-Stmt x))

-- each entry has a site of its own
pub fewer_regions : (main : List Stmt) (entries : List RegionInfo) → regions_listed main entries ≡ true → length entries ≤ length (site_numbers_all main)
fewer_regions [] [] e = omega arith
fewer_regions [] (entry ∷ entries) e = absurd (cc)
fewer_regions (x ∷ rest) entries e = by (is_marked x) entries e (fewer_regions rest)
  where
    all : length (site_numbers_all (x ∷ rest)) ≡ length (site_numbers x) + length (site_numbers_all rest)
    all = length-append (site_numbers x) (site_numbers_all rest)

    some : (entry : RegionInfo) (sites : List ℕ) → has_numbers entry sites ≡ true → 1 ≤ length sites
    some entry [] h = absurd (cc)
    some entry (n ∷ ns) h = omega arith

    by : (on : Bool) (entries : List RegionInfo) → listed_first on x (regions_listed rest) entries ≡ true →
        ((more : List RegionInfo) → regions_listed rest more ≡ true → length more ≤ length (site_numbers_all rest))
        → length entries ≤ length (site_numbers_all (x ∷ rest))
    by false entries h go = omega (arith, all, go entries h)
    by true [] h go = absurd (cc)
    by true (entry ∷ more) h go =
        let parts = and_parts (has_numbers entry (site_numbers x)) (regions_listed rest more) h in
        omega (arith, all, go more parts.1, some entry (site_numbers x) parts.0)
