-- In an inlined program the sites of regions and the regions are few, so that their numbers have 32 bits.
use Rattle.std.proofs.Common.{◌≡◌, refl, sym, ap, subst, ◌∙◌, ℕ, suc, ◌+◌, ◌≤◌, Bool, true, false, List, [], ◌∷◌, ◌++◌, map, filter, length, length-append}
use Rattle.std.proofs.Common.{arith}
use Rattle.std.specs.Prelude.{if◌then◌else◌}
use Rattle.std.proofs.lemmas.List.{map-append, length-map}
use Rattle.dp_tree.specs.declared.Program.{Program}
use Rattle.dp_tree.specs.declared.Stmt.{Stmt}
use Rattle.dp_tree.specs.declared.Stmt.TheVariants as tree
use Rattle.dp_tree.specs.Inlined.{IsInlined}
use Rattle.dp_tree.specs.Numbering.{is_marked, number_at, site_numbers, site_numbers_all}
use Rattle.dp_tree.proofs.Asked.{asked_both}
use Rattle.dp_plan.specs.Each.{Each}
use Rattle.dp_plan.proofs.RegionFacts.{many}
use Rattle.dp_plan.proofs.Ascent.{Ascends, ascends_split, ascends-numbers_from}
use Rattle.dp_profile.specs.Sites.{RegionSite, site_at, sites, regions}

-- the largest number of 32 bits
abbrev pub top : ℕ
top = 4294967295

abbrev pub SmallSite : RegionSite → Type 0
SmallSite s = s.site.0 ≤ top

abbrev pub number : RegionSite → ℕ
number s = s.site.0

number_is : (x : Stmt) → number_at x ≡ map number (site_at x)
number_is (tree.Call f line args) = refl
number_is _ = refl

-- the numbers of a statement's sites
pub numbers_are : (x : Stmt) → site_numbers x ≡ map number (sites x)
numbers_are x = asked_both (λ (ns : List ℕ) (ss : List RegionSite). ns ≡ map number ss) refl
    (λ a b ss ts p q. ap (λ ns. ns ++ b) p ∙ ap (λ ns. map number ss ++ ns) q ∙ sym (map-append number ss ts)) number_at site_at number_is x

some_site : (x : Stmt) → is_marked x ≡ true → 1 ≤ length (site_numbers x)
some_site (tree.Region' r site cond _ a) h = omega arith
some_site _ h = absurd (cc h)

each_small : (k : ℕ) (ss : List RegionSite) → Ascends k (map number ss) → k + length ss ≤ suc top → Each SmallSite ss
each_small k [] up low = tt
each_small k (s ∷ ss) up low = (omega (arith, up.0, low), each_small (suc k) ss up.1 (omega (arith, low)))

statement_small : (k : ℕ) (x : Stmt) → Ascends k (site_numbers x) → k + length (site_numbers x) ≤ suc top → Each SmallSite (sites x)
statement_small k x up low =
    let same = numbers_are x in
    let long : length (site_numbers x) ≡ length (sites x) = ap length same ∙ length-map (sites x) number in
    each_small k (sites x) (subst (λ (ns : List ℕ). Ascends k ns) same up) (omega (arith, low, long))

all_small : (main : List Stmt) (k : ℕ) → Ascends k (site_numbers_all main) → k + length (site_numbers_all main) ≤ suc top →
    Each (Each SmallSite) (map sites (filter is_marked main))
all_small [] k up low = tt
all_small (x ∷ rest) k up low = by (is_marked x) (all_small rest (k + length (site_numbers x)) parts.1 (omega (arith, low, long)))
  where
    parts : Ascends k (site_numbers x) × Ascends (k + length (site_numbers x)) (site_numbers_all rest)
    parts = ascends_split k (site_numbers x) (site_numbers_all rest) up

    long : length (site_numbers_all (x ∷ rest)) ≡ length (site_numbers x) + length (site_numbers_all rest)
    long = length-append (site_numbers x) (site_numbers_all rest)

    by : (on : Bool) → Each (Each SmallSite) (map sites (filter is_marked rest)) →
        Each (Each SmallSite) (map sites (if on then x ∷ filter is_marked rest else filter is_marked rest))
    by true later = (statement_small k x parts.0 (omega (arith, low, long)), later)
    by false later = later

fewer : (main : List Stmt) → length (map sites (filter is_marked main)) ≤ length (site_numbers_all main)
fewer [] = omega arith
fewer (x ∷ rest) = by (is_marked x) refl (fewer rest)
  where
    long : length (site_numbers_all (x ∷ rest)) ≡ length (site_numbers x) + length (site_numbers_all rest)
    long = length-append (site_numbers x) (site_numbers_all rest)

    by : (on : Bool) → is_marked x ≡ on → length (map sites (filter is_marked rest)) ≤ length (site_numbers_all rest)
        → length (map sites (if on then x ∷ filter is_marked rest else filter is_marked rest)) ≤ length (site_numbers_all (x ∷ rest))
    by true e go = omega (arith, go, long, some_site x e)
    by false e go = omega (arith, go, long)

module _ (p : Program) (inlined : IsInlined p) where
  pub few_regions : length (regions p) ≤ top
  few_regions = omega (arith, inlined.few, many p inlined, fewer p.main)

  pub small_sites : Each (Each SmallSite) (regions p)
  small_sites = all_small p.main 1 (subst (λ (ns : List ℕ). Ascends 1 ns) (sym inlined.sites) (ascends-numbers_from 1 (length p.sites)))
      (omega (arith, inlined.few, many p inlined))
