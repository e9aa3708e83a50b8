-- A site is one of at most one region.
use Rattle.std.proofs.Common.{◌≡◌, ◌≢◌, refl, sym, ap, subst, ◌∙◌, ℕ, zero, suc, ◌+◌, ◌≤◌, ◌<◌, ◌==◌, if◌then◌else◌, Bool, true, false, List, [], ◌∷◌, map}
use Rattle.std.proofs.Common.{filter, length, Some, slice_get, inl, inr, arith, eq-eqb}
use Rattle.std.proofs.lemmas.Bool.{cases_Bool}
use Rattle.std.proofs.lemmas.List.{length-map}
use Rattle.dp_tree.specs.declared.Program.{Program}
use Rattle.dp_tree.specs.declared.Stmt.{Stmt}
use Rattle.dp_tree.specs.Inlined.{IsInlined}
use Rattle.dp_tree.specs.Numbering.{is_marked, site_numbers, site_numbers_all}
use Rattle.dp_plan.proofs.Ascent.{Ascends, ascends_split, ascends-numbers_from}
use Rattle.dp_profile.specs.declared.sites.RegionSite.{RegionSite}
use Rattle.dp_profile.specs.Sites.{sites, regions, has_numbered_site}
use Rattle.dp_profile.proofs.KnownSites.{number, numbers_are}
use Rattle.dp_observe.specs.steps.Owners.{owner_after}
use Rattle.dp_observe.specs.steps.Starting.{first_of}
use Rattle.dp_observe.specs.steps.Tracking.{InOrder}
use Rattle.dp_observe.proofs.HitLemmas.{unequal}

-- the regions' sites go up from k on
abbrev pub Apart : ℕ → List (List RegionSite) → Type 0
Apart k [] = Unit {0}
Apart k (ss ∷ rest) = (first : ℕ) × (k ≤ first) × InOrder first ss × Apart (first + length ss) rest

pub in_order : (k : ℕ) (ss : List RegionSite) → Ascends k (map number ss) → InOrder k ss
in_order k [] up = tt
in_order k (s ∷ ss) up = (up.0, in_order (suc k) ss up.1)

apart_less : (k j : ℕ) (rs : List (List RegionSite)) → j ≤ k → Apart k rs → Apart j rs
apart_less k j [] le a = tt
apart_less k j (ss ∷ rest) le a = (a.0, omega (arith, a.1, le), a.2, a.3)

all_apart : (main : List Stmt) (k : ℕ) → Ascends k (site_numbers_all main) → Apart k (map sites (filter is_marked main))
all_apart [] k up = tt
all_apart (x ∷ rest) k up = by (is_marked x) (all_apart rest (k + length (site_numbers x)) parts.1)
  where
    parts : Ascends k (site_numbers x) × Ascends (k + length (site_numbers x)) (site_numbers_all rest)
    parts = ascends_split k (site_numbers x) (site_numbers_all rest) up

    long : length (site_numbers x) ≡ length (sites x)
    long = ap length (numbers_are x) ∙ length-map (sites x) number

    by : (on : Bool) → Apart (k + length (site_numbers x)) (map sites (filter is_marked rest)) →
        Apart k (map sites (if on then x ∷ filter is_marked rest else filter is_marked rest))
    by true later = (
      k,
      omega arith,
      in_order k (sites x) (subst (λ (ns : List ℕ). Ascends k ns) (numbers_are x) parts.0),
      subst (λ n. Apart (k + n)
          (map sites (filter is_marked rest))) long later,
    )
    by false later = apart_less (k + length (site_numbers x)) k (map sites (filter is_marked rest)) (omega arith) later

pub regions_apart : (p : Program) → IsInlined p → Apart 1 (regions p)
regions_apart p inlined = all_apart p.main 1 (subst (λ (ns : List ℕ). Ascends 1 ns) (sym inlined.sites) (ascends-numbers_from 1 (length p.sites)))

-- the sites of a region have the numbers between
below : (n first : ℕ) (ss : List RegionSite) → InOrder first ss → n < first → has_numbered_site n ss ≡ false
below n first [] order low = refl
below n first (s ∷ ss) order low = rw (unequal s.site.0 n (λ e. omega (arith, e, order.0, low))) (below n (suc first) ss order.1 (omega (arith, low)))

above : (n first : ℕ) (ss : List RegionSite) → InOrder first ss → first + length ss ≤ n → has_numbered_site n ss ≡ false
above n first [] order high = refl
above n first (s ∷ ss) order high = rw (unequal s.site.0 n (λ e. omega (arith, e, order.0, high))) (above n (suc first) ss order.1 (omega (arith, high)))

within : (n first : ℕ) (ss : List RegionSite) → InOrder first ss → has_numbered_site n ss ≡ true → n < first + length ss
within n first ss order here = elim (cases_Bool (Rattle.std.specs.Prelude.nat_lt n (first + length ss))) [
  | inl less ↦ Rattle.std.proofs.lemmas.Bool.ltb-true n (first + length ss) less
  | inr more ↦ let clash = sym here ∙ above n first ss order (Rattle.std.proofs.lemmas.Bool.ltb-false n (first + length ss) more) in absurd (cc clash)
]

-- a site below the others stands in none of them
none_of : (n k : ℕ) (rs : List (List RegionSite)) (place : ℕ) (ss : List RegionSite) → Apart k rs → n < k → slice_get rs place ≡ Some ss →
    has_numbered_site n ss ≡ false
none_of n k [] place ss a low there = absurd (cc there)
none_of n k (xs ∷ rest) zero ss a low there =
    let same : xs ≡ ss = cc in subst (λ (ys : List RegionSite). has_numbered_site n ys ≡ false) same (below n a.0 xs a.2 (omega (arith, low, a.1)))
none_of n k (xs ∷ rest) (suc place) ss a low there = none_of n (a.0 + length xs) rest place ss a.3 (omega (arith, low, a.1)) there

owner_low : (n k place before : ℕ) (rs : List (List RegionSite)) → Apart k rs → n < k → owner_after n place before rs ≡ before
owner_low n k place before [] a low = refl
owner_low n k place before (xs ∷ rest) a low =
    rw (below n a.0 xs a.2 (omega (arith, low, a.1))) (owner_low n (a.0 + length xs) (place + 1) before rest a.3 (omega (arith, low, a.1)))

-- the place that is kept is that of the region with the site
pub owner_is : (n k first before : ℕ) (rs : List (List RegionSite)) (place : ℕ) (ss : List RegionSite) → Apart k rs → first + length rs ≤ before →
    slice_get rs place ≡ Some ss → has_numbered_site n ss ≡ (owner_after n first before rs == first + place)
owner_is n k first before [] place ss a most there = absurd (cc there)
owner_is n k first before (xs ∷ rest) zero ss a most there =
    let same : xs ≡ ss = cc in
    elim (cases_Bool (has_numbered_site n xs)) [
      | inl here ↦
          let kept : owner_after n first before (xs ∷ rest) ≡ first = rw here (owner_low n (a.0 + length xs) (first + 1) first rest a.3
          (within n a.0 xs a.2 here)) in
          sym (ap (has_numbered_site n) same) ∙ here ∙ sym (eq-eqb (owner_after n first before (xs ∷ rest)) (first + 0) (kept ∙ omega arith))
      | inr away ↦
          let other = owner_other n (first + 1) before rest first (omega arith) (omega (arith, most)) in
          sym (ap (has_numbered_site n) same) ∙ away
          ∙ sym (rw away (unequal (owner_after n (first + 1) before rest) (first + 0) (λ e. other (e ∙ omega arith))))
    ]
  where
    owner_other : (n first before : ℕ) (rs : List (List RegionSite)) (x : ℕ) → x < first → x < before → owner_after n first before rs ≢ x
    owner_other n first before [] x low less e = omega (arith, e, less)
    owner_other n first before (xs ∷ rest) x low less e = elim (cases_Bool (has_numbered_site n xs)) [
      | inl here ↦ owner_other n (first + 1) first rest x (omega (arith, low)) low (rw here at e)
      | inr away ↦ owner_other n (first + 1) before rest x (omega (arith, low)) less (rw away at e)
    ]
owner_is n k first before (xs ∷ rest) (suc place) ss a most there = elim (cases_Bool (has_numbered_site n xs)) [
  | inl here ↦
      let low = within n a.0 xs a.2 here in
      let kept : owner_after n first before (xs ∷ rest) ≡ first = rw here (owner_low n (a.0 + length xs) (first + 1) first rest a.3 low) in
      none_of n (a.0 + length xs) rest place ss a.3 low there
      ∙ sym (unequal (owner_after n first before (xs ∷ rest)) (first + suc place) (λ e. omega (arith, e, kept)))
  | inr away ↦
      let next : first + 1 + place ≡ first + suc place = omega arith in
      owner_is n (a.0 + length xs) (first + 1) before rest place ss a.3 (omega (arith, most)) there ∙ ap (λ m. owner_after n (first + 1) before rest == m) next
      ∙ sym (rw away refl)
]

-- the sites of a region are numbered from its first one on
pub order_of : (k : ℕ) (rs : List (List RegionSite)) (place : ℕ) (ss : List RegionSite) → Apart k rs → slice_get rs place ≡ Some ss → InOrder (first_of ss).0 ss
order_of k [] place ss a there = absurd (cc there)
order_of k (xs ∷ rest) (suc place) ss a there = order_of (a.0 + length xs) rest place ss a.3 there
order_of k (xs ∷ rest) zero ss a there = let same : xs ≡ ss = cc in subst (λ (ys : List RegionSite). InOrder (first_of ys).0 ys) same (by xs a.2)
  where
    by : (ys : List RegionSite) → InOrder a.0 ys → InOrder (first_of ys).0 ys
    by [] order = tt
    by (y ∷ ys) order = (refl, subst (λ n. InOrder (suc n) ys) (sym order.0) order.1)
