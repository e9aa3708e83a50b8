-- What the code answers of a part is what the definition says of its site.
use Rattle.std.proofs.Common.{◌≡◌, inl, inr, refl, sym, ap, ◌∙◌, subst, ℕ, zero, suc, ◌+◌, ◌<◌, ◌≤◌, ◌==◌, Bool, true, false, if◌then◌else◌, not, ◌&&◌, ◌||◌}
use Rattle.std.proofs.Common.{nat_lt, nat_le, List, [], ◌∷◌, map, Option, Some, None, slice_get, arith, eq-eqb, ne_eqb, lt-ltb, le-ltb, le-leb}
use Rattle.std.proofs.lemmas.Bool.{cases_lt, lt-leb}
use Rattle.std.specs.List.{cons_option, list_any}
use Rattle.dp_tree.specs.declared.Stmt.{Stmt}
use Rattle.dp_plan.specs.Access.{Access, accesses}
use Rattle.dp_plan.specs.Written.{access_site}
use Rattle.dp_plan.specs.IsFar.{SiteTouch, touches}
use Rattle.dp_plan.specs.Checked.{has_site}
use Rattle.dp_sites.specs.declared.moving.Storing.{Storing}
use Rattle.dp_sites.specs.declared.part.Part.{Part}
use Rattle.dp_sites.specs.steps.Parts.{parts}
use Rattle.dp_plan.specs.Each.{Each}
use Rattle.dp_plan.proofs.EachLemmas.{each_at, each_map}
use Rattle.dp_sites.proofs.Aligned.{Aligned, Same, aligned}
use Rattle.dp_plan.proofs.Ascent.{Ascends}
use Rattle.dp_sites.proofs.FarFind.{TouchesRise, find, touch_site}
use Rattle.std.proofs.Math.Bool.{or-false}

abbrev pub part_site : Part → ℕ
part_site u = u.site

-- ---- the same sites in three ways

site_same : {a : Access} {t : SiteTouch} {u : Part} → Same a t u → u.site ≡ t.site
site_same h = ap (λ (x : Part). x.site) h.part_is

pub sites_same : (xs : List Access) (ts : List SiteTouch) (us : List Part) → Aligned xs ts us → (map access_site xs ≡ map part_site us)
    × (map touch_site ts ≡ map part_site us)
sites_same [] [] [] h = (refl, refl)
sites_same [] [] (u ∷ us) h = absurd h
sites_same [] (t ∷ ts) us h = absurd h
sites_same (a ∷ xs) [] us h = absurd h
sites_same (a ∷ xs) (t ∷ ts) [] h = absurd h
sites_same (a ∷ xs) (t ∷ ts) (u ∷ us) h =
    let later = sites_same xs ts us h.1 in
    let same = site_same h.0 in (
      ap (λ (n : ℕ). n ∷ map access_site xs) (h.0.site ∙ sym same) ∙ ap (λ (ns : List ℕ). u.site ∷ ns) later.0,
      ap (λ (n : ℕ). n ∷ map touch_site ts) (sym same) ∙ ap (λ (ns : List ℕ). u.site ∷ ns) later.1,
    )

-- the sites go up one by one
pub risen : (k : ℕ) (ws : List Part) → Ascends k (map part_site ws) → (j : ℕ) (u : Part) → slice_get ws j ≡ Some u → u.site ≡ k + j
risen k [] h j u e = absurd (cc e)
risen k (w ∷ ws) h zero u e = let same : w ≡ u = cc e in omega (arith, ap part_site same, h.0)
risen k (w ∷ ws) h (suc j) u e = let later = risen (suc k) ws h.1 j u e in omega (arith, later)

-- where a part stands, its access and its touch stand too
pub record Seat (xs : List Access) (ts : List SiteTouch) (j : ℕ) (u : Part) : Type 0 where
  pub a : Access
  pub t : SiteTouch
  pub same : Same a t u
  pub access : slice_get xs j ≡ Some a
  pub touch : slice_get ts j ≡ Some t

pub seat : (xs : List Access) (ts : List SiteTouch) (us : List Part) → Aligned xs ts us → (j : ℕ) (u : Part) → slice_get us j ≡ Some u → Seat xs ts j u
seat [] [] [] h j u e = absurd (cc e)
seat [] [] (w ∷ us) h j u e = absurd h
seat [] (t ∷ ts) us h j u e = absurd h
seat (a ∷ xs) [] us h j u e = absurd h
seat (a ∷ xs) (t ∷ ts) [] h j u e = absurd h
seat (a ∷ xs) (t ∷ ts) (w ∷ us) h zero u e =
    let is : w ≡ u = cc e in record { a = a; t = t; same = subst (λ (x : Part). Same a t x) is h.0; access = refl; touch = refl }
seat (a ∷ xs) (t ∷ ts) (w ∷ us) h (suc j) u e =
    let r = seat xs ts us h.1 j u e in record { a = r.a; t = r.t; same = r.same; access = r.access; touch = r.touch }

-- .. and where none stands, no access does
pub no_seat : (xs : List Access) (ts : List SiteTouch) (us : List Part) → Aligned xs ts us → (j : ℕ) → slice_get us j ≡ None → slice_get xs j ≡ None
no_seat [] [] [] h j e = refl
no_seat [] [] (w ∷ us) h j e = absurd h
no_seat [] (t ∷ ts) us h j e = absurd h
no_seat (a ∷ xs) [] us h j e = absurd h
no_seat (a ∷ xs) (t ∷ ts) [] h j e = absurd h
no_seat (a ∷ xs) (t ∷ ts) (w ∷ us) h zero e = absurd (cc e)
no_seat (a ∷ xs) (t ∷ ts) (w ∷ us) h (suc j) e = no_seat xs ts us h.1 j e

-- ---- the one item of a number

module _ {X : Type 0} (number : X → ℕ) where
  abbrev pub picked : (X → Bool) → Option X → Bool
  picked f None = false
  picked f (Some x) = f x

  none_lower : (f : X → Bool) (n k : ℕ) (xs : List X) → Ascends k (map number xs) → n < k → list_any (λ (x : X). (number x == n) && f x) xs ≡ false
  none_lower f n k [] h low = refl
  none_lower f n k (x ∷ xs) h low =
      ap (λ (b : Bool). (b && f x) || list_any (λ (y : X). (number y == n) && f y) xs) (ne_eqb (number x) n (λ e. omega (arith, e, h.0, low)))
      ∙ none_lower f n (suc k) xs h.1 (omega (arith, low))

  pub any_at : (f : X → Bool) (k : ℕ) (xs : List X) → Ascends k (map number xs) → (j : ℕ) →
      list_any (λ (x : X). (number x == k + j) && f x) xs ≡ picked f (slice_get xs j)
  any_at f k [] h j = refl
  any_at f k (x ∷ xs) h zero =
      let here : k + 0 ≡ number x = omega (arith, h.0) in
      ap (λ (b : Bool). (b && f x) || list_any (λ (y : X). (number y == k + 0) && f y) xs) (eq-eqb (number x) (k + 0) (sym here))
      ∙ ap (λ (b : Bool). f x || b) (none_lower f (k + 0) (suc k) xs h.1 (omega arith)) ∙ or-false (f x)
  any_at f k (x ∷ xs) h (suc j) =
      let on : k + suc j ≡ suc k + j = omega arith in
      ap (λ (b : Bool). (b && f x) || list_any (λ (y : X). (number y == k + suc j) && f y) xs) (ne_eqb (number x) (k + suc j) (λ e. omega (arith, e, h.0)))
      ∙ ap (λ (n : ℕ). list_any (λ (y : X). (number y == n) && f y) xs) on ∙ any_at f (suc k) xs h.1 j

-- each touch is found by its number
pub located : (k : ℕ) (ts : List SiteTouch) → TouchesRise k ts → Each (λ (t : SiteTouch). (k ≤ t.site) × (find t.site ts ≡ Some t)) ts
located k [] h = tt
located k (t ∷ ts) h = (
  (omega (arith, h.0), ap (λ (b : Bool). if b then Some t else find t.site ts) (eq-eqb t.site t.site refl)),
  each_map (λ (q : SiteTouch). (suc k ≤ q.site) × (find q.site ts ≡ Some q)) (λ (q : SiteTouch). (k ≤ q.site) × (find q.site (t ∷ ts) ≡ Some q))
      (λ q r. (omega (arith, r.0), ap (λ (b : Bool). if b then Some t else find q.site ts) (ne_eqb t.site q.site (λ e. omega (arith, e, h.0, r.0))) ∙ r.1)) ts
      (located (suc k) ts h.1),
)

-- ---- Booleans

pub by_order : (e d : ℕ) → not (nat_le d e) ≡ nat_lt e d
by_order e d = elim (cases_lt e d) [
  | inl low ↦ ap not (lt-leb d e low) ∙ sym (lt-ltb e d low)
  | inr high ↦ ap not (le-leb d e high) ∙ sym (le-ltb e d high)
]

pub and_under : (a b c : Bool) → (a ≡ true → b ≡ c) → (a && b) ≡ (a && c)
and_under true b c f = f refl
and_under false b c f = refl

abbrev pub seen_by : Bool → Bool → Bool → Bool → Bool → Bool → Bool → Bool
seen_by stored after apart again here outer between = ((stored && after) && not apart) || ((((stored && again) && here) && outer) && not between)

pub unstored : (after apart again here outer between : Bool) → seen_by false after apart again here outer between ≡ false
unstored after apart again here outer between = refl

abbrev pub code_by : Bool → Bool → Bool → Bool → Bool → Bool → Bool
code_by after apart again here outer between = (after && not apart) || ((again && (here && outer)) && not between)

pub stored_so : (after apart again here outer between : Bool) → seen_by true after apart again here outer between ≡ code_by after apart again here outer between
stored_so after apart true true outer between = refl
stored_so after apart true false outer between = refl
stored_so after apart false here outer between = refl

pub either_any : {X : Type 0} (f g : X → Bool) (xs : List X) → (list_any f xs || list_any g xs) ≡ list_any (λ (x : X). f x || g x) xs
either_any f g [] = refl
either_any f g (x ∷ xs) = swap (f x) (g x) (list_any f xs) (list_any g xs) (list_any (λ y. f y || g y) xs) (either_any f g xs)
  where
    swap : (a b m n k : Bool) → (m || n) ≡ k → ((a || m) || (b || n)) ≡ ((a || b) || k)
    swap true b m n k e = refl
    swap false true true n k e = refl
    swap false true false n k e = refl
    swap false false m n k e = e

-- ---- tests over a list

-- a site is among the accesses
pub has_any : (k : ℕ) (xs : List Access) → has_site k xs ≡ list_any (λ (a : Access). (a.site == k) && true) xs
has_any k [] = refl
has_any k (x ∷ xs) = ap (λ (b : Bool). b || has_site k xs) (and_yes (x.site == k)) ∙ ap (λ (b : Bool). ((x.site == k) && true) || b) (has_any k xs)
  where
    and_yes : (b : Bool) → b ≡ (b && true)
    and_yes true = refl
    and_yes false = refl

-- the test of a store, where there is one
abbrev pub passed_by : (Storing → Bool) → Option Storing → Bool
passed_by test None = false
passed_by test (Some storing) = test storing

pub any_storing : (test : Storing → Bool) (o : Option Storing) (rest : List Storing) → (passed_by test o || list_any test rest) ≡ list_any test
    (cons_option o rest)
any_storing test None rest = refl
any_storing test (Some storing) rest = refl

-- ---- a statement whose sites go up one by one

module _ (s : Stmt) (k : ℕ) (goes_up : Ascends k (map part_site (parts None s))) where
  pub touches_rise : TouchesRise k (touches s)
  touches_rise = subst (λ (ns : List ℕ). Ascends k ns) (sym (sites_same (accesses s) (touches s) (parts None s) (aligned None s)).1) goes_up

  -- one part, and what stands at its place
  module _ (j : ℕ) (u : Part) (at : slice_get (parts None s) j ≡ Some u) where
    pub seat_at : Seat (accesses s) (touches s) j u
    seat_at = seat (accesses s) (touches s) (parts None s) (aligned None s) j u at

    pub found_at : find u.site (touches s) ≡ Some seat_at.t
    found_at =
        ap (λ (n : ℕ). find n (touches s)) (ap (λ (x : Part). x.site) seat_at.same.part_is)
        ∙ (each_at (λ (t : SiteTouch). (k ≤ t.site) × (find t.site (touches s) ≡ Some t)) (touches s) (located k (touches s) touches_rise) j
        seat_at.t seat_at.touch).1
