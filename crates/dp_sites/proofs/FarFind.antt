-- Sites that go up one by one: the one with a number, and tests that ask for it.
use Rattle.std.proofs.Common.{◌≡◌, refl, sym, ap, ◌∙◌, subst, ℕ, suc, ◌+◌, ◌<◌, ◌≤◌, ◌==◌, Bool, true, false, if◌then◌else◌, ◌&&◌, ◌||◌, not, List, [], ◌∷◌}
use Rattle.std.proofs.Common.{◌++◌, map, length, ℤ, Option, Some, None, arith, eqb-true, ne_eqb}
use Rattle.std.specs.List.{list_all}
use Rattle.dp_plan.specs.IsFar.{SiteTouch, Stored, is_stored, read_passes, store_of, stored_at, touch_passes}
use Rattle.dp_plan.proofs.Ascent.{Ascends}

abbrev pub touch_site : SiteTouch → ℕ
touch_site t = t.site

abbrev pub TouchesRise : ℕ → List SiteTouch → Type 0
TouchesRise k ts = Ascends k (map touch_site ts)

-- the first site of this number
abbrev pub find : ℕ → List SiteTouch → Option SiteTouch
find n [] = None
find n (t ∷ rest) = if t.site == n then Some t else find n rest

abbrev pub or_touch : Option SiteTouch → Option SiteTouch → Option SiteTouch
or_touch (Some t) other = Some t
or_touch None other = other

pub find-append : (n : ℕ) (xs ys : List SiteTouch) → find n (xs ++ ys) ≡ or_touch (find n xs) (find n ys)
find-append n [] ys = refl
find-append n (t ∷ xs) ys = by (t.site == n) (find-append n xs ys)
  where
    by : (b : Bool) → find n (xs ++ ys) ≡ or_touch (find n xs) (find n ys) → (if b then Some t else find n (xs ++ ys)) ≡ or_touch
        (if b then Some t else find n xs) (find n ys)
    by true e = refl
    by false e = e

pub none_below : (n k : ℕ) (xs : List SiteTouch) → TouchesRise k xs → n < k → find n xs ≡ None
none_below n k [] h low = refl
none_below n k (t ∷ xs) h low = ap (λ (b : Bool). if b then Some t else find n xs) (ne_eqb t.site n (λ e. omega (arith, e, h.0, low)))
    ∙ none_below n (suc k) xs h.1 (omega (arith, low))

pub none_above : (n k : ℕ) (xs : List SiteTouch) → TouchesRise k xs → k + length xs ≤ n → find n xs ≡ None
none_above n k [] h high = refl
none_above n k (t ∷ xs) h high = ap (λ (b : Bool). if b then Some t else find n xs) (ne_eqb t.site n (λ e. omega (arith, e, h.0, high)))
    ∙ none_above n (suc k) xs h.1 (omega (arith, high))

pub touches_split : (k : ℕ) (xs ys : List SiteTouch) → TouchesRise k (xs ++ ys) → TouchesRise k xs × TouchesRise (k + length xs) ys
touches_split k [] ys h = let e : k ≡ k + 0 = omega arith in (tt, subst (λ (i : ℕ). TouchesRise i ys) e h)
touches_split k (x ∷ xs) ys h =
    let r = touches_split (suc k) xs ys h.1 in
    let e : suc k + length xs ≡ k + suc (length xs) = omega arith in ((h.0, r.0), subst (λ (i : ℕ). TouchesRise i ys) e r.1)

-- what a site stores, by the variable's place
abbrev pub stored_in : ℕ → ℤ → Option SiteTouch → Option Stored
stored_in v shift None = None
stored_in v shift (Some t) = stored_at v shift t.store

pub store_found : (v : ℕ) (shift : ℤ) (d : ℕ) (xs : List SiteTouch) → store_of v shift d xs ≡ stored_in v shift (find d xs)
store_found v shift d [] = refl
store_found v shift d (t ∷ xs) = by (t.site == d) (store_found v shift d xs)
  where
    by : (b : Bool) → store_of v shift d xs ≡ stored_in v shift (find d xs) → (if b then stored_at v shift t.store else store_of v shift d xs) ≡ stored_in v
        shift (if b then Some t else find d xs)
    by true e = refl
    by false e = e

module _ (test : ℤ → ℤ → Bool) (v : ℕ) (s : Stored) (shift : ℤ) where
  abbrev pub stores_it : Option SiteTouch → Bool
  stores_it None = true
  stores_it (Some t) = is_stored s (stored_at v shift t.store)

  abbrev pub reads_pass : Option SiteTouch → Bool
  reads_pass None = true
  reads_pass (Some t) = list_all (read_passes test v s.array s.place shift) t.reads

  merge : (e f a b x y : Bool) → (e ≡ true → x ≡ true) → (f ≡ true → y ≡ true) →
      (((not e || a) && (not f || b)) && (x && y)) ≡ ((if e then a else x) && (if f then b else y))
  merge true true a b x y p q = ap (λ (t : Bool). (a && b) && (t && y)) (p refl) ∙ ap (λ (t : Bool). (a && b) && t) (q refl) ∙ end a b
    where
      end : (a b : Bool) → ((a && b) && true) ≡ (a && b)
      end true true = refl
      end true false = refl
      end false b = refl
  merge true false a b x y p q = ap (λ (t : Bool). (a && true) && (t && y)) (p refl) ∙ end a y
    where
      end : (a y : Bool) → ((a && true) && y) ≡ (a && y)
      end true y = refl
      end false y = refl
  merge false true a b x y p q = ap (λ (t : Bool). b && (x && t)) (q refl) ∙ end b x
    where
      end : (b x : Bool) → (b && (x && true)) ≡ (x && b)
      end true true = refl
      end true false = refl
      end false true = refl
      end false false = refl
  merge false false a b x y p q = refl

  chosen : (f : Option SiteTouch → Bool) (b : Bool) (t : SiteTouch) (o : Option SiteTouch) → (if b then f (Some t) else f o) ≡ f (if b then Some t else o)
  chosen f true t o = refl
  chosen f false t o = refl

  -- the test of all sites is one of the two that are asked for
  pub all_found : (d u k : ℕ) (xs : List SiteTouch) → TouchesRise k xs →
      list_all (touch_passes test v d u s shift) xs ≡ (stores_it (find d xs) && reads_pass (find u xs))
  all_found d u k [] h = refl
  all_found d u k (t ∷ xs) h =
      ap (λ (b : Bool). touch_passes test v d u s shift t && b) (all_found d u (suc k) xs h.1)
      ∙ merge (t.site == d) (t.site == u) (stores_it (Some t)) (reads_pass (Some t)) (stores_it (find d xs)) (reads_pass (find u xs))
      (λ e. ap stores_it (none_below d (suc k) xs h.1 (let same = eqb-true t.site d e in omega (arith, same, h.0))))
      (λ e. ap reads_pass (none_below u (suc k) xs h.1 (let same = eqb-true t.site u e in omega (arith, same, h.0))))
      ∙ ap (λ (b : Bool). b && (if t.site == u then reads_pass (Some t) else reads_pass (find u xs))) (chosen stores_it (t.site == d) t (find d xs))
      ∙ ap (λ (b : Bool). stores_it (if t.site == d then Some t else find d xs) && b) (chosen reads_pass (t.site == u) t (find u xs))

-- ---- two pieces, with another shift in the second

-- the site is among the first, or behind them
abbrev pub Among : ℕ → ℕ → Bool → Type 0
Among n split true = split ≤ n
Among n split false = n < split

-- where one of a list's two pieces has the site, the other hasn't
module _ (n k : ℕ) (xs ys : List SiteTouch) (rises : TouchesRise k (xs ++ ys)) (t : SiteTouch) (at : find n (xs ++ ys) ≡ Some t) where
  parts : TouchesRise k xs × TouchesRise (k + length xs) ys
  parts = touches_split k xs ys rises

  whole : or_touch (find n xs) (find n ys) ≡ Some t
  whole = sym (find-append n xs ys) ∙ at

  or_none : (o : Option SiteTouch) → or_touch o None ≡ o
  or_none None = refl
  or_none (Some q) = refl

  pub found_first : (late : Bool) → Among n (k + length xs) late → find n xs ≡ (if late then None else Some t)
  found_first true high = none_above n k xs parts.0 high
  found_first false low = sym (or_none (find n xs)) ∙ sym (ap (or_touch (find n xs)) (none_below n (k + length xs) ys parts.1 low)) ∙ whole

  pub found_second : (late : Bool) → Among n (k + length xs) late → find n ys ≡ (if late then Some t else None)
  found_second true high = sym (ap (λ (o : Option SiteTouch). or_touch o (find n ys)) (none_above n k xs parts.0 high)) ∙ whole
  found_second false low = none_below n (k + length xs) ys parts.1 low
