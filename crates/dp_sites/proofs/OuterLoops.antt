-- Which sites share an inner `while`, by the last site of the outermost one that has the first of them.
use Rattle.std.proofs.Common.{◌≡◌, ◌⊎◌, inl, inr, refl, sym, ap, ◌∙◌, subst, ℕ, suc, ◌+◌, ◌-◌, ◌<◌, ◌≤◌, ◌==◌, Bool, true, false, ◌&&◌, ◌||◌, nat_le, nat_lt}
use Rattle.std.proofs.Common.{List, [], ◌∷◌, ◌++◌, map, length, Option, Some, None, slice_get, arith, eq-eqb, ne_eqb, le-leb, lt-ltb, le-ltb}
use Rattle.std.proofs.lemmas.Bool.{cases_eq, cases_lt, and_parts, lt-leb, or_right, le-ltb, lt-ltb, or_cases}
use Rattle.std.specs.List.{list_any}
use Rattle.dp_tree.specs.declared.Stmt.{Stmt, Row_of-Stmt, end_of-Stmt, more_of-Stmt}
use Rattle.dp_tree.specs.declared.Stmt.TheVariants as tree
use Rattle.std.proofs.lemmas.List.{length-map, map-append}
use Rattle.dp_plan.specs.Access.{Access, accesses, accesses_in, loaded_by}
use Rattle.dp_plan.specs.Touch.{reads}
use Rattle.dp_plan.specs.Written.{access_site}
use Rattle.dp_plan.specs.Checked.{has_both, has_site, loops, loops_in}
use Rattle.dp_sites.specs.declared.part.Part.{Part}
use Rattle.dp_sites.specs.steps.Parts.{part_of, parts, parts_in, until_in}
use Rattle.dp_sites.specs.Storings.{end_of}
use Rattle.dp_plan.proofs.Ascent.{Ascends, ascends_split}
use Rattle.dp_plan.proofs.LoadLemmas.{list_any-append}

-- the sites go up one by one from k
abbrev pub SitesRise : ℕ → List Access → Type 0
SitesRise k xs = Ascends k (map access_site xs)

pub rises_split : (k : ℕ) (xs bs : List Access) → SitesRise k (xs ++ bs) → SitesRise k xs × SitesRise (k + length xs) bs
rises_split k xs bs h =
    let r = ascends_split k (map access_site xs) (map access_site bs) (subst (λ (ns : List ℕ). Ascends k ns) (map-append access_site xs bs) h) in
    (r.0, subst (λ (n : ℕ). SitesRise (k + n) bs) (length-map xs access_site) r.1)

-- a site that is found stands among the numbers, and one among them is found
pub has_bounds : (m k : ℕ) (xs : List Access) → SitesRise k xs → has_site m xs ≡ true → (k ≤ m) × (m < k + length xs)
has_bounds m k [] h e = absurd (cc)
has_bounds m k (a ∷ xs) h e = elim (cases_eq a.site m) [
  | inl t ↦ (omega (arith, h.0, t), omega (arith, h.0, t))
  | inr f ↦ let r = has_bounds m (suc k) xs h.1 (ap (λ (b : Bool). b || has_site m xs) (sym (ne_eqb a.site m f)) ∙ e) in
      (omega (arith, r.0), omega (arith, r.1))
]

pub has_risen : (m k : ℕ) (xs : List Access) → SitesRise k xs → k ≤ m → has_site m xs ≡ nat_lt m (k + length xs)
has_risen m k [] h low = sym (le-ltb m (k + 0) (omega (arith, low)))
has_risen m k (a ∷ xs) h low = elim (cases_eq a.site m) [
  | inl t ↦ ap (λ (b : Bool). b || has_site m xs) (eq-eqb a.site m t) ∙ sym (lt-ltb m (k + suc (length xs)) (omega (arith, h.0, t)))
  | inr f ↦
      let more : suc k + length xs ≡ k + suc (length xs) = omega arith in
      let over : suc k ≤ m = above f low h.0 in
      ap (λ (b : Bool). b || has_site m xs) (ne_eqb a.site m f) ∙ has_risen m (suc k) xs h.1 over ∙ ap (nat_lt m) more
]
  where
    above : {x : ℕ} → (x ≡ m → ⊥) → k ≤ m → x ≡ k → suc k ≤ m
    above f low e = elim (cases_eq k m) [
      | inl t ↦ absurd (f (e ∙ t))
      | inr g ↦ omega (arith, low, g)
    ]

last_risen : (k : ℕ) (ns : List ℕ) → Ascends k ns → 0 < length ns → slice_get ns (length ns - 1) ≡ Some (k + (length ns - 1))
last_risen k [] h some = absurd (omega (arith, some))
last_risen k (n ∷ []) h some = let e : n ≡ k + (1 - 1) = omega (arith, h.0) in ap (λ (i : ℕ). Some i) e
last_risen k (n ∷ m ∷ rest) h some =
    let place : length (n ∷ m ∷ rest) - 1 ≡ suc (length (m ∷ rest) - 1) = omega arith in
    let sum : suc k + (length (m ∷ rest) - 1) ≡ k + (length (n ∷ m ∷ rest) - 1) = omega arith in
    ap (slice_get (n ∷ m ∷ rest)) place ∙ last_risen (suc k) (m ∷ rest) h.1 (omega arith) ∙ ap (λ (i : ℕ). Some i) sum

-- u is one of the sites, and d isn't behind the last of its loop
abbrev pub reaches : ℕ → ℕ → Part → Bool
reaches u d x = (x.site == u) && nat_le d (end_of x)

two_same : (a b c e : Bool) → a ≡ c → b ≡ e → (a || b) ≡ (c || e)
two_same a b c e p q = ap (λ (x : Bool). x || b) p ∙ ap (λ (x : Bool). c || x) q

-- the last site of a statement whose sites rise
known : (k : ℕ) (x : Stmt) → SitesRise k (accesses x) → 0 < length (accesses x) → until_in None x ≡ Some (k + (length (accesses x) - 1))
unfolding Rattle.dp_sites.specs.Lists.site_list
known k x h some =
    let many : length (map access_site (accesses x)) ≡ length (accesses x) = length-map (accesses x) access_site in
    last_risen k (map access_site (accesses x)) h (omega (arith, some, many)) ∙ ap (λ (n : ℕ). Some (k + (n - 1))) many

dist : (s t h r : Bool) → r ≡ (h && t) → ((s && t) || r) ≡ ((s || h) && t)
dist true true h r e = refl
dist true false true r e = e
dist true false false r e = e
dist false t h r e = e

dist_two : (a b t x y : Bool) → x ≡ (a && t) → y ≡ (b && t) → (x || y) ≡ ((a || b) && t)
dist_two true b true x y p q = ap (λ (z : Bool). z || y) p
dist_two true true false x y p q = ap (λ (z : Bool). z || y) p ∙ q
dist_two true false false x y p q = ap (λ (z : Bool). z || y) p ∙ q
dist_two false b t x y p q = ap (λ (z : Bool). z || y) p ∙ q

has-append : (m : ℕ) (xs bs : List Access) → has_site m (xs ++ bs) ≡ (has_site m xs || has_site m bs)
has-append m xs bs = list_any-append (λ (a : Access). a.site == m) xs bs

module _ (u d : ℕ) where
  -- inside a loop, whose last site is known
  module _ (e : ℕ) where
    mutual
      pub within : (x : Stmt) → list_any (reaches u d) (parts (Some e) x) ≡ (has_site u (accesses x) && nat_le d e)
      within (tree.Assign site x v) = dist (site.0 == u) (nat_le d e) false false refl
      within (tree.Store site x i v) = dist (site.0 == u) (nat_le d e) false false refl
      within (tree.Print site v) = dist (site.0 == u) (nat_le d e) false false refl
      within (tree.If' site cond _ a _ b) = dist (site.0 == u) (nat_le d e) (has_site u (accesses_in a ++ accesses_in b)) _
          (list_any-append (reaches u d) (parts_in (Some e) a) (parts_in (Some e) b)
          ∙ dist_two _ _ (nat_le d e) _ _ (within_in a) (within_in b) ∙ ap (λ (t : Bool). t && nat_le d e) (sym (has-append u (accesses_in a) (accesses_in b))))
      within (tree.While' site cond h a) = dist (site.0 == u) (nat_le d e) (has_site u (accesses_in a)) _ (within_in a)
      within (tree.Region' r site cond _ a) = dist (site.0 == u) (nat_le d e) (has_site u (accesses_in a)) _ (within_in a)
      within (tree.Break site cond) = dist (site.0 == u) (nat_le d e) false false refl
      within (tree.Call f line args) = refl

      pub within_in : {n : _} (row : Row_of-Stmt n) → list_any (reaches u d) (parts_in (Some e) row) ≡ (has_site u (accesses_in row) && nat_le d e)
      within_in end_of-Stmt = refl
      within_in (more_of-Stmt x rest) =
          list_any-append (reaches u d) (parts (Some e) x) (parts_in (Some e) rest)
          ∙ dist_two _ _ (nat_le d e) _ _ (within x) (within_in rest) ∙ ap (λ (t : Bool). t && nat_le d e) (sym (has-append u (accesses x) (accesses_in rest)))

  has_both-first : (xs bs : List Access) → has_both u d xs ≡ true → has_both u d (xs ++ bs) ≡ true
  has_both-first xs bs e = let both = and_parts (has_site u xs) (has_site d xs) e in
      ap (λ (t : Bool). t && has_site d (xs ++ bs)) (has-append u xs bs ∙ ap (λ (t : Bool). t || has_site u bs) both.0) ∙ has-append d xs bs
      ∙ ap (λ (t : Bool). t || has_site d bs) both.1

  has_both-second : (xs bs : List Access) → has_both u d bs ≡ true → has_both u d (xs ++ bs) ≡ true
  has_both-second xs bs e = let both = and_parts (has_site u bs) (has_site d bs) e in
      ap (λ (t : Bool). t && has_site d (xs ++ bs)) (has-append u xs bs ∙ or_right (has_site u xs) (has_site u bs) both.0) ∙ has-append d xs bs
      ∙ or_right (has_site d xs) (has_site d bs) both.1

  any_split : (xs bs : List (List Access)) → list_any (has_both u d) (xs ++ bs) ≡ true → (list_any (has_both u d) xs ≡ true)
      ⊎ (list_any (has_both u d) bs ≡ true)
  any_split xs bs e = or_cases _ _ (sym (list_any-append (has_both u d) xs bs) ∙ e)

  -- what an inner loop has, the statement has
  mutual
    inner : (x : Stmt) → list_any (has_both u d) (loops x) ≡ true → has_both u d (accesses x) ≡ true
    inner (tree.If' site cond h a k b) e = by (any_split (loops_in a) (loops_in b) e) (inner_in a) (inner_in b)
      where
        by : (list_any (has_both u d) (loops_in a) ≡ true) ⊎ (list_any (has_both u d) (loops_in b) ≡ true) → (list_any (has_both u d) (loops_in a) ≡ true →
            has_both u d (accesses_in a) ≡ true) → (list_any (has_both u d) (loops_in b) ≡ true → has_both u d (accesses_in b) ≡ true) →
            has_both u d (accesses (tree.If' site cond h a k b)) ≡ true
        by (inl t) f g = has_both-second (record { site = site.0; loads = loaded_by cond; stores = None } ∷ []) (accesses_in a ++ accesses_in b)
            (has_both-first (accesses_in a) (accesses_in b) (f t))
        by (inr t) f g = has_both-second (record { site = site.0; loads = loaded_by cond; stores = None } ∷ []) (accesses_in a ++ accesses_in b)
            (has_both-second (accesses_in a) (accesses_in b) (g t))
    inner (tree.While' site cond h a) e = by (or_cases _ _ e) (inner_in a)
      where
        by : (has_both u d (accesses (tree.While' site cond h a)) ≡ true) ⊎ (list_any (has_both u d) (loops_in a) ≡ true) →
            (list_any (has_both u d) (loops_in a) ≡ true → has_both u d (accesses_in a) ≡ true) → has_both u d (accesses (tree.While' site cond h a)) ≡ true
        by (inl t) f = t
        by (inr t) f = has_both-second (record { site = site.0; loads = loaded_by cond; stores = None } ∷ []) (accesses_in a) (f t)
    inner (tree.Region' r site cond h a) e =
        has_both-second (record { site = site.0; loads = loaded_by cond; stores = None } ∷ []) (accesses_in a) (inner_in a e)
    inner (tree.Assign site x v) e = absurd (cc e)
    inner (tree.Store site x i v) e = absurd (cc e)
    inner (tree.Print site v) e = absurd (cc e)
    inner (tree.Break site cond) e = absurd (cc e)
    inner (tree.Call f line args) e = absurd (cc e)

    inner_in : {n : _} (row : Row_of-Stmt n) → list_any (has_both u d) (loops_in row) ≡ true → has_both u d (accesses_in row) ≡ true
    inner_in end_of-Stmt e = absurd (cc e)
    inner_in (more_of-Stmt x rest) e = by (any_split (loops x) (loops_in rest) e) (inner x) (inner_in rest)
      where
        by : (list_any (has_both u d) (loops x) ≡ true) ⊎ (list_any (has_both u d) (loops_in rest) ≡ true) →
            (list_any (has_both u d) (loops x) ≡ true → has_both u d (accesses x) ≡ true) → (list_any (has_both u d) (loops_in rest) ≡ true →
            has_both u d (accesses_in rest) ≡ true) → has_both u d (accesses x ++ accesses_in rest) ≡ true
        by (inl t) f g = has_both-first (accesses x) (accesses_in rest) (f t)
        by (inr t) f g = has_both-second (accesses x) (accesses_in rest) (g t)

  absorbed : (b c : Bool) → (c ≡ true → b ≡ true) → (b || c) ≡ b
  absorbed true c f = refl
  absorbed false true f = sym (f refl)
  absorbed false false f = refl

  module _ (order : u < d) where
    -- a site by itself reaches nothing behind it
    alone : (n : ℕ) → ((n == u) && nat_le d n) ≡ false
    alone n = elim (cases_eq n u) [
      | inl t ↦ ap (λ (b : Bool). b && nat_le d n) (eq-eqb n u t) ∙ lt-leb d n (omega (arith, t, order))
      | inr f ↦ ap (λ (b : Bool). b && nat_le d n) (ne_eqb n u f)
    ]

    -- two sites of a statement whose sites rise
    both_here : (k : ℕ) (xs : List Access) → SitesRise k xs → 0 < length xs → has_both u d xs ≡ (has_site u xs && nat_le d (k + (length xs - 1)))
    both_here k xs rises some = by (has_site u xs) refl
      where
        by : (b : Bool) → has_site u xs ≡ b → (b && has_site d xs) ≡ (b && nat_le d (k + (length xs - 1)))
        by false e = refl
        by true e = let bounds = has_bounds u k xs rises e in has_risen d k xs rises (omega (arith, bounds.0, order)) ∙ turned
          where
            turned : nat_lt d (k + length xs) ≡ nat_le d (k + (length xs - 1))
            turned = elim (cases_lt d (k + length xs)) [
              | inl low ↦ lt-ltb d (k + length xs) low ∙ sym (le-leb d (k + (length xs - 1)) (omega (arith, low, some)))
              | inr high ↦ le-ltb d (k + length xs) (omega (arith, high)) ∙ sym (lt-leb d (k + (length xs - 1)) (omega (arith, high, some)))
            ]

    or_left : (a b c : Bool) → a ≡ false → b ≡ c → (a || b) ≡ c
    or_left a b c p q = ap (λ (x : Bool). x || b) p ∙ q

    mutual
      pub shared : (k : ℕ) (x : Stmt) → SitesRise k (accesses x) → list_any (has_both u d) (loops x) ≡ list_any (reaches u d) (parts None x)
      shared k (tree.Assign site x v) h = sym (or_left _ _ false (alone site.0) refl)
      shared k (tree.Store site x i v) h = sym (or_left _ _ false (alone site.0) refl)
      shared k (tree.Print site v) h = sym (or_left _ _ false (alone site.0) refl)
      shared k (tree.Break site v) h = sym (or_left _ _ false (alone site.0) refl)
      shared k (tree.Call f line args) h = refl
      shared k (tree.If' site cond _ a _ b) h =
          let both = rises_split (suc k) (accesses_in a) (accesses_in b) h.1 in
          list_any-append (has_both u d) (loops_in a) (loops_in b)
          ∙ two_same _ _ _ _ (shared_in (suc k) a both.0) (shared_in (suc k + length (accesses_in a)) b both.1)
          ∙ sym (list_any-append (reaches u d) (parts_in None a) (parts_in None b))
          ∙ sym (or_left _ _ _ (alone site.0) refl)
      shared k (tree.Region' r site cond _ a) h = shared_in (suc k) a h.1 ∙ sym (or_left _ _ _ (alone site.0) refl)
      shared k (tree.While' site cond w a) h =
          absorbed (has_both u d (accesses (tree.While' site cond w a))) (list_any (has_both u d) (loops_in a))
          (λ e. inner (tree.While' site cond w a) (or_right _ _ e))
          ∙ both_here k (accesses (tree.While' site cond w a)) h (omega arith)
          ∙ sym (within (k + (length (accesses (tree.While' site cond w a)) - 1)) (tree.While' site cond w a))
          ∙ sym (ap (λ (o : Option ℕ). list_any (reaches u d) (parts_with o)) (known k (tree.While' site cond w a) h (omega arith)))
        where
          parts_with : Option ℕ → List Part
          parts_with o = part_of o (record { site = site.0; reads = reads cond; store = None }) ∷ parts_in o a

      shared_in : {n : _} (k : ℕ) (row : Row_of-Stmt n) → SitesRise k (accesses_in row) → list_any (has_both u d) (loops_in row) ≡ list_any
          (reaches u d) (parts_in None row)
      shared_in k end_of-Stmt h = refl
      shared_in k (more_of-Stmt x rest) h =
          let both = rises_split k (accesses x) (accesses_in rest) h in
          list_any-append (has_both u d) (loops x) (loops_in rest)
          ∙ two_same _ _ _ _ (shared k x both.0) (shared_in (k + length (accesses x)) rest both.1)
          ∙ sym (list_any-append (reaches u d) (parts None x) (parts_in None rest))
