-- Where sites ascend, one stands before another in the text exactly where its number is less.
use Rattle.std.proofs.Common.{◌≡◌, ◌⊎◌, inl, inr, refl, sym, ap, ◌∙◌, ℕ, suc, ◌<◌, ◌≤◌, ◌==◌, Bool, true, false, not, ◌&&◌, ◌||◌, if◌then◌else◌, List, [], ◌∷◌}
use Rattle.std.proofs.Common.{arith, eqb-true, eq-eqb, ne_eqb, lt-ltb, le-ltb, nat_lt}
use Rattle.std.proofs.lemmas.Bool.{cases_Bool, cases_eq, cases_order}
use Rattle.std.specs.List.{flat_map, list_any}
use Rattle.dp_tree.specs.declared.Program.{Program}
use Rattle.dp_plan.specs.Access.{Access, accesses, region_in}
use Rattle.dp_plan.specs.Each.{Each}
use Rattle.dp_plan.proofs.EachLemmas.{each_map}
use Rattle.dp_sites.proofs.OuterLoops.{SitesRise}
use Rattle.dp_plan.specs.Checked.{has_site, behind_site, comes_before, share_a_loop}

none_make : (f : Access → Bool) (xs : List Access) → Each (λ x. f x ≡ false) xs → list_any f xs ≡ false
none_make f [] h = refl
none_make f (x ∷ xs) h = ap (λ (b : Bool). b || list_any f xs) h.0 ∙ none_make f xs h.1

-- each site's number is less than those behind it
abbrev pub Ascending : List Access → Type 0
Ascending [] = Unit {0}
Ascending (c ∷ rest) = Each (λ (b : Access). c.site < b.site) rest × Ascending rest

-- a site that is found has what each has
has_one : (n : ℕ) (Q : Access → Type 0) (xs : List Access) → Each Q xs → has_site n xs ≡ true → (x : Access) × (x.site ≡ n) × Q x
has_one n Q [] h e = absurd (cc)
has_one n Q (x ∷ xs) h e = elim (cases_Bool (x.site == n)) [
  | inl t ↦ (x, eqb-true x.site n t, h.0)
  | inr f ↦ has_one n Q xs h.1 (ap (λ (b : Bool). b || has_site n xs) (sym f) ∙ e)
]

has_none : (n : ℕ) (xs : List Access) → Each (λ (x : Access). x.site ≡ n → ⊥) xs → has_site n xs ≡ false
has_none n xs h = none_make (λ (a : Access). a.site == n) xs (each_map _ (λ (x : Access). (x.site == n) ≡ false) (λ x f. ne_eqb x.site n f) xs h)

behind_each : (Q : Access → Type 0) (d : ℕ) (xs : List Access) → Each Q xs → Each Q (behind_site d xs)
behind_each Q d [] h = tt
behind_each Q d (x ∷ xs) h = by (x.site == d) (behind_each Q d xs h.1)
  where
    by : (b : Bool) → Each Q (behind_site d xs) → Each Q (if b then xs else behind_site d xs)
    by true q = h.1
    by false q = q

later_found : (n : ℕ) (x : Access) (xs : List Access) → (x.site ≡ n → ⊥) → has_site n (x ∷ xs) ≡ true → has_site n xs ≡ true
later_found n x xs other e = ap (λ (b : Bool). b || has_site n xs) (sym (ne_eqb x.site n other)) ∙ e

behind_is : (u d : ℕ) (xs : List Access) → Ascending xs → has_site d xs ≡ true → has_site u xs ≡ true → has_site u (behind_site d xs) ≡ nat_lt d u
behind_is u d [] up hd hu = absurd (cc)
behind_is u d (x ∷ xs) up hd hu = elim (cases_eq x.site d) [
  | inl e ↦ ap (λ (b : Bool). has_site u (if b then xs else behind_site d xs)) (eq-eqb x.site d e) ∙ elim (cases_eq x.site u) [
    | inl f ↦ has_none u xs (each_map (λ (b : Access). x.site < b.site) _ (λ b low q. omega (arith, low, q, f)) xs up.0)
        ∙ sym (le-ltb d u (omega (arith, e, f)))
    | inr other ↦
        let there = later_found u x xs other hu in
        let one = has_one u (λ (b : Access). x.site < b.site) xs up.0 there in
        there ∙ sym (lt-ltb d u (omega (arith, one.2, one.1, e)))
  ]
  | inr away ↦ ap (λ (b : Bool). has_site u (if b then xs else behind_site d xs)) (ne_eqb x.site d away) ∙ elim (cases_eq x.site u) [
    | inl f ↦
        let one = has_one d (λ (b : Access). x.site < b.site) xs up.0 (later_found d x xs away hd) in
        has_none u (behind_site d xs) (each_map (λ (b : Access). x.site < b.site) _ (λ b low q. omega (arith, low, q, f)) (behind_site d xs)
        (behind_each (λ (b : Access). x.site < b.site) d xs up.0)) ∙ sym (le-ltb d u (omega (arith, one.1, one.2, f)))
    | inr other ↦ behind_is u d xs up.1 (later_found d x xs away hd) (later_found u x xs other hu)
  ]
]

-- The order of the text by numbers.
pub before_is : (p : Program) (r u d : ℕ) → Ascending (flat_map accesses (region_in p r)) → has_site u (flat_map accesses (region_in p r)) ≡ true →
    has_site d (flat_map accesses (region_in p r)) ≡ true → comes_before p r u d ≡ (nat_lt u d && not (share_a_loop p r u d))
before_is p r u d up hu hd =
    ap (λ (b : Bool). not (u == d) && (not b && not (share_a_loop p r u d))) (behind_is u d (flat_map accesses (region_in p r)) up hd hu) ∙ by (cases_order u d)
  where
    joined : (a b c e s : Bool) → a ≡ b → c ≡ e → (not a && (not c && s)) ≡ (not b && (not e && s))
    joined a b c e s q t = ap (λ (x : Bool). not x && (not c && s)) q ∙ ap (λ (x : Bool). not b && (not x && s)) t

    by : (u ≡ d) ⊎ ((u < d) ⊎ (d < u)) → (not (u == d) && (not (nat_lt d u) && not (share_a_loop p r u d))) ≡ (nat_lt u d && not (share_a_loop p r u d))
    by (inl e) = ap (λ (x : Bool). not x && (not (nat_lt d u) && not (share_a_loop p r u d))) (eq-eqb u d e)
        ∙ sym (ap (λ (x : Bool). x && not (share_a_loop p r u d)) (le-ltb u d (omega (arith, e))))
    by (inr (inl low)) = joined (u == d) false (nat_lt d u) false (not (share_a_loop p r u d)) (ne_eqb u d (λ e. omega (arith, e, low)))
        (le-ltb d u (omega (arith, low))) ∙ sym (ap (λ (x : Bool). x && not (share_a_loop p r u d)) (lt-ltb u d low))
    by (inr (inr high)) = joined (u == d) false (nat_lt d u) true (not (share_a_loop p r u d)) (ne_eqb u d (λ e. omega (arith, e, high))) (lt-ltb d u high)
        ∙ sym (ap (λ (x : Bool). x && not (share_a_loop p r u d)) (le-ltb u d (omega (arith, high))))

high_each : (k : ℕ) (xs : List Access) → SitesRise k xs → Each (λ (b : Access). k ≤ b.site) xs
high_each k [] h = tt
high_each k (x ∷ xs) h =
    (omega (arith, h.0), each_map (λ (b : Access). suc k ≤ b.site) (λ (b : Access). k ≤ b.site) (λ b low. omega (arith, low)) xs (high_each (suc k) xs h.1))

-- sites that go up one by one ascend
pub risen_ascend : (k : ℕ) (xs : List Access) → SitesRise k xs → Ascending xs
risen_ascend k [] h = tt
risen_ascend k (x ∷ xs) h = (
  each_map (λ (b : Access). suc k ≤ b.site) (λ (b : Access). x.site < b.site) (λ b low. omega (arith, low, h.0)) xs (high_each (suc k) xs
      h.1),
  risen_ascend (suc k) xs h.1,
)
