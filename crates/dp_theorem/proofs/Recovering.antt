-- The list of iterations that are executed again: ascending, and no other ones.
use Rattle.dp_semantics.proofs.Names.{◌≡◌, ◌⊎◌, inl, inr, refl, sym, ap, ◌∙◌, ℕ, zero, suc, ◌+◌, ◌<◌, ◌≤◌, Bool, true, false, if◌then◌else◌, List, ◌∷◌, length}
use Rattle.dp_semantics.proofs.Names.{slice_index_or, AllPairs, Contains, filter, arith, cases_eq, AllPairs-cons, AllPairs-filter, Program, Plan, begun_count}
use Rattle.dp_semantics.proofs.Names.{numbers_from, RecoversInOrder}
use Rattle.dp_semantics.specs.Recovery.{is_recovered_with}

contains_head : (x y : ℕ) (xs : List ℕ) → x ≡ y → Contains (x ∷ xs) y
contains_head x y xs e = (0, omega arith, e)

contains_tail : (x y : ℕ) (xs : List ℕ) → Contains xs y → Contains (x ∷ xs) y
contains_tail x y xs c = (suc c.0, omega (arith, c.1), c.2)

contains_cases : (x y : ℕ) (xs : List ℕ) → Contains (x ∷ xs) y → (x ≡ y) ⊎ Contains xs y
contains_cases x y xs (zero, low, is) = inl is
contains_cases x y xs (suc k, low, is) = inr (k, omega (arith, low), is)

-- the numbers from k on, n of them, with those that pass
module _ (test : ℕ → Bool) where
  abbrev passing : ℕ → ℕ → List ℕ
  passing k n = filter test (numbers_from k n)

  only_passing : (n k i : ℕ) → Contains (passing k n) i → (i < k + n) × (test i ≡ true)
  only_passing zero k i (j, low, is) = absurd (omega (arith, low))
  only_passing (suc n) k i c = by (test k) refl c (λ q. let r = only_passing n (k + 1) i q in (omega (arith, r.0), r.1))
    where
      by : (b : Bool) → test k ≡ b → Contains (if b then k ∷ passing (k + 1) n else passing (k + 1) n) i → (Contains (passing (k + 1) n) i → (i < k + suc n)
          × (test i ≡ true)) → (i < k + suc n) × (test i ≡ true)
      by false t c later = later c
      by true t c later = here (contains_cases k i (passing (k + 1) n) c)
        where
          here : (k ≡ i) ⊎ Contains (passing (k + 1) n) i → (i < k + suc n) × (test i ≡ true)
          here (inl e) = (omega (arith, e), ap test (sym e) ∙ t)
          here (inr q) = later q

  each_passing : (n k i : ℕ) → k ≤ i → i < k + n → test i ≡ true → Contains (passing k n) i
  each_passing zero k i low high t = absurd (omega (arith, low, high))
  each_passing (suc n) k i low high t = by (test k) refl (cases_eq k i) (λ l. each_passing n (k + 1) i (omega (arith, l)) (omega (arith, high)) t)
    where
      by : (b : Bool) → test k ≡ b → (k ≡ i) ⊎ (k ≡ i → ⊥) → (suc k ≤ i → Contains (passing (k + 1) n) i) →
          Contains (if b then k ∷ passing (k + 1) n else passing (k + 1) n) i
      by true u (inl e) later = contains_head k i (passing (k + 1) n) e
      by true u (inr e) later = contains_tail k i (passing (k + 1) n) (later (omega (arith, low, e)))
      by false u (inl e) later = absurd (cc (sym u ∙ ap test e ∙ t))
      by false u (inr e) later = later (omega (arith, low, e))

above : (n k m : ℕ) (d : ℕ) (j : ℕ) → k < m → j < length (numbers_from m n) → k < slice_index_or (numbers_from m n) j d
above zero k m d j less low = absurd (omega (arith, low))
above (suc n) k m d zero less low = less
above (suc n) k m d (suc j) less low = above n k (m + 1) d j (omega (arith, less)) (omega (arith, low))

counted : (n k : ℕ) → AllPairs (λ i j. i < j) (numbers_from k n)
counted zero k = λ i j d l low. absurd (omega (arith, low))
counted (suc n) k = AllPairs-cons (λ i j. i < j) k (numbers_from (k + 1) n) (λ j d low. above n k (k + 1) d j (omega arith) low) (counted n (k + 1))

pub recovers : (p : Program) (plan : Plan) → RecoversInOrder p plan
recovers p plan begins run = record {
  ascends = AllPairs-filter (λ i j. i < j) (is_recovered_with begins p plan run) (numbers_from 0 (begun_count run plan.region))
      (counted (begun_count run plan.region) 0);
  only = λ i c. let r = only_passing (is_recovered_with begins p plan run) (begun_count run plan.region) 0 i c in (omega (arith, r.0), r.1);
  each = λ i low t. each_passing (is_recovered_with begins p plan run) (begun_count run plan.region) 0 i (omega arith) (omega (arith, low)) t;
}
