-- Numbers that go up, one by one as those of a region's sites do, or strictly.
use Rattle.std.proofs.Common.{◌≡◌, refl, sym, subst, ℕ, zero, suc, ◌+◌, ◌<◌, ◌≤◌, ◌^◌, Bool, List, [], ◌∷◌, ◌++◌, length, filter, inl, inr, arith}
use Rattle.std.proofs.lemmas.Bool.{cases_Bool}
use Rattle.dp_tree.specs.Numbering.{numbers_from}
use Rattle.dp_plan.specs.Each.{AscendAbove, Each}

-- the numbers go up one by one from k
abbrev pub Ascends : ℕ → List ℕ → Type 0
Ascends k [] = Unit {0}
Ascends k (n ∷ rest) = (n ≡ k) × Ascends (suc k) rest

pub ascends-numbers_from : (k n : ℕ) → Ascends k (numbers_from k n)
ascends-numbers_from k zero = tt
ascends-numbers_from k (suc n) =
    let e : k + 1 ≡ suc k = omega arith in (refl, subst (λ (i : ℕ). Ascends (suc k) (numbers_from i n)) (sym e) (ascends-numbers_from (suc k) n))

pub ascends_split : (k : ℕ) (a b : List ℕ) → Ascends k (a ++ b) → Ascends k a × Ascends (k + length a) b
ascends_split k [] b h = let e : k ≡ k + 0 = omega arith in (tt, subst (λ (i : ℕ). Ascends i b) e h)
ascends_split k (n ∷ a) b h =
    let r = ascends_split (suc k) a b h.1 in
    let e : suc k + length a ≡ k + suc (length a) = omega arith in ((h.0, r.0), subst (λ (i : ℕ). Ascends i b) e r.1)

-- ---- strictly

pub above-ascends : (low k : ℕ) (ns : List ℕ) → Ascends k ns → low < k → k + length ns ≤ 2 ^ 32 → AscendAbove low ns
above-ascends low k [] h lt le = tt
above-ascends low k (n ∷ rest) h lt le = (
  omega (arith, h.0, lt),
  omega (arith, h.0, le),
  subst (λ (i : ℕ). AscendAbove i rest) (sym h.0) (above-ascends k (suc k) rest h.1 (omega arith)
      (omega (arith, le))),
)

pub above_less : (low high : ℕ) (ns : List ℕ) → low ≤ high → AscendAbove high ns → AscendAbove low ns
above_less low high [] le h = tt
above_less low high (n ∷ rest) le h = (omega (arith, h.0, le), h.1, h.2)

pub above-filter : (test : ℕ → Bool) (low : ℕ) (ns : List ℕ) → AscendAbove low ns → AscendAbove low (filter test ns)
above-filter test low [] h = tt
above-filter test low (n ∷ rest) h = elim (cases_Bool (test n)) [
  | inl t ↦ rw t (h.0, h.1, above-filter test n rest h.2)
  | inr t ↦ rw t (above-filter test low rest (above_less low n rest (omega (arith, h.0)) h.2))
]

pub above_each : (low : ℕ) (ns : List ℕ) → AscendAbove low ns → Each (λ n. low < n) ns
above_each low [] h = tt
above_each low (n ∷ rest) h = (h.0, above_each low rest (above_less low n rest (omega (arith, h.0)) h.2))
