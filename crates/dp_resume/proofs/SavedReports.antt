-- The reports of a checkpoint, and its place, are within their limits.
use Rattle.std.proofs.Common.{◌≡◌, refl, ◌∙◌, ℕ, zero, suc, ◌+◌, ◌-◌, ◌<◌, ◌≤◌, Bool, true, false, if◌then◌else◌, List, [], ◌∷◌, take, length, filter, min}
use Rattle.std.proofs.Common.{Some, slice_get, count_by, nat_lt, cond, arith, ltb-true}
use Rattle.std.proofs.lemmas.List.{length-take}
use Rattle.std.proofs.lemmas.List.Sums.{sum_by-cons}
use Rattle.dp_base.specs.declared.limits.TheConstants.{FUEL, LISTED}
use Rattle.dp_tree.specs.Iteration.{places}
use Rattle.dp_tree.specs.Numbering.{numbers_from}
use Rattle.dp_save.specs.Fits.{AscendWithin, ReportFits}

-- ---- numbers that ascend

lower : (low less high : ℕ) (xs : List ℕ) → less ≤ low → AscendWithin low high xs → AscendWithin less high xs
lower low less high [] le h = tt
lower low less high (x ∷ xs) le h = let from : less ≤ x = omega (arith, le, h.0) in (from, h.1, h.2)

ascend_take : (k low high : ℕ) (xs : List ℕ) → AscendWithin low high xs → AscendWithin low high (take k xs)
ascend_take zero low high xs h = tt
ascend_take (suc k) low high [] h = tt
ascend_take (suc k) low high (x ∷ xs) h = (h.0, h.1, ascend_take k (suc x) high xs h.2)

ascend_filter : (test : ℕ → Bool) (low count high : ℕ) → low + count ≤ high → AscendWithin low high (filter test (numbers_from low count))
ascend_filter test low zero high le = tt
ascend_filter test low (suc count) high le = by (test low) (ascend_filter test (low + 1) count high (omega (arith, le)))
  where
    by : (b : Bool) → AscendWithin (low + 1) high (filter test (numbers_from (low + 1) count)) →
        AscendWithin low high (if b then low ∷ filter test (numbers_from (low + 1) count) else filter test (numbers_from (low + 1) count))
    by true later = let self : low ≤ low = omega arith in let below : low < high = omega (arith, le) in let next : suc low ≤ low + 1 = omega arith in
        (self, below, lower (low + 1) (suc low) high _ next later)
    by false later = let less : low ≤ low + 1 = omega arith in lower (low + 1) low high _ less later

filter_short : (test : ℕ → Bool) (low count : ℕ) → length (filter test (numbers_from low count)) ≤ count
filter_short test low zero = omega arith
filter_short test low (suc count) = by (test low) (filter_short test (low + 1) count)
  where
    by : (b : Bool) → length (filter test (numbers_from (low + 1) count)) ≤ count →
        length (if b then low ∷ filter test (numbers_from (low + 1) count) else filter test (numbers_from (low + 1) count)) ≤ suc count
    by true later = omega (arith, later)
    by false later = omega (arith, later)

-- the report of some first iterations, without causes
pub report_fits : (region n : ℕ) (test : ℕ → Bool) → n ≤ FUEL →
    ReportFits (record {
      region = region;
      iterations = n;
      recovered_count = length (filter test (numbers_from 0 n));
      recovered = take LISTED (filter test
          (numbers_from 0 n));
      causes = [];
    })
report_fits region n test few = record {
  few = few;
  again = filter_short test 0 n;
  listed = length-take LISTED (filter test (numbers_from 0 n)) ∙ min_turned LISTED (length (filter test (numbers_from 0 n)));
  ascend = ascend_take LISTED 0 n _ (ascend_filter test 0 n n (omega arith));
  uncaused = refl;
}
  where
    min_turned : (a b : ℕ) → min a b ≡ min b a
    min_turned a b = omega arith

-- ---- places

-- the places in front of one
pub place_above : {X : Type 0} (test : X → Bool) (m : ℕ) (xs : List X) (i a : ℕ) → slice_get (places test m xs) i ≡ Some a → m + i ≤ a
place_above test m [] i a at = absurd (cc at)
place_above test m (x ∷ xs) i a at = by (test x) i at (λ j. place_above test (suc m) xs j a)
  where
    by : (b : Bool) (i : ℕ) → slice_get (if b then m ∷ places test (suc m) xs else places test (suc m) xs) i ≡ Some a →
        ((j : ℕ) → slice_get (places test (suc m) xs) j ≡ Some a → suc m + j ≤ a) → m + i ≤ a
    by true zero at later = let same : m ≡ a = cc at in omega (arith, same)
    by true (suc i) at later = let above = later i at in omega (arith, above)
    by false i at later = let above = later i at in omega (arith, above)

-- the places below a number are at most so many
pub places_below : {X : Type 0} (test : X → Bool) (high m : ℕ) (xs : List X) → count_by (λ k. nat_lt k high) (places test m xs) ≤ high - m
places_below test high m [] = omega arith
places_below test high m (x ∷ xs) = by (test x) (places_below test high (suc m) xs)
  where
    one : (b : Bool) → nat_lt m high ≡ b → cond b 1 0 + (high - suc m) ≤ high - m
    one true e = let less = ltb-true m high e in omega (arith, less)
    one false e = omega arith

    by : (b : Bool) → count_by (λ k. nat_lt k high) (places test (suc m) xs) ≤ high - suc m →
        count_by (λ k. nat_lt k high) (if b then m ∷ places test (suc m) xs else places test (suc m) xs) ≤ high - m
    by true later = let c = sum_by-cons (λ k. cond (nat_lt k high) 1 0) m (places test (suc m) xs) in let o = one (nat_lt m high) refl in
        omega (arith, c, o, later)
    by false later = omega (arith, later)
