-- Iterations one after the other.
use Rattle.std.proofs.Common.{◌≡◌, refl, sym, ap, ap₂, ◌∙◌, ℕ, zero, suc, ◌+◌, ◌-◌, ◌<◌, ◌≤◌, Bool, true, false, if◌then◌else◌, List, [], ◌∷◌, ◌++◌, ℤ, length}
use Rattle.std.proofs.Common.{take, drop, take-add, Option, Some, None, slice_get, slice_range, arith}
use Rattle.std.proofs.lemmas.List.{drop-drop}
use Rattle.dp_tree.specs.declared.Program.{Program}
use Rattle.dp_tree.specs.Step.{Event}
use Rattle.dp_tree.specs.Trace.{Run, run_of}
use Rattle.dp_tree.specs.Iteration.{stands_at_head, places, starts, start, stop_from, events_from, iteration}
use Rattle.dp_tree.specs.IterationLaws.{events_of_first, IterationsAdjoin}
use Rattle.dp_tree.proofs.RunLaws.{runs_by_step}

-- a part of a list and the part behind it
range_join : {X : Type 0} (xs : List X) (a b c : ℕ) → a ≤ b → b ≤ c → slice_range xs a b ++ slice_range xs b c ≡ slice_range xs a c
range_join {X = X} xs a b c h k =
    let sum : c - a ≡ (b - a) + (c - b) = omega (arith, h, k) in let at : a + (b - a) ≡ b = omega (arith, h) in
    let rest : drop (b - a) (drop a xs) ≡ drop b xs = drop-drop (b - a) a xs ∙ ap (λ (n : ℕ). drop n xs) at in
    sym (ap (λ (n : ℕ). take n (drop a xs)) sum ∙ take-add (b - a) (c - b) (drop a xs) ∙ ap (λ (ys : List X). take (b - a) (drop a xs) ++ take (c - b) ys) rest)

module _ {X : Type 0} (test : X → Bool) where
  within_by : (k a : ℕ) (xs : List X) (rest : (i : ℕ) → slice_get (places test (suc k) xs) i ≡ Some a → (suc k ≤ a) × (a < suc k + length xs))
      (b : Bool) (i : ℕ) →
      slice_get (if b then k ∷ places test (suc k) xs else places test (suc k) xs) i ≡ Some a → (k ≤ a) × (a < k + suc (length xs))
  within_by k a xs rest false i e = let r = rest i e in (omega (arith, r.0), omega (arith, r.1))
  within_by k a xs rest true zero e = let same : k ≡ a = cc in (omega (arith, same), omega (arith, same))
  within_by k a xs rest true (suc i) e = let r = rest i e in (omega (arith, r.0), omega (arith, r.1))

  -- a place lies in the list, from where it is counted
  place_within : (k : ℕ) (xs : List X) (i a : ℕ) → slice_get (places test k xs) i ≡ Some a → (k ≤ a) × (a < k + length xs)
  place_within k [] i a e = absurd (cc)
  place_within k (x ∷ xs) i a e = within_by k a xs (λ j. place_within (suc k) xs j a) (test x) i e

  ascend_by : (k a b : ℕ) (xs : List X) (rest : (i : ℕ) → slice_get (places test (suc k) xs) i ≡ Some a → slice_get (places test (suc k) xs) (suc
      i) ≡ Some b → a < b) (t : Bool) (i : ℕ) →
      slice_get (if t then k ∷ places test (suc k) xs else places test (suc k) xs) i ≡ Some a →
      slice_get (if t then k ∷ places test (suc k) xs else places test (suc k) xs) (suc i) ≡ Some b → a < b
  ascend_by k a b xs rest false i e f = rest i e f
  ascend_by k a b xs rest true zero e f = let same : k ≡ a = cc in let r = place_within (suc k) xs 0 b f in omega (arith, same, r.0)
  ascend_by k a b xs rest true (suc i) e f = rest i e f

  -- a later place is a greater one
  places_ascend : (k : ℕ) (xs : List X) (i a b : ℕ) → slice_get (places test k xs) i ≡ Some a → slice_get (places test k xs) (suc i) ≡ Some b → a < b
  places_ascend k [] i a b e f = absurd (cc)
  places_ascend k (x ∷ xs) i a b e f = ascend_by k a b xs (λ j. places_ascend (suc k) xs j a b) (test x) i e f

module _ (run : Run) (r : ℕ) (one_more : length run.configs ≡ suc (length run.trace)) where
  within : (i k : ℕ) → start run r i ≡ Some k → k ≤ length run.trace
  within i k e = let h = place_within (stands_at_head r) 0 run.configs i k e in omega (arith, h.1, one_more)

  ascending : (i k next : ℕ) → start run r i ≡ Some k → start run r (suc i) ≡ Some next → k < next
  ascending i k next e f = places_ascend (stands_at_head r) 0 run.configs i k next e f

  -- an iteration that is reached has the events from its start to its stop
  iteration_is : (i k : ℕ) → start run r i ≡ Some k → iteration run r i ≡ slice_range run.trace k (stop_from run k (start run r (suc i)))
  iteration_is i k e = ap (λ (o : Option ℕ). events_from run o (start run r (suc i))) e

  unreached : (i : ℕ) → start run r i ≡ None → iteration run r i ≡ []
  unreached i e = ap (λ (o : Option ℕ). events_from run o (start run r (suc i))) e

  -- it doesn't stop before it starts
  stop_after : (i k : ℕ) → start run r i ≡ Some k → (o : Option ℕ) → start run r (suc i) ≡ o → k ≤ stop_from run k o
  stop_after i k e (Some next) f = let h = ascending i k next e f in omega (arith, h)
  stop_after i k e None f = omega arith

  -- the one before an iteration that is reached is reached too
  earlier : (i k : ℕ) → start run r (suc i) ≡ Some k → (j : ℕ) × (start run r i ≡ Some j)
  earlier i k e = found (starts run r) i e
    where
      found : (xs : List ℕ) (i : ℕ) → slice_get xs (suc i) ≡ Some k → (j : ℕ) × (slice_get xs i ≡ Some j)
      found [] i e = absurd (cc)
      found (x ∷ xs) zero e = (x, refl)
      found (x ∷ xs) (suc i) e = found xs i e

  first_before : (first i k : ℕ) → start run r 0 ≡ Some first → start run r i ≡ Some k → first ≤ k
  first_before first zero k e f = let same : first ≡ k = cc in omega (arith, same)
  first_before first (suc i) k e f =
      let before = earlier i k f in let h = first_before first i before.0 e before.1 in let up = ascending i before.0 k before.1 f in
      omega (arith, h, up)

  joined : (first i k : ℕ) → start run r 0 ≡ Some first → start run r i ≡ Some k → events_of_first run r (suc i) ≡ slice_range run.trace first
      (stop_from run k (start run r (suc i)))
  joined first zero k e f =
      let same : first ≡ k = cc in iteration_is 0 k f ∙ ap (λ (j : ℕ). slice_range run.trace j (stop_from run k (start run r 1))) (sym same)
  joined first (suc i) k e f =
      let before = earlier i k f in
      let so_far = joined first i before.0 e before.1 ∙ ap (λ (o : Option ℕ). slice_range run.trace first (stop_from run before.0 o)) f in
      ap₂ (λ (xs ys : List Event). xs ++ ys) so_far (iteration_is (suc i) k f)
      ∙ range_join run.trace first k (stop_from run k (start run r (suc (suc i)))) (first_before first (suc i) k e f)
      (stop_after (suc i) k f (start run r (suc (suc i))) refl)

pub iterations_adjoin : (p : Program) (input : List ℤ) → IterationsAdjoin p input
iterations_adjoin p input fuel c r = record {
  ascending = ascending run r one_more;
  within = within run r one_more;
  unreached = unreached run r one_more;
  joined = joined run r one_more;
}
  where
    run : Run
    run = run_of p input fuel c

    one_more : length run.configs ≡ suc (length run.trace)
    one_more = (runs_by_step p input fuel c).one_more
