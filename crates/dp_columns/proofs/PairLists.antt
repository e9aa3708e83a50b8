-- Rows of cells and of values side by side.
use Rattle.std.proofs.Common.{◌≡◌, refl, sym, ap, ◌∙◌, ℕ, zero, suc, ◌-◌, List, [], ◌∷◌, ◌++◌, ℤ, length, map, take, drop, slice_get, Some, arith}
use Rattle.std.proofs.lemmas.List.{length-drop}
use Rattle.dp_tree.specs.Eval.{Load}
use Rattle.dp_tree.specs.Step.{Effect}
use Rattle.dp_columns.specs.declared.Pair.{Pair}
use Rattle.dp_columns.specs.declared.pairs.Part.{Part}
use Rattle.dp_columns.specs.Lent.{IsPart}
use Rattle.dp_columns.specs.Paired.{load_of, pairs_of, as_store, pair_load, pair_store}

-- pairs as loads, and these as stores
pub stores_of_pairs : (ps : List Pair) → map as_store (map pair_load ps) ≡ map pair_store ps
stores_of_pairs [] = refl
stores_of_pairs (p ∷ ps) = ap (λ (ss : List Effect). pair_store p ∷ ss) (stores_of_pairs ps)

pub length_pairs : (cs : List ℕ) (vs : List ℤ) → length cs ≡ length vs → length (pairs_of cs vs) ≡ length vs
length_pairs [] vs e = e
length_pairs (c ∷ cs) [] e = absurd (omega (arith, e))
length_pairs (c ∷ cs) (v ∷ vs) e = ap suc (length_pairs cs vs (omega (arith, e)))

pub pairs_pushed : (cs : List ℕ) (vs : List ℤ) (c : ℕ) (v : ℤ) → length cs ≡ length vs →
    pairs_of (cs ++ c ∷ []) (vs ++ v ∷ []) ≡ pairs_of cs vs ++ record { cell = c; value = v } ∷ []
pairs_pushed [] [] c v e = refl
pairs_pushed [] (w ∷ vs) c v e = absurd (omega (arith, e))
pairs_pushed (d ∷ cs) [] c v e = absurd (omega (arith, e))
pairs_pushed (d ∷ cs) (w ∷ vs) c v e = ap (λ (ls : List Load). load_of (d, w) ∷ ls) (pairs_pushed cs vs c v (omega (arith, e)))

pub pairs_dropped : (n : ℕ) (cs : List ℕ) (vs : List ℤ) → pairs_of (drop n cs) (drop n vs) ≡ drop n (pairs_of cs vs)
pairs_dropped zero cs vs = refl
pairs_dropped (suc n) [] vs = refl
pairs_dropped (suc n) (c ∷ cs) [] = nothing (drop n cs)
  where
    nothing : (ds : List ℕ) → pairs_of ds [] ≡ []
    nothing [] = refl
    nothing (d ∷ ds) = refl
pairs_dropped (suc n) (c ∷ cs) (v ∷ vs) = pairs_dropped n cs vs

pub pairs_taken : (n : ℕ) (cs : List ℕ) (vs : List ℤ) → pairs_of (take n cs) (take n vs) ≡ take n (pairs_of cs vs)
pairs_taken zero cs vs = refl
pairs_taken (suc n) [] vs = refl
pairs_taken (suc n) (c ∷ cs) [] = refl
pairs_taken (suc n) (c ∷ cs) (v ∷ vs) = ap (λ (ls : List Load). load_of (c, v) ∷ ls) (pairs_taken n cs vs)

pub pairs_part : (n from : ℕ) (cs : List ℕ) (vs : List ℤ) → pairs_of (take n (drop from cs)) (take n (drop from vs)) ≡ take n (drop from (pairs_of cs vs))
pairs_part n from cs vs = pairs_taken n (drop from cs) (drop from vs) ∙ ap (take n) (pairs_dropped from cs vs)

pub pair_at : (cs : List ℕ) (vs : List ℤ) (at c : ℕ) (v : ℤ) → slice_get cs at ≡ Some c → slice_get vs at ≡ Some v →
    slice_get (pairs_of cs vs) at ≡ Some (record { cell = c; value = v })
pair_at [] vs at c v e f = absurd (cc e)
pair_at (d ∷ cs) [] at c v e f = absurd (cc f)
pair_at (d ∷ cs) (w ∷ vs) zero c v e f = λ k. Some (record { cell = unwrapped e k; value = unwrapped f k })
  where
    unwrapped : {X : Type 0} {a b : X} → Some a ≡ Some b → a ≡ b
    unwrapped g = cc
pair_at (d ∷ cs) (w ∷ vs) (suc at) c v e f = pair_at cs vs at c v e f

even_drop : (n : ℕ) (cs : List ℕ) (vs : List ℤ) → length cs ≡ length vs → length (drop n cs) ≡ length (drop n vs)
even_drop n cs vs e = length-drop n cs ∙ ap (λ (k : ℕ). k - n) e ∙ sym (length-drop n vs)

even_take : (n : ℕ) (cs : List ℕ) (vs : List ℤ) → length cs ≡ length vs → length (take n cs) ≡ length (take n vs)
even_take zero cs vs e = refl
even_take (suc n) [] [] e = refl
even_take (suc n) [] (v ∷ vs) e = absurd (omega (arith, e))
even_take (suc n) (c ∷ cs) [] e = absurd (omega (arith, e))
even_take (suc n) (c ∷ cs) (v ∷ vs) e = ap suc (even_take n cs vs (omega (arith, e)))

pub part_is : (cs : List ℕ) (vs : List ℤ) (ls : List Load) → pairs_of cs vs ≡ ls → length cs ≡ length vs → (from n : ℕ) (p : Part) →
    p.cells.now ≡ take n (drop from cs) → p.values.now ≡ take n (drop from vs) → IsPart (take n (drop from ls)) p
part_is cs vs ls seen even from n p e f = record {
  is = (λ k. pairs_of (e k) (f k)) ∙ pairs_part n from cs vs ∙ ap (λ (xs : List Load). take n (drop from xs)) seen;
  even = ap length e ∙ even_take n (drop from cs) (drop from vs) (even_drop from cs vs even) ∙ ap length (sym f);
}
