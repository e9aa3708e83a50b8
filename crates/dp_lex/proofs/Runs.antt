-- How far a class of bytes reaches at the front of a text.
use Rattle.std.proofs.Common.{◌≡◌, ℕ, suc, ◌<◌, ◌≤◌, Bool, true, false, [], ◌∷◌, ◌++◌, slice_index, length, take, All, refl, arith}
use Rattle.std.specs.List.{prefix_len}
use Rattle.std.proofs.lemmas.List.{get_or-take, length-take-le}
use Rattle.std.proofs.lemmas.List.Sums.{prefix_len_passes, prefix_len-le-length}
use Rattle.dp_lex.specs.Characters.{Text}

-- each byte of the run passes
pub run_passes : (p : ℕ → Bool) (z : Text) (n : ℕ) → n ≡ prefix_len p z → All (λ b. p b ≡ true) (take n z)
run_passes p z n e k d h =
    let within = prefix_len-le-length p z in let bound : n ≤ length z = omega (arith, within, e) in
    let shorter : k < n = omega (arith, length-take-le n z bound, h) in
    let before : k < prefix_len p z = omega (arith, e, shorter) in
    rw (get_or-take n z k d shorter) (prefix_len_passes p z k d before)

-- a run is at least as long as any front that passes
pub run_reaches : (p : ℕ → Bool) (w rest : Text) → All (λ b. p b ≡ true) w → length w ≤ prefix_len p (w ++ rest)
run_reaches p [] rest all = omega arith
run_reaches p (b ∷ w) rest all =
    let here : p b ≡ true = all 0 b (omega arith) in
    rw here (omega (arith, run_reaches p w rest (λ k d h. all (suc k) d (omega (arith, h)))))

-- a front that passes, before a byte that doesn't, is the run
pub run_exact : (p : ℕ → Bool) (w rest : Text) → All (λ b. p b ≡ true) w → prefix_len p rest ≡ 0 → prefix_len p (w ++ rest) ≡ length w
run_exact p [] rest all stop = stop
run_exact p (b ∷ w) rest all stop =
    let here : p b ≡ true = all 0 b (omega arith) in
    rw here (omega (arith, run_exact p w rest (λ k d h. all (suc k) d (omega (arith, h))) stop))

-- no run where the first byte doesn't pass
pub run_none : (p : ℕ → Bool) (z : Text) → p (slice_index z 0) ≡ false → prefix_len p z ≡ 0
run_none p [] h = refl
run_none p (b ∷ z) h = rw h

-- a run where the first byte passes
pub run_some : (p : ℕ → Bool) (z : Text) → p 0 ≡ false → p (slice_index z 0) ≡ true → 1 ≤ prefix_len p z
run_some p [] out h = absurd (cc (out, h))
run_some p (b ∷ z) out h = rw h (omega arith)
