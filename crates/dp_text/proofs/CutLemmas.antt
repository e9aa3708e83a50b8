-- A text that is cut after each LF.
use Rattle.std.proofs.Common.{◌≡◌, ℕ, suc, ◌+◌, ◌<◌, ◌≤◌, ◌==◌, Bool, true, false, not, cond, List, [], ◌∷◌, ◌++◌, length, take, drop, Some, refl, sym, ap, ◌∙◌}
use Rattle.std.proofs.Common.{rules, arith}
use Rattle.std.specs.List.{position}
use Rattle.dp_text.specs.Pieces.{onto_first}
use Rattle.dp_text.specs.Lines.{lines_of}
use Rattle.dp_text.proofs.WordLemmas.{first_end}
use Rattle.dp_text.proofs.PositionLemmas.{next_is, position_some}

lines_case : (byte : ℕ) (text : List ℕ) (is : Bool) → (byte == 10) ≡ is → (n : ℕ)
    → (n < length text → lines_of text ≡ (take n text ++ 10 ∷ []) ∷ lines_of (drop (n + 1) text)) → cond (not (byte == 10)) (1 + n) 0 < length (byte ∷ text)
    → lines_of (byte ∷ text) ≡ (take (cond (not (byte == 10)) (1 + n) 0) (byte ∷ text) ++ 10 ∷ [])
    ∷ lines_of (drop (cond (not (byte == 10)) (1 + n) 0 + 1) (byte ∷ text))
lines_case byte text true e n more lt =
    let is : byte ≡ 10 = search rules in
    rw e (ap (λ b. (b ∷ []) ∷ lines_of text) is)
lines_case byte text false e n more lt =
    let long : (1 + n) < suc (length text) = rw e at lt in let short : n < length text = omega (arith, long) in
    let plus : (1 + n) + 1 ≡ suc (n + 1) = omega arith in
    rw e (ap (onto_first byte) (more short) ∙ sym (ap (λ k. (take k (byte ∷ text) ++ 10 ∷ []) ∷ lines_of (drop ((1 + n) + 1) (byte ∷ text))) (next_is n)
    ∙ ap (λ k. (byte ∷ (take n text ++ 10 ∷ [])) ∷ lines_of (drop k (byte ∷ text))) plus))

-- up to the first LF
pub lines_front : (text : List ℕ) → first_end 10 text < length text → lines_of text ≡ (take (first_end 10 text) text ++ 10 ∷ [])
    ∷ lines_of (drop (first_end 10 text + 1) text)
lines_front [] lt = absurd (omega (arith, lt))
lines_front (byte ∷ text) lt = lines_case byte text (byte == 10) refl (first_end 10 text) (lines_front text) lt

one_case : (byte : ℕ) (text : List ℕ) (is : Bool) → (byte == 10) ≡ is → (n : ℕ)
    → (length text ≤ n → onto_first byte (lines_of text) ≡ (byte ∷ text) ∷ []) → length (byte ∷ text) ≤ cond (not (byte == 10)) (1 + n) 0 →
    lines_of (byte ∷ text) ≡ (byte ∷ text) ∷ []
one_case byte text true e n more le =
    let none : suc (length text) ≤ 0 = rw e at le in absurd (omega (arith, none))
one_case byte text false e n more le =
    let long : suc (length text) ≤ 1 + n = rw e at le in rw e (more (omega (arith, long)))

-- without an LF there is one line
pub lines_one : (byte : ℕ) (text : List ℕ) → length (byte ∷ text) ≤ first_end 10 (byte ∷ text) → lines_of (byte ∷ text) ≡ (byte ∷ text) ∷ []
lines_one byte [] le = one_case byte [] (byte == 10) refl (first_end 10 []) (λ _. refl) le
lines_one byte (next ∷ text) le =
    one_case byte (next ∷ text) (byte == 10) refl (first_end 10 (next ∷ text)) (λ short. ap (onto_first byte) (lines_one next text short)) le

pub at_end : (text : List ℕ) (len : ℕ) → position (λ b. b == 10) text ≡ Some len → lines_of text ≡ (take len text ++ 10 ∷ []) ∷ lines_of (drop (len + 1) text)
at_end text len h =
    let at = position_some (λ b. b == 10) text len h in
    lines_front text at.1 ∙ ap (λ k. (take k text ++ 10 ∷ []) ∷ lines_of (drop (k + 1) text)) (sym at.0)
