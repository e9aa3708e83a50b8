-- The first word of a line and the words behind it.
use Rattle.std.proofs.Common.{◌≡◌, ℕ, suc, ◌+◌, ◌<◌, ◌≤◌, ◌==◌, Bool, true, false, not, cond, List, [], ◌∷◌, length, take, drop, Option, Some, None, refl, sym}
use Rattle.std.proofs.Common.{ap, ◌∙◌, arith}
use Rattle.std.specs.List.{position, position_or_len}
use Rattle.dp_text.specs.Pieces.{onto_first}
use Rattle.dp_text.specs.Words.{words}
use Rattle.dp_text.proofs.PositionLemmas.{next_is, position_some, position_none}

-- how many bytes stand before the first of this kind
abbrev pub first_end : ℕ → List ℕ → ℕ
first_end byte = position_or_len (λ b. b == byte)

words_case : (byte : ℕ) (text : List ℕ) (is : Bool) → (byte == 32) ≡ is → (n : ℕ)
    → (n < length text → words text ≡ take n text ∷ words (drop (n + 1) text)) → cond (not (byte == 32)) (1 + n) 0 < length (byte ∷ text)
    → words (byte ∷ text) ≡ take (cond (not (byte == 32)) (1 + n) 0) (byte ∷ text) ∷ words (drop (cond (not (byte == 32)) (1 + n) 0 + 1) (byte ∷ text))
words_case byte text true e n more lt = rw e refl
words_case byte text false e n more lt =
    let long : (1 + n) < suc (length text) = rw e at lt in let short : n < length text = omega (arith, long) in
    let plus : (1 + n) + 1 ≡ suc (n + 1) = omega arith in
    rw e (ap (onto_first byte) (more short) ∙ sym (ap (λ k. take k (byte ∷ text) ∷ words (drop ((1 + n) + 1) (byte ∷ text))) (next_is n)
    ∙ ap (λ k. (byte ∷ take n text) ∷ words (drop k (byte ∷ text))) plus))

-- up to the first space
pub words_front : (text : List ℕ) → first_end 32 text < length text → words text ≡ take (first_end 32 text) text ∷ words (drop (first_end 32 text + 1) text)
words_front [] lt = absurd (omega (arith, lt))
words_front (byte ∷ text) lt = words_case byte text (byte == 32) refl (first_end 32 text) (words_front text) lt

one_case : (byte : ℕ) (text : List ℕ) (is : Bool) → (byte == 32) ≡ is → (n : ℕ)
    → (length text ≤ n → words text ≡ text ∷ []) → length (byte ∷ text) ≤ cond (not (byte == 32)) (1 + n) 0 → words (byte ∷ text) ≡ (byte ∷ text) ∷ []
one_case byte text true e n more le =
    let none : suc (length text) ≤ 0 = rw e at le in absurd (omega (arith, none))
one_case byte text false e n more le =
    let long : suc (length text) ≤ 1 + n = rw e at le in rw e (ap (onto_first byte) (more (omega (arith, long))))

-- without a space there is one word
pub words_one : (text : List ℕ) → length text ≤ first_end 32 text → words text ≡ text ∷ []
words_one [] le = refl
words_one (byte ∷ text) le = one_case byte text (byte == 32) refl (first_end 32 text) (words_one text) le

-- ---- the first word of a line

pub no_space : (text : List ℕ) → position (λ b. b == 32) text ≡ None → words text ≡ text ∷ []
no_space text h = words_one text (position_none (λ b. b == 32) text h)

pub at_space : (text : List ℕ) (len : ℕ) → position (λ b. b == 32) text ≡ Some len → words text ≡ take len text ∷ words (drop (len + 1) text)
at_space text len h =
    let at = position_some (λ b. b == 32) text len h in
    words_front text at.1 ∙ ap (λ k. take k text ∷ words (drop (k + 1) text)) (sym at.0)

-- ---- there is always a word

first_case : (P : List (List ℕ) → Type 0) (byte : ℕ) (pieces : List (List ℕ)) → ((word : List ℕ) (rest : List (List ℕ)) → P (word ∷ rest)) →
    P (onto_first byte pieces)
first_case P byte [] full = full (byte ∷ []) []
first_case P byte (first ∷ rest) full = full (byte ∷ first) rest

space_case : (P : List (List ℕ) → Type 0) (byte : ℕ) (text : List ℕ) (is : Bool) → (byte == 32) ≡ is →
    ((word : List ℕ) (rest : List (List ℕ)) → P (word ∷ rest)) → P (words (byte ∷ text))
space_case P byte text true e full = rw e (full [] (words text))
space_case P byte text false e full = rw e (first_case P byte (words text) full)

pub some_word : (P : List (List ℕ) → Type 0) → ((word : List ℕ) (rest : List (List ℕ)) → P (word ∷ rest)) → (text : List ℕ) → P (words text)
some_word P full [] = full [] []
some_word P full (byte ∷ text) = space_case P byte text (byte == 32) refl full

-- words that are no line with one more aren't one with several
pub no_more : {Line : Type 0} (f : List (List ℕ) → Option Line) → ((word : List ℕ) (rest : List (List ℕ)) → f (word ∷ rest) ≡ None) → (text : List ℕ) →
    f (words text) ≡ None
no_more f none = some_word (λ ws. f ws ≡ None) none
