-- Words that are joined by spaces, and the words of a text.
use Rattle.std.proofs.Common.{◌≡◌, ℕ, ◌<◌, ◌≤◌, ◌^◌, ◌==◌, Bool, true, false, not, ◌&&◌, nat_le, List, [], ◌∷◌, ◌++◌, decimal, refl, sym, ap, ◌∙◌, rules, arith}
use Rattle.std.proofs.Common.{tests}
use Rattle.std.specs.List.{list_all}
use Rattle.dp_text.specs.Digits.{is_digit}
use Rattle.dp_text.specs.Each.{Each}
use Rattle.dp_text.specs.Pieces.{onto_first}
use Rattle.dp_text.specs.Words.{joined_words, words}
use Rattle.dp_text.proofs.NumberText.{digits-decimal}
use Rattle.dp_text.proofs.WordLemmas.{some_word}

-- the byte doesn't stand there
abbrev pub lacks : ℕ → List ℕ → Bool
lacks b [] = true
lacks b (byte ∷ text) = not (byte == b) && lacks b text

word_case : (byte : ℕ) (word rest : List ℕ) (is : Bool) → (byte == 32) ≡ is → (not is && lacks 32 word) ≡ true
    → (lacks 32 word ≡ true → words (word ++ 32 ∷ rest) ≡ word ∷ words rest) → words (byte ∷ (word ++ 32 ∷ rest)) ≡ (byte ∷ word) ∷ words rest
word_case byte word rest true e h more = absurd (cc h)
word_case byte word rest false e h more = rw e (ap (onto_first byte) (more h))

words_word : (word rest : List ℕ) → lacks 32 word ≡ true → words (word ++ 32 ∷ rest) ≡ word ∷ words rest
words_word [] rest h = refl
words_word (byte ∷ word) rest h = word_case byte word rest (byte == 32) refl h (words_word word rest)

last_case : (byte : ℕ) (word : List ℕ) (is : Bool) → (byte == 32) ≡ is → (not is && lacks 32 word) ≡ true
    → (lacks 32 word ≡ true → words word ≡ word ∷ []) → words (byte ∷ word) ≡ (byte ∷ word) ∷ []
last_case byte word true e h more = absurd (cc h)
last_case byte word false e h more = rw e (ap (onto_first byte) (more h))

words_last : (word : List ℕ) → lacks 32 word ≡ true → words word ≡ word ∷ []
words_last [] h = refl
words_last (byte ∷ word) h = last_case byte word (byte == 32) refl h (words_last word)

-- no space and no LF stands there
abbrev pub IsWord : List ℕ → Type 0
IsWord word = (lacks 32 word ≡ true) × (lacks 10 word ≡ true)

abbrev pub AreWords : List (List ℕ) → Type 0
AreWords [] = ⊥
AreWords (first ∷ rest) = IsWord first × Each IsWord rest

pub words-joined : (ws : List (List ℕ)) → AreWords ws → words (joined_words ws) ≡ ws
words-joined [] are = absurd are
words-joined (first ∷ []) are = words_last first are.0.0
words-joined (first ∷ next ∷ rest) are = words_word first (joined_words (next ∷ rest)) are.0.0 ∙ ap (λ ws. first ∷ ws) (words-joined (next ∷ rest) are.1)

joined_first : (byte : ℕ) (ws : List (List ℕ)) → joined_words (onto_first byte ws) ≡ byte ∷ joined_words ws
joined_first byte [] = refl
joined_first byte (word ∷ []) = refl
joined_first byte (word ∷ next ∷ rest) = refl

joined_case : (byte : ℕ) (text : List ℕ) (is : Bool) → (byte == 32) ≡ is → joined_words (words text) ≡ text → joined_words (words (byte ∷ text)) ≡ byte ∷ text
joined_case byte text true e more =
    let same : byte ≡ 32 = search (rules, tests) in
    rw e (some_word (λ ws. joined_words ([] ∷ ws) ≡ 32 ∷ joined_words ws) (λ _ _. refl) text ∙ ap (λ t. 32 ∷ t) more ∙ ap (λ b. b ∷ text) (sym same))
joined_case byte text false e more = rw e (joined_first byte (words text) ∙ ap (λ t. byte ∷ t) more)

pub joined-words : (text : List ℕ) → joined_words (words text) ≡ text
joined-words [] = refl
joined-words (byte ∷ text) = joined_case byte text (byte == 32) refl (joined-words text)

-- ---- digits are a word

digit_case : (b byte : ℕ) (ds : List ℕ) (low high : Bool) → b < 48 → nat_le 48 byte ≡ low → nat_le byte 57 ≡ high →
    ((low && high) && list_all is_digit ds) ≡ true
    → (list_all is_digit ds ≡ true → lacks b ds ≡ true) → (not (byte == b) && lacks b ds) ≡ true
digit_case b byte ds true true small e f h more =
    let above : 48 ≤ byte = search rules in
    let other : (byte == b) ≡ false = search (rules, tests) in rw other (more h)
digit_case b byte ds _ _ small e f h more = absurd (cc h)

lacks-digits : (b : ℕ) → b < 48 → (ds : List ℕ) → list_all is_digit ds ≡ true → lacks b ds ≡ true
lacks-digits b small [] h = refl
lacks-digits b small (byte ∷ ds) h = digit_case b byte ds (nat_le 48 byte) (nat_le byte 57) small refl refl h (lacks-digits b small ds)

pub decimal_word : (n : ℕ) → n < 2 ^ 64 → IsWord (decimal n)
decimal_word n h = (lacks-digits 32 (omega arith) (decimal n) (digits-decimal n h), lacks-digits 10 (omega arith) (decimal n) (digits-decimal n h))
