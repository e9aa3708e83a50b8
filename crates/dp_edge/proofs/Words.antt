-- The words of a text, one after the other.
use Rattle.std.proofs.Common.{◌≡◌, ℕ, zero, suc, ◌+◌, ◌-◌, ◌<◌, ◌≤◌, Bool, true, false, not, cond, nat_lt, List, [], ◌∷◌, length, take, drop, Some, None}
use Rattle.std.proofs.Common.{unwrap_or, refl, sym, ap, ◌∙◌, subst, rules, arith}
use Rattle.std.specs.List.{filter, position, position_or_len}
use Rattle.std.proofs.lemmas.List.{length-drop}
use Rattle.std.proofs.lemmas.List.Sums.{prefix_len-le-length}
use Rattle.std.proofs.Math.ListN.{drop_of_length-le}
use Rattle.dp_edge.specs.Digits.{is_full}
use Rattle.dp_text.specs.Pieces.{onto_first, pieces}
use Rattle.dp_edge.specs.Input.{is_blank, input_words}
use Rattle.dp_text.proofs.PositionLemmas.{next_is, position_some, position_none}

-- how many blanks stand before the first word, and how many bytes before the first blank
abbrev pub blanks : List ℕ → ℕ
blanks = position_or_len (λ byte. not (is_blank byte))

abbrev pub word_len : List ℕ → ℕ
word_len = position_or_len is_blank

drop_next : (n byte : ℕ) (text : List ℕ) → drop (1 + n) (byte ∷ text) ≡ drop n text
drop_next n byte text = ap (λ k. drop k (byte ∷ text)) (next_is n)

take_next : (n byte : ℕ) (text : List ℕ) → take (1 + n) (byte ∷ text) ≡ byte ∷ take n text
take_next n byte text = ap (λ k. take k (byte ∷ text)) (next_is n)

blanks_case : (byte : ℕ) (text : List ℕ) (blank : Bool) → is_blank byte ≡ blank → input_words (drop (blanks text) text) ≡ input_words text
    → input_words (drop (blanks (byte ∷ text)) (byte ∷ text)) ≡ input_words (byte ∷ text)
blanks_case byte text true e more = rw e (ap input_words (drop_next (blanks text) byte text) ∙ more)
blanks_case byte text false e more = rw e (rw e refl)

-- blanks before a word tell nothing
pub words-drop-blanks : (text : List ℕ) → input_words (drop (blanks text) text) ≡ input_words text
words-drop-blanks [] = refl
words-drop-blanks (byte ∷ text) = blanks_case byte text (is_blank byte) refl (words-drop-blanks text)

-- the pieces after the first, where the rest of the text begins with its blank
abbrev later_pieces : List ℕ → List (List ℕ)
later_pieces [] = []
later_pieces (byte ∷ text) = pieces is_blank text

pieces_case : (byte : ℕ) (text : List ℕ) (blank : Bool) → is_blank byte ≡ blank → pieces is_blank text ≡ take (word_len text) text
    ∷ later_pieces (drop (word_len text) text)
    → pieces is_blank (byte ∷ text) ≡ take (word_len (byte ∷ text)) (byte ∷ text) ∷ later_pieces (drop (word_len (byte ∷ text)) (byte ∷ text))
pieces_case byte text true e more = rw e refl
pieces_case byte text false e more =
    rw e (ap (onto_first byte) more ∙ sym (ap (λ piece. piece ∷ later_pieces (drop (1 + word_len text) (byte ∷ text))) (take_next (word_len text) byte text)
    ∙ ap (λ rest. (byte ∷ take (word_len text) text) ∷ later_pieces rest) (drop_next (word_len text) byte text)))

-- the first piece goes up to the first blank
pieces_split : (text : List ℕ) → pieces is_blank text ≡ take (word_len text) text ∷ later_pieces (drop (word_len text) text)
pieces_split [] = refl
pieces_split (byte ∷ text) = pieces_case byte text (is_blank byte) refl (pieces_split text)

later_case : (byte : ℕ) (text : List ℕ) (blank : Bool) → is_blank byte ≡ blank → filter is_full (later_pieces (drop (word_len text) text)) ≡ input_words
    (drop (word_len text) text)
    → filter is_full (later_pieces (drop (word_len (byte ∷ text)) (byte ∷ text))) ≡ input_words (drop (word_len (byte ∷ text)) (byte ∷ text))
later_case byte text true e more = rw e (rw e refl)
later_case byte text false e more = rw e (ap (λ rest. filter is_full (later_pieces rest)) (drop_next (word_len text) byte text) ∙ more
    ∙ sym (ap input_words (drop_next (word_len text) byte text)))

-- the later words stand in the later pieces
later_words : (text : List ℕ) → filter is_full (later_pieces (drop (word_len text) text)) ≡ input_words (drop (word_len text) text)
later_words [] = refl
later_words (byte ∷ text) = later_case byte text (is_blank byte) refl (later_words text)

full_front : (n byte : ℕ) (text : List ℕ) → 0 < n → is_full (take n (byte ∷ text)) ≡ true
full_front zero byte text lt = absurd (omega (arith, lt))
full_front (suc n) byte text lt = refl

-- a text that begins with a word is that word and what follows it
word_front : (text : List ℕ) → 0 < word_len text → 0 < length text → input_words text ≡ take (word_len text) text ∷ input_words (drop (word_len text) text)
word_front [] some full = absurd (omega (arith, full))
word_front (byte ∷ text) some full =
    let front : is_full (take (word_len (byte ∷ text)) (byte ∷ text)) ≡ true = full_front (word_len (byte ∷ text)) byte text some in
    ap (filter is_full) (pieces_split (byte ∷ text)) ∙ rw front (ap (λ later. take (word_len (byte ∷ text)) (byte ∷ text) ∷ later) (later_words (byte ∷ text)))

-- ---- what `position` tells

else_case : (n len : ℕ) (found : Bool) → nat_lt n len ≡ found → n ≤ len → unwrap_or (cond found (Some n) None) len ≡ n
else_case n len true e le = refl
else_case n len false e le = let ge : len ≤ n = search rules in omega (arith, ge, le)

position_else : (test : ℕ → Bool) (text : List ℕ) → unwrap_or (position test text) (length text) ≡ position_or_len test text
position_else test text = else_case (position_or_len test text) (length text) _ refl (prefix_len-le-length _ text)

-- ---- the first word and what follows it

start_case : (byte : ℕ) (text : List ℕ) (blank : Bool) → is_blank byte ≡ blank → (blanks text < length text → 0 < word_len (drop (blanks text) text))
    → blanks (byte ∷ text) < length (byte ∷ text) → 0 < word_len (drop (blanks (byte ∷ text)) (byte ∷ text))
start_case byte text true e more lt =
    let short : suc (1 + blanks text) ≤ suc (length text) = rw e at lt in
    rw e (subst (λ rest. 0 < word_len rest) (sym (drop_next (blanks text) byte text)) (more (omega (arith, short))))
start_case byte text false e more lt = rw e (rw e (omega arith))

word_starts : (text : List ℕ) → blanks text < length text → 0 < word_len (drop (blanks text) text)
word_starts [] lt = absurd (omega (arith, lt))
word_starts (byte ∷ text) lt = start_case byte text (is_blank byte) refl (word_starts text) lt

-- where no word begins there is none
pub words_none : (text : List ℕ) → position (λ byte. not (is_blank byte)) text ≡ None → input_words text ≡ []
words_none text h =
    sym (words-drop-blanks text) ∙ ap input_words (drop_of_length-le text {i = blanks text} (position_none (λ byte. not (is_blank byte)) text h))

-- what a word begins with, how long it is, and what follows it
pub record NextWord (text rest : List ℕ) (len : ℕ) : Type 0 where
  pub words_are : input_words text ≡ take len rest ∷ input_words (drop len rest)
  pub shorter : length (drop len rest) < length text

pub next_word_is : (text rest : List ℕ) (start len : ℕ) → position (λ byte. not (is_blank byte)) text ≡ Some start
    → rest ≡ drop start text → len ≡ unwrap_or (position is_blank rest) (length rest) → NextWord text rest len
next_word_is text rest start len found split long =
    let at = position_some (λ byte. not (is_blank byte)) text start found in
    let begins : rest ≡ drop (blanks text) text = split ∙ ap (λ k. drop k text) at.0 in
    let word : len ≡ word_len rest = long ∙ position_else is_blank rest in
    let some : 0 < word_len rest = subst (λ l. 0 < word_len l) (sym begins) (word_starts text at.1) in
    let rest_long : length rest ≡ length text - blanks text = ap length begins ∙ length-drop (blanks text) text in
    let left : length (drop len rest) ≡ length rest - len = length-drop len rest in
    record {
      words_are = sym (words-drop-blanks text) ∙ ap input_words (sym begins) ∙ word_front rest some (omega (arith, rest_long, at.1))
          ∙ ap (λ n. take n rest ∷ input_words (drop n rest)) (sym word);
      shorter = omega (arith, left, rest_long, at.1, word, some);
    }
