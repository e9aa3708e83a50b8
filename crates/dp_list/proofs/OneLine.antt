-- A line has no LF but the one at its end.
use Rattle.std.proofs.Common.{◌≡◌, ◌≢◌, refl, subst, ℕ, ◌==◌, Bool, true, false, not, ◌&&◌, All, Contains, List, [], ◌∷◌, Option, Some, None}
use Rattle.std.specs.Prelude.{if◌then◌else◌}
use Rattle.std.proofs.lemmas.List.Elements.{All-nil, All-cons, All-contains}
use Rattle.dp_text.specs.Each.{Each}
use Rattle.dp_text.specs.Pieces.{onto_first}
use Rattle.dp_text.specs.Lines.{lines_of, chomped, onto_text}
use Rattle.dp_text.proofs.JoinLemmas.{lacks}

-- what the line says has no LF
abbrev pub SaysOneLine : List ℕ → Type 0
SaysOneLine line = (text : List ℕ) → chomped line ≡ Some text → lacks 10 text ≡ true

one_byte : (is : Bool) (text : List ℕ) → (if is then Some [] else None) ≡ Some text → lacks 10 text ≡ true
one_byte true text h = let none : [] ≡ text = cc h in subst (λ (t : List ℕ). lacks 10 t ≡ true) none refl
one_byte false text h = absurd (cc h)

byte_more : (byte : ℕ) (said : Option (List ℕ)) (text : List ℕ) → (byte == 10) ≡ false → ((t : List ℕ) → said ≡ Some t → lacks 10 t ≡ true) →
    onto_text byte said ≡ Some text → lacks 10 text ≡ true
byte_more byte None text other says h = absurd (cc h)
byte_more byte (Some t) text other says h =
    let is : byte ∷ t ≡ text = cc h in
    let both : lacks 10 (byte ∷ t) ≡ true = rw other (says t refl) in
    subst (λ (x : List ℕ). lacks 10 x ≡ true) is both

in_front : (byte : ℕ) (piece : List ℕ) → (byte == 10) ≡ false → SaysOneLine piece → SaysOneLine (byte ∷ piece)
in_front byte [] other says text h = one_byte (byte == 10) text h
in_front byte (next_byte ∷ rest) other says text h = byte_more byte (chomped (next_byte ∷ rest)) text other says h

onto_pieces : (byte : ℕ) (pieces : List (List ℕ)) → (byte == 10) ≡ false → Each SaysOneLine pieces → Each SaysOneLine (onto_first byte pieces)
onto_pieces byte [] other each = (λ text h. one_byte (byte == 10) text h, tt)
onto_pieces byte (piece ∷ pieces) other each = (in_front byte piece other each.0, each.1)

cut_case : (byte : ℕ) (text : List ℕ) (is : Bool) → (byte == 10) ≡ is → Each SaysOneLine (lines_of text) →
    Each SaysOneLine (if is then (byte ∷ []) ∷ lines_of text else onto_first byte (lines_of text))
cut_case byte text true e each = (λ t h. one_byte (byte == 10) t h, each)
cut_case byte text false e each = onto_pieces byte (lines_of text) e each

-- each line of a text
pub say_one_line : (text : List ℕ) → Each SaysOneLine (lines_of text)
say_one_line [] = tt
say_one_line (byte ∷ text) = cut_case byte text (byte == 10) refl (say_one_line text)

lacks_case : (byte : ℕ) (text : List ℕ) (is : Bool) → (byte == 10) ≡ is → (not is && lacks 10 text) ≡ true → (lacks 10 text ≡ true → All (λ b. b ≢ 10) text) →
    All (λ b. b ≢ 10) (byte ∷ text)
lacks_case byte text true e h more = absurd (cc h)
lacks_case byte text false e h more =
    All-cons (λ b. b ≢ 10) byte text (λ is. let no : (10 == 10) ≡ false = subst (λ (b : ℕ). (b == 10) ≡ false) is e in cc no) (more h)

others : (text : List ℕ) → lacks 10 text ≡ true → All (λ b. b ≢ 10) text
others [] h = All-nil (λ b. b ≢ 10)
others (byte ∷ text) h = lacks_case byte text (byte == 10) refl h (others text)

pub no_line_end : (text : List ℕ) → lacks 10 text ≡ true → ¬ Contains text 10
no_line_end text h c = All-contains (λ b. b ≢ 10) text 10 (others text h) c refl
