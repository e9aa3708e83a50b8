-- Words without an LF, and the line that is cut behind one; the text of lines is cut into these lines.
use Rattle.std.proofs.Common.{◌≡◌, refl, ap, ℕ, ◌==◌, Bool, true, false, not, ◌&&◌, List, [], ◌∷◌, ◌++◌, ◌∙◌, map}
use Rattle.std.specs.List.{flat_map}
use Rattle.dp_text.specs.Each.{Each}
use Rattle.dp_text.specs.Pieces.{onto_first}
use Rattle.dp_text.specs.Lines.{lines_of}
use Rattle.dp_text.specs.Words.{joined_words}
use Rattle.dp_text.proofs.JoinLemmas.{AreWords, lacks}

abbrev Unbroken : List ℕ → Type 0
Unbroken text = lacks 10 text ≡ true

cut_case : (byte : ℕ) (text more : List ℕ) (is : Bool) → (byte == 10) ≡ is → (not is && lacks 10 text) ≡ true
    → (Unbroken text → lines_of ((text ++ 10 ∷ []) ++ more) ≡ (text ++ 10 ∷ []) ∷ lines_of more) →
    lines_of (((byte ∷ text) ++ 10 ∷ []) ++ more) ≡ ((byte ∷ text) ++ 10 ∷ []) ∷ lines_of more
cut_case byte text more true e h go = absurd (cc h)
cut_case byte text more false e h go = rw e (ap (onto_first byte) (go h))

-- up to the LF behind it
cut_line : (text more : List ℕ) → Unbroken text → lines_of ((text ++ 10 ∷ []) ++ more) ≡ (text ++ 10 ∷ []) ∷ lines_of more
cut_line [] more h = refl
cut_line (byte ∷ text) more h = cut_case byte text more (byte == 10) refl h (cut_line text more)

append_case : (is : Bool) (a ab : List ℕ) → (not is && lacks 10 a) ≡ true → (Unbroken a → Unbroken ab) → (not is && lacks 10 ab) ≡ true
append_case true a ab h go = absurd (cc h)
append_case false a ab h go = go h

unbroken-append : (a b : List ℕ) → Unbroken a → Unbroken b → Unbroken (a ++ b)
unbroken-append [] b h k = k
unbroken-append (byte ∷ a) b h k = append_case (byte == 10) a (a ++ b) h (λ g. unbroken-append a b g k)

unbroken-joined : (ws : List (List ℕ)) → AreWords ws → Unbroken (joined_words ws)
unbroken-joined [] are = absurd are
unbroken-joined (word ∷ []) are = are.0.1
unbroken-joined (word ∷ next ∷ rest) are = unbroken-append word (32 ∷ joined_words (next ∷ rest)) are.0.1 (unbroken-joined (next ∷ rest) are.1)

pub lines_whole : {Line : Type 0} (words_of : Line → List (List ℕ)) {Fits : Line → Type 0} → ((l : Line) → Fits l → AreWords (words_of l)) →
    (ls : List Line) → Each Fits ls
    → lines_of (flat_map (λ l. joined_words (words_of l) ++ 10 ∷ []) ls) ≡ map (λ l. joined_words (words_of l) ++ 10 ∷ []) ls
lines_whole words_of are [] fit = refl
lines_whole words_of are (l ∷ ls) fit =
    cut_line (joined_words (words_of l)) (flat_map (λ k. joined_words (words_of k) ++ 10 ∷ []) ls) (unbroken-joined (words_of l) (are l fit.0))
    ∙ ap (λ (rest : List (List ℕ)). (joined_words (words_of l) ++ 10 ∷ []) ∷ rest) (lines_whole words_of are ls fit.1)
