-- A colon at the end of a word.
use Rattle.std.proofs.Common.{◌≡◌, ℕ, ◌==◌, Bool, true, false, List, [], ◌∷◌, ◌++◌, Option, Some, None, refl, sym, ap, ◌∙◌, rules, tests}
use Rattle.std.specs.Prelude.{if◌then◌else◌}
use Rattle.dp_text.specs.Lines.{onto_text}
use Rattle.dp_save.specs.steps.LineWords.{before_colon}

onto_if : (byte : ℕ) (is : Bool) (digits : List ℕ) → onto_text byte (if is then Some digits else None) ≡ (if is then Some (byte ∷ digits) else None)
onto_if byte true digits = refl
onto_if byte false digits = refl

-- what stands before the last byte, where this is a colon
pub colon_last : (digits : List ℕ) (last : ℕ) → before_colon (digits ++ last ∷ []) ≡ (if last == 58 then Some digits else None)
colon_last [] last = refl
colon_last (byte ∷ []) last = onto_if byte (last == 58) []
colon_last (byte ∷ next ∷ rest) last = ap (onto_text byte) (colon_last (next ∷ rest) last) ∙ onto_if byte (last == 58) (next ∷ rest)

single_case : (byte : ℕ) (digits : List ℕ) (is : Bool) → (byte == 58) ≡ is → (if is then Some [] else None) ≡ Some digits → byte ∷ [] ≡ digits ++ 58 ∷ []
single_case byte digits true e h =
    let none : [] ≡ digits = cc h in let colon : byte ≡ 58 = search (rules, tests) in ap (λ b. b ∷ []) colon ∙ ap (λ d. d ++ 58 ∷ []) none
single_case byte digits false e h = absurd (cc h)

onto_case : (byte : ℕ) (word digits : List ℕ) (o : Option (List ℕ)) → before_colon word ≡ o → onto_text byte o ≡ Some digits →
    ((d : List ℕ) → before_colon word ≡ Some d → word ≡ d ++ 58 ∷ []) → byte ∷ word ≡ digits ++ 58 ∷ []
onto_case byte word digits None e h more = absurd (cc h)
onto_case byte word digits (Some d) e h more = let is : byte ∷ d ≡ digits = cc h in ap (λ l. byte ∷ l) (more d e) ∙ ap (λ x. x ++ 58 ∷ []) is

pub colon_sound : (word digits : List ℕ) → before_colon word ≡ Some digits → word ≡ digits ++ 58 ∷ []
colon_sound [] digits h = absurd (cc h)
colon_sound (byte ∷ []) digits h = single_case byte digits (byte == 58) refl h
colon_sound (byte ∷ next ∷ rest) digits h = onto_case byte (next ∷ rest) digits (before_colon (next ∷ rest)) refl h (λ d. colon_sound (next ∷ rest) d)
