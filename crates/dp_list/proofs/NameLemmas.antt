-- Which lines are names.
use Rattle.std.proofs.Common.{◌≡◌, refl, sym, ℕ, suc, ◌==◌, ◌≤◌, Bool, true, false, not, ◌&&◌, nat_le, List, [], ◌∷◌, length, IsUtf8, Result, Ok, Err}
use Rattle.std.proofs.Common.{MatchResult, is_ok, leb-true, le-leb, ne_eqb, arith}
use Rattle.std.specs.Str.{is_utf8}
use Rattle.std.proofs.lemmas.Str.{IsUtf8-from_is_utf8, is_utf8-from_IsUtf8}
use Rattle.dp_text.proofs.JoinLemmas.{lacks}
use Rattle.dp_text.proofs.Tests.{both}
use Rattle.dp_list.specs.ListText.{IsListed}
use Rattle.dp_list.specs.steps.Naming.{is_name}
use Rattle.dp_list.proofs.OneLine.{no_line_end}

some_byte : (line : List ℕ) → not (length line == 0) ≡ true → 1 ≤ length line
some_byte [] h = absurd (cc h)
some_byte (byte ∷ rest) h = omega arith

-- a list with an element isn't empty
pub not_empty : {A : Type 0} (first : A) (rest : List A) → not (length (first ∷ rest) == 0) ≡ true
not_empty first rest = let other : (suc (length rest) == 0) ≡ false = ne_eqb (suc (length rest)) 0 (λ e. absurd (omega (arith, e))) in rw other refl

has_byte : (line : List ℕ) → 1 ≤ length line → not (length line == 0) ≡ true
has_byte [] h = absurd (omega (arith, h))
has_byte (byte ∷ rest) h = not_empty byte rest

-- one that passes the test
pub listed : (line : List ℕ) → lacks 10 line ≡ true → is_name line ≡ true → IsListed line
listed line alone h =
    let all = both (not (length line == 0) && nat_le (length line) 255) (is_utf8 line) h in
    let sizes = both (not (length line == 0)) (nat_le (length line) 255) all.first in
    record {
      some_byte = some_byte line sizes.first;
      few_bytes = leb-true (length line) 255 sizes.second;
      text = IsUtf8-from_is_utf8 line all.second;
      one_line = no_line_end line alone;
    }

-- each name passes it
pub named : (line : List ℕ) → IsListed line → is_name line ≡ true
named line l = rw (has_byte line l.some_byte, le-leb (length line) 255 l.few_bytes) (is_utf8-from_IsUtf8 line l.text)

not_text : (bytes : List ℕ) (is : Bool) → is_utf8 bytes ≡ is → ¬ (IsUtf8 bytes) → false ≡ is
not_text bytes true e none = absurd (none (IsUtf8-from_is_utf8 bytes e))
not_text bytes false e none = refl

-- what a conversion to a text tells
pub tells_text : {X E : Type 0} (bytes : List ℕ) (r : Result X E) (P : X → Type 0) (Q : E → Type 0) →
    MatchResult r (λ x. P x × IsUtf8 bytes) (λ e. ¬ (IsUtf8 bytes) × Q e) → is_ok r ≡ is_utf8 bytes
tells_text bytes (Ok x) P Q h = sym (is_utf8-from_IsUtf8 bytes h.1)
tells_text bytes (Err e) P Q h = not_text bytes (is_utf8 bytes) refl h.0
