-- A text that grew part by part.
use Rattle.std.proofs.Common.{◌≡◌, refl, ℕ, List, [], ◌∷◌, ◌++◌, append_assoc}
use Rattle.dp_base.specs.declared.Cause.{Cause}
use Rattle.dp_report.specs.CauseText.{causes_bytes}

pub four_parts_and_end : (a b c d e : List ℕ) (old one two three four last : List ℕ) → one ≡ old ++ a → two ≡ one ++ b → three ≡ two ++ c → four ≡ three ++ d →
    last ≡ four ++ e → last ≡ old ++ (a ++ b ++ c ++ d ++ e)
four_parts_and_end a b c d e old one two three four last p q r s t = rw (t, s, r, q, p) (simp append_assoc)

pub no_iterations : (causes : List Cause) → causes_bytes [] causes ≡ []
no_iterations [] = refl
no_iterations (x ∷ causes) = refl
