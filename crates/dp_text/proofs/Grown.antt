-- A text that grew part by part.
use Rattle.std.proofs.Common.{◌≡◌, ℕ, List, [], ◌∷◌, ◌++◌, decimal, ◌∙◌, append_assoc}
use Rattle.dp_text.specs.Labels.{labelled}

-- a text that grew by three parts
pub grew : (out one two three a b c : List ℕ) → one ≡ out ++ a → two ≡ one ++ b → three ≡ two ++ c → three ≡ out ++ (a ++ (b ++ c))
grew out one two three a b c p q r = r ∙ rw (q, p) (simp append_assoc)

-- two numbers, each behind its label, and LF
pub two_numbers : (out one two three label more : List ℕ) (n m : ℕ) → one ≡ out ++ labelled label n → two ≡ one ++ labelled more m → three ≡ two ++ 10 ∷ []
    → three ≡ out ++ (label ++ (decimal n ++ (more ++ (decimal m ++ 10 ∷ []))))
unfolding labelled
two_numbers out one two three label more n m p q r = r ∙ rw (q, p) (simp append_assoc)

-- a number behind its label, and LF
pub one_number : (out one two label : List ℕ) (n : ℕ) → one ≡ out ++ labelled label n → two ≡ one ++ 10 ∷ [] → two ≡ out ++ (label ++ (decimal n ++ 10 ∷ []))
unfolding labelled
one_number out one two label n p q = q ∙ rw p (simp append_assoc)

-- three numbers, each behind its label, and LF
pub three_numbers : (out one two three four label more last : List ℕ) (n m k : ℕ) → one ≡ out ++ labelled label n → two ≡ one ++ labelled more m →
    three ≡ two ++ labelled last k → four ≡ three ++ 10 ∷ []
    → four ≡ out ++ (label ++ (decimal n ++ (more ++ (decimal m ++ (last ++ (decimal k ++ 10 ∷ []))))))
unfolding labelled
three_numbers out one two three four label more last n m k p q r s = s ∙ rw (r, q, p) (simp append_assoc)
