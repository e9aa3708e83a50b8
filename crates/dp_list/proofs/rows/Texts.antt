-- Lists of names, and what isn't one.
use Rattle.std.proofs.Common.{◌≡◌, refl, arith, ℕ, List, [], ◌∷◌, ◌++◌, map}
use Rattle.std.specs.Prelude.{codes}
use Rattle.dp_text.specs.Lines.{lines_of}
use Rattle.dp_list.specs.ListText.{IsList}
use Rattle.dp_list.proofs.ReadOn.{no_names}

-- two names, each on a line of its own; a blank and a CR belong to a name
two_lines : lines_of (codes "a.txt\nb c\r\n") ≡ map (λ (name : List ℕ). name ++ 10 ∷ []) (codes "a.txt" ∷ codes "b c\r" ∷ [])
two_lines = refl

-- a list has a name at least
no_empty_list : IsList (lines_of []) → ⊥
no_empty_list h = let none = no_names h.0 h.1.written in let some = h.1.some_name in omega (arith, none, some)

-- each line has an LF at its end
one_letter : (names : List (List ℕ)) → (97 ∷ []) ∷ [] ≡ map (λ (name : List ℕ). name ++ 10 ∷ []) names → ⊥
one_letter [] e = absurd (cc e)
one_letter ([] ∷ rest) e = absurd (cc e)
one_letter ((byte ∷ []) ∷ rest) e = absurd (cc e)
one_letter ((byte ∷ more ∷ name) ∷ rest) e = absurd (cc e)

no_open_line : IsList (lines_of (codes "a")) → ⊥
no_open_line h = one_letter h.0 h.1.written
