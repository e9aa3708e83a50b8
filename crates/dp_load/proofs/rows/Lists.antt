-- Lists of inputs, and what is refused of them.
use Rattle.std.proofs.Common.{◌≡◌, refl, ◌<◌, arith, ℕ, List, [], ◌∷◌, ◌++◌, map, length, pos, Ok, Err}
use Rattle.std.specs.Prelude.{codes}
use Rattle.dp_base.specs.declared.Quantity.TheVariants.{InputWords}
use Rattle.dp_text.specs.Lines.{lines_of}
use Rattle.dp_refusal.specs.declared.refusal.Refusal.TheVariants.{BatchWord, InputWord, Limit}
use Rattle.dp_list.specs.ListText.{IsList}
use Rattle.dp_load.specs.Lists.{in_list}

-- a refused word is told with its input's number, and a limit as it is
word_in_list : in_list 2 (Err (InputWord 13)) ≡ Err (BatchWord 2 13)
word_in_list = refl

limit_in_list : in_list 2 (Err (Limit InputWords 65537)) ≡ Err (Limit InputWords 65537)
limit_in_list = refl

numbers_in_list : in_list 2 (Ok (pos 5 ∷ [])) ≡ Ok (pos 5 ∷ [])
numbers_in_list = refl

-- two names, each on a line of its own
two_lines : lines_of (codes "a.txt\nb c\n") ≡ map (λ (name : List ℕ). name ++ 10 ∷ []) (codes "a.txt" ∷ codes "b c" ∷ [])
two_lines = refl

-- a list has a name at least
no_names : (names : List (List ℕ)) → [] ≡ map (λ (name : List ℕ). name ++ 10 ∷ []) names → length names < 1
no_names [] e = omega arith
no_names (name ∷ rest) e = absurd (cc e)

no_empty_list : IsList (lines_of []) → ⊥
no_empty_list h = let none = no_names h.0 h.1.written in let some = h.1.some_name in omega (arith, none, some)
