-- One turn of a text that is read line by line, and its end.
use Rattle.std.proofs.Common.{◌≡◌, ℕ, ◌+◌, ◌==◌, Bool, List, [], ◌∷◌, ◌++◌, Option, None, refl, sym, ap, ◌∙◌}
use Rattle.std.specs.List.{position}
use Rattle.dp_text.specs.declared.lines.Reading.{Reading}
use Rattle.dp_text.specs.Lines.{lines_of, after_line, go_on, read_end, read_from}
use Rattle.dp_text.proofs.CutLemmas.{lines_one}
use Rattle.dp_text.proofs.PositionLemmas.{position_none}
use Rattle.dp_text.proofs.Runs.{chomped-line, chomped-none}

module _ {S : Type 0} (next : S → List ℕ → Option S) (is_over : S → Bool) (number : ℕ) (state : S) where
  abbrev behind : List (List ℕ) → Option S → Reading S
  behind lines o = go_on number o (λ later. read_from next is_over (number + 1) later lines)

  -- behind a line
  pub turn : (rest line more : List ℕ) (o : Option S) → lines_of rest ≡ (line ++ 10 ∷ []) ∷ lines_of more → o ≡ next state line
      → read_from next is_over number state (lines_of rest) ≡ go_on number o (λ later. read_from next is_over (number + 1) later (lines_of more))
  turn rest line more o cut is =
      ap (λ ls. read_from next is_over number state ls) cut ∙ ap (λ t. behind (lines_of more) (after_line next state t)) (chomped-line line)
      ∙ ap (λ p. behind (lines_of more) p) (sym is)

  -- where no LF follows
  pub at_rest : (rest : List ℕ) → position (λ byte. byte == 10) rest ≡ None → read_from next is_over number state (lines_of rest) ≡ read_end
      is_over number state rest
  at_rest [] h = refl
  at_rest (byte ∷ rest) h =
      let long = position_none (λ b. b == 10) (byte ∷ rest) h in
      ap (λ ls. read_from next is_over number state ls) (lines_one byte rest long) ∙ ap (λ t. behind [] (after_line next state t)) (chomped-none byte rest long)
