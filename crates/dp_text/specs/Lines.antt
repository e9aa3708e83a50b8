-- The lines of a text, and what becomes of a text that is read line by line.
use Rattle.std.specs.Prelude.{ℕ, ◌+◌, ◌==◌, Bool, if◌then◌else◌, List, [], ◌∷◌, Option, Some, None}
use Rattle.dp_text.specs.Pieces.{onto_first}
use Rattle.dp_text.specs.declared.lines.Reading.{Reading}
use Rattle.dp_text.specs.declared.lines.Reading.TheVariants.{Over, Refused}

-- a text is cut after each LF; what follows the last one is a line too
abbrev pub lines_of : List ℕ → List (List ℕ)
lines_of [] = []
lines_of (byte ∷ rest) = if byte == 10 then (byte ∷ []) ∷ lines_of rest else onto_first byte (lines_of rest)

-- a byte in front of what a line says
abbrev pub onto_text : ℕ → Option (List ℕ) → Option (List ℕ)
onto_text byte None = None
onto_text byte (Some text) = Some (byte ∷ text)

-- what a line says: its bytes before the LF, which has to stand at its end
abbrev pub chomped : List ℕ → Option (List ℕ)
chomped [] = None
chomped (byte ∷ []) = if byte == 10 then Some [] else None
chomped (byte ∷ next_byte ∷ rest) = onto_text byte (chomped (next_byte ∷ rest))

-- the state behind a line, where lines say what is known next; a line without its LF can't stand
abbrev pub after_line : {S : Type 0} → (S → List ℕ → Option S) → S → Option (List ℕ) → Option S
after_line next state None = None
after_line next state (Some text) = next state text

-- what becomes of a text behind its last LF, where this follows
abbrev pub read_end : {S : Type 0} → (S → Bool) → ℕ → S → List ℕ → Reading S
read_end is_over number state [] = if is_over state then Over state else Refused number
read_end is_over number state (byte ∷ rest) = Refused number

-- a line that can't stand is refused with its number; behind one that can the reading goes on
abbrev pub go_on : {S : Type 0} → ℕ → Option S → (S → Reading S) → Reading S
go_on number None later = Refused number
go_on number (Some state) later = later state

-- what becomes of lines that are read from this state on, where the first has this number
abbrev pub read_from : {S : Type 0} → (S → List ℕ → Option S) → (S → Bool) → ℕ → S → List (List ℕ) → Reading S
read_from next is_over number state [] = if is_over state then Over state else Refused number
read_from next is_over number state (line ∷ rest) =
    go_on number (after_line next state (chomped line)) (λ later. read_from next is_over (number + 1) later rest)
