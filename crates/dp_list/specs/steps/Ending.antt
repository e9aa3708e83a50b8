-- How the reading of a list ends.
use Rattle.std.specs.Prelude.{ℕ, ◌≤◌, List, Result, Ok, Err}
use Rattle.dp_text.specs.declared.lines.Reading.{Reading}
use Rattle.dp_text.specs.declared.lines.Reading.TheVariants as reading
use Rattle.dp_list.specs.declared.ListFail.{ListFail}
use Rattle.dp_list.specs.declared.ListFail.TheVariants.{Refused}

-- the names, where the text is over; else its refusal
abbrev pub finished : Reading (List (List ℕ)) → Result (List (List ℕ)) ListFail
finished (reading.Over names) = Ok names
finished (reading.Refused line) = Err (Refused line)

-- a line at which the text is refused is among the first 65
abbrev pub IsShort : Reading (List (List ℕ)) → Type 0
IsShort (reading.Over names) = Unit {0}
IsShort (reading.Refused line) = line ≤ 65
