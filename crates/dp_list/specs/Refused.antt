-- Texts that are no list, with the line at which they are refused; and what a text is read as.
use Rattle.std.specs.Prelude.{ℕ, List, Result, Ok, Err}
use Rattle.dp_text.specs.Lines.{lines_of}
use Rattle.dp_text.specs.Refused.{IsRefusedAt}
use Rattle.dp_list.specs.declared.ListFail.{ListFail}
use Rattle.dp_list.specs.declared.ListFail.TheVariants.{Refused, NoMemory}
use Rattle.dp_list.specs.ListText.{IsList, ListLines}

-- what a text is read as: the names that its lines list, or the line at which it is refused; want of memory may come at any place
abbrev pub ReadsAsList : List ℕ → Result (List (List ℕ)) ListFail → Type 0
ReadsAsList bytes (Ok names) = ListLines (lines_of bytes) names
ReadsAsList bytes (Err (Refused line)) = IsRefusedAt IsList (lines_of bytes) line
ReadsAsList bytes (Err NoMemory) = Unit {0}
