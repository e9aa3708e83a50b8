-- The exit status of what was finished or stopped.
use Rattle.std.specs.Prelude.{ℕ, Result, Ok, Err}
use Rattle.dp_edge.specs.declared.writing.WriteFail.{WriteFail}
use Rattle.dp_edge.specs.declared.writing.WriteFail.TheVariants.{Write, NoMemory}

abbrev pub status_after : Result ℕ WriteFail → ℕ
status_after (Ok status) = status
status_after (Err Write) = 6
status_after (Err NoMemory) = 7
