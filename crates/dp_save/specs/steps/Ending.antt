-- How the reading of a text ends.
use Rattle.std.specs.Prelude.{Result, Ok, Err}
use Rattle.dp_text.specs.declared.lines.Reading.{Reading}
use Rattle.dp_text.specs.declared.lines.Reading.TheVariants as reading
use Rattle.dp_save.specs.declared.Checkpoint.{Checkpoint}
use Rattle.dp_save.specs.declared.CheckpointFail.{CheckpointFail}
use Rattle.dp_save.specs.declared.CheckpointFail.TheVariants.{Refused}
use Rattle.dp_save.specs.declared.reader.Reader.{Reader}

-- the checkpoint, where the text is over; else its refusal
abbrev pub finished : Reading Reader → Result Checkpoint CheckpointFail
finished (reading.Over s) = Ok s.so_far
finished (reading.Refused line) = Err (Refused line)
