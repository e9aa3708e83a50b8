-- The one answer for want of memory.
use Rattle.dp_room.specs.declared.NoMemory.{NoMemory}

-- the answer, as a value that clauses can name
abbrev pub no_memory : NoMemory
no_memory = record {}
