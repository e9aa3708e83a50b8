-- What the text of an input is read as.
use Rattle.std.specs.Prelude.{ℕ, ◌+◌, if◌then◌else◌, List, length, nat_lt, ℤ, Result, Ok, Err}
use Rattle.dp_base.specs.declared.Quantity.TheVariants.{InputBytes, InputWords}
use Rattle.dp_base.specs.declared.limits.TheConstants.{INPUT_BYTES}
use Rattle.dp_edge.specs.declared.input.InputFail.{InputFail}
use Rattle.dp_edge.specs.declared.input.InputFail.TheVariants.{TooMany, Refused, NoMemory}
use Rattle.dp_edge.specs.Input.{numbers_of}
use Rattle.dp_refusal.specs.declared.refusal.Refusal.{Refusal}
use Rattle.dp_refusal.specs.declared.refusal.Refusal.TheVariants.{Words, InputWord, Limit}

-- the refusal of an input's text; want of memory is no refusal, and no run shows what stands for it here
abbrev pub refusal_of : InputFail → Refusal
refusal_of (TooMany count) = Limit InputWords count
refusal_of (Refused word) = InputWord word
refusal_of NoMemory = Words

abbrev pub or_refused : Result (List ℤ) InputFail → Result (List ℤ) Refusal
or_refused (Ok numbers) = Ok numbers
or_refused (Err fail) = Err (refusal_of fail)

-- the numbers of an input's text, or its refusal
abbrev pub input_of : List ℕ → Result (List ℤ) Refusal
input_of text = if nat_lt INPUT_BYTES (length text) then Err (Limit InputBytes (INPUT_BYTES + 1)) else or_refused (numbers_of text)
