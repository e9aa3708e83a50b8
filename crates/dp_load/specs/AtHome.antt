-- What is so of a program and of numbers that a text is read as: stores at home, locals that start at 0, and numbers of 64 bits.
use Rattle.std.specs.Prelude.{◌≡◌, ℕ, true, List, ℤ, Ok}
use Rattle.dp_base.specs.Arithmetic.{fits}
use Rattle.dp_text.specs.Each.{Each}
use Rattle.dp_tree.specs.declared.Program.{Program}
use Rattle.dp_calls.specs.AtHome.{stores_at_home, numbers_fit}
use Rattle.dp_calls.specs.Starts.{locals_start_clear}
use Rattle.dp_load.specs.Inputs.{input_of}
use Rattle.dp_load.specs.Program.{ReadsAs}

-- what is run for the text stores into the locals of a region's body in that region alone, and its numbers fit 64 bits
abbrev pub ReadProgramsAreAtHome : List ℕ → Type 0
ReadProgramsAreAtHome text = (q : Program) → ReadsAs text (Ok q) → (stores_at_home q ≡ true) × (numbers_fit q ≡ true)

-- the locals of what is run for the text start at 0
abbrev pub ReadProgramsStartClear : List ℕ → Type 0
ReadProgramsStartClear text = (q : Program) → ReadsAs text (Ok q) → locals_start_clear q ≡ true

-- each number that an input's text is read as fits 64 bits
abbrev pub ReadNumbersFit : List ℕ → Type 0
ReadNumbersFit text = (numbers : List ℤ) → input_of text ≡ Ok numbers → Each (λ z. fits z ≡ true) numbers
