-- The text of a batch: the runs of one program under its plans on many inputs.
use Rattle.std.specs.Prelude.{◌≡◌, ℕ, ◌+◌, List, [], ◌∷◌, ◌++◌, ℤ, false, codes, Result, IfOk}
use Rattle.std.specs.List.{AllZip}
use Rattle.dp_room.specs.declared.NoMemory.{NoMemory}
use Rattle.dp_text.specs.Labels.{labelled}
use Rattle.dp_tree.specs.declared.Program.{Program}
use Rattle.dp_plan.specs.declared.Plan.{Plan}
use Rattle.dp_run.specs.RunText.{source_run, trace_text}

-- the text of a run within this fuel, without causes
abbrev pub batched_run_text : Program → List Plan → ℕ → List ℤ → List ℕ
batched_run_text p plans fuel input = trace_text p plans (source_run p input fuel) false

-- the line in front of the text of the input with this number
abbrev pub input_line : ℕ → List ℕ
input_line number = labelled (codes "input ") number ++ 10 ∷ []

-- what `text` gives of each input, behind the input's line; the first has this number
abbrev pub texts_from : (List ℤ → List ℕ) → ℕ → List (List ℤ) → List ℕ
texts_from text number [] = []
texts_from text number (input ∷ rest) = (input_line number ++ text input) ++ texts_from text (number + 1) rest

-- the text of a batch: the inputs have the numbers from 1 on
abbrev pub batch_bytes : Program → List Plan → ℕ → List (List ℤ) → List ℕ
batch_bytes p plans fuel inputs = texts_from (batched_run_text p plans fuel) 1 inputs

-- these are what `text` gives of each input, but where memory was wanting
abbrev pub AreTexts : (List ℤ → List ℕ) → List (List ℤ) → List (Result (List ℕ) NoMemory) → Type 0
AreTexts text inputs texts = AllZip (λ input made. IfOk made (λ bytes. bytes ≡ text input)) inputs texts
