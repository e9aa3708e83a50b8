-- Texts that aren't in the grammar, with the line at which they are refused; and what a text is read as.
use Rattle.std.specs.Prelude.{◌≡◌, ℕ, ◌⊎◌, List, [], ◌∷◌, Result, Ok, Err}
use Rattle.dp_tree.specs.declared.Program.{Program}
use Rattle.dp_tree.specs.declared.RegionInfo.{RegionInfo}
use Rattle.dp_text.specs.Lines.{lines_of}
use Rattle.dp_text.specs.Refused.{IsRefusedAt}
use Rattle.dp_save.specs.declared.Checkpoint.{Checkpoint}
use Rattle.dp_save.specs.declared.CheckpointFail.{CheckpointFail}
use Rattle.dp_save.specs.declared.CheckpointFail.TheVariants.{Refused, NoMemory}
use Rattle.dp_save.specs.CheckpointText.{CheckpointLines, CheckpointText}

-- these are the lines of a text of a checkpoint
abbrev pub IsCheckpoint : Program → List (List ℕ) → Type 0
IsCheckpoint p lines = (c : Checkpoint) × CheckpointLines p lines c

-- the line from which on lines aren't in the grammar of a program with these regions; without a region no text is, not even by its first line
abbrev pub RefusedBy : List RegionInfo → (List (List ℕ) → Type 0) → List (List ℕ) → ℕ → Type 0
RefusedBy [] IsText lines line = line ≡ 1
RefusedBy (r ∷ rest) IsText lines line = IsRefusedAt IsText lines line

-- the text isn't in the grammar, from this line on
abbrev pub IsRefusedCheckpoint : Program → List ℕ → ℕ → Type 0
IsRefusedCheckpoint p bytes line = RefusedBy p.regions (IsCheckpoint p) (lines_of bytes) line

-- what a text is read as; want of memory may come at any place
abbrev pub ReadsAsCheckpoint : Program → List ℕ → Result Checkpoint CheckpointFail → Type 0
ReadsAsCheckpoint p bytes (Ok c) = CheckpointText p bytes c
ReadsAsCheckpoint p bytes (Err (Refused line)) = IsRefusedCheckpoint p bytes line
ReadsAsCheckpoint p bytes (Err NoMemory) = Unit {0}

-- reading the text gives this checkpoint and nothing else, unless memory is wanting
abbrev pub ReadsOnlyCheckpoint : Program → List ℕ → Checkpoint → Type 0
ReadsOnlyCheckpoint p bytes c = (result : Result Checkpoint CheckpointFail) → ReadsAsCheckpoint p bytes result → (result ≡ Ok c) ⊎ (result ≡ Err NoMemory)
