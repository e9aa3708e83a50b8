-- The text that is read behind the plans: a log, or a checkpoint.
use Rattle.std.specs.Prelude.{ℕ, ◌+◌, ◌<◌, ◌≤◌, List, length, Option, Some, None, Result, Ok, Err}
use Rattle.dp_base.specs.declared.Quantity.TheVariants.{LogBytes, CheckpointBytes}
use Rattle.dp_base.specs.declared.limits.TheConstants.{LOG_BYTES, CHECKPOINT_BYTES}
use Rattle.dp_tree.specs.declared.Program.{Program}
use Rattle.dp_save.specs.declared.Checkpoint.{Checkpoint as Point}
use Rattle.dp_save.specs.CheckpointText.{CheckpointText}
use Rattle.dp_save.specs.Refused.{IsRefusedCheckpoint}
use Rattle.dp_refusal.specs.declared.role.Role.{Role}
use Rattle.dp_refusal.specs.declared.role.Role.TheVariants as role
use Rattle.dp_refusal.specs.declared.refusal.Refusal.{Refusal}
use Rattle.dp_refusal.specs.declared.refusal.Refusal.TheVariants.{CheckpointLine, Limit}
use Rattle.dp_load.specs.Roles.{Contents, HoldsText}

-- the text under this name
pub data Last : Type 0 where
  Log : List ℕ → Last
  Checkpoint : List ℕ → Last

abbrev pub last_name : Last → List ℕ
last_name (Log name) = name
last_name (Checkpoint name) = name

abbrev pub last_role : Last → Role
last_role (Log name) = role.Log
last_role (Checkpoint name) = role.Checkpoint

-- The text of a log is taken as it is, unless it has too many bytes.
pub data ReadsLog (text : List ℕ) : Result (List ℕ) Refusal → Type 0 where
  LogTooLong : LOG_BYTES < length text → ReadsLog text (Err (Limit LogBytes (LOG_BYTES + 1)))
  LogTaken : length text ≤ LOG_BYTES → ReadsLog text (Ok text)

-- The text is read as this checkpoint of the expanded program, or refused for the first of the causes that stands: its length, its lines.
pub data ReadsCheckpoint (p : Program) (text : List ℕ) : Result Point Refusal → Type 0 where
  CheckpointTooLong : CHECKPOINT_BYTES < length text → ReadsCheckpoint p text (Err (Limit CheckpointBytes (CHECKPOINT_BYTES + 1)))
  NoCheckpoint : (line : ℕ) → length text ≤ CHECKPOINT_BYTES → IsRefusedCheckpoint p text line → ReadsCheckpoint p text (Err (CheckpointLine line))
  CheckpointTaken : (c : Point) → length text ≤ CHECKPOINT_BYTES → CheckpointText p text c → ReadsCheckpoint p text (Ok c)

-- what it gives: nothing, where there is no such text, the bytes of a log, or a checkpoint
pub data LastText : Type 0 where
  Nothing : LastText
  Logged : List ℕ → LastText
  SavedAt : Point → LastText

abbrev pub logged : Result (List ℕ) Refusal → Result LastText Refusal
logged (Ok text) = Ok (Logged text)
logged (Err refusal) = Err refusal

abbrev pub saved_at : Result Point Refusal → Result LastText Refusal
saved_at (Ok c) = Ok (SavedAt c)
saved_at (Err refusal) = Err refusal

-- what the text under the name is read as, for this expanded program
pub data LastOf (contents : Contents) (p : Program) : Option Last → Result LastText Refusal → Type 0 where
  NoLast : LastOf contents p None (Ok Nothing)
  LastLog : (name text : List ℕ) (read : Result (List ℕ) Refusal) → HoldsText contents name text → ReadsLog text read →
      LastOf contents p (Some (Log name)) (logged read)
  LastCheckpoint : (name text : List ℕ) (read : Result Point Refusal) → HoldsText contents name text → ReadsCheckpoint p text read →
      LastOf contents p (Some (Checkpoint name)) (saved_at read)
