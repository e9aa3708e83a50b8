-- The text behind the plans is read in one way only.
use Rattle.std.proofs.Common.{◌≡◌, ◌∙◌, refl, sym, ap, inl, inr, ℕ, ◌≤◌, ◌<◌, List, [], ◌∷◌, length, Result, Ok, Err, arith}
use Rattle.dp_base.specs.declared.Quantity.TheVariants.{CheckpointBytes, LogBytes}
use Rattle.dp_tree.specs.declared.Program.{Program}
use Rattle.dp_tree.specs.declared.RegionInfo.{RegionInfo}
use Rattle.dp_text.specs.Lines.{lines_of}
use Rattle.dp_text.proofs.RefusedOnce.{one_line}
use Rattle.dp_save.specs.declared.Checkpoint.{Checkpoint}
use Rattle.dp_save.specs.declared.CheckpointFail.TheVariants as fail
use Rattle.dp_save.specs.CheckpointText.{CheckpointText}
use Rattle.dp_save.specs.Refused.{IsCheckpoint, IsRefusedCheckpoint, RefusedBy}
use Rattle.dp_save.proofs.ReadBack.{read_only}
use Rattle.dp_refusal.specs.declared.refusal.Refusal.{Refusal}
use Rattle.dp_refusal.specs.declared.refusal.Refusal.TheVariants.{CheckpointLine, Limit}
use Rattle.dp_load.specs.Last.{ReadsCheckpoint, ReadsLog, CheckpointTaken, CheckpointTooLong, LogTaken, LogTooLong, NoCheckpoint}

-- a log
module _ (text : List ℕ) where
  long_once : {b : Result (List ℕ) Refusal} → 16777216 < length text → ReadsLog text b → Err (Limit LogBytes 16777217) ≡ b
  long_once h (LogTooLong k) = refl
  long_once h (LogTaken k) = absurd (omega (arith, h, k))

  taken_once : {b : Result (List ℕ) Refusal} → length text ≤ 16777216 → ReadsLog text b → Ok text ≡ b
  taken_once h (LogTooLong k) = absurd (omega (arith, h, k))
  taken_once h (LogTaken k) = refl

  pub logs_once : {a b : Result (List ℕ) Refusal} → ReadsLog text a → ReadsLog text b → a ≡ b
  logs_once (LogTooLong h) r = long_once h r
  logs_once (LogTaken h) r = taken_once h r

-- a checkpoint
module _ (p : Program) (text : List ℕ) where
  one_checkpoint : (c other : Checkpoint) → CheckpointText p text c → CheckpointText p text other → c ≡ other
  one_checkpoint c other s t = elim (read_only p text other t (Ok c) s) [
    | inl same ↦ cc same
    | inr clash ↦ absurd (cc clash)
  ]

  none_refused : {A : Type 0} (c : Checkpoint) (line : ℕ) → CheckpointText p text c → IsRefusedCheckpoint p text line → A
  none_refused c line t r = absurd (elim (read_only p text c t (Err (fail.Refused line)) r) [
    | inl clash ↦ cc clash
    | inr clash ↦ cc clash
  ])

  lines_once : (regions : List RegionInfo) (line other : ℕ) → RefusedBy regions (IsCheckpoint p) (lines_of text) line →
      RefusedBy regions (IsCheckpoint p) (lines_of text) other → line ≡ other
  lines_once [] line other r s = r ∙ sym s
  lines_once (region ∷ rest) line other r s = one_line (IsCheckpoint p) (lines_of text) r s

  from_long : {b : Result Checkpoint Refusal} → 33554432 < length text → ReadsCheckpoint p text b → Err (Limit CheckpointBytes 33554433) ≡ b
  from_long h (CheckpointTooLong k) = refl
  from_long h (NoCheckpoint line k r) = absurd (omega (arith, h, k))
  from_long h (CheckpointTaken c k t) = absurd (omega (arith, h, k))

  from_line : {b : Result Checkpoint Refusal} (line : ℕ) → length text ≤ 33554432 → IsRefusedCheckpoint p text line → ReadsCheckpoint p text b →
      Err (CheckpointLine line) ≡ b
  from_line line h r (CheckpointTooLong k) = absurd (omega (arith, h, k))
  from_line line h r (NoCheckpoint other k s) = ap (λ (n : ℕ). Err (CheckpointLine n)) (lines_once p.regions line other r s)
  from_line line h r (CheckpointTaken c k t) = none_refused c line t r

  from_checkpoint : {b : Result Checkpoint Refusal} (c : Checkpoint) → length text ≤ 33554432 → CheckpointText p text c → ReadsCheckpoint p text b → Ok c ≡ b
  from_checkpoint c h t (CheckpointTooLong k) = absurd (omega (arith, h, k))
  from_checkpoint c h t (NoCheckpoint line k r) = none_refused c line t r
  from_checkpoint c h t (CheckpointTaken other k s) = ap (λ (x : Checkpoint). Ok x) (one_checkpoint c other t s)

  pub checkpoints_once : {a b : Result Checkpoint Refusal} → ReadsCheckpoint p text a → ReadsCheckpoint p text b → a ≡ b
  checkpoints_once (CheckpointTooLong h) r = from_long h r
  checkpoints_once (NoCheckpoint line h s) r = from_line line h s r
  checkpoints_once (CheckpointTaken c h t) r = from_checkpoint c h t r
