-- What one call of the program does: the headline.
use Rattle.std.specs.Prelude.{◌≡◌, ◌⊎◌, ◌<◌, ◌≤◌, ◌+◌, ℕ, List, [], ◌∷◌, ◌++◌, Option, Some}
use Rattle.std.specs.Option.{option_map}
use Rattle.dp_edge.specs.Sink.{appended}
use Rattle.dp_edge.specs.Writing.{WritesFront}
use Rattle.dp_refusal.specs.declared.role.Role.{Role}
use Rattle.dp_refusal.specs.Refusal.{failed_read_line}
use Rattle.dp_words.specs.Words.{Asked, Asks}
use Rattle.dp_load.specs.Roles.{Contents}
use Rattle.dp_drive.specs.Answer.{Answer, Commits, IsRead, run_fuel}

-- The outside at one moment: what the shelf holds, how many reads failed, and under which names, what was written, and
-- how many writes failed. A shelf or a sink that doesn't tell has `None`.
pub record Outside : Type 0 where
  pub contents : Contents
  pub failed_reads : ℕ
  pub failed_names : Option (List (List ℕ))
  pub written : Option (List ℕ)
  pub failed_writes : ℕ

-- From before to after these bytes were written, or a front of them.
abbrev pub Wrote : List ℕ → Outside → Outside → Type 0
Wrote bytes before after = after.written ≡ appended bytes before.written

abbrev pub WroteFront : List ℕ → Outside → Outside → Type 0
WroteFront bytes before after = WritesFront bytes before.written after.written

-- No further read failed.
pub record ReadsOn (before after : Outside) : Type 0 where
  pub reads : after.failed_reads ≡ before.failed_reads
  pub names : after.failed_names ≡ before.failed_names

-- This name is the one new failed one.
abbrev pub FailsAt : List ℕ → Outside → Outside → Type 0
FailsAt name before after = after.failed_names ≡ option_map (λ names. names ++ name ∷ []) before.failed_names

-- No read and no write failed: the whole answer was written and the status is its own, or memory was wanting, which is
-- status 7, and a front of the answer was written.
pub data Answered (words : List (List ℕ)) (before after : Outside) : ℕ → Type 0 where
  Whole : (status : ℕ) (bytes : List ℕ) → Answer words before.contents status bytes → Wrote bytes before after → Answered words before after status
  Short : (status : ℕ) (bytes : List ℕ) → Answer words before.contents status bytes → WroteFront bytes before after → Answered words before after 7
  Nothing : after.written ≡ before.written → Answered words before after 7

-- A read failed: that of a text which no refusal keeps from being read. Its line was written and the status is 5, or
-- memory was wanting, which is status 7, and a front of the line was written.
pub record ReadFailed (words : List (List ℕ)) (before after : Outside) (status : ℕ) : Type 0 where
  pub role : Role
  pub name : List ℕ
  pub is_read : IsRead words before.contents role name
  pub names : FailsAt name before after
  pub written : ((status ≡ 5) × Wrote (failed_read_line role) before after) ⊎ ((status ≡ 7) × WroteFront (failed_read_line role) before after)

-- A write failed: a front of the answer was written, or of the line on a failed read, and nothing after it. No other
-- read failed.
pub data WriteFailed (words : List (List ℕ)) (before after : Outside) : Type 0 where
  OfAnswer : (status : ℕ) (bytes : List ℕ) → Answer words before.contents status bytes → ReadsOn before after → WroteFront bytes before after →
      WriteFailed words before after
  OfFailedRead : (role : Role) (name : List ℕ) → IsRead words before.contents role name → before.failed_reads < after.failed_reads → FailsAt name before after →
      WroteFront (failed_read_line role) before after →
      WriteFailed words before after

-- What the words get, from the outside before to the outside after, with the exit status.
pub record Drives (words : List (List ℕ)) (before after : Outside) (status : ℕ) : Type 0 where
  -- no fault: the whole answer was written, or a front of it where memory was wanting
  pub answered : after.failed_reads ≡ before.failed_reads → after.failed_writes ≡ before.failed_writes → Answered words before after status
  -- a failed read: its line, and the one new failed name is the one that the words give
  pub read_failed : before.failed_reads < after.failed_reads → after.failed_writes ≡ before.failed_writes → ReadFailed words before after status
  -- a failed write: nothing is written after it
  pub write_failed : before.failed_writes < after.failed_writes → (status ≡ 6) × WriteFailed words before after
  -- what the shelf holds stays, no count of failures falls, and no name fails where no read does
  pub contents : after.contents ≡ before.contents
  pub reads : before.failed_reads ≤ after.failed_reads
  pub writes : before.failed_writes ≤ after.failed_writes
  pub names : after.failed_reads ≡ before.failed_reads → after.failed_names ≡ before.failed_names

-- A run ended with this status: done, in a fault, or with its fuel spent.
abbrev pub IsEnd : ℕ → Type 0
IsEnd status = (status ≡ 0) ⊎ (status ≡ 1) ⊎ (status ≡ 8)

-- Where a run was asked for and ended, the tally grew by its iterations that were committed from a pipeline.
abbrev pub IsCounted : List (List ℕ) → Contents → ℕ → ℕ → ℕ → Type 0
IsCounted words contents before after status =
    (asked : Asked) (fuel : ℕ) → Asks words asked → run_fuel asked ≡ Some fuel → IsEnd status → (count : ℕ) × Commits words contents count
    × (after ≡ before + count)
