-- What the texts behind the plans and the text of a list are read as.
use Rattle.std.proofs.Common.{ℕ, ◌<◌, ◌≤◌, List, length, Ok, Err, IfSome}
use Rattle.std.specs.Option.{IsSomeAnd}
use Rattle.dp_base.specs.declared.Quantity.TheVariants.{CheckpointBytes, ListBytes, LogBytes}
use Rattle.dp_text.specs.Lines.{lines_of}
use Rattle.dp_text.specs.Refused.{IsRefusedAt}
use Rattle.dp_tree.specs.declared.Program.{Program}
use Rattle.dp_list.specs.ListText.{IsList, ListLines}
use Rattle.dp_save.specs.declared.Checkpoint.{Checkpoint}
use Rattle.dp_save.specs.CheckpointText.{CheckpointText}
use Rattle.dp_save.specs.Refused.{IsRefusedCheckpoint}
use Rattle.dp_refusal.specs.declared.refusal.Refusal.TheVariants.{CheckpointLine, Limit, ListLine}
use Rattle.dp_load.specs.Last.{ReadsCheckpoint, ReadsLog, CheckpointTaken, CheckpointTooLong, LogTaken, LogTooLong, NoCheckpoint}
use Rattle.dp_load.specs.Lists.{LoadsList, ReadsList, NoList, Taken, TooLong}
use Rattle.dp_load.specs.Loading.{LoadsCheckpoint, LoadsLog}
use Rattle.dp_load.specs.Roles.{Contents}
use Rattle.dp_load.proofs.LoadLemmas.{long_text}

-- ---- a log

pub log_taken : (text : List ℕ) → length text ≤ 16777216 → ReadsLog text (Ok text)
log_taken text short = LogTaken short

pub long_log : (contents : Contents) (name : List ℕ) → IfSome contents (λ held. IsSomeAnd (held name) (λ content. 16777216 < length content)) →
    LoadsLog contents name (Err (Limit LogBytes 16777217))
long_log contents name h =
    let found = long_text contents name 16777216 h in
    record { text = found.0; held = found.1.0; reads = LogTooLong found.1.1 }

pub ruleset log_texts = (log_taken, long_log)

-- ---- a checkpoint

pub checkpoint_taken : (p : Program) (text : List ℕ) (c : Checkpoint) → length text ≤ 33554432 → CheckpointText p text c → ReadsCheckpoint p text (Ok c)
checkpoint_taken p text c short h = CheckpointTaken c short h

pub no_checkpoint : (p : Program) (text : List ℕ) (line : ℕ) → length text ≤ 33554432 → IsRefusedCheckpoint p text line →
    ReadsCheckpoint p text (Err (CheckpointLine line))
no_checkpoint p text line short h = NoCheckpoint line short h

pub long_checkpoint : (contents : Contents) (p : Program) (name : List ℕ) →
    IfSome contents (λ held. IsSomeAnd (held name) (λ content. 33554432 < length content)) →
    LoadsCheckpoint contents p name (Err (Limit CheckpointBytes 33554433))
long_checkpoint contents p name h =
    let found = long_text contents name 33554432 h in
    record { text = found.0; held = found.1.0; reads = CheckpointTooLong found.1.1 }

pub ruleset checkpoint_texts = (checkpoint_taken, no_checkpoint, long_checkpoint)

-- ---- a list

pub list_taken : (text : List ℕ) (names : List (List ℕ)) → length text ≤ 16384 → ListLines (lines_of text) names → ReadsList text (Ok names)
list_taken text names short h = Taken names short h

pub no_list : (text : List ℕ) (line : ℕ) → length text ≤ 16384 → IsRefusedAt IsList (lines_of text) line → ReadsList text (Err (ListLine line))
no_list text line short h = NoList line short h

pub long_list : (contents : Contents) (name : List ℕ) → IfSome contents (λ held. IsSomeAnd (held name) (λ content. 16384 < length content)) →
    LoadsList contents name (Err (Limit ListBytes 16385))
long_list contents name h =
    let found = long_text contents name 16384 h in
    record { text = found.0; held = found.1.0; reads = TooLong found.1.1 }

pub ruleset list_texts = (list_taken, no_list, long_list)
