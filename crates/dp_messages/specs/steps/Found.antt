-- What is found of texts that were loaded.
use Rattle.dp_refusal.specs.declared.role.Role.{Role}
use Rattle.dp_load.specs.declared.load.Loaded.{Loaded}
use Rattle.dp_load.specs.declared.load.Loaded.TheVariants as loaded
use Rattle.dp_load.specs.declared.texts.Texts.{Texts}
use Rattle.dp_load.specs.declared.texts.Texts.TheVariants as texts
use Rattle.dp_load.specs.declared.batch.BatchTexts.{BatchTexts}
use Rattle.dp_load.specs.declared.batch.BatchTexts.TheVariants as batch
use Rattle.dp_messages.specs.declared.reason.Finding.{Finding}
use Rattle.dp_messages.specs.declared.reason.Finding.TheVariants.{Refused, Unread, Nothing}

-- of one text with this role
abbrev pub found_in : {X : Type 0} → Role → Loaded X → Finding
found_in role (loaded.Text x) = Nothing
found_in role (loaded.Refused refusal) = Refused refusal
found_in role loaded.Failed = Unread role

-- of the texts of a run
abbrev pub found_in_run : Texts → Finding
found_in_run (texts.Run p numbers plans) = Nothing
found_in_run (texts.Refused refusal) = Refused refusal
found_in_run (texts.Failed role) = Unread role

-- of those of a batch
abbrev pub found_in_batch : BatchTexts → Finding
found_in_batch (batch.Run p inputs plans) = Nothing
found_in_batch (batch.Refused refusal) = Refused refusal
found_in_batch (batch.Failed role) = Unread role
