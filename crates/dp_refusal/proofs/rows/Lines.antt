-- Lines and statuses that are written out.
use Rattle.std.proofs.Common.{◌≡◌, refl}
use Rattle.std.specs.Prelude.{codes}
use Rattle.dp_base.specs.declared.Quantity.TheVariants.{LogBytes, CheckpointBytes, ListBytes}
use Rattle.dp_refusal.specs.declared.role.Role.TheVariants as role
use Rattle.dp_refusal.specs.declared.offence.Offence.TheVariants.{NotArray}
use Rattle.dp_refusal.specs.declared.refusal.Refusal.TheVariants.{Words, Byte, Syntax, Name, InputWord, ListLine, BatchWord, PlanLine, PlanRule, ProfileLine}
use Rattle.dp_refusal.specs.declared.refusal.Refusal.TheVariants.{CheckpointLine, Limit}
use Rattle.dp_refusal.specs.Refusal.{failed_read_line, refusal_line, refusal_status}

words : refusal_line Words ≡ codes "refused words\n"
words = refl

byte : refusal_line (Byte 12) ≡ codes "refused program byte 12\n"
unfolding Rattle.std.specs.Fmt.digits
byte = refl

syntax : refusal_line (Syntax 0) ≡ codes "refused program syntax token 0\n"
unfolding Rattle.std.specs.Fmt.digits
syntax = refl

name : refusal_line (Name NotArray 31) ≡ codes "refused program not-array line 31\n"
unfolding Rattle.std.specs.Fmt.digits
name = refl

input_word : refusal_line (InputWord 7) ≡ codes "refused input word 7\n"
unfolding Rattle.std.specs.Fmt.digits
input_word = refl

list_line : refusal_line (ListLine 65) ≡ codes "refused list line 65\n"
unfolding Rattle.std.specs.Fmt.digits
list_line = refl

batch_word : refusal_line (BatchWord 2 13) ≡ codes "refused batch input 2 word 13\n"
unfolding Rattle.std.specs.Fmt.digits
batch_word = refl

plan_line : refusal_line (PlanLine 4) ≡ codes "refused plan line 4\n"
unfolding Rattle.std.specs.Fmt.digits
plan_line = refl

plan_rule : refusal_line (PlanRule 5 10) ≡ codes "refused plan rule 5 site 10\n"
unfolding Rattle.std.specs.Fmt.digits
plan_rule = refl

profile_line : refusal_line (ProfileLine 2) ≡ codes "refused profile line 2\n"
unfolding Rattle.std.specs.Fmt.digits
profile_line = refl

checkpoint_line : refusal_line (CheckpointLine 3) ≡ codes "refused checkpoint line 3\n"
unfolding Rattle.std.specs.Fmt.digits
checkpoint_line = refl

log_bytes : refusal_line (Limit LogBytes 16777217) ≡ codes "limit log-bytes 16777217\n"
unfolding Rattle.std.specs.Fmt.digits
log_bytes = refl

checkpoint_bytes : refusal_line (Limit CheckpointBytes 33554433) ≡ codes "limit checkpoint-bytes 33554433\n"
unfolding Rattle.std.specs.Fmt.digits
checkpoint_bytes = refl

list_bytes : refusal_line (Limit ListBytes 16385) ≡ codes "limit list-bytes 16385\n"
unfolding Rattle.std.specs.Fmt.digits
list_bytes = refl

list_unread : failed_read_line role.List ≡ codes "failed read list\n"
list_unread = refl

log_unread : failed_read_line role.Log ≡ codes "failed read log\n"
log_unread = refl

checkpoint_unread : failed_read_line role.Checkpoint ≡ codes "failed read checkpoint\n"
checkpoint_unread = refl

-- what a list, an input of it or a checkpoint is refused for has one status
list_status : refusal_status (ListLine 1) ≡ 4
list_status = refl

batch_status : refusal_status (BatchWord 1 1) ≡ 4
batch_status = refl

checkpoint_status : refusal_status (CheckpointLine 1) ≡ 4
checkpoint_status = refl
