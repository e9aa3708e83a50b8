-- The status and the line of each refusal, the line of a text that couldn't be read, and the status of a run's end.
use Rattle.std.specs.Prelude.{ℕ, List, ◌++◌, codes, decimal}
use Rattle.dp_base.specs.declared.End.{End}
use Rattle.dp_base.specs.declared.End.TheVariants.{Done, Fault, Fuel}
use Rattle.dp_base.specs.declared.Quantity.{Quantity}
use Rattle.dp_base.specs.declared.Quantity.TheVariants.{ProgramBytes, Nesting, Operators, ElseIf, Functions, Cells, InlinedSize, RegionSites, InputBytes}
use Rattle.dp_base.specs.declared.Quantity.TheVariants.{InputWords, PlanBytes, ProfileBytes, LogBytes, CheckpointBytes, ListBytes}
use Rattle.dp_words.specs.Run as source
use Rattle.dp_words.specs.Run.{Source, Least}
use Rattle.dp_refusal.specs.declared.role.Role.{Role}
use Rattle.dp_refusal.specs.declared.role.Role.TheVariants as role
use Rattle.dp_refusal.specs.declared.offence.Offence.{Offence}
use Rattle.dp_refusal.specs.declared.offence.Offence.TheVariants.{Unknown, Twice, NotArray, NotScalar, Arguments, ReadOnly}
use Rattle.dp_refusal.specs.declared.refusal.Refusal.{Refusal}
use Rattle.dp_refusal.specs.declared.refusal.Refusal.TheVariants.{Words, Byte, Syntax, Name, InputWord, ListLine, BatchWord, PlanLine, PlanRule, ProfileLine}
use Rattle.dp_refusal.specs.declared.refusal.Refusal.TheVariants.{CheckpointLine, Limit}

-- a limit's name in messages
abbrev pub quantity_name : Quantity → List ℕ
quantity_name ProgramBytes = codes "program-bytes"
quantity_name Nesting = codes "nesting"
quantity_name Operators = codes "operators"
quantity_name ElseIf = codes "else-if"
quantity_name Functions = codes "functions"
quantity_name Cells = codes "cells"
quantity_name InlinedSize = codes "inlined-size"
quantity_name RegionSites = codes "region-sites"
quantity_name InputBytes = codes "input-bytes"
quantity_name InputWords = codes "input-words"
quantity_name PlanBytes = codes "plan-bytes"
quantity_name ProfileBytes = codes "profile-bytes"
quantity_name LogBytes = codes "log-bytes"
quantity_name CheckpointBytes = codes "checkpoint-bytes"
quantity_name ListBytes = codes "list-bytes"

-- what is wrong with a name, in messages
abbrev pub offence_name : Offence → List ℕ
offence_name Unknown = codes "unknown"
offence_name Twice = codes "twice"
offence_name NotArray = codes "not-array"
offence_name NotScalar = codes "not-scalar"
offence_name Arguments = codes "arguments"
offence_name ReadOnly = codes "read-only"

-- a text's name in messages
abbrev pub role_name : Role → List ℕ
role_name role.Program = codes "program"
role_name role.Input = codes "input"
role_name role.List = codes "list"
role_name role.Plan = codes "plan"
role_name role.Profile = codes "profile"
role_name role.Log = codes "log"
role_name role.Checkpoint = codes "checkpoint"

-- the line of a text that couldn't be read
abbrev pub failed_read_line : Role → List ℕ
failed_read_line r = codes "failed read " ++ (role_name r ++ codes "\n")

-- what the text is for that plans rest on
abbrev pub plans_role : Source → Role
plans_role (source.Named name) = role.Plan
plans_role (Least profile) = role.Profile

-- the lines that say by one number, and by two, where a text is refused
abbrev pub refused_at : List ℕ → ℕ → List ℕ
refused_at what number = codes "refused " ++ (what ++ (codes " " ++ (decimal number ++ codes "\n")))

abbrev pub refused_between : List ℕ → ℕ → List ℕ → ℕ → List ℕ
refused_between what number within other =
    codes "refused " ++ (what ++ (codes " " ++ (decimal number ++ (codes " " ++ (within ++ (codes " " ++ (decimal other ++ codes "\n")))))))

-- the lines of a name that offends, and of a count above its limit
abbrev pub name_line : Offence → ℕ → List ℕ
name_line offence line = codes "refused program " ++ (offence_name offence ++ (codes " line " ++ (decimal line ++ codes "\n")))

abbrev pub limit_line : Quantity → ℕ → List ℕ
limit_line quantity count = codes "limit " ++ (quantity_name quantity ++ (codes " " ++ (decimal count ++ codes "\n")))

-- the line of a refusal
abbrev pub refusal_line : Refusal → List ℕ
refusal_line Words = codes "refused words\n"
refusal_line (Byte place) = refused_at (codes "program byte") place
refusal_line (Syntax token) = refused_at (codes "program syntax token") token
refusal_line (Name offence line) = name_line offence line
refusal_line (InputWord word) = refused_at (codes "input word") word
refusal_line (ListLine line) = refused_at (codes "list line") line
refusal_line (BatchWord input word) = refused_between (codes "batch input") input (codes "word") word
refusal_line (PlanLine line) = refused_at (codes "plan line") line
refusal_line (PlanRule rule site) = refused_between (codes "plan rule") rule (codes "site") site
refusal_line (ProfileLine line) = refused_at (codes "profile line") line
refusal_line (CheckpointLine line) = refused_at (codes "checkpoint line") line
refusal_line (Limit quantity count) = limit_line quantity count

-- words 2, the program's text 3, every other text 4, a limit 9
abbrev pub refusal_status : Refusal → ℕ
refusal_status Words = 2
refusal_status (Byte place) = 3
refusal_status (Syntax token) = 3
refusal_status (Name offence line) = 3
refusal_status (InputWord word) = 4
refusal_status (ListLine line) = 4
refusal_status (BatchWord input word) = 4
refusal_status (PlanLine line) = 4
refusal_status (PlanRule rule site) = 4
refusal_status (ProfileLine line) = 4
refusal_status (CheckpointLine line) = 4
refusal_status (Limit quantity count) = 9

-- the exit status of a run
abbrev pub exit_status : End → ℕ
exit_status Done = 0
exit_status (Fault fault) = 1
exit_status Fuel = 8
