-- How the reading of a text ends.
use Rattle.std.specs.Prelude.{ℕ, List, Result, Ok, Err}
use Rattle.dp_text.specs.declared.lines.Reading.{Reading}
use Rattle.dp_text.specs.declared.lines.Reading.TheVariants as reading
use Rattle.dp_tree.specs.declared.Program.{Program}
use Rattle.dp_plan_text.specs.declared.PlanFail.{PlanFail}
use Rattle.dp_plan_text.specs.declared.PlanFail.TheVariants.{Refused, Invalid, NoMemory}
use Rattle.dp_plan_text.specs.declared.reader.Reader.{Reader}
use Rattle.dp_plan_text.specs.declared.WrittenPlans.{WrittenPlans}
use Rattle.dp_plan_text.specs.PlanText.{PlanText}
use Rattle.dp_plan_text.specs.Refused.{IsRefusedPlans}

-- the plans and their version, where the text is over; else its refusal
abbrev pub finished : Reading Reader → Result WrittenPlans PlanFail
finished (reading.Over s) = Ok (record { proved = s.proved; plans = s.plans })
finished (reading.Refused line) = Err (Refused line)

-- the plans of a text, or its refusal
abbrev pub ReadsText : Program → List ℕ → Result WrittenPlans PlanFail → Type 0
ReadsText p bytes (Ok text) = PlanText p bytes text.proved text.plans
ReadsText p bytes (Err (Refused line)) = IsRefusedPlans p bytes line
ReadsText p bytes (Err (Invalid rule site)) = ⊥
ReadsText p bytes (Err NoMemory) = Unit {0}
