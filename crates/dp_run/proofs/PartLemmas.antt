-- A plain part, call by call.
use Rattle.std.proofs.Common.{◌≡◌, ℕ, List, ℤ, None, Some, arith}
use Rattle.dp_base.specs.declared.Fault.{Fault as FaultAt}
use Rattle.dp_base.specs.declared.End.TheVariants as how
use Rattle.dp_tree.specs.declared.Program.{Program}
use Rattle.dp_tree.specs.Trace.{Run}
use Rattle.dp_meaning.specs.declared.ends.Part.TheVariants.{Plain}
use Rattle.dp_meaning.specs.declared.ends.PartEnd.TheVariants.{Done, Fault, Fuel, Going}
use Rattle.dp_meaning.specs.MachineState.{MachineState, next_part, rest_of_run}
use Rattle.dp_meaning.specs.declared.ends.PartEnd.{PartEnd}
use Rattle.dp_meaning.specs.PartRun.{PartRun}
use Rattle.dp_run.specs.steps.Calls.{PartSteps}
use Rattle.dp_run.specs.Stretches.{Behind, Leads, HasPassed}
use Rattle.dp_run.proofs.Passing.{off_plain_part, passed_on, starts_behind}
use Rattle.dp_run.proofs.Leading.{part_behind, part_done, part_fault, part_fuel}

-- No region is reached in a plain part.
pub part_passed : (turns : ℕ) (first old new : MachineState) (before after : List ℤ) (end : PartEnd) → PartRun turns old new before after end →
    HasPassed (rest_of_run first) (rest_of_run old) 0 → HasPassed (rest_of_run first) (rest_of_run new) 0
part_passed turns first old new before after end call a =
    passed_on (rest_of_run first) (rest_of_run old) (rest_of_run new) 0 0 (omega arith) a call.went.events call.went.configs call.went.moved.run
    (λ r h. starts_behind (rest_of_run old) (rest_of_run new) r call.went.events call.went.configs call.went.moved.run
    (off_plain_part r call.went.configs call.went.plain))

-- The part has begun and isn't over.
pub record PartSoFar (old now : MachineState) : Type 0 where
  pub plain : next_part now ≡ Plain
  pub passed : HasPassed (rest_of_run old) (rest_of_run now) 0
  pub behind : (p : Program) (input : List ℤ) (fuel : ℕ) (run : Run) (n : ℕ) → Behind p input fuel run n old → Behind p input fuel run n now

module _ (old mid new : MachineState) (h : PartSoFar old mid) where
  pub steps_passed : (end : PartEnd) → PartSteps mid new end → HasPassed (rest_of_run old) (rest_of_run new) 0
  steps_passed end s = part_passed s.made.turns old mid new s.before s.after end s.made.call h.passed

  pub part_going : PartSteps mid new Going → PartSoFar old new
  part_going s = record {
    plain = s.made.call.stops.0;
    passed = steps_passed Going s;
    behind = λ p input fuel run n b. part_behind p input fuel run n s.made.turns mid new s.before s.after (h.behind p input fuel run n b) Going s.made.call;
  }

  pub part_ends : PartSteps mid new Done → (p : Program) (input : List ℤ) (fuel : ℕ) (run : Run) (n : ℕ) → Behind p input fuel run n old →
      Leads p input fuel run n new None
  part_ends s p input fuel run n b = part_done p input fuel run n s.made.turns mid new s.before s.after (h.behind p input fuel run n b) s.made.call

  pub part_faults : (fault : FaultAt) → PartSteps mid new (Fault fault) → (p : Program) (input : List ℤ) (fuel : ℕ) (run : Run) (n : ℕ) →
      Behind p input fuel run n old → Leads p input fuel run n new (Some (how.Fault fault))
  part_faults fault s p input fuel run n b =
      part_fault p input fuel run n s.made.turns mid new s.before s.after (h.behind p input fuel run n b) fault s.made.call

  pub part_spent : PartSteps mid new Fuel → (p : Program) (input : List ℤ) (fuel : ℕ) (run : Run) (n : ℕ) → Behind p input fuel run n old →
      Leads p input fuel run n new (Some how.Fuel)
  part_spent s p input fuel run n b = part_fuel p input fuel run n s.made.turns mid new s.before s.after (h.behind p input fuel run n b) s.made.call
