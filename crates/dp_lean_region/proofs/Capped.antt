-- How many iterations may go together.
use Rattle.std.proofs.Common.{◌≡◌, subst, ℕ, ◌≤◌, [], Bool, true, length, if◌then◌else◌}
use Rattle.std.specs.List.{list_all}
use Rattle.dp_tree.specs.declared.Program.{Program}
use Rattle.dp_tree.specs.Numbering.{numbers_from}
use Rattle.dp_plan.specs.declared.Plan.{Plan}
use Rattle.dp_semantics.specs.EpochKey.{EpochKey}
use Rattle.dp_lean_code.specs.Known.{paying_marks}
use Rattle.dp_lean_epoch.specs.Steps.{keeps_memory}
use Rattle.dp_lean_epoch.proofs.Caps.{batches_kept}
use Rattle.dp_lean_region.specs.Region.{IsCap}

module _ (p : Program) (plan : Plan) where
  -- some epoch of the plan
  abbrev some_key : EpochKey
  some_key = record { program = p; plan = plan; input = []; first = 0; base = []; steps = 0; fuel = 0 }

  -- as many as may be, where each stage keeps its memory
  pub cap_where : (cap : ℕ) → 1 ≤ cap → cap ≤ 64 → list_all (keeps_memory p plan) (numbers_from 1 (length plan.stages)) ≡ true → IsCap p plan cap
  cap_where cap some most all = record {
    some = some;
    most = most;
    single = λ s loses. subst (λ (b : Bool). (if b then cap else 1) ≤ 1) all ((batches_kept (paying_marks p plan) some_key).cap cap s loses);
  }
