use Rattle.std.proofs.Common.{◌≡◌, Bool, drop}
use Rattle.std.specs.List.{list_any}
use Rattle.dp_run_plan.proofs.making.says_no.Given as goal

abbrev pub invariant-loop-checked : goal.invariant-loop-checked
invariant-loop-checked l = list_any (λ (b : Bool). b) (drop l.checked-index l.table) ≡ list_any (λ (b : Bool). b) l.table
