use Rattle.std.proofs.Common.{◌≡◌, ◌++◌, Bool, false, drop, map}
use Rattle.dp_run_plan.proofs.making.unchecked.Given as goal

abbrev pub invariant-loop-checked : goal.invariant-loop-checked
invariant-loop-checked l = l.made ++ map (λ (_ : Bool). false) (drop l._checked-index l.checked) ≡ map (λ (_ : Bool). false) l.checked
