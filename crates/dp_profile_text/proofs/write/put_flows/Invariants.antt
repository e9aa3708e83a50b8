use Rattle.std.proofs.Common.{◌≡◌, ◌++◌, drop}
use Rattle.dp_profile_text.specs.WrittenText.{flows_text}
use Rattle.dp_profile_text.proofs.write.put_flows.Given as goal

abbrev pub invariant-loop-flow : goal.invariant-loop-flow
invariant-loop-flow l = l.out ++ flows_text (drop l.flow-index l.flows) ≡ l.initial.out ++ flows_text l.flows
