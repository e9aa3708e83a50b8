use Rattle.std.proofs.Common.{◌≡◌, ◌++◌, drop}
use Rattle.dp_plan_text.specs.WrittenText.{assume_texts}
use Rattle.dp_plan_text.proofs.write.put_assumed.Given as goal

abbrev pub invariant-loop-assume : goal.invariant-loop-assume
invariant-loop-assume l = l.out ++ assume_texts (drop l.assume-index l.assumed) ≡ l.initial.out ++ assume_texts l.assumed
