use Rattle.std.proofs.Common.{◌≡◌, drop}
use Rattle.dp_judge.specs.steps.Adding.{none_closing}
use Rattle.dp_judge.proofs.parts.none_closes.Given as goal

abbrev pub invariant-loop-part : goal.invariant-loop-part
invariant-loop-part l = none_closing (drop l.part-index l.parts) ≡ none_closing l.parts
