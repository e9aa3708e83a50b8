use Rattle.std.proofs.Common.{◌≡◌, ◌++◌, drop}
use Rattle.dp_sites.specs.steps.Parts.{part_lists}
use Rattle.dp_sites.proofs.part.+parts.Given as goal

abbrev pub invariant-put_parts-loop-statement : goal.invariant-put_parts-loop-statement
invariant-put_parts-loop-statement l = l.out ++ part_lists l.inside.until (drop l.statement-index l.all) ≡ l.initial.out ++ part_lists l.inside.until l.all
