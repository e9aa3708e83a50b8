use Rattle.std.proofs.Common.{◌≡◌, drop}
use Rattle.std.specs.List.{list_all}
use Rattle.dp_save.specs.steps.Reading.{rests}
use Rattle.dp_save.proofs.memory.all_rest.Given as goal

abbrev pub invariant-loop-info : goal.invariant-loop-info
invariant-loop-info l = list_all (rests l.cells) (drop l.info-index l.vars) ≡ list_all (rests l.cells) l.vars
