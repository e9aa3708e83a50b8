use Rattle.std.proofs.Common.{◌≡◌, drop}
use Rattle.dp_sites.specs.Storings as spec
use Rattle.dp_sites.proofs.moving.mover_in.Given as goal

abbrev pub invariant-loop-statement : goal.invariant-loop-statement
invariant-loop-statement l = spec.mover_in l.moved (drop l.statement-index l.all) ≡ spec.mover_in l.moved l.all
