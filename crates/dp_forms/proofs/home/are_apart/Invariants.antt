use Rattle.std.proofs.Common.{◌≡◌, drop}
use Rattle.dp_forms.specs.Registers.{homes_apart}
use Rattle.dp_forms.proofs.home.are_apart.Given as goal

abbrev pub invariant-loop-home : goal.invariant-loop-home
invariant-loop-home l = homes_apart (drop l.home-index l.homes) l.first l.count ≡ homes_apart l.homes l.first l.count
