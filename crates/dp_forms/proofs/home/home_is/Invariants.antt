use Rattle.std.proofs.Common.{◌≡◌, drop}
use Rattle.dp_forms.specs.Registers.{is_register_home}
use Rattle.dp_forms.proofs.home.home_is.Given as goal

abbrev pub invariant-loop-home : goal.invariant-loop-home
invariant-loop-home l = is_register_home (drop l.home-index l.homes) l.left l.cell ≡ is_register_home l.homes l.register l.cell
