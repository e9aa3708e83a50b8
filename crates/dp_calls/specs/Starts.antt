-- How the locals of a program start.
use Rattle.std.specs.Prelude.{◌&&◌, Bool, true, ℤ, nat_lt}
use Rattle.std.specs.List.{list_all}
use Rattle.dp_base.specs.Arithmetic.{is_zero}
use Rattle.dp_tree.specs.declared.VarInfo.{VarInfo}
use Rattle.dp_tree.specs.declared.VarScope.{VarScope}
use Rattle.dp_tree.specs.declared.VarScope.TheVariants.{Global, Outer, Body}
use Rattle.dp_tree.specs.declared.Program.{Program}

-- a local starts at 0, and the region in whose body it is declared counts from 1; a file-scope variable may start at any number
abbrev pub is_clear_start : ℤ → VarScope → Bool
is_clear_start start Global = true
is_clear_start start Outer = is_zero start
is_clear_start start (Body r) = nat_lt 0 r && is_zero start

-- the same of a variable's entry
abbrev pub starts_clear : VarInfo → Bool
starts_clear x = is_clear_start x.start x.scope

-- the same of all variables of the program
abbrev pub locals_start_clear : Program → Bool
locals_start_clear p = list_all starts_clear p.vars
