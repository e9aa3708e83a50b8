-- An expression's op where its code stands further on.
use Rattle.std.specs.Prelude.{ℕ, ◌+◌}
use Rattle.dp_code.specs.declared.Op.{Op}
use Rattle.dp_code.specs.declared.Op.TheVariants.{SkipIfZero, SkipIfNotZero}

-- the op, n places further on: a skip leads n places further
abbrev pub moved_by : ℕ → Op → Op
moved_by n (SkipIfZero to) = SkipIfZero (n + to)
moved_by n (SkipIfNotZero to) = SkipIfNotZero (n + to)
moved_by n op = op
