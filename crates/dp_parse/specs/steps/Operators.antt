-- The operators of a level.
use Rattle.std.specs.Prelude.{Bool, if◌then◌else◌, Option, Some, None}
use denote.Enum.Bare.{sameb}
use Rattle.dp_base.specs.declared.UnOp.{UnOp}
use Rattle.dp_tokens.specs.declared.symbol.Symbol.{Symbol}
use Rattle.dp_parse.specs.declared.level.Level.{Level}
use Rattle.dp_parse.specs.declared.level.Join.{Join}
use Rattle.dp_parse.specs.Levels.{joining, prefixing}
use Rattle.dp_parse.specs.contracts.level.Level as levels

-- `==` on levels
unfoldable pub same_level : Level → Level → Bool
same_level = sameb levels.the_type

abbrev pub own : {A : Type 0} → Level → Option (Level × A) → Option A
own level None = None
own level (Some p) = if same_level p.0 level then Some p.1 else None

-- what the symbol makes of two operands of the level, if it is an infix operator of it
unfoldable pub join_at : Level → Symbol → Option Join
join_at level s = own level (joining s)

-- the prefix operator of the level that the symbol is, if it is one
unfoldable pub prefix_at : Level → Symbol → Option UnOp
prefix_at level s = own level (prefixing s)
