use Rattle.std.proofs.Common.{◌≡◌, ◌≤◌, length, take}
use Rattle.dp_calls.specs.Renaming.{named_in}
use Rattle.dp_inline.specs.Named.{renamed_names}
use Rattle.dp_inline.proofs.names.Names.find.Given as goal

abbrev pub invariant-loop-left : goal.invariant-loop-left
invariant-loop-left l = (l.left ≤ length l.rows) × (named_in (renamed_names l.rows) l.source ≡ named_in (renamed_names (take l.left l.rows)) l.source)

abbrev pub decreases-loop-left : goal.decreases-loop-left
decreases-loop-left l = l.left
