-- The changes of an iteration, from the memories before and behind it.
use Rattle.std.specs.Prelude.{ℕ, if◌then◌else◌, List, ℤ, pos, map, filter, length, slice_set}
use Rattle.dp_log.specs.declared.SetOf.{SetOf}
use Rattle.dp_log.specs.Changes.{set_from}
use Rattle.dp_tree.specs.declared.VarInfo.{VarInfo}
use Rattle.dp_tree.specs.Numbering.{numbers_from}
use Rattle.dp_tree.specs.Step.{is_local_of}
use Rattle.dp_view.specs.Changed.{differs}

-- the cells that read otherwise, in ascending order, with what they read
abbrev pub sets_between : List ℤ → List ℤ → List SetOf
sets_between before after = map (set_from after) (filter (differs before after) (numbers_from 0 (length after)))

-- the variable reads 0, where it is a body local of region r
abbrev pub cleared_one : ℕ → VarInfo → List ℤ → List ℤ
cleared_one r x cells = if is_local_of r x.scope then slice_set cells x.first.0 (pos 0) else cells
