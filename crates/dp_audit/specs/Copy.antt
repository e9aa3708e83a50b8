-- A copy of a memory that may differ at some cells, and what changed elsewhere.
use Rattle.std.specs.Prelude.{◌≡◌, ℕ, Bool, false, not, ◌&&◌, List, length, ℤ, pos, get_or, filter, map}
use Rattle.std.specs.Ordering.{int_eq}
use Rattle.dp_log.specs.declared.SetOf.{SetOf}
use Rattle.dp_log.specs.Changes.{set_from}
use Rattle.dp_plan.specs.Written.{has}
use Rattle.dp_tree.specs.Numbering.{numbers_from}
use Rattle.dp_audit.specs.declared.known.Known.{Known}

-- the cell is none of these, and holds another value after than before
abbrev pub changed_but : List ℕ → List ℤ → List ℤ → ℕ → Bool
changed_but locals before after c = not (has c locals) && not (int_eq (get_or before c (pos 0)) (get_or after c (pos 0)))

-- the cells that have changed and are none of these, in ascending order, with their new values
abbrev pub changes_but : List ℕ → List ℤ → List ℤ → List SetOf
changes_but locals before after = map (set_from after) (filter (changed_but locals before after) (numbers_from 0 (length after)))

-- The copy is that of this memory, but for the body locals.
pub record IsCopy (known : Known) (cells : List ℤ) : Type 0 where
  pub size : length known.cells ≡ length cells
  pub same : (c : ℕ) → has c known.locals ≡ false → get_or known.cells c (pos 0) ≡ get_or cells c (pos 0)
