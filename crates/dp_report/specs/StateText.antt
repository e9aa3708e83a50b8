-- The file-scope variables at the end of a run.
use Rattle.std.specs.Prelude.{ℕ, ℤ, List, ◌++◌, take, drop, codes}
use Rattle.std.specs.List.{flat_map}
use Rattle.dp_tree.specs.declared.VarInfo.{VarInfo}
use Rattle.dp_tree.specs.Globals.{globals_in}
use Rattle.dp_report.specs.Lines.{line, spaced_signed}

-- a variable's values, in the order of its cells
abbrev pub variable_values : List ℤ → VarInfo → List ℤ
variable_values cells v = take v.length (drop v.first.0 cells)

-- a variable's name and its values
abbrev pub variable_line : List ℤ → VarInfo → List ℕ
variable_line cells v = line (v.name ++ spaced_signed (variable_values cells v))

-- `state`, and a line for each file-scope variable, in text order
abbrev pub state_bytes : List VarInfo → List ℤ → List ℕ
state_bytes vars cells = line (codes "state") ++ flat_map (variable_line cells) (globals_in vars)
