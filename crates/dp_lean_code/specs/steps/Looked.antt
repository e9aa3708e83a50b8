-- What a region's tables say when they are looked up.
use Rattle.std.specs.Prelude.{ℕ, if◌then◌else◌, ◌-◌, Bool, nat_le, List, Option, Some, None, slice_get, slice_index}
use Rattle.dp_tree.specs.declared.Program.{Program}
use Rattle.dp_plan.specs.declared.Plan.{Plan}
use Rattle.dp_plan.specs.Access.{first_site}
use Rattle.dp_plan.specs.CheckedTable.{table_says}
use Rattle.dp_lean.specs.Needed.{is_judge}
use Rattle.dp_lean_code.specs.declared.tables.LeanTables.{LeanTables}
use Rattle.dp_lean_code.specs.steps.Walked.{Known}

-- the entry of a variable, in a stage's table if there is one
abbrev pub entry_of : ℕ → Option (List Bool) → Option Bool
entry_of x None = None
entry_of x (Some row) = slice_get row x

-- the entry, or another answer
abbrev pub or_else : Bool → Option Bool → Bool
or_else other None = other
or_else other (Some answer) = answer

-- what is known for the code of stage s; a variable that the program lacks, nothing loads, so that the judge alone has its stores done
abbrev pub known_of : Program → Plan → LeanTables → ℕ → Known
known_of p plan tables s = record {
  count = λ f. if nat_le (first_site p plan) f then slice_index tables.blocks (f - first_site p plan) else 0;
  done = λ x. or_else (is_judge p plan s) (entry_of x (slice_get tables.done (s - 1)));
  checked = table_says p plan;
}
