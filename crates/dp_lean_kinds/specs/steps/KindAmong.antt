-- A site's kind as the code finds it: what is read, and where blocks begin, is looked up.
use Rattle.std.specs.Prelude.{ℕ, if◌then◌else◌, ◌==◌, ◌&&◌, List, nat_lt}
use Rattle.dp_tree.specs.declared.Program.{Program}
use Rattle.dp_plan.specs.declared.Plan.{Plan}
use Rattle.dp_plan.specs.Access.{stage_of}
use Rattle.dp_columns.specs.declared.ColumnKind.{ColumnKind}
use Rattle.dp_columns.specs.declared.ColumnKind.TheVariants as kind
use Rattle.dp_lean_code.specs.declared.tables.LeanTables.{LeanTables}
use Rattle.dp_lean_code.specs.steps.Looked.{known_of}
use Rattle.dp_lean_kinds.specs.declared.form.FormedSite.{FormedSite}
use Rattle.dp_lean_kinds.specs.ColumnKinds.{values_of}
use Rattle.dp_lean_kinds.specs.steps.Read.{has_number}

-- what stage t keeps of the site, where later stages read these
abbrev pub kind_among : Program → Plan → LeanTables → ℕ → List ℕ → FormedSite → ColumnKind
kind_among p plan tables t reads a =
    if (stage_of p plan a.site.0 == t) && has_number a.site.0 reads
    then (if nat_lt 0 ((known_of p plan tables t).count a.site.0) then kind.Block else values_of p plan a.form)
    else kind.Nothing
