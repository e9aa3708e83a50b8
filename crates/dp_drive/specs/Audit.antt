-- What is answered to a log that is to be audited.
use Rattle.std.specs.Prelude.{ℕ, ◌+◌, if◌then◌else◌, List, [], ◌∷◌, ◌++◌, ℤ, Option, Some, None, codes}
use Rattle.std.specs.Str.{bytes_eq}
use Rattle.dp_text.specs.Labels.{labelled}
use Rattle.dp_text.specs.Lines.{lines_of}
use Rattle.dp_tree.specs.declared.Program.{Program}
use Rattle.dp_calls.specs.Expand.{expand}
use Rattle.dp_plan.specs.declared.Plan.{Plan}
use Rattle.dp_semantics.specs.Verdict.{source_run}
use Rattle.dp_log.specs.LogText.{log_bytes}
use Rattle.dp_load.specs.Last.{LastText, Logged, Nothing, SavedAt}

-- the log of a program's run: the program with its calls expanded
abbrev pub log_of : Program → List Plan → List ℤ → ℕ → List ℕ
log_of p plans input fuel = log_bytes (expand p) plans (source_run (expand p) input fuel)

-- the bytes of the log that was read
abbrev pub log_in : LastText → List ℕ
log_in (Logged text) = text
log_in Nothing = []
log_in (SavedAt c) = []

-- the first of these lines, of which the first has this number, that isn't the same in both texts; a line that one of them lacks isn't
abbrev pub differ_from : ℕ → List (List ℕ) → List (List ℕ) → Option ℕ
differ_from n [] [] = None
differ_from n [] (other ∷ more) = Some n
differ_from n (line ∷ rest) [] = Some n
differ_from n (line ∷ rest) (other ∷ more) = if bytes_eq line other then differ_from (n + 1) rest more else Some n

-- the number, from 1, of the first line that isn't the same in both texts
abbrev pub first_difference : List ℕ → List ℕ → Option ℕ
first_difference text other = differ_from 1 (lines_of text) (lines_of other)

-- the line that is written, and its status
abbrev pub audit_line : Option ℕ → List ℕ
audit_line None = codes "audit ok\n"
audit_line (Some line) = labelled (codes "audit differs line ") line ++ codes "\n"

abbrev pub audit_status : Option ℕ → ℕ
audit_status None = 0
audit_status (Some line) = 10
