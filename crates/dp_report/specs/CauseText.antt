-- Why iterations were executed again.
use Rattle.std.specs.Prelude.{ℕ, List, [], ◌∷◌, ◌++◌, codes}
use Rattle.dp_base.specs.declared.Cause.{Cause}
use Rattle.dp_base.specs.declared.Cause.TheVariants.{Load, Assumed, Words, Fault, Fuel}
use Rattle.dp_text.specs.Labels.{labelled}
use Rattle.dp_report.specs.Lines.{line, labelled_signed}
use Rattle.dp_report.specs.Faults.{fault_words}

-- a cause in words
unfoldable pub cause_words : Cause → List ℕ
cause_words (Load site cell seen source) =
    labelled (codes " load site ") site.0 ++ labelled (codes " cell ") cell.0 ++ labelled_signed (codes " seen ") seen
    ++ labelled_signed (codes " source ") source
cause_words (Assumed site) = labelled (codes " assume site ") site.0
cause_words (Words stage site) = labelled (codes " words stage ") stage ++ labelled (codes " site ") site.0
cause_words (Fault fault) = fault_words fault
cause_words Fuel = codes " fuel"

-- an iteration's number, and why it was executed again
abbrev pub cause_line : ℕ → Cause → List ℕ
cause_line iteration cause = line (labelled (codes "cause ") iteration ++ cause_words cause)

-- a line for each number that has a cause
abbrev pub causes_bytes : List ℕ → List Cause → List ℕ
causes_bytes _ [] = []
causes_bytes [] (cause ∷ causes) = []
causes_bytes (iteration ∷ numbers) (cause ∷ causes) = cause_line iteration cause ++ causes_bytes numbers causes
