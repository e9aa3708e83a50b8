-- A fault in a text.
use Rattle.std.specs.Prelude.{ℕ, List, ◌++◌, codes}
use Rattle.dp_base.specs.declared.Fault.{Fault}
use Rattle.dp_base.specs.declared.FaultKind.{FaultKind}
use Rattle.dp_base.specs.declared.FaultKind.TheVariants.{Overflow, Divide, Index}
use Rattle.dp_text.specs.Labels.{labelled}

-- a fault's name in the text
abbrev pub fault_name : FaultKind → List ℕ
fault_name Overflow = codes "overflow"
fault_name Divide = codes "divide"
fault_name Index = codes "index"

-- a fault's name and line
unfoldable pub fault_words : Fault → List ℕ
fault_words fault = codes " fault " ++ fault_name fault.kind ++ labelled (codes " line ") fault.line
