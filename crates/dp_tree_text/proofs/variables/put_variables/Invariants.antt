use Rattle.std.proofs.Common.{◌≡◌, ◌++◌, drop}
use Rattle.dp_report.specs.Lines.{numbered}
use Rattle.dp_tree_text.specs.VariableText.{variable_entry}
use Rattle.dp_tree_text.proofs.variables.put_variables.Given as goal

abbrev pub invariant-loop-place : goal.invariant-loop-place
invariant-loop-place l = l.out ++ numbered variable_entry l.place (drop l.place l.vars) ≡ l.initial.out ++ numbered variable_entry 0 l.vars
