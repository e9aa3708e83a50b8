use Rattle.std.proofs.Common.{◌≡◌, ◌++◌, drop}
use Rattle.std.specs.List.{flat_map}
use Rattle.dp_tree.specs.Globals.{globals_in}
use Rattle.dp_report.specs.StateText.{variable_line}
use Rattle.dp_report.proofs.state.put_state.Given as goal

abbrev pub invariant-loop-var : goal.invariant-loop-var
invariant-loop-var l =
    l.out ++ flat_map (variable_line l.cells) (globals_in (drop l.var-index l.vars)) ≡ l.initial.out ++ flat_map (variable_line l.cells) (globals_in l.vars)
