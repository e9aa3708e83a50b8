use Rattle.std.proofs.Common.{◌≡◌, ◌-◌, ◌≤◌, ◌++◌, List, ℤ}
use Rattle.dp_tree.specs.declared.Program.{Program}
use Rattle.dp_plan.specs.declared.Plan.{Plan}
use Rattle.dp_meaning.specs.MachineState.{MachineState}
use Rattle.dp_audit.specs.Runs.{RegionStands}
use Rattle.dp_crew.specs.Output.{Emits}
use Rattle.dp_run.specs.Stretches.{to_come}
use Rattle.dp_resume.specs.steps.Reaching.{machine_of}
use Rattle.dp_resume.proofs.ReachLemmas.{Reached}
use Rattle.dp_resume.proofs.reach.make.Given as goal

abbrev pub invariant-loop-made : goal.invariant-loop-made
invariant-loop-made g l = record {
  so_far : (p : Program) (plan : Plan) (input : List ℤ) (first : MachineState) → RegionStands p plan input first 0 l.fn.runner →
      Reached p plan input first l.made l.runner l.end;
  few : l.made ≤ l.after;
  emits : Emits (to_come (machine_of l.fn.runner)) (l.waiting ++ to_come (machine_of l.runner)) (g.K.Sink.written l.fn.sink) (g.K.Sink.written l.sink);
  faults : g.K.Sink.faults l.sink ≡ g.K.Sink.faults l.fn.sink;
}

abbrev pub decreases-loop-made : goal.decreases-loop-made
decreases-loop-made g l = l.after - l.made
