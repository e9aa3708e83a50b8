use Rattle.std.proofs.Common.{◌≡◌, ◌++◌, zero, drop}
use Rattle.dp_lean_code.specs.steps.Looked.{known_of}
use Rattle.dp_lean_kinds.specs.steps.Read.{list_read}
use Rattle.dp_lean_kinds.proofs.reads.Reading.+reads.Given as goal

abbrev pub invariant-statements-loop-place : goal.invariant-statements-loop-place
invariant-statements-loop-place l =
    let k = known_of l.self.stage.program.now l.self.stage.plan.now l.self.stage.tables.now l.self.stage.number in
    l.out ++ list_read l.self.stage.program.now l.self.stage.plan.now l.self.stage.number k l.left (drop l.place l.all)
    ≡ l.initial.out ++ list_read l.self.stage.program.now l.self.stage.plan.now l.self.stage.number k zero l.all
