use Rattle.std.proofs.Common.{ap, ◌∙◌, map}
use Rattle.dp_prepared.specs.Planned.{prepared_of}
use Rattle.dp_run.specs.Prepared.{PlannedProgram}
use Rattle.dp_run.proofs.PlansIn.{as_prepared}
use Rattle.dp_run.proofs.prepared.PreparedProgram.regions.Goals as goal

pub returns : goal.returns
returns c = c.as_slice.ensures ∙ as_prepared c.self.inside.program.now c.self.inside.regions c.self.invariant.1
    ∙ ap (λ (v : PlannedProgram). map (prepared_of v.program) v.plans) c.self.view_is
