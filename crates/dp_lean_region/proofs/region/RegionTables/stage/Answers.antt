use Rattle.std.proofs.Common.{sym, ap, ◌∙◌, arith, length}
use Rattle.dp_lean_region.specs.Region.{LeanRegion}
use Rattle.dp_lean_region.proofs.Holding.{first_there, locals_there, columns_there, stage_there, within_kinds, none_there, stage_ready, stage_runs}
use Rattle.dp_lean_region.proofs.region.RegionTables.stage.Goals as goal

pub staged-requires-clause-stage : goal.staged-requires-clause-stage
staged-requires-clause-stage c =
    let program = c.program.ensures.value ∙ sym (ap (λ (r : LeanRegion). r.program) c.self.view_is) in
    let plan = c.plan.ensures ∙ sym (ap (λ (r : LeanRegion). r.plan) c.self.view_is) in
    stage_there c.self.invariant _ _ program plan _ c.as_slice.ensures c.args.place _ (sym c.in-Some.ensures.value)

pub staged-requires-clause-within : goal.staged-requires-clause-within
staged-requires-clause-within c = within_kinds c.self.invariant _ c.as_slice.ensures c.args.place _ (sym c.in-Some.ensures.value)

pub staged-requires-clause-first : goal.staged-requires-clause-first
staged-requires-clause-first c =
    let program = c.program.ensures.value ∙ sym (ap (λ (r : LeanRegion). r.program) c.self.view_is) in
    let plan = c.plan.ensures ∙ sym (ap (λ (r : LeanRegion). r.plan) c.self.view_is) in first_there c.self.invariant _ _ program plan

pub returns-in-Some-clause-ready : goal.returns-in-Some-clause-ready
returns-in-Some-clause-ready c =
    let program = c.program.ensures.value ∙ sym (ap (λ (r : LeanRegion). r.program) c.self.view_is) in
    let plan = c.plan.ensures ∙ sym (ap (λ (r : LeanRegion). r.plan) c.self.view_is) in
    let columns = columns_there c.self.invariant _ _ (sym (ap (λ (r : LeanRegion). r.program) c.self.view_is))
    (sym (ap (λ (r : LeanRegion). r.plan) c.self.view_is)) in
    stage_ready c.staged.ensures _ (c.as_slice.ensures ∙ columns) (c.as_slice-2.ensures ∙ locals_there c.self.invariant _ _ program plan)

pub returns-in-Some-clause-runs : goal.returns-in-Some-clause-runs
returns-in-Some-clause-runs c = λ e of.
    let program = c.program.ensures.value ∙ sym (ap (λ (r : LeanRegion). r.program) c.self.view_is) in
    let plan = c.plan.ensures ∙ sym (ap (λ (r : LeanRegion). r.plan) c.self.view_is) in
    stage_runs c.staged.ensures (c.as_slice.ensures ∙ columns_there c.self.invariant _ _ program plan) e (record {
      program = c.program.ensures.value ∙ of.program;
      plan = c.plan.ensures ∙ of.plan;
      input = of.input;
      pays = of.pays;
      kinds = of.kinds;
    })

pub returns-in-None-clause-absent : goal.returns-in-None-clause-absent
returns-in-None-clause-absent c =
    let past = none_there c.self.invariant c.args.place (sym c.in-None.ensures.value) in
    let stages = ap (λ (r : LeanRegion). length r.plan.stages) c.self.view_is in omega (arith, past, stages)
