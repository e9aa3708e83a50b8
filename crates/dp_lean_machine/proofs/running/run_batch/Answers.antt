use Rattle.dp_semantics.proofs.Names.{◌≡◌, refl, sym, ap, ◌∙◌, subst, List, take, map, slice_set}
use Rattle.dp_lean_epoch.specs.LeanBatch.{Stood}
use Rattle.dp_lean_region.specs.Line.{line_kinds}
use Rattle.dp_lean_region.specs.Ready.{CanRead}
use Rattle.dp_lean_machine.specs.Held.{kinds_in}
use Rattle.dp_lean_machine.specs.Within.{ComesWithColumns}
use Rattle.dp_lean_machine.specs.declared.batch.StageColumns.{StageColumns}
use Rattle.dp_lean_machine.proofs.Exchanged.{some_low, kinds_back, take_before}
use Rattle.dp_lean_machine.proofs.Over.{can_read}
use Rattle.dp_lean_machine.proofs.SentOn.{comes_so, comes_with, stands_so, passes_on}
use Rattle.dp_lean_machine.proofs.running.run_batch.Goals as goal

pub run_over-done-requires-clause-can : goal.run_over-done-requires-clause-can
run_over-done-requires-clause-can g c =
    subst (λ (xs : List StageColumns). CanRead c.in-Some.stage c.exchanged-taken.result.own.columns.kinds (map kinds_in (take c.args.place xs)))
    (sym (c.as_slice.ensures ∙ c.exchanged-taken.ensures.now))
    (can_read (line_kinds c.args.batch.now.line) c.args.place c.in-Some.stage c.in-Some.ensures.ready
    c.args.batch.now.stages c.args.batch.now.kinds c.exchanged-taken.result.own c.args.desk.own c.exchanged-taken.ensures.was)

pub run_over-done-requires-clause-locals : goal.run_over-done-requires-clause-locals
run_over-done-requires-clause-locals g c = let ready = c.in-Some.ensures.ready in ready.locals

pub invariant_of-batch : goal.invariant_of-batch
invariant_of-batch g c = record {
  kinds =
      ap (map kinds_in) (c.exchanged-given.ensures.now ∙ ap (λ (xs : List StageColumns). slice_set xs c.args.place c.run_over-done.result.desk.own)
      c.exchanged-taken.ensures.now)
      ∙ kinds_back c.args.batch.now.stages c.args.place c.args.desk.own c.run_over-done.result.desk.own c.exchanged-taken.result.own
      c.exchanged-taken.ensures.was c.run_over-done.ensures.kinds
      ∙ c.args.batch.now.kinds;
}

pub returns : goal.returns
returns g c = record {
  sent = λ e b ends like is within stands version_is taken sent. (
      let item = stands_so e is c.args.place b within c.args.batch.now taken sent c.args.batch.now.status sent.item ends like in
      let earlier : List StageColumns = take c.args.place c.args.batch.now.stages in
      let stood : Stood = record { iterations = c.args.batch.now.iterations; ends = ends } in
      let lent : earlier ≡ take c.args.place c.as_slice.result.now =
      sym (ap (take c.args.place) (c.as_slice.ensures ∙ c.exchanged-taken.ensures.now) ∙ take_before c.args.batch.now.stages c.args.place c.args.desk.own) in
      passes_on e is c.args.place b within c.args.batch.now taken sent g.M.Memory.cells ends like c.args.desk.own c.run_over-done.result.desk.own _
      c.run_over-done.result.memory c.run_over-done.result.ran
      (some_low c.args.batch.now.stages c.args.place c.exchanged-taken.result.own c.exchanged-taken.ensures.was) refl refl
      (c.exchanged-given.ensures.now ∙ ap (λ (xs : List StageColumns). slice_set xs c.args.place c.run_over-done.result.desk.own) c.exchanged-taken.ensures.now)
      refl refl version_is
      (c.run_over-done.ensures.done e c.args.place b ends like (comes_so e is c.args.place b within earlier stood taken item)
      (c.in-Some.ensures.runs e sent.line)
      (subst (ComesWithColumns e c.args.place b c.args.batch.now.iterations) lent (comes_with e is c.args.place b within earlier stood taken item)) stands)
      );
}
