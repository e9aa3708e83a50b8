use Rattle.std.proofs.Common.{◌≡◌, ◌∙◌, ap, subst, not, ◌≤◌, refl, [], Option, None, arith}
use Rattle.dp_room.proofs.ResultLemmas.{on_err}
use Rattle.dp_crew.proofs.StreamLemmas.{emits_on}
use Rattle.dp_epoch.specs.declared.ends.RegionEnd.{RegionEnd}
use Rattle.dp_run.proofs.StreamLemmas.{emits_flushed}
use Rattle.dp_resume.proofs.Fronts.{stopped_after, stopped_in}
use Rattle.dp_resume.proofs.ReachLemmas.{Reached, no_end, none_some, reached_all, reached_step}
use Rattle.dp_resume.proofs.reach.make.Goals.{else-loop-made-test, then-loop-made-test+else-is_none}
use Rattle.dp_resume.proofs.reach.make.Goals as goal

pub step-requires-clause-stands : goal.step-requires-clause-stands
step-requires-clause-stands g c =
    let q = c.requires.stands in let p = q.0 in let plan = q.1 in let input = q.2 in let first = q.3 in let s = q.4 in (
      q.0,
      q.1,
      q.2,
      q.3,
      c.loop-made.made,
      subst (λ (o : Option RegionEnd). Reached p plan input first c.loop-made.made c.loop-made.runner o) (no_end
          c.loop-made.end (c.is_none.ensures ∙ ap not c.if-is_none.true)) (c.loop-made.invariant.so_far p plan input first s),
    )

pub returns-in_err-end-clause-front : goal.returns-in_err-end-clause-front
returns-in_err-end-clause-front g c =
    on_err c.from_residual.result _ (λ p plan input first s.
    let here = subst (λ (o : Option RegionEnd). Reached p plan input first c.loop-made.made c.loop-made.runner o)
    (no_end c.loop-made.end (c.is_none.ensures ∙ ap not c.if-is_none.true)) (c.loop-made.invariant.so_far p plan input first s) in
    stopped_in p plan input first c.args.runner.now c.loop-made.runner s c.loop-made.made here c.loop-made.waiting (g.K.Sink.written c.args.sink.now)
    (g.K.Sink.written c.loop-made.sink) c.loop-made.invariant.emits c.args.after (omega (arith, c.loop-made-test.true)) (g.K.Sink.written c.step.new.sink)
    (c.in_err-end.ensures.front p plan input first c.loop-made.made here))

pub loop-made-preserved : goal.loop-made-preserved
loop-made-preserved g c = record {
  so_far = λ p plan input first s. reached_step p plan input first c.loop-made.made c.step.new.runner c.in_ok-end.end
      (c.in_ok-end.ensures.made p plan input first c.loop-made.made
      (subst (λ (o : Option RegionEnd). Reached p plan input first c.loop-made.made c.loop-made.runner o)
      (no_end c.loop-made.end (c.is_none.ensures ∙ ap not c.if-is_none.true)) (c.loop-made.invariant.so_far p plan input first s)));
  few = omega (arith, c.loop-made-test.true);
  emits = emits_on _ _ _ _ _ _ c.loop-made.invariant.emits c.in_ok-end.ensures.emits;
  faults = c.in_ok-end.ensures.faults ∙ c.loop-made.invariant.faults;
}

pub returns-in_err-flush-clause-front : goal.returns-in_err-flush-clause-front
returns-in_err-flush-clause-front g c =
    let high : c.loop-made.end ≡ None → c.args.after ≤ c.loop-made.made = λ e. elim c.loop-made-test.branch [
      | then-loop-made-test+else-is_none w ↦ absurd (none_some c.loop-made.end e (w.is_none.ensures ∙ ap not w.if-is_none.false))
      | else-loop-made-test w ↦ (let no = w.loop-made-test.false in omega (arith, no))
    ] in
    on_err c.from_residual-in_err-flush.result _ (λ p plan input first s.
    stopped_after p plan input first c.args.runner.now c.loop-made.runner s c.loop-made.made c.args.after c.loop-made.end
    (c.loop-made.invariant.so_far p plan input first s) c.loop-made.invariant.few high
    c.loop-made.waiting (g.K.Sink.written c.args.sink.now) (g.K.Sink.written c.loop-made.sink) (g.K.Sink.written c.flush.new.sink) c.loop-made.invariant.emits
    c.in_err-flush.ensures.streams)

pub returns-clause-stops : goal.returns-clause-stops
returns-clause-stops g c =
    let high : c.loop-made.end ≡ None → c.args.after ≤ c.loop-made.made = λ e. elim c.loop-made-test.branch [
      | then-loop-made-test+else-is_none w ↦ absurd (none_some c.loop-made.end e (w.is_none.ensures ∙ ap not w.if-is_none.false))
      | else-loop-made-test w ↦ (let no = w.loop-made-test.false in omega (arith, no))
    ] in
    λ p plan input first s. reached_all p plan input first c.loop-made.made c.args.after c.loop-made.runner c.loop-made.end
    (c.loop-made.invariant.so_far p plan input first s) c.loop-made.invariant.few high

pub returns-clause-emits : goal.returns-clause-emits
returns-clause-emits g c =
    emits_flushed [] c.loop-made.waiting c.flush.new.waiting _ _ _ _ _ refl c.in_ok-flush.ensures.ok c.loop-made.invariant.emits c.in_ok-flush.ensures.streams
