-- Step by step: what was made and printed so far, and what the stages saw.
use Rattle.std.proofs.Common.{refl, sym, subst, append-nil, inl, ◌++◌, [], arith}
use Rattle.dp_meaning.specs.declared.ends.IterEnd.{IterEnd}
use Rattle.dp_meaning.specs.declared.ends.IterEnd.TheVariants as iter_end
use Rattle.dp_epoch.specs.Remade.{Remade}
use Rattle.dp_epoch.proofs.HearingLemmas.{hears_join, hears_none, remade_more}
use Rattle.dp_epoch.proofs.RemadeLemmas.{remade, remade_going}
use Rattle.dp_epoch.proofs.Reexecuted.{waits}
use Rattle.dp_epoch.proofs.watching.watch_steps.Goals as goal

pub steps-init : goal.steps-init
steps-init c = record {
  so_far = ([], record { now_at = c.requires.next; made = inl (refl, refl) }, sym (append-nil c.args.waiting.now));
  heard = hears_none c.args.committed.now.machine c.args.committed.now.machine c.args.views.now c.args.views.now refl refl;
  some = c.requires.turns;
}

pub returns-then-left-eq0-clause-ok : goal.returns-then-left-eq0-clause-ok
returns-then-left-eq0-clause-ok c =
    let f = c.steps.invariant.so_far in
    let q = c.in_ok-end.ensures.ok in
    (f.0 ++ q.0, remade _ _ f.0 f.1 _ q.0 c.in_ok-end.end q.1, waits c.args.waiting.now f.0 c.steps.waiting q.0 c.watch_step.new.waiting f.2 q.2)

pub returns-then-left-eq0-clause-heard : goal.returns-then-left-eq0-clause-heard
returns-then-left-eq0-clause-heard c =
    hears_join c.args.committed.now.machine c.steps.committed.machine c.watch_step.new.committed.machine c.args.views.now c.steps.views c.watch_step.new.views
    (remade_more _ _ _ _ c.in_ok-end.ensures.ok.1) c.steps.invariant.heard c.in_ok-end.ensures.heard

pub steps-preserved : goal.steps-preserved
steps-preserved c =
    let f = c.steps.invariant.so_far in
    let q = c.in_ok-end.ensures.ok in
    let s : Remade c.steps.committed c.watch_step.new.committed q.0 iter_end.Going = subst
    (λ (end : IterEnd). Remade c.steps.committed c.watch_step.new.committed q.0 end) c.in-Going.is q.1 in
    record {
      so_far = (f.0 ++ q.0, remade_going _ _ f.0 f.1 _ q.0 s, waits c.args.waiting.now f.0 c.steps.waiting q.0 c.watch_step.new.waiting f.2 q.2);
      heard = hears_join c.args.committed.now.machine c.steps.committed.machine c.watch_step.new.committed.machine c.args.views.now c.steps.views
          c.watch_step.new.views
          (remade_more _ _ _ _ q.1) c.steps.invariant.heard c.in_ok-end.ensures.heard;
      some = omega (arith, c.if-left-eq0.false);
    }

pub returns-in_default : goal.returns-in_default
returns-in_default c =
    let f = c.steps.invariant.so_far in
    let q = c.in_ok-end.ensures.ok in
    record {
      ok = (f.0 ++ q.0, remade _ _ f.0 f.1 _ q.0 c.in_ok-end.end q.1, waits c.args.waiting.now f.0 c.steps.waiting q.0 c.watch_step.new.waiting f.2 q.2);
      heard = hears_join c.args.committed.now.machine c.steps.committed.machine c.watch_step.new.committed.machine c.args.views.now c.steps.views
          c.watch_step.new.views
          (remade_more _ _ _ _ q.1) c.steps.invariant.heard c.in_ok-end.ensures.heard;
    }
