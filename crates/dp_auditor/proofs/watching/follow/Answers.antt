use Rattle.std.proofs.Common.{◌≡◌, ◌<◌, ◌∙◌, ap, subst, List, ℕ}
use Rattle.dp_meaning.specs.Watched.{WatchedStep}
use Rattle.dp_meaning.specs.declared.sight.Sight.{Sight}
use Rattle.dp_view.specs.Viewed.{after_event, event_told}
use Rattle.dp_view.proofs.WatchLemmas.{follows_step, nothing_comes}
use Rattle.dp_auditor.proofs.watching.follow.Goals as goal

pub loop-out-preserved : goal.loop-out-preserved
loop-out-preserved c = record {
  so = λ events later comes.
      let before = c.loop-out.invariant.so events later comes in
      let less = subst (λ (n : ℕ). n < c.args.until) c.steps.ensures.value c.loop-out-test.true in
      let step = subst (λ (s : Sight). WatchedStep s c.watch.new.loads.cells c.loop-out.machine c.watch.new.self) c.in-Step.is c.in_ok-site.ensures.ok in
      let heard : c.event.new.self ≡ after_event (event_told c.loop-out.views.source c.in-Step.site c.in-Step.effect c.watch.new.loads.cells) c.loop-out.views =
      c.in_ok-event-in-Step.ensures ∙ ap (λ (cells : List ℕ). after_event (event_told c.loop-out.views.source c.in-Step.site c.in-Step.effect cells)
      c.loop-out.views) c.as_slice.ensures in
      let next = follows_step c.loop-out.machine c.watch.new.self c.args.until c.loop-out.views c.event.new.self c.in-Step.site c.in-Step.effect
      c.watch.new.loads.cells step less heard before.0 later before.1 in
      (next.0, next.1, next.2 ∙ before.2);
}

pub returns-in-Finished : goal.returns-in-Finished
returns-in-Finished c events later comes =
    let before = c.loop-out.invariant.so events later comes in
    let less = subst (λ (n : ℕ). n < c.args.until) c.steps.ensures.value c.loop-out-test.true in
    let over = subst (λ (s : Sight). WatchedStep s c.watch.new.loads.cells c.loop-out.machine c.watch.new.self) c.in-Finished.is c.in_ok-site.ensures.ok in
    nothing_comes c.loop-out.machine c.args.until c.loop-out.views.source before.0 later over.trace less before.1

pub returns-in-Fuel : goal.returns-in-Fuel
returns-in-Fuel c events later comes =
    let before = c.loop-out.invariant.so events later comes in
    let less = subst (λ (n : ℕ). n < c.args.until) c.steps.ensures.value c.loop-out-test.true in
    let over = subst (λ (s : Sight). WatchedStep s c.watch.new.loads.cells c.loop-out.machine c.watch.new.self) c.in-Fuel.is c.in_ok-site.ensures.ok in
    nothing_comes c.loop-out.machine c.args.until c.loop-out.views.source before.0 later over.trace less before.1

pub returns-in-Fault : goal.returns-in-Fault
returns-in-Fault c events later comes =
    let before = c.loop-out.invariant.so events later comes in
    let less = subst (λ (n : ℕ). n < c.args.until) c.steps.ensures.value c.loop-out-test.true in
    let over = subst (λ (s : Sight). WatchedStep s c.watch.new.loads.cells c.loop-out.machine c.watch.new.self) c.in-Fault.is c.in_ok-site.ensures.ok in
    nothing_comes c.loop-out.machine c.args.until c.loop-out.views.source before.0 later over.trace less before.1
