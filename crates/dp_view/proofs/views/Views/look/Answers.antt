use Rattle.std.proofs.Common.{◌≡◌, ◌++◌, refl, sym, ap, ◌∙◌, take, drop, length, List, ℕ, None}
use Rattle.std.specs.Option.{option_map}
use Rattle.dp_tree.specs.Step.{Event}
use Rattle.dp_plan.specs.Access.{stage_of}
use Rattle.dp_semantics.specs.CauseWalk.{Watch, cause_in, count_of, counted_from, shown_from}
use Rattle.dp_semantics.specs.Reported.{reported}
use Rattle.dp_view.specs.Memories.{count_more, shown_to_stages}
use Rattle.dp_view.specs.Viewed.{Viewed, effect_of, event_told, fails_at, noticed, words_told}
use Rattle.dp_view.proofs.StageLemmas.{shown-length, written_back}
use Rattle.dp_view.proofs.LookLemmas.{counted-length, counted_is, first_failure, shown_same, words_of_cells}
use Rattle.dp_view.proofs.KeptLemmas.{grows_by, grows_not, kept_looked, kept_more}
use Rattle.dp_view.proofs.views.Views.look.Goals as goal

pub invariant_of-self-in_err-mark_effect-2 : goal.invariant_of-self-in_err-mark_effect-2
invariant_of-self-in_err-mark_effect-2 c =
    kept_more c.self.invariant c.self.inside.counts c.mark_effect.new.self c.mark_effect-2.new.self refl
    (grows_by c.args.effect c.self.inside.stored c.mark_effect.new.self c.in_ok-mark_effect.ensures.ok)
    (grows_not c.self.inside.since c.mark_effect-2.new.self c.in_err-mark_effect-2.ensures.err)

pub invariant_of-self-in_err-add : goal.invariant_of-self-in_err-add
invariant_of-self-in_err-add c =
    kept_more c.self.invariant c.add.new.counts c.mark_effect.new.self c.mark_effect-2.new.self (ap length c.in_err-add.ensures.err)
    (grows_by c.args.effect c.self.inside.stored c.mark_effect.new.self c.in_ok-mark_effect.ensures.ok)
    (grows_by c.args.effect c.self.inside.since c.mark_effect-2.new.self c.in_ok-mark_effect-2.ensures.ok)

shown : (c : goal.After-self-2-1) → take (length c.self.inside.views) (c.show.new.views ++ drop (length c.show.new.views) c.self.inside.views) ≡ shown_to_stages
    c.stage-stage.result (effect_of c.args.effect) 1 c.self.inside.views
shown c =
    let made : c.show.new.views ≡ shown_to_stages c.stage-stage.result (effect_of c.args.effect) 1 c.self.inside.views = c.show.ensures
    ∙ ap (shown_to_stages c.stage-stage.result (effect_of c.args.effect) 1) c.as_mut_slice.ensures.value in
    written_back c.self.inside.views c.show.new.views (ap length made ∙ shown-length c.stage-stage.result (effect_of c.args.effect) 1 c.self.inside.views)
    ∙ made

pub invariant_of-self-2 : goal.invariant_of-self-2
invariant_of-self-2 c =
    kept_looked c.self.invariant c.args.effect c.stage-stage.result _ c.add.new.counts c.make.new.cells c.mark_effect.new.self
    c.mark_effect-2.new.self (shown c)
    (ap length c.in_ok-add.ensures.more ∙ counted-length c.stage-stage.result c.in_ok-words.words c.self.inside.counts) c.make.ensures
    c.in_ok-mark_effect.ensures.ok c.in_ok-mark_effect-2.ensures.ok

pub returns : goal.returns
returns c =
    let s = c.self.inside in
    let p = s.program.now in
    let plan = s.plan.now in
    let event : Event = event_told s.source c.args.site c.args.effect c.args.cells.now in
    let w : Watch = record { views = s.views; counts = s.counts } in
    let stage = c.stage-stage.result in
    let stage_is : c.stage-stage.result ≡ stage_of s.program.now s.plan.now c.args.site.0 = c.stage-stage.ensures in
    let views : take (length s.views) (c.show.new.views ++ drop (length c.show.new.views) s.views) ≡ shown_from s.program.now s.plan.now
    (event_told s.source c.args.site c.args.effect c.args.cells.now) 1 s.views =
    shown c ∙ ap (λ (t : ℕ). shown_to_stages t (effect_of c.args.effect) 1 s.views) stage_is ∙ shown_same p plan event 1 s.views in
    let counts : c.add.new.counts ≡ counted_from s.program.now s.plan.now (event_told s.source c.args.site c.args.effect c.args.cells.now) 1 s.counts =
    c.in_ok-add.ensures.more ∙ ap (λ (n : ℕ). count_more stage n s.counts) (c.in_ok-words.ensures
    ∙ ap (λ (v : Viewed). words_told v c.args.site c.args.cells.now) (sym c.self.view_is)
    ∙ words_of_cells p plan s.source c.args.site.0 (effect_of c.args.effect) c.args.cells.now) ∙ counted_is p plan event s.counts stage stage_is in
    let found : c.first_of-self-inside.result ≡ option_map reported (cause_in s.program.now s.plan.now (record { views = s.views; counts = s.counts })
    (event_told s.source c.args.site c.args.effect c.args.cells.now)) =
    first_failure reported p plan w event stage c.count-made.result c.add.new.counts c.in_ok-failed.failed c.too_many.result c.first_of-self-inside.result
    stage_is counts (c.count-made.ensures ∙ ap (λ (cs : List ℕ). count_of cs stage) c.as_slice.ensures)
    (c.in_ok-failed.ensures ∙ ap (λ (v : Viewed). option_map reported (fails_at v stage (event_told v.source c.args.site c.args.effect c.args.cells.now)))
    (sym c.self.view_is)) c.too_many.ensures c.first_of-self-inside.ensures in
    (λ i. record {
      program = s.program.now;
      plan = s.plan.now;
      watch = record { views = views i; counts = counts i };
      source = c.make.ensures i;
      before = s.before;
      found = found i;
    })
    ∙ ap (λ (v : Viewed). noticed None (event_told v.source c.args.site c.args.effect c.args.cells.now) v) c.self.view_is
