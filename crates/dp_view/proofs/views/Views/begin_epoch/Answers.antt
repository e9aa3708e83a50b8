use Rattle.std.proofs.Common.{◌≡◌, ◌++◌, ap, ◌∙◌, replicate, map, take, drop, length, ℕ, None}
use Rattle.std.proofs.lemmas.List.{length-map, length-replicate}
use Rattle.dp_view.specs.Memories.{refreshed}
use Rattle.dp_view.specs.Viewed.{anew}
use Rattle.dp_view.proofs.StageLemmas.{written_back}
use Rattle.dp_view.proofs.KeptLemmas.{before_is, kept_anew, views_fresh}
use Rattle.dp_view.proofs.views.Views.begin_epoch.Goals as goal

made : (c : goal.After-self-2-1) →
    c.refresh_all.new.views ≡ map (refreshed c.self.inside.source c.self.inside.locals c.self.inside.since.cells) c.self.inside.views
made c = c.refresh_all.ensures ∙ (λ i. map (refreshed (c.as_slice.ensures i) (c.as_slice-locals.ensures i) (c.cells.ensures i))
    (c.as_mut_slice.ensures.value i))

fresh : (c : goal.After-self-2-1) → take (length c.self.inside.views) (c.refresh_all.new.views ++ drop (length c.refresh_all.new.views) c.self.inside.views)
    ≡ replicate (length c.self.inside.plan.now.stages) c.self.inside.source
fresh c =
    written_back c.self.inside.views c.refresh_all.new.views (ap length (made c)
    ∙ length-map c.self.inside.views (refreshed c.self.inside.source c.self.inside.locals c.self.inside.since.cells))
    ∙ made c ∙ views_fresh c.self.invariant

before : (c : goal.After-self-2-1) → c.refresh.new.to ≡ c.self.inside.source
before c = c.refresh.ensures ∙ (λ i. refreshed (c.as_slice-2.ensures i) (c.as_slice-locals.ensures i) (c.cells-2.ensures i) c.self.inside.before)
    ∙ before_is c.self.invariant

pub invariant_of-self : goal.invariant_of-self
invariant_of-self c =
    kept_anew c.self.invariant _ c.reset.new.counts c.refresh.new.to c.clear.new.self c.clear-2.new.self (fresh c) (ap length c.reset.ensures
    ∙ length-replicate (length c.self.inside.counts) 0) (before c) c.clear.ensures c.clear-2.ensures

pub returns : goal.returns
returns c =
    let s = c.self.inside in
    let counts : c.reset.new.counts ≡ replicate (length s.plan.now.stages) 0 = c.reset.ensures ∙ ap (λ (n : ℕ). replicate n 0) c.self.invariant.counts_are in
    (λ i. record {
      program = s.program.now;
      plan = s.plan.now;
      watch = record { views = fresh c i; counts = counts i };
      source = s.source;
      before = before c i;
      found = None;
    })
    ∙ ap anew c.self.view_is
