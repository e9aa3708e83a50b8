use Rattle.std.proofs.Common.{◌≡◌, ◌++◌, sym, ap, ◌∙◌, map, take, drop, length, [], None}
use Rattle.std.proofs.lemmas.List.{length-replicate}
use Rattle.dp_semantics.specs.CauseWalk.{next_from, no_words}
use Rattle.dp_semantics.specs.EpochCauses.{views_from}
use Rattle.dp_view.specs.Memories.{cleared_cells, refreshed}
use Rattle.dp_view.specs.Viewed.{next_in_epoch}
use Rattle.dp_view.proofs.StageLemmas.{written_back}
use Rattle.dp_view.proofs.KeptLemmas.{before_is, kept_onward, next_made, next-length, next_same, zeros}
use Rattle.dp_view.proofs.views.Views.go_on.Goals as goal

made : (c : goal.After-self-2-1) → c.next_all.new.views ≡ views_from c.self.inside.plan.now 1 [] (map (cleared_cells c.self.inside.locals) c.self.inside.views)
made c = next_made c.self.invariant c.cells.result.now c.as_slice-locals.result.now c.as_mut_slice.result.now c.next_all.new.views c.cells.ensures
    c.as_slice-locals.ensures c.as_mut_slice.ensures.value c.next_all.ensures

lent : (c : goal.After-self-2-1) → take (length c.self.inside.views) (c.next_all.new.views ++ drop (length c.next_all.new.views) c.self.inside.views)
    ≡ c.next_all.new.views
lent c = written_back c.self.inside.views c.next_all.new.views (ap length (made c) ∙ next-length c.self.invariant)

before : (c : goal.After-self-2-1) → c.refresh.new.to ≡ c.self.inside.source
before c = c.refresh.ensures ∙ (λ i. refreshed (c.as_slice.ensures i) (c.as_slice-locals.ensures i) (c.cells-2.ensures i) c.self.inside.before)
    ∙ before_is c.self.invariant

pub invariant_of-self : goal.invariant_of-self
invariant_of-self c =
    kept_onward c.self.invariant _ c.reset.new.counts c.refresh.new.to c.clear.new.self (lent c ∙ made c) (ap length c.reset.ensures
    ∙ length-replicate (length c.self.inside.counts) 0) (before c) c.clear.ensures

pub returns : goal.returns
returns c =
    let s = c.self.inside in
    let views : take (length s.views) (c.next_all.new.views ++ drop (length c.next_all.new.views) s.views) ≡ next_from s.program.now s.plan.now 1 [] s.views =
    lent c ∙ made c ∙ next_same c.self.invariant 1 [] s.views in
    let counts : c.reset.new.counts ≡ no_words s.counts = c.reset.ensures ∙ sym (zeros s.counts) in
    (λ i. record {
      program = s.program.now;
      plan = s.plan.now;
      watch = record { views = views i; counts = counts i };
      source = s.source;
      before = before c i;
      found = None;
    })
    ∙ ap next_in_epoch c.self.view_is
