use Rattle.std.proofs.Common.{◌≡◌, ap, ◌∙◌, List, ℕ, ℤ}
use Rattle.dp_tree.specs.Step.{clear_locals}
use Rattle.dp_view.specs.Memories.{cleared_cells}
use Rattle.dp_view.specs.Viewed.{settled}
use Rattle.dp_view.proofs.KeptLemmas.{clears, kept_settled}
use Rattle.dp_view.proofs.views.Views.settle.Goals as goal

pub invariant_of-self : goal.invariant_of-self
invariant_of-self c =
    kept_settled c.self.invariant c.clear.new.memory (c.clear.ensures ∙ ap (λ (ls : List ℕ). cleared_cells ls c.self.inside.source) c.as_slice.ensures)

pub returns : goal.returns
returns c =
    let s = c.self.inside in
    let is : c.clear.new.memory ≡ clear_locals s.plan.now.region s.program.now.vars s.source = c.clear.ensures
    ∙ ap (λ (ls : List ℕ). cleared_cells ls s.source) c.as_slice.ensures ∙ clears c.self.invariant s.source in
    ap (λ (m : List ℤ). record {
      program = s.program.now;
      plan = s.plan.now;
      watch = record { views = s.views; counts = s.counts };
      source = m;
      before = s.before;
      found = s.found;
    }) is
    ∙ ap settled c.self.view_is
