use Rattle.std.proofs.Common.{◌≡◌, sym, ap, ◌∙◌, false, Bool, List, ℕ, get_or, length}
use Rattle.dp_plan.specs.Written.{has}
use Rattle.dp_view.specs.Marked.{Marked, none_marked, unset}
use Rattle.dp_view.proofs.MarkLemmas.{unset-length, unset_none}
use Rattle.dp_view.proofs.marks.Marks.clear.Goals as goal

pub invariant_of-self : goal.invariant_of-self
invariant_of-self c x =
    ap (λ (fs : List Bool). get_or fs x false) (c.unset.ensures ∙ ap (λ (cells : List ℕ). unset cells c.self.inside.flags) c.as_slice.ensures.value)
    ∙ unset_none c.self.inside.cells.items c.self.inside.flags c.self.invariant x ∙ sym (ap (has x) c.clear.ensures.items)

pub returns : goal.returns
returns c =
    let size : length c.unset.new.flags ≡ length c.self.inside.flags = ap length c.unset.ensures ∙ unset-length c.as_slice.result.now c.self.inside.flags in
    ap (λ (n : ℕ). record { size = n; cells = c.clear.new.self.items }) size
    ∙ ap (λ (cells : List ℕ). record { size = length c.self.inside.flags; cells = cells }) c.clear.ensures.items
    ∙ ap (λ (m : Marked). none_marked m.size) c.self.view_is
