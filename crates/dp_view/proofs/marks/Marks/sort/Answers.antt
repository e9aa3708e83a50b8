use Rattle.std.proofs.Common.{◌∙◌, ◌==◌}
use Rattle.std.proofs.lemmas.List.Sorted.{IsNonDecreasingBy-from_sort, list_any-IsPermutation}
use Rattle.dp_view.proofs.marks.Marks.sort.Goals as goal

pub invariant_of-self : goal.invariant_of-self
invariant_of-self c x =
    c.self.invariant x ∙ list_any-IsPermutation (λ n. n == x) c.self.inside.cells.items c.sort_unstable.new.self.items c.sort_unstable.ensures.permutation

pub returns-clause-ascending : goal.returns-clause-ascending
returns-clause-ascending c = IsNonDecreasingBy-from_sort (λ x. x) _ c.sort_unstable.ensures.sorted
