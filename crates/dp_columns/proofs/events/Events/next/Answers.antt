use Rattle.std.proofs.Common.{◌∙◌, sym, ap, length, slice_get, arith}
use Rattle.dp_columns.proofs.PartLists.{length_parts}
use Rattle.dp_columns.specs.Paired.{Grouped}
use Rattle.dp_columns.proofs.EventLists.{next_within, next_is}
use Rattle.dp_columns.proofs.events.Events.next.Goals as goal

pub returns-then-mark-counts : goal.returns-then-mark-counts
returns-then-mark-counts c =
    let long = sym (ap (λ (g : Grouped). length g.ended) c.self.view_is) ∙ length_parts c.self.inside.counts c.self.inside.pairs in
    omega (arith, long, ap length c.as_slice-counts.ensures, c.if-mark-counts.true)

pub end_of-to-requires : goal.end_of-to-requires
end_of-to-requires c =
    let e = c.self.inside in
    let found = ap (λ xs. slice_get xs c.args.mark.at) (sym c.as_slice-counts.ensures) ∙ c.count_at.ensures in
    next_within e.counts e.settled e.pairs c.args.self.now c.self.view_is c.self.invariant c.args.mark c.requires c.count_at.result found

pub part-requires-clause-within : goal.part-requires-clause-within
part-requires-clause-within c =
    let e = c.self.inside in
    let found = ap (λ xs. slice_get xs c.args.mark.at) (sym c.as_slice-counts.ensures) ∙ c.count_at.ensures in
    let most = next_within e.counts e.settled e.pairs c.args.self.now c.self.view_is c.self.invariant c.args.mark c.requires c.count_at.result found in
    omega (arith, c.end_of-to.ensures, most, c.self.invariant.1)

pub returns : goal.returns
returns c =
    let e = c.self.inside in
    let found = ap (λ xs. slice_get xs c.args.mark.at) (sym c.as_slice-counts.ensures) ∙ c.count_at.ensures in
    next_is e.counts e.settled e.pairs c.args.self.now c.self.view_is c.self.invariant c.args.mark c.requires c.count_at.result found c.end_of-to.result
    c.part.result c.end_of-to.ensures c.part.ensures
