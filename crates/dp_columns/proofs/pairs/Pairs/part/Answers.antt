use Rattle.std.proofs.Common.{◌∙◌, sym, ap, ◌-◌, length, take, drop, arith}
use Rattle.dp_columns.proofs.PairLists.{length_pairs, part_is}
use Rattle.dp_columns.proofs.pairs.Pairs.part.Goals as goal

pub part_of-requires-clause-cells : goal.part_of-requires-clause-cells
part_of-requires-clause-cells c =
    let long = sym (ap length c.self.view_is) ∙ length_pairs c.self.inside.cells c.self.inside.values c.self.invariant in
    omega (arith, long, c.self.invariant, ap length c.as_slice.ensures, c.requires.within)

pub part_of-requires-clause-values : goal.part_of-requires-clause-values
part_of-requires-clause-values c =
    let long = sym (ap length c.self.view_is) ∙ length_pairs c.self.inside.cells c.self.inside.values c.self.invariant in
    omega (arith, long, ap length c.as_slice-2.ensures, c.requires.within)

pub returns : goal.returns
returns c =
    let n = c.args.to - c.args.from in
    part_is c.self.inside.cells c.self.inside.values c.args.self.now c.self.view_is c.self.invariant c.args.from n c.part_of.result
    (c.part_of.ensures.cells ∙ ap (λ xs. take n (drop c.args.from xs)) c.as_slice.ensures)
    (c.part_of.ensures.values ∙ ap (λ xs. take n (drop c.args.from xs)) c.as_slice-2.ensures)
