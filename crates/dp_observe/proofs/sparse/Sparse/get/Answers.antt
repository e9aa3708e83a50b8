use Rattle.std.proofs.Common.{rules, ◌≡◌, sym, None, slice_get}
use Rattle.dp_observe.proofs.SparseLemmas.{nothing_there}
use Rattle.dp_observe.proofs.sparse.Sparse.get.Goals as goal

pub returns-in-None : goal.returns-in-None
returns-in-None g c =
    let past : slice_get c.args.self.now.items c.args.place ≡ None = search rules in
    sym (nothing_there c.args.self.now.items c.args.place c.args.self.now.rest past)
