use Rattle.std.proofs.Common.{◌∙◌, sym, ap, length}
use Rattle.dp_columns.proofs.PairLists.{length_pairs}
use Rattle.dp_columns.proofs.pairs.Pairs.len.Goals as goal

pub returns : goal.returns
returns c = c.len.ensures ∙ sym (sym (ap length c.self.view_is) ∙ length_pairs c.self.inside.cells c.self.inside.values c.self.invariant)
