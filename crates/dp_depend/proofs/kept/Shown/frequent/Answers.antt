use Rattle.dp_depend.proofs.KeyLemmas.{moved}
use Rattle.dp_depend.proofs.kept.Shown.frequent.Goals as goal

pub returns : goal.returns
returns c =
    moved c.args.self.counts.now c.args.self.flows.now c.args.self.first c.args.self.rate c.in_ok-keys.keys c.in_order.result
    c.in_ok-keys.ensures c.in_order.ensures.permutation c.in_order.ensures.ascending
