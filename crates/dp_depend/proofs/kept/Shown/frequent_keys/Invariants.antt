use Rattle.std.proofs.Common.{drop}
use Rattle.dp_depend.proofs.KeyLemmas.{SoFar}
use Rattle.dp_depend.proofs.kept.Shown.frequent_keys.Given as goal

abbrev pub invariant-loop-flow : goal.invariant-loop-flow
invariant-loop-flow l = SoFar l.self.counts.now l.self.first l.self.rate l.keys (drop l.flow-index l.self.flows.now) l.self.flows.now
