use Rattle.std.proofs.Common.{◌≡◌, ◌++◌, drop}
use Rattle.dp_depend.specs.Edges as spec
use Rattle.dp_depend.proofs.edges.Basis.put_from.Given as goal

abbrev pub invariant-loop-u : goal.invariant-loop-u
invariant-loop-u l =
    l.out ++ spec.edges_from l.self.p.now l.self.region l.self.shown.counts.now l.self.shown.flows.now l.self.shown.first l.self.shown.rate l.assumed l.d
    (drop l.u-index l.all)
    ≡ l.initial.out ++ spec.edges_from l.self.p.now l.self.region l.self.shown.counts.now l.self.shown.flows.now l.self.shown.first
    l.self.shown.rate l.assumed l.d l.all
