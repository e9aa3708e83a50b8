use Rattle.std.proofs.Common.{◌≡◌, ◌++◌, drop}
use Rattle.dp_depend.specs.Edges as spec
use Rattle.dp_depend.proofs.edges.Basis.edges.Given as goal

abbrev pub invariant-loop-d : goal.invariant-loop-d
invariant-loop-d l =
    l.edges ++ spec.edges_among l.self.p.now l.self.region l.self.shown.counts.now l.self.shown.flows.now l.self.shown.first l.self.shown.rate l.chosen l.all
    (drop l.d-index l.all)
    ≡ spec.edges_among l.self.p.now l.self.region l.self.shown.counts.now l.self.shown.flows.now l.self.shown.first l.self.shown.rate l.chosen l.all l.all
