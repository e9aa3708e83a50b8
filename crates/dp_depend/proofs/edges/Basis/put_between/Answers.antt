use Rattle.std.proofs.Common.{ap, sym, ◌∙◌, ◌++◌, List, Bool}
use Rattle.dp_depend.specs.declared.Edge.{Edge}
use Rattle.dp_depend.specs.declared.EdgeKind.TheVariants.{Control, Intra, Carried}
use Rattle.dp_depend.specs.Edges as spec
use Rattle.dp_depend.proofs.EdgeLemmas.{three_parts, between_is}
use Rattle.dp_depend.proofs.edges.Basis.put_between.Goals as goal

pub returns : goal.returns
returns c =
    let d = c.args.d.now in let u = c.args.u.now in
    three_parts c.args.out.now _ _ _ _ _ _
    (c.in_ok-put_edge.ensures ∙ ap (λ (b : Bool). c.args.out.now ++ spec.edge_when b (spec.edge d u Control)) c.is_control.ensures)
    (c.in_ok-put_edge-2.ensures ∙ ap (λ (b : Bool). c.put_edge.new.out ++ spec.edge_when b (spec.edge d u Intra)) c.is_intra.ensures)
    (c.in_ok-put_edge-3.ensures ∙ ap (λ (b : Bool). c.put_edge-2.new.out ++ spec.edge_when b (spec.edge d u Carried)) c.is_carried.ensures)
    ∙ ap (λ (l : List Edge). c.args.out.now ++ l) (sym (between_is c.args.self.p.now c.args.self.region c.args.self.shown.counts.now c.args.self.shown.flows.now
    c.args.self.shown.first c.args.self.shown.rate c.args.assumed d u))
