use Rattle.std.proofs.Common.{◌+◌, ◌<◌, ◌++◌, sym, ap, ◌∙◌, arith, ℕ, List, Bool, length, drop}
use Rattle.std.proofs.lemmas.List.{at_drop_all}
use Rattle.dp_plan.proofs.Joins.{joins_more, joins_all}
use Rattle.dp_depend.specs.Node.{Node}
use Rattle.dp_depend.specs.declared.Edge.{Edge}
use Rattle.dp_depend.specs.Edges.{edges_among, edges_from, is_assumed}
use Rattle.dp_plan.specs.Written.{has}
use Rattle.dp_depend.proofs.NodeSites.{item_has}
use Rattle.dp_depend.proofs.EdgeLemmas.{among-none, among-next}
use Rattle.dp_depend.proofs.edges.Basis.edges.Goals as goal

pub loop-d-preserved : goal.loop-d-preserved
loop-d-preserved c =
    let s = c.args.self in let all = c.args.all.now in let i = c.loop-d.d-index in
    let among : List Node → List Edge = λ l. edges_among s.p.now s.region s.shown.counts.now s.shown.flows.now s.shown.first s.shown.rate
    c.args.chosen.now all l in
    let below : c.loop-d.d-index < length c.args.all.now = omega arith in
    joins_more (among all) c.loop-d.edges c.put_from.new.out (among (drop i all))
    (edges_from s.p.now s.region s.shown.counts.now s.shown.flows.now s.shown.first s.shown.rate (is_assumed c.args.chosen.now c.d-item.result) c.d-item.result
    all) (among (drop (i + 1) all))
    c.loop-d.invariant (among-next s.p.now s.region s.shown.counts.now s.shown.flows.now s.shown.first s.shown.rate c.args.chosen.now all all i
    c.d-item.result below c.d-item.is)
    (c.in_ok-put_from.ensures ∙ ap (λ (b : Bool). c.loop-d.edges ++ edges_from s.p.now s.region s.shown.counts.now s.shown.flows.now s.shown.first s.shown.rate
    b c.d-item.result all) c.is_assumed.ensures)

pub put_from-requires-clause-d : goal.put_from-requires-clause-d
put_from-requires-clause-d c =
    let below : c.loop-d.d-index < length c.args.all.now = omega arith in
    ap (λ (l : List ℕ). has c.d-item.result.site.0 l) (sym c.requires.all) ∙ item_has c.args.all.now c.loop-d.d-index c.d-item.result below c.d-item.is

pub returns : goal.returns
returns c =
    let s = c.args.self in let all = c.args.all.now in
    let among : List Node → List Edge = λ l. edges_among s.p.now s.region s.shown.counts.now s.shown.flows.now s.shown.first s.shown.rate
    c.args.chosen.now all l in
    joins_all (among all) c.loop-d.edges (among (drop c.loop-d.d-index all)) c.loop-d.invariant
    (at_drop_all among all c.loop-d.d-index (omega arith) ∙ among-none s.p.now s.region s.shown.counts.now s.shown.flows.now s.shown.first s.shown.rate
    c.args.chosen.now all)
