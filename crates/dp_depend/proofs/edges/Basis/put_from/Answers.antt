use Rattle.std.proofs.Common.{◌+◌, ◌<◌, ◌++◌, sym, ap, ◌∙◌, arith, ℕ, List, length, drop}
use Rattle.std.proofs.lemmas.List.{at_drop_all}
use Rattle.dp_plan.proofs.Joins.{joins_more, joins_all}
use Rattle.dp_depend.specs.Node.{Node}
use Rattle.dp_depend.specs.declared.Edge.{Edge}
use Rattle.dp_depend.specs.Edges.{edges_from, edges_between}
use Rattle.dp_plan.specs.Written.{has}
use Rattle.dp_depend.proofs.NodeSites.{item_has}
use Rattle.dp_depend.proofs.EdgeLemmas.{from-none, from-next}
use Rattle.dp_depend.proofs.edges.Basis.put_from.Goals as goal

pub loop-u-preserved : goal.loop-u-preserved
loop-u-preserved c =
    let s = c.args.self in let all = c.args.all.now in let i = c.loop-u.u-index in
    let from : List Node → List Edge = λ l. edges_from s.p.now s.region s.shown.counts.now s.shown.flows.now s.shown.first s.shown.rate
    c.args.assumed c.args.d.now l in
    let below : c.loop-u.u-index < length c.args.all.now = omega arith in
    joins_more (c.args.out.now ++ from all) c.loop-u.out c.put_between.new.out (from (drop i all))
    (edges_between s.p.now s.region s.shown.counts.now s.shown.flows.now s.shown.first s.shown.rate c.args.assumed c.args.d.now c.u-item.result)
    (from (drop (i + 1) all))
    c.loop-u.invariant (from-next s.p.now s.region s.shown.counts.now s.shown.flows.now s.shown.first s.shown.rate c.args.assumed c.args.d.now all i
    c.u-item.result below c.u-item.is) c.in_ok-put_between.ensures

pub put_between-requires-clause-u : goal.put_between-requires-clause-u
put_between-requires-clause-u c =
    let below : c.loop-u.u-index < length c.args.all.now = omega arith in
    ap (λ (l : List ℕ). has c.u-item.result.site.0 l) (sym c.requires.all) ∙ item_has c.args.all.now c.loop-u.u-index c.u-item.result below c.u-item.is

pub returns : goal.returns
returns c =
    let s = c.args.self in let all = c.args.all.now in
    let from : List Node → List Edge = λ l. edges_from s.p.now s.region s.shown.counts.now s.shown.flows.now s.shown.first s.shown.rate
    c.args.assumed c.args.d.now l in
    joins_all (c.args.out.now ++ from all) c.loop-u.out (from (drop c.loop-u.u-index all)) c.loop-u.invariant
    (at_drop_all from all c.loop-u.u-index (omega arith) ∙ from-none s.p.now s.region s.shown.counts.now s.shown.flows.now s.shown.first s.shown.rate
    c.args.assumed c.args.d.now)
