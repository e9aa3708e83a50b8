use Rattle.dp_units.proofs.search.Search.explore.Goals as goal

pub close-requires-clause-going : goal.close-requires-clause-going
close-requires-clause-going c = (c.args.graph.edges.now, c.args.graph.rows.now, c.requires.graph, c.loop-bottom.invariant.going)

pub loop-bottom-smaller : goal.loop-bottom-smaller
loop-bottom-smaller c = (c.in_ok-close-in-None.ensures c.args.graph.edges.now c.args.graph.rows.now c.requires.graph c.loop-bottom.invariant.going).less

pub loop-bottom-preserved : goal.loop-bottom-preserved
loop-bottom-preserved c =
    let gone = c.in_ok-close-in-None.ensures c.args.graph.edges.now c.args.graph.rows.now c.requires.graph c.loop-bottom.invariant.going in
    record { going = gone.going; met = λ node unseen. c.loop-bottom.invariant.met node (gone.met node unseen) }
