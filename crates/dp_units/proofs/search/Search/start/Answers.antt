use Rattle.std.proofs.Common.{◌<◌, length, refl, sym, subst}
use Rattle.std.proofs.lemmas.Option.{slice_get_read}
use Rattle.dp_units.specs.steps.Entries.{At}
use Rattle.dp_units.specs.declared.mark.Mark.TheVariants.{Unseen}
use Rattle.dp_units.specs.declared.search.Search.{Search}
use Rattle.dp_units.proofs.AtLemmas.{at_one}
use Rattle.dp_units.proofs.GoneLemmas.{started, not_unseen}
use Rattle.dp_units.proofs.search.Search.start.Goals as goal

pub explore-requires-clause-going : goal.explore-requires-clause-going
explore-requires-clause-going c =
    (started c.args.graph.edges.now c.args.graph.rows.now c.args.self.now c.enter.new.self c.args.node c.index-graph-node.result c.index.result.now
    c.as_slice.result.now c.requires.graph c.requires.going
    c.requires.path c.requires.within c.index-graph-node.is c.index.ensures c.in-Unseen.is c.as_slice.ensures.value c.in_ok-enter.ensures).going

pub returns-in_ok-explore-clause-met : goal.returns-in_ok-explore-clause-met
returns-in_ok-explore-clause-met c = λ other un.
    let long : c.args.node < length c.args.self.now.marks.items = subst (λ k. c.args.node < k) (sym c.requires.going.each) c.requires.within in
    let gone = started c.args.graph.edges.now c.args.graph.rows.now c.args.self.now c.enter.new.self c.args.node c.index-graph-node.result c.index.result.now
    c.as_slice.result.now c.requires.graph c.requires.going
    c.requires.path c.requires.within c.index-graph-node.is c.index.ensures c.in-Unseen.is c.as_slice.ensures.value c.in_ok-enter.ensures in
    let before = c.in_ok-explore.ensures.met other un in (
      gone.met other before,
      λ same. not_unseen c.args.node c.as_slice.result.now c.args.self.now c.enter.new.self long c.in_ok-enter.ensures
          (subst (λ k. At c.enter.new.self.marks.items k Unseen) same before),
    )

pub returns-in_default : goal.returns-in_default
returns-in_default c =
    let s : Search = c.args.self.now in
    let long : c.args.node < length s.marks.items = subst (λ k. c.args.node < k) (sym c.requires.going.each) c.requires.within in
    let mark : At s.marks.items c.args.node c.index.result.now = slice_get_read s.marks.items (length s.marks.items) c.args.node c.index.result.now refl
    long c.index.ensures in
    record {
      going = c.requires.going;
      met = λ other un. (
        un,
        λ same. c.in_default.not-Unseen (at_one s.marks.items c.args.node c.index.result.now Unseen mark
            (subst (λ k. At s.marks.items k Unseen) same un)),
      );
      ended = c.requires.path;
    }
