use Rattle.std.proofs.Common.{◌<◌, ℕ, length, subst}
use Rattle.dp_units.specs.declared.search.Search.{Search}
use Rattle.dp_units.specs.steps.Search.{IsUnseen, IsSearch}
use Rattle.dp_units.specs.Graph.{AreWithin}
use Rattle.dp_units.proofs.LeaderLemmas.{all_closed, leaders_are, if_ok_both}
use Rattle.dp_units.proofs.leaders.leaders.Goals as goal

pub leader_list-requires : goal.leader_list-requires
leader_list-requires c =
    let s : Search = c.in_ok-search.search in
    let n : ℕ = length c.args.graph.rows.now in
    let met : (v : ℕ) → v < n → IsUnseen s.marks.items v → ⊥ = λ v h. c.in_ok-search.ensures.met v (subst (λ k. v < k) c.requires.count h) in
    all_closed n c.args.graph.edges.now c.requires.graph.within s.marks.items s.path.items s.bottoms.items s.waiting.items s.leaders.items
    c.in_ok-search.ensures.going c.in_ok-search.ensures.path met

pub returns : goal.returns
returns c =
    let s : Search = c.in_ok-search.search in
    let n : ℕ = c.args.count in
    let within : AreWithin n c.args.graph.edges.now = subst (λ k. AreWithin k c.args.graph.edges.now) c.requires.count c.requires.graph.within in
    let is : IsSearch n c.args.graph.edges.now s.marks.items s.path.items s.bottoms.items s.waiting.items s.leaders.items =
    subst (λ k. IsSearch k c.args.graph.edges.now s.marks.items s.path.items s.bottoms.items s.waiting.items s.leaders.items) c.requires.count
    c.in_ok-search.ensures.going in
    if_ok_both c.leader_list.result (λ leader_of count made. leaders_are n c.args.graph.edges.now within s.marks.items s.path.items s.bottoms.items
    s.waiting.items s.leaders.items is
    c.in_ok-search.ensures.path c.in_ok-search.ensures.met leader_of.items count made) c.leader_list.ensures.count c.leader_list.ensures.made
