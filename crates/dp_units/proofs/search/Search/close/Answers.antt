use Rattle.std.proofs.Common.{◌≡◌, ◌<◌, ◌-◌, ◌∙◌, ℕ, List, length, take, drop, refl, sym, subst, ap, arith}
use Rattle.std.proofs.lemmas.List.{with_items_is, length-drop}
use Rattle.std.specs.Vec.{with_items}
use Rattle.dp_units.specs.steps.Entries.{At, Has}
use Rattle.dp_units.specs.declared.mark.Mark.{Mark}
use Rattle.dp_units.specs.declared.search.Search.{Search}
use Rattle.dp_units.specs.steps.Search.{IsMarked}
use Rattle.dp_units.proofs.GoneLemmas.{group_inside, path_within, closed_on}
use Rattle.dp_units.proofs.CloseLemmas.{at_drop}
use Rattle.dp_units.proofs.search.Search.close.Goals as goal

pub behind-members-requires : goal.behind-members-requires
behind-members-requires c =
    let inside = group_inside c.requires.going.0 c.requires.going.1 c.requires.going.2 c.args.self.now c.requires.going.3 c.args.bottom c.requires.last in
    let same : length c.as_slice.result.now ≡ length c.args.self.now.path.items = ap (λ (xs : List ℕ). length xs) c.as_slice.ensures.value in
    omega (arith, inside, same)

pub mark_closed-requires : goal.mark_closed-requires
mark_closed-requires c = λ i node at.
    let s : Search = c.args.self.now in
    let members : c.behind-members.result.now ≡ drop c.args.bottom s.path.items = c.behind-members.ensures
    ∙ ap (λ (xs : List ℕ). drop c.args.bottom xs) c.as_slice.ensures.value in
    let on : At s.path.items _ node = at_drop c.args.bottom s.path.items i node (subst (λ (xs : List ℕ). At xs i node) members at) in
    let low = path_within c.requires.going.0 c.requires.going.1 c.requires.going.2 s c.requires.going.3 _ node on in
    subst (λ (ms : List Mark). node < length ms) (sym c.as_mut_slice.ensures.value) low

pub least-requires : goal.least-requires
least-requires c =
    let s : Search = c.args.self.now in
    let members : c.behind-members.result.now ≡ drop c.args.bottom s.path.items = c.behind-members.ensures
    ∙ ap (λ (xs : List ℕ). drop c.args.bottom xs) c.as_slice.ensures.value in
    let inside = group_inside c.requires.going.0 c.requires.going.1 c.requires.going.2 s c.requires.going.3 c.args.bottom c.requires.last in
    let long : length c.behind-members.result.now ≡ length s.path.items - c.args.bottom = ap (λ (xs : List ℕ). length xs) members
    ∙ length-drop c.args.bottom s.path.items in
    omega (arith, inside, long)

pub returns : goal.returns
returns c = λ edges rows graph going.
    let s : Search = c.args.self.now in
    let bottom : ℕ = c.args.bottom in
    let now : List Mark = c.mark_closed.new.marks in
    let members : c.behind-members.result.now ≡ drop bottom s.path.items = c.behind-members.ensures
    ∙ ap (λ (xs : List ℕ). drop bottom xs) c.as_slice.ensures.value in
    let unit : c.len-unit.result ≡ length s.leaders.items = c.len-unit.ensures ∙ s.leaders.ok.0 in
    let marked : IsMarked s.marks.items now (drop bottom s.path.items) (length s.leaders.items) =
    subst (λ (ms : List Mark). IsMarked ms now (drop bottom s.path.items) (length s.leaders.items)) c.as_mut_slice.ensures.value
    (subst (λ (xs : List ℕ). IsMarked c.as_mut_slice.result.now now xs (length s.leaders.items)) members
    (subst (λ k. IsMarked c.as_mut_slice.result.now now c.behind-members.result.now k) unit c.mark_closed.ensures)) in
    let whole : (with_items s.marks now).items ≡ now = with_items_is s.marks now (marked.each ∙ sym s.marks.ok.0) in
    let rest : c.pop.new.self.items ≡ take (length s.bottoms.items - 1) s.bottoms.items = c.pop.ensures.rest
    ∙ ap (λ k. take (k - 1) s.bottoms.items) s.bottoms.ok.0 in
    closed_on edges rows graph s going bottom c.least.result _ c.requires.last c.requires.done
    (subst (λ (ms : List Mark). IsMarked s.marks.items ms (drop bottom s.path.items) (length s.leaders.items)) (sym whole) marked)
    (subst (λ (xs : List ℕ). Has xs c.least.result) members c.least.ensures.member)
    (λ i v at. c.least.ensures.least i v (subst (λ (xs : List ℕ). At xs i v) (sym members) at))
    c.truncate.ensures.items rest refl c.in_ok-push.ensures.items
