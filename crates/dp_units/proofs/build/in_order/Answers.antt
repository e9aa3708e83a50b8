use Rattle.std.proofs.Common.{◌≡◌, ◌<◌, ◌≤◌, ◌+◌, ◌++◌, [], ◌∷◌, ◌∙◌, sym, ap, subst, ℕ, List, length, replicate, slice_index}
use Rattle.std.proofs.Math.ListN.{set}
use Rattle.dp_units.specs.steps.Entries.{times}
use Rattle.dp_units.specs.Graph.{AreWithin}
use Rattle.dp_units.specs.steps.Rows.{targets, waits_for}
use Rattle.dp_units.specs.Order.{IsOrder, ArePlaces}
use Rattle.dp_units.specs.steps.Taking.{IsTaking, left_over}
use Rattle.dp_units.proofs.BetweenLemmas.{between_within}
use Rattle.dp_units.proofs.OrderLemmas.{whole_written, none_free, low, row_is, row_within, row_enough, next_taken, next_smaller}
use Rattle.dp_units.proofs.EndLemmas.{nothing_taken, is_order, are_places}
use Rattle.dp_units.proofs.build.in_order.Goals as goal

pub rows-requires : goal.rows-requires
rows-requires c =
    let between : List (ℕ × ℕ) = c.in_ok-between.between.items in
    subst (λ (es : List (ℕ × ℕ)). AreWithin c.args.count es) (sym c.as_slice.ensures.value)
    (between_within c.args.count c.args.graph.edges.now c.args.leader_of.now between c.requires.within c.requires.leaders c.in_ok-between.ensures)

pub loop-node-init : goal.loop-node-init
loop-node-init c =
    let n : ℕ = c.args.count in
    let edges : List (ℕ × ℕ) = c.args.graph.edges.now in
    let leader_of : List ℕ = c.args.leader_of.now in
    let between : List (ℕ × ℕ) = c.in_ok-between.between.items in
    let waits : List ℕ = c.in_ok-waits.waits.items in
    let free : List ℕ = c.in_ok-free.free.keys in
    let places : c.in_ok-place_of.place_of.items ≡ replicate n n = c.in_ok-place_of.ensures.items_if_clones_equal (λ y is. is) in
    let none : c.in_ok-order.order.items ≡ [] = c.in_ok-order.ensures.items in
    let counts : (x : ℕ) → x < n → slice_index waits x ≡ waits_for n (replicate n n) between x =
    λ x h. c.in_ok-waits.ensures.counts x h ∙ ap (λ (es : List (ℕ × ℕ)). waits_for n (replicate n n) es x) c.as_slice-2.ensures.value in
    let same : c.as_slice-3.result.now ≡ waits = c.as_slice-3.ensures.value in
    let first : IsTaking n edges leader_of between (replicate n n) [] waits free =
    nothing_taken n edges leader_of between c.requires.within c.requires.leaders c.in_ok-between.ensures waits free c.in_ok-waits.ensures.each counts
    (λ x has. let (low, leader, zero) = c.in_ok-free.ensures.leader x has in (low, leader, subst (λ (ws : List ℕ). slice_index ws x ≡ 0) same zero))
    (λ x low leader zero. c.in_ok-free.ensures.all x low leader (subst (λ (ws : List ℕ). slice_index ws x ≡ 0) (sym same) zero)) in
    subst (λ (x : List ℕ). IsTaking n edges leader_of between c.in_ok-place_of.place_of.items x waits free) (sym none)
    (subst (λ (x : List ℕ). IsTaking n edges leader_of between x [] waits free) (sym places) first)

pub index_mut-requires : goal.index_mut-requires
index_mut-requires c =
    subst (λ k. c.in-Some.node < k) (sym c.loop-node.invariant.each ∙ sym c.loop-node.place_of.ok.0)
    (low c.requires.within c.requires.leaders c.in_ok-between.ensures c.as_slice.ensures.value c.in_ok-rows.ensures.graph c.in_ok-rows.ensures.count
    c.loop-node.invariant c.in-Some.ensures.removal)

pub index-requires : goal.index-requires
index-requires c =
    subst (λ k. c.in-Some.node < k) (sym c.in_ok-rows.ensures.count ∙ sym c.in_ok-rows.rows.ok.0)
    (low c.requires.within c.requires.leaders c.in_ok-between.ensures c.as_slice.ensures.value c.in_ok-rows.ensures.graph c.in_ok-rows.ensures.count
    c.loop-node.invariant c.in-Some.ensures.removal)

pub release-requires-clause-within : goal.release-requires-clause-within
release-requires-clause-within c = λ i x at.
    let row : c.as_slice-row.result.now ≡ targets c.in_ok-between.between.items c.in-Some.node =
    c.as_slice-row.ensures.value ∙ row_is c.requires.within c.requires.leaders c.in_ok-between.ensures c.as_slice.ensures.value c.in_ok-rows.ensures.graph
    c.in_ok-rows.ensures.count c.loop-node.invariant c.in-Some.ensures.removal c.index.result.now c.index.ensures in
    subst (λ k. x < k) (sym (ap (λ (xs : List ℕ). length xs) c.as_mut_slice.ensures.value ∙ c.loop-node.invariant.wide))
    (row_within c.requires.within c.requires.leaders c.in_ok-between.ensures c.as_slice.ensures.value c.in_ok-rows.ensures.graph c.in_ok-rows.ensures.count
    c.loop-node.invariant c.in-Some.ensures.removal c.as_slice-row.result.now row i x at)

pub release-requires-clause-enough : goal.release-requires-clause-enough
release-requires-clause-enough c = λ x h.
    let row : c.as_slice-row.result.now ≡ targets c.in_ok-between.between.items c.in-Some.node =
    c.as_slice-row.ensures.value ∙ row_is c.requires.within c.requires.leaders c.in_ok-between.ensures c.as_slice.ensures.value c.in_ok-rows.ensures.graph
    c.in_ok-rows.ensures.count c.loop-node.invariant c.in-Some.ensures.removal c.index.result.now c.index.ensures in
    subst (λ (xs : List ℕ). times c.as_slice-row.result.now x ≤ slice_index xs x) (sym c.as_mut_slice.ensures.value)
    (row_enough c.requires.within c.requires.leaders c.in_ok-between.ensures c.as_slice.ensures.value c.in_ok-rows.ensures.graph c.in_ok-rows.ensures.count
    c.loop-node.invariant c.in-Some.ensures.removal c.as_slice-row.result.now row x
    (subst (λ k. x < k) (ap (λ (xs : List ℕ). length xs) c.as_mut_slice.ensures.value ∙ c.loop-node.invariant.wide) h))

pub loop-node-smaller : goal.loop-node-smaller
loop-node-smaller c =
    subst (λ k. left_over c.args.count (set c.loop-node.place_of.items c.in-Some.node k) < left_over c.args.count c.loop-node.place_of.items)
    (sym (c.len.ensures ∙ c.loop-node.order.ok.0))
    (next_smaller c.requires.within c.requires.leaders c.in_ok-between.ensures c.as_slice.ensures.value c.in_ok-rows.ensures.graph c.in_ok-rows.ensures.count
    c.loop-node.invariant c.in-Some.ensures.removal)

pub loop-node-preserved : goal.loop-node-preserved
loop-node-preserved c =
    let n : ℕ = c.args.count in
    let edges : List (ℕ × ℕ) = c.args.graph.edges.now in
    let between : List (ℕ × ℕ) = c.in_ok-between.between.items in
    let places : List ℕ = c.loop-node.place_of.items in
    let waits : List ℕ = c.loop-node.waits.items in
    let node : ℕ = c.in-Some.node in
    let row : c.as_slice-row.result.now ≡ targets c.in_ok-between.between.items c.in-Some.node =
    c.as_slice-row.ensures.value ∙ row_is c.requires.within c.requires.leaders c.in_ok-between.ensures c.as_slice.ensures.value c.in_ok-rows.ensures.graph
    c.in_ok-rows.ensures.count c.loop-node.invariant c.in-Some.ensures.removal c.index.result.now c.index.ensures in
    let now : List ℕ = c.release.new.waits in
    let same : length now ≡ length waits = c.release.auto.waits ∙ ap (λ (xs : List ℕ). length xs) c.as_mut_slice.ensures.value in
    let less : (x : ℕ) → x < length waits → slice_index now x + times c.as_slice-row.result.now x ≡ slice_index waits x =
    λ x h. c.in_ok-release.ensures.less x (subst (λ (xs : List ℕ). x < length xs) (sym c.as_mut_slice.ensures.value) h)
    ∙ ap (λ (xs : List ℕ). slice_index xs x) c.as_mut_slice.ensures.value in
    let next = next_taken c.requires.within c.requires.leaders c.in_ok-between.ensures c.as_slice.ensures.value c.in_ok-rows.ensures.graph
    c.in_ok-rows.ensures.count c.loop-node.invariant c.in-Some.ensures.removal c.as_slice-row.result.now row
    c.in-Some.ensures.all_above now c.release.new.free.keys same less c.in_ok-release.ensures.from c.in_ok-release.ensures.kept c.in_ok-release.ensures.added in
    subst (λ (xs : List ℕ). IsTaking n edges c.args.leader_of.now between (set places node c.len.result) c.push.new.self.items xs c.release.new.free.keys)
    (sym (whole_written now waits c.loop-node.waits.len same c.loop-node.waits.ok.0))
    (subst (λ (xs : List ℕ). IsTaking n edges c.args.leader_of.now between (set places node c.len.result) xs now c.release.new.free.keys)
    (sym c.in_ok-push.ensures.items)
    (subst (λ k. IsTaking n edges c.args.leader_of.now between (set places node k) (c.loop-node.order.items ++ node ∷ []) now c.release.new.free.keys)
    (sym (c.len.ensures ∙ c.loop-node.order.ok.0)) next))

pub returns-clause-order : goal.returns-clause-order
returns-clause-order c =
    subst (λ (xs : List ℕ). IsOrder c.args.count c.args.graph.edges.now xs) (sym c.from_vec-2.ensures)
    (is_order _ _ _ _ c.requires.within c.requires.leaders c.in_ok-between.ensures _ _ _ (none_free c.loop-node.invariant c.in_default.ensures.variant.1))

pub returns-clause-places : goal.returns-clause-places
returns-clause-places c =
    let n : ℕ = c.args.count in
    let edges : List (ℕ × ℕ) = c.args.graph.edges.now in
    let made : List ℕ = c.in_ok-place_of-2.place_of.items in
    let long : length made ≡ n = c.in_ok-place_of-2.ensures.each ∙ c.requires.leaders.each in
    let each : (v : ℕ) → v < n → slice_index made v ≡ slice_index c.loop-node.place_of.items (slice_index c.args.leader_of.now v) =
    λ v h. c.in_ok-place_of-2.ensures.made v (subst (λ k. v < k) (sym c.requires.leaders.each) h)
    ∙ ap (λ (xs : List ℕ). slice_index xs (slice_index c.args.leader_of.now v)) c.as_slice-4.ensures.value in
    subst (λ (xs : List ℕ). ArePlaces n edges xs c.from_vec.result) (sym c.from_vec-2.ensures)
    (subst (λ (xs : List ℕ). ArePlaces n edges c.loop-node.order.items xs) (sym c.from_vec.ensures)
    (are_places _ _ _ _ c.requires.within c.requires.leaders c.in_ok-between.ensures _ _ _
    (none_free c.loop-node.invariant c.in_default.ensures.variant.1) made long each))
