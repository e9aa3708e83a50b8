-- Taking the least free leader again and again gives the order.
use Rattle.std.proofs.Common.{◌≡◌, ◌≢◌, ◌⊎◌, inl, inr, sym, subst, ◌∙◌, ap, arith, ℕ, ◌<◌, ◌≤◌, List, slice_index}
use Rattle.std.proofs.lemmas.Bool.{cases_eq}
use Rattle.dp_units.specs.steps.Entries.{Has}
use Rattle.dp_units.specs.Graph.{Walk, HasEdge, AreWithin}
use Rattle.dp_units.specs.Graph.Walk.{stay, along}
use Rattle.dp_units.specs.Order.{IsTaken, IsNext}
use Rattle.dp_units.specs.steps.Rows.{waits_for}
use Rattle.dp_units.specs.steps.Leaders.{AreLeaders, AreBetween}
use Rattle.dp_units.specs.steps.Taking.{MayBeTaken, IsTaking}
use Rattle.dp_units.proofs.CountLemmas.{none_waits, some_waits}
use Rattle.std.proofs.lemmas.List.{get_or_default}

pub edge_within : (n : ℕ) (edges : List (ℕ × ℕ)) → AreWithin n edges → (a b : ℕ) → HasEdge edges a b → (a < n) × (b < n)
edge_within n edges within a b edge = subst (λ (x : ℕ × ℕ). (x.0 < n) × (x.1 < n)) edge.2 (within edge.0 (a, b) edge.1)

pub from_within : (n : ℕ) (edges : List (ℕ × ℕ)) → AreWithin n edges → {a b : ℕ} → Walk edges a b → b < n → a < n
from_within n edges within stay h = h
from_within n edges within (along {between = m} {to = t} before edge) h = from_within n edges within before (edge_within n edges within m t edge).0

module _ (n : ℕ) (edges : List (ℕ × ℕ)) (leader_of : List ℕ) (between : List (ℕ × ℕ)) (within : AreWithin n edges) (leads : AreLeaders n edges leader_of)
    (apart : AreBetween edges leader_of between) where
  abbrev lead : ℕ → ℕ
  lead v = slice_index leader_of v

  pub lead_within : (v : ℕ) → v < n → lead v < n
  lead_within v h = let low = leads.least v h in omega (arith, low, h)

  module _ (places order waits free : List ℕ) (is : IsTaking n edges leader_of between places order waits free) where
    abbrev place : ℕ → ℕ
    place v = slice_index places v

    -- a unit that an edge leads into from another
    crosses : (a b : ℕ) → HasEdge edges a b → (lead a ≡ lead b) ⊎ HasEdge between (lead a) (lead b)
    crosses a b edge = elim (cases_eq (lead a) (lead b)) [ inl same ↦ inl same | inr other ↦ inr (apart.all a b edge other) ]

    -- what reaches a unit that waits for none is of it, or has its place
    before_ready : (x : ℕ) → waits_for n places between x ≡ 0 → ((a : ℕ) → (b : ℕ) → HasEdge edges a b → place (lead b) ≢ n → place (lead a) ≢ n) →
        {a b : ℕ} → Walk edges a b → lead b ≡ x → (lead a ≡ x) ⊎ (place (lead a) ≢ n)
    before_ready x none closed stay same = inl same
    before_ready x none closed {a} (along {between = m} {to = t} walk edge) same = elim (crosses m t edge) [
      | inl one ↦ before_ready x none closed walk (one ∙ same)
      | inr cross ↦ inr (back walk (none_waits n places between (lead m) x none (subst (λ k. HasEdge between (lead m) k) same cross)))
    ]
      where
        back : {a b : ℕ} → Walk edges a b → place (lead b) ≢ n → place (lead a) ≢ n
        back stay has = has
        back (along {between = k} {to = u} walk edge) has = back walk (closed k u edge has)

    -- where an edge leads into a unit with a place, its own has one
    taken_before : (a b : ℕ) → HasEdge edges a b → place (lead b) ≢ n → place (lead a) ≢ n
    taken_before a b edge has = elim (crosses a b edge) [
      | inl one ↦ subst (λ k. place k ≢ n) (sym one) has
      | inr cross ↦
          let low = lead_within b (edge_within n edges within a b edge).1 in
          none_waits n places between (lead a) (lead b) (is.ready (lead b) low has) cross
    ]

    pub is_taken : (v : ℕ) → v < n → place (lead v) ≢ n → IsTaken edges order v
    is_taken v h has =
        let low = lead_within v h in
        let at = is.placed (lead v) low has in
        (lead v, (place (lead v), at, get_or_default order (place (lead v)) (lead v) 0 at ∙ is.stands (lead v) low has), leads.same v h)

    has_place : (v : ℕ) → v < n → IsTaken edges order v → place (lead v) ≢ n
    has_place v h (t, at, same) =
        let there : slice_index order at.0 ≡ t = get_or_default order at.0 0 t at.1 ∙ at.2 in
        let low : t < n = subst (λ k. k < n) there (is.within at.0 at.1) in
        let has : place t ≢ n = subst (λ k. place k ≢ n) there (is.given at.0 at.1) in
        let one : t ≡ lead v = sym (is.leader t low has) ∙ leads.one t v low h same in
        subst (λ k. place k ≢ n) one has

    pub is_next : (node : ℕ) → MayBeTaken n leader_of between places node → ((x : ℕ) → Has free x → node ≤ x) → IsNext n edges order node
    is_next node may least = record {
      free = record {
        within = may.within;
        left = λ taken. has_place node may.within taken (ap place may.leader ∙ may.left);
        ready = λ before walk.
            let h : before < n = from_within n edges within walk may.within in
            elim (before_ready node may.ready taken_before walk may.leader) [
              | inl one ↦
                  let same = leads.same before h in
                  inl (walk, subst (λ k. Walk edges k before) one same.0)
              | inr has ↦ inr (is_taken before h has)
            ];
      };
      least = λ other free.
          let low = lead_within other free.within in
          let at_most = leads.least other free.within in
          let unit = leads.same other free.within in
          let same : lead (lead other) ≡ lead other = leads.one (lead other) other low free.within unit in
          let may' : MayBeTaken n leader_of between places (lead other) = record {
            within = low;
            leader = same;
            left = elim (cases_eq (place (lead other)) n) [ inl left ↦ left | inr has ↦ absurd (free.left (is_taken other free.within has)) ];
            ready = elim (cases_eq (waits_for n places between (lead other)) 0) [
              | inl none ↦ none
              | inr some ↦
                  let from = some_waits n places between (lead other) some in
                  let (ne, a, b, edge, is_a, is_b) = apart.from from.0 (lead other) from.1 in
                  let (in_a, in_b) = edge_within n edges within a b edge in
                  let back : Walk edges b other = walk_to b other in_b free.within is_b in
                  absurd (elim (free.ready a (step edge back)) [
                    | inl round ↦ ne (sym is_a ∙ leads.one a other in_a free.within round)
                    | inr taken ↦ has_place a in_a taken (ap place is_a ∙ from.2)
                  ])
            ];
          } in
          let first = least (lead other) (is.all (lead other) may') in
          omega (arith, first, at_most);
    }
      where
        joined : {a b c : ℕ} → Walk edges a b → Walk edges b c → Walk edges a c
        joined first stay = first
        joined first (along {between = m} {to = t} before edge) = along (joined first before) edge

        step : {a b c : ℕ} → HasEdge edges a b → Walk edges b c → Walk edges a c
        step edge walk = joined (along stay edge) walk

        walk_to : (b c : ℕ) → b < n → c < n → lead b ≡ lead c → Walk edges b c
        walk_to b c hb hc same = joined (leads.same b hb).1 (subst (λ k. Walk edges k c) (sym same) (leads.same c hc).0)
