-- At first no unit is taken, and at the end all are.
use Rattle.std.proofs.Common.{◌≡◌, ◌≢◌, inl, inr, sym, subst, ◌∙◌, ap, arith, ℕ, zero, suc, ◌<◌, ◌≤◌, ◌+◌, List, [], length, replicate, slice_index}
use Rattle.std.proofs.lemmas.Bool.{cases_eq}
use Rattle.std.proofs.lemmas.List.{get_or-replicate, length-replicate}
use Rattle.dp_units.specs.steps.Entries.{Has}
use Rattle.dp_units.specs.Graph.{SameUnit, AreWithin}
use Rattle.dp_units.specs.Order.{IsOrder, ArePlaces}
use Rattle.dp_units.specs.steps.Rows.{waits_for}
use Rattle.dp_units.specs.steps.Leaders.{AreLeaders, AreBetween}
use Rattle.dp_units.specs.steps.Taking.{IsTaking}
use Rattle.dp_units.proofs.AtLemmas.{at_none}
use Rattle.dp_units.proofs.CountLemmas.{all_left, some_waits}
use Rattle.dp_units.proofs.TakeLemmas.{edge_within, lead_within, is_taken}

module _ (n : ℕ) (edges : List (ℕ × ℕ)) (leader_of : List ℕ) (between : List (ℕ × ℕ)) (within : AreWithin n edges) (leads : AreLeaders n edges leader_of)
    (apart : AreBetween edges leader_of between) where
  -- where none may be taken, all have their places
  module _ (places order waits : List ℕ) (is : IsTaking n edges leader_of between places order waits []) where
    abbrev lead : ℕ → ℕ
    lead v = slice_index leader_of v

    -- a unit that has no place waits for one of a higher rank
    waits_higher : (v : ℕ) → v < n → slice_index places (lead v) ≡ n → (a : ℕ) × (a < n) × (leads.rank (lead v) < leads.rank (lead a))
        × (slice_index places (lead a) ≡ n)
    waits_higher v h left =
        let low = lead_within n edges leader_of between within leads apart v h in
        let same : lead (lead v) ≡ lead v = leads.one (lead v) v low h (leads.same v h) in
        elim (cases_eq (waits_for n places between (lead v)) 0) [
          | inl none ↦
              let has = is.all (lead v) (record { within = low; leader = same; left = left; ready = none }) in
              absurd (at_none has.0 (lead v) has.1)
          | inr some ↦
              let from = some_waits n places between (lead v) some in
              let (ne, a, b, edge, is_a, is_b) = apart.from from.0 (lead v) from.1 in
              let (in_a, in_b) = edge_within n edges within a b edge in
              elim (leads.falls a b edge) [
                | inl one ↦ absurd (ne (sym is_a ∙ one ∙ is_b))
                | inr falls ↦ (a, in_a, subst (λ k. leads.rank k < leads.rank (lead a)) is_b falls, ap (λ k. slice_index places k) is_a ∙ from.2)
              ]
        ]

    all_placed_by : (k v : ℕ) → v < n → leads.highest ≤ leads.rank (lead v) + k → slice_index places (lead v) ≢ n
    all_placed_by zero v h near left =
        let (a, in_a, higher, left') = waits_higher v h left in
        let bound = leads.bound a in_a in
        omega (arith, near, higher, bound)
    all_placed_by (suc k) v h near left =
        let (a, in_a, higher, left') = waits_higher v h left in
        all_placed_by k a in_a (omega (arith, near, higher)) left'

    pub all_placed : (v : ℕ) → v < n → slice_index places (lead v) ≢ n
    all_placed v h = all_placed_by leads.highest v h (omega arith)

    pub is_order : IsOrder n edges order
    is_order = record { next = is.next; all = λ v h. is_taken n edges leader_of between within leads apart places order waits [] is v h (all_placed v h) }

    pub are_places : (place_of : List ℕ) → length place_of ≡ n → ((v : ℕ) → v < n → slice_index place_of v ≡ slice_index places (lead v)) →
        ArePlaces n edges order place_of
    are_places place_of each made = record {
      each = each;
      within = λ v h.
          let low = lead_within n edges leader_of between within leads apart v h in
          let at = is.placed (lead v) low (all_placed v h) in
          let e = made v h in omega (arith, at, e);
      same = λ v h.
          let low = lead_within n edges leader_of between within leads apart v h in
          let at : slice_index order (slice_index place_of v) ≡ lead v = ap (λ k. slice_index order k) (made v h) ∙ is.stands (lead v) low (all_placed v h) in
          subst (λ k. SameUnit edges k v) (sym at) (leads.same v h);
    }

  -- at first nothing has a place
  pub nothing_taken : (waits free : List ℕ) → length waits ≡ n → ((x : ℕ) → x < n → slice_index waits x ≡ waits_for n (replicate n n) between x) →
      ((x : ℕ) → Has free x → (x < n) × (slice_index leader_of x ≡ x) × (slice_index waits x ≡ 0)) →
      ((x : ℕ) → x < n → slice_index leader_of x ≡ x → slice_index waits x ≡ 0 → Has free x) → IsTaking n edges leader_of between (replicate n n) [] waits free
  nothing_taken waits free wide counts from all = record {
    each = length-replicate n n;
    wide = wide;
    counts = counts;
    may = λ x has. let (low, leader, none) = from x has in record {
      within = low;
      leader = leader;
      left = get_or-replicate n x n 0 low;
      ready = sym (counts x low) ∙ none;
    };
    all = λ x may. all x may.within may.leader (counts x may.within ∙ may.ready);
    placed = λ v h has. absurd (has (get_or-replicate n v n 0 h));
    stands = λ v h has. absurd (has (get_or-replicate n v n 0 h));
    leader = λ v h has. absurd (has (get_or-replicate n v n 0 h));
    ready = λ v h has. absurd (has (get_or-replicate n v n 0 h));
    within = λ k h. absurd (omega (arith, h));
    given = λ k h. absurd (omega (arith, h));
    next = λ k h. absurd (omega (arith, h));
    room = let all = all_left n n in omega (arith, all);
  }
