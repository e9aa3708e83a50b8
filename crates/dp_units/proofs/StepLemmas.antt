-- One unit more is taken.
use Rattle.std.proofs.Common.{◌≡◌, ◌≢◌, ◌⊎◌, inl, inr, refl, sym, subst, ◌∙◌, ap, arith, ℕ, ◌<◌, ◌≤◌, ◌+◌, List, [], ◌∷◌, ◌++◌, length, take, slice_index}
use Rattle.std.proofs.Math.ListN.{set, length-set}
use Rattle.std.proofs.lemmas.Bool.{cases_eq}
use Rattle.std.proofs.lemmas.List.{get_or_append_left, get_or_push, take-append-le, take_all, length_push, get_or-set_same, get_or-set_other}
use Rattle.dp_units.specs.steps.Entries.{Has, times}
use Rattle.dp_units.specs.Graph.{AreWithin}
use Rattle.dp_units.specs.Order.{IsNext}
use Rattle.dp_units.specs.steps.Rows.{targets, waits_for}
use Rattle.dp_units.specs.steps.Leaders.{AreLeaders, AreBetween}
use Rattle.dp_units.specs.steps.Taking.{MayBeTaken, IsTaking, left_over}
use Rattle.dp_units.proofs.CountLemmas.{left_over_lt, some_left, fewer_wait, edge_of}
use Rattle.dp_units.proofs.TakeLemmas.{edge_within, lead_within, is_next}

module _ (n : ℕ) (edges : List (ℕ × ℕ)) (leader_of : List ℕ) (between : List (ℕ × ℕ)) (within : AreWithin n edges) (leads : AreLeaders n edges leader_of)
    (apart : AreBetween edges leader_of between) where
  module _ (places order waits free : List ℕ) (is : IsTaking n edges leader_of between places order waits free) (l : ℕ)
      (may : MayBeTaken n leader_of between places l) where
    abbrev places' : List ℕ
    places' = set places l (length order)

    abbrev order' : List ℕ
    order' = order ++ l ∷ []

    inside : l < length places
    inside = subst (λ k. l < k) (sym is.each) may.within

    pub has_room : length order < n
    has_room = let some = some_left n places l inside may.left in let room = is.room in omega (arith, some, room)

    here : slice_index places' l ≡ length order
    here = get_or-set_same places l (length order) 0 inside

    other : (v : ℕ) → v ≢ l → slice_index places' v ≡ slice_index places v
    other v ne = get_or-set_other places l v (length order) 0 ne

    given_here : slice_index places' l ≢ n
    given_here e = let room = has_room in omega (arith, here, e, room)

    -- which edges from nodes without a place are left
    pub counted : (x : ℕ) → waits_for n places between x ≡ waits_for n places' between x + times (targets between l) x
    counted x = fewer_wait n places places' l may.left given_here other between x

    still_none : (x : ℕ) → waits_for n places between x ≡ 0 → waits_for n places' between x ≡ 0
    still_none x none = let count = counted x in omega (arith, count, none)

    longer : length order' ≡ length order + 1
    longer = length_push order l

    last : slice_index order' (length order) ≡ l
    last = get_or_push order l 0 (length order) refl

    before_last : (k : ℕ) → k < length order → slice_index order' k ≡ slice_index order k
    before_last k h = get_or_append_left order (l ∷ []) 0 k h

    -- a place is the new one, or was given before
    place_cases : (v : ℕ) → slice_index places' v ≢ n → (v ≡ l) ⊎ ((v ≢ l) × (slice_index places v ≢ n) × (slice_index places' v ≡ slice_index places v))
    place_cases v has = elim (cases_eq v l) [ inl same ↦ inl same | inr ne ↦ inr (ne, (λ e. has (other v ne ∙ e)), other v ne) ]

    next_now : ((x : ℕ) → Has free x → l ≤ x) → (k : ℕ) → k < length order' → IsNext n edges (take k order') (slice_index order' k)
    next_now least k h = elim (cases_eq k (length order)) [
      | inl new ↦
          let front : take k order' ≡ order = ap (λ k. take k order') new ∙ take-append-le (length order) order (l ∷ []) (omega arith)
          ∙ take_all (length order) order (omega arith) in
          let there : slice_index order' k ≡ l = ap (λ k. slice_index order' k) new ∙ last in
          subst (λ (xs : List ℕ). IsNext n edges xs (slice_index order' k)) (sym front)
          (subst (λ x. IsNext n edges order x) (sym there) (is_next n edges leader_of between within leads apart places order waits free is l may least))
      | inr ne ↦
          let early : k < length order = omega (arith, h, longer, ne) in
          let front : take k order' ≡ take k order = take-append-le k order (l ∷ []) (omega (arith, early)) in
          subst (λ (xs : List ℕ). IsNext n edges xs (slice_index order' k)) (sym front)
          (subst (λ x. IsNext n edges (take k order) x) (sym (before_last k early)) (is.next k early))
    ]

    -- fewer nodes are left
    pub fewer : left_over n places' < left_over n places
    fewer = left_over_lt n places places' l (length-set places l (length order))
        (λ k h e. elim (cases_eq k l) [ inl same ↦ ap (λ v. slice_index places v) same ∙ may.left | inr ne ↦ sym (other k ne) ∙ e ])
        inside may.left given_here

    pub taken : (waits' free' rest : List ℕ) → length waits' ≡ n →
        ((x : ℕ) → x < n → slice_index waits' x + times (targets between l) x ≡ slice_index waits x) →
        ((x : ℕ) → Has rest x → Has free x × (l < x)) → ((x : ℕ) → Has free x → (x ≡ l) ⊎ Has rest x) →
        ((x : ℕ) → Has free' x → Has rest x ⊎ ((times (targets between l) x ≢ 0) × (slice_index waits' x ≡ 0))) →
        ((x : ℕ) → Has rest x → Has free' x) → ((x : ℕ) → times (targets between l) x ≢ 0 → slice_index waits' x ≡ 0 → Has free' x) →
        IsTaking n edges leader_of between places' order' waits' free'
    taken waits' free' rest wide less above split from kept added = record {
      each = length-set places l (length order) ∙ is.each;
      wide = wide;
      counts = counts_now;
      may = λ x has. elim (from x has) [
        | inl old ↦
            let (was, high) = above x old in
            let before = is.may x was in
            record { within = before.within; leader = before.leader; left = other x (omega (arith, high)) ∙ before.left; ready = still_none x before.ready }
        | inr (some, none) ↦
            let (ne, a, b, edge, is_a, is_b) = apart.from l x (edge_of between l x some) in
            let (in_a, in_b) = edge_within n edges within a b edge in
            let low : x < n = subst (λ k. k < n) is_b (lead_within n edges leader_of between within leads apart b in_b) in
            record {
              within = low;
              leader = subst (λ k. slice_index leader_of k ≡ k) is_b (leads.one (slice_index leader_of b) b (subst (λ k. k < n) (sym is_b) low) in_b
                  (leads.same b in_b));
              left = other x (λ e. ne (sym e)) ∙ elim (cases_eq (slice_index places x) n) [
                | inl left ↦ left
                | inr has ↦
                    let none = is.ready x low has in
                    let count = counted x in
                    absurd (some (omega (arith, none, count)))
              ];
              ready = sym (counts_now x low) ∙ none;
            }
      ];
      all = λ x can. elim (cases_eq x l) [
        | inl same ↦ absurd (given_here (ap (λ v. slice_index places' v) (sym same) ∙ can.left))
        | inr ne ↦ elim (cases_eq (times (targets between l) x) 0) [
          | inl none ↦ elim (split x (is.all x (record {
            within = can.within;
            leader = can.leader;
            left = sym (other x ne) ∙ can.left;
            ready = (let count = counted x in let now = can.ready in omega (arith, count, none, now));
          }))) [
            | inl same ↦ absurd (ne same)
            | inr old ↦ kept x old
          ]
          | inr some ↦ added x some (counts_now x can.within ∙ can.ready)
        ]
      ];
      placed = λ v h has. elim (place_cases v has) [
        | inl same ↦ let at : slice_index places' v ≡ length order = ap (λ k. slice_index places' k) same ∙ here in omega (arith, at, longer)
        | inr (ne, was, kept) ↦ let old = is.placed v h was in omega (arith, old, kept, longer)
      ];
      stands = λ v h has. elim (place_cases v has) [
        | inl same ↦ ap (λ k. slice_index order' k) (ap (λ k. slice_index places' k) same ∙ here) ∙ last ∙ sym same
        | inr (ne, was, kept) ↦ ap (λ k. slice_index order' k) kept ∙ before_last (slice_index places v) (is.placed v h was) ∙ is.stands v h was
      ];
      leader = λ v h has. elim (place_cases v has) [
        | inl same ↦ subst (λ k. slice_index leader_of k ≡ k) (sym same) may.leader
        | inr (ne, was, kept) ↦ is.leader v h was
      ];
      ready = λ v h has. elim (place_cases v has) [
        | inl same ↦ still_none v (ap (λ k. waits_for n places between k) same ∙ may.ready)
        | inr (ne, was, kept) ↦ still_none v (is.ready v h was)
      ];
      within = λ k h. elim (cases_eq k (length order)) [
        | inl new ↦ subst (λ v. v < n) (sym (ap (λ k. slice_index order' k) new ∙ last)) may.within
        | inr ne ↦ let early : k < length order = omega (arith, h, longer, ne) in subst (λ v. v < n) (sym (before_last k early)) (is.within k early)
      ];
      given = λ k h. elim (cases_eq k (length order)) [
        | inl new ↦ subst (λ v. slice_index places' v ≢ n) (sym (ap (λ k. slice_index order' k) new ∙ last)) given_here
        | inr ne ↦
            let early : k < length order = omega (arith, h, longer, ne) in
            subst (λ v. slice_index places' v ≢ n) (sym (before_last k early)) (still_given (slice_index order k) (is.given k early))
      ];
      next = next_now (λ x has. elim (split x has) [
        | inl same ↦ omega (arith, same)
        | inr old ↦ let high = (above x old).1 in omega (arith, high)
      ]);
      room = let low = fewer in let room = is.room in omega (arith, low, room, longer);
    }
      where
        counts_now : (x : ℕ) → x < n → slice_index waits' x ≡ waits_for n places' between x
        counts_now x h = let a = less x h in let b = is.counts x h in let c = counted x in omega (arith, a, b, c)

        still_given : (v : ℕ) → slice_index places v ≢ n → slice_index places' v ≢ n
        still_given v has e = elim (cases_eq v l) [ inl same ↦ has (ap (λ k. slice_index places k) same ∙ may.left) | inr ne ↦ has (sym (other v ne) ∙ e) ]
