-- The edges between units, one edge after the other.
use Rattle.std.proofs.Common.{◌≡◌, ◌≢◌, inl, inr, refl, sym, subst, ◌∙◌, ap, arith, ℕ, ◌<◌, ◌≤◌, ◌+◌, ◌==◌, ◌&&◌, List, [], ◌∷◌, ◌++◌, length, take, drop}
use Rattle.std.proofs.Common.{replicate, slice_index, slice_index_or}
use Rattle.std.proofs.Math.ListN.{set}
use Rattle.std.proofs.lemmas.Bool.{cases_eq, eq-eqb, ne_eqb}
use Rattle.std.proofs.lemmas.List.{take_more, drop_more, get_or-set_same, get_or-set_other, get_or-replicate}
use Rattle.std.proofs.lemmas.List.Elements.{Contains-get_or, Contains-append_left, Contains-push, Contains-push_cases}
use Rattle.dp_room.specs.OneIf.{one_if}
use Rattle.dp_units.specs.Graph.{HasEdge, AreWithin}
use Rattle.dp_units.specs.steps.Rows.{waits_for}
use Rattle.dp_units.specs.steps.Leaders.{AreLeaders, AreBetween}
use Rattle.dp_units.proofs.EnterLemmas.{pair_first, pair_second}
use Rattle.dp_units.proofs.TakeLemmas.{edge_within}
use Rattle.dp_units.proofs.CountLemmas.{left_of, at_most_one}

module _ (edges : List (ℕ × ℕ)) (leader_of : List ℕ) (i : ℕ) (old new : List (ℕ × ℕ)) (f t : ℕ) (h : i < length edges)
    (is : slice_index_or edges i (0, 0) ≡ (f, t))
    (same : slice_index leader_of f ≡ slice_index leader_of t → new ≡ old)
    (apart : slice_index leader_of f ≢ slice_index leader_of t → new ≡ old ++ (slice_index leader_of f, slice_index leader_of t) ∷ [])
    (was : AreBetween (take i edges) leader_of old) where
  abbrev lead : ℕ → ℕ
  lead v = slice_index leader_of v

  front : take (i + 1) edges ≡ take i edges ++ (f, t) ∷ []
  front = take_more edges i (0, 0) h ∙ ap (λ (e : ℕ × ℕ). take i edges ++ e ∷ []) is

  earlier : (a b : ℕ) → HasEdge (take i edges) a b → HasEdge (take (i + 1) edges) a b
  earlier a b edge = subst (λ (xs : List (ℕ × ℕ)). HasEdge xs a b) (sym front) (Contains-append_left (take i edges) ((f, t) ∷ []) (a, b) edge)

  it : HasEdge (take (i + 1) edges) f t
  it = subst (λ (xs : List (ℕ × ℕ)). HasEdge xs f t) (sym front) (Contains-push (take i edges) (f, t))

  old_from : (x y : ℕ) → HasEdge old x y → (x ≢ y) × (a : ℕ) × (b : ℕ) × HasEdge (take (i + 1) edges) a b × (lead a ≡ x) × (lead b ≡ y)
  old_from x y edge = let (ne, a, b, at, is_a, is_b) = was.from x y edge in (ne, a, b, earlier a b at, is_a, is_b)

  new_from : (x y : ℕ) → HasEdge new x y → (x ≢ y) × (a : ℕ) × (b : ℕ) × HasEdge (take (i + 1) edges) a b × (lead a ≡ x) × (lead b ≡ y)
  new_from x y edge = elim (cases_eq (lead f) (lead t)) [
    | inl one ↦ old_from x y (subst (λ (xs : List (ℕ × ℕ)). HasEdge xs x y) (same one) edge)
    | inr ne ↦ elim (Contains-push_cases old (lead f, lead t) (x, y) (subst (λ (xs : List (ℕ × ℕ)). HasEdge xs x y) (apart ne) edge)) [
      | inl before ↦ old_from x y before
      | inr e ↦
          let is_x : lead f ≡ x = pair_first (lead f) (lead t) x y e in
          let is_y : lead t ≡ y = pair_second (lead f) (lead t) x y e in
          ((λ equal. ne (is_x ∙ equal ∙ sym is_y)), f, t, it, is_x, is_y)
    ]
  ]

  kept : (x y : ℕ) → HasEdge old x y → HasEdge new x y
  kept x y edge = elim (cases_eq (lead f) (lead t)) [
    | inl one ↦ subst (λ (xs : List (ℕ × ℕ)). HasEdge xs x y) (sym (same one)) edge
    | inr ne ↦ subst (λ (xs : List (ℕ × ℕ)). HasEdge xs x y) (sym (apart ne)) (Contains-append_left old ((lead f, lead t) ∷ []) (x, y) edge)
  ]

  pub between_more : AreBetween (take (i + 1) edges) leader_of new
  between_more = record {
    from = new_from;
    all = λ a b edge ne. elim (Contains-push_cases (take i edges) (f, t) (a, b) (subst (λ (xs : List (ℕ × ℕ)). HasEdge xs a b) front edge)) [
      | inl before ↦ kept (lead a) (lead b) (was.all a b before ne)
      | inr e ↦
          let is_a : f ≡ a = pair_first f t a b e in
          let is_b : t ≡ b = pair_second f t a b e in
          let ne' : lead f ≢ lead t = λ one. ne (ap lead (sym is_a) ∙ one ∙ ap lead is_b) in
          let at : HasEdge new (lead f) (lead t) = subst (λ (xs : List (ℕ × ℕ)). HasEdge xs (lead f) (lead t)) (sym (apart ne'))
          (Contains-push old (lead f, lead t)) in
          subst (λ k. HasEdge new (lead k) (lead b)) is_a (subst (λ k. HasEdge new (lead f) (lead k)) is_b at)
    ];
  }

-- the edges between units lie among the nodes
pub between_within : (n : ℕ) (edges : List (ℕ × ℕ)) (leader_of : List ℕ) (between : List (ℕ × ℕ)) → AreWithin n edges → AreLeaders n edges leader_of →
    AreBetween edges leader_of between → AreWithin n between
between_within n edges leader_of between within leads is = λ i d h.
    let e : ℕ × ℕ = slice_index_or between i d in
    let edge : HasEdge between e.0 e.1 = Contains-get_or between i d h in
    let (ne, a, b, at, is_a, is_b) = is.from e.0 e.1 edge in
    let (in_a, in_b) = edge_within n edges within a b at in
    let low_a = leads.least a in_a in
    let low_b = leads.least b in_b in
    (omega (arith, low_a, in_a, is_a), omega (arith, low_b, in_b, is_b))

-- one edge more is counted
module _ (n : ℕ) (edges : List (ℕ × ℕ)) (within : AreWithin n edges) (waits : List ℕ) (i : ℕ) (h : i < length edges) (long : length waits ≡ n)
    (counts : (v : ℕ) → v < n → slice_index waits v + waits_for n (replicate n n) (drop i edges) v ≡ waits_for n (replicate n n) edges v) where
  abbrev edge : ℕ × ℕ
  edge = slice_index_or edges i (0, 0)

  abbrev now : List ℕ
  now = set waits edge.1 (slice_index waits edge.1 + 1)

  left : (v : ℕ) → waits_for n (replicate n n) (drop i edges) v ≡ one_if (edge.1 == v) + waits_for n (replicate n n) (drop (i + 1) edges) v
  left v =
      let both = within i (0, 0) h in
      let all : slice_index (replicate n n) edge.0 ≡ n = get_or-replicate n edge.0 n 0 both.0 in
      ap (λ (es : List (ℕ × ℕ)). waits_for n (replicate n n) es v) (drop_more edges i (0, 0) h)
      ∙ ap (λ k. k + waits_for n (replicate n n) (drop (i + 1) edges) v) (left_of (edge.1 == v) (slice_index (replicate n n) edge.0 == n)
      (eq-eqb (slice_index (replicate n n) edge.0) n all))

  pub target_low : edge.1 < n
  target_low = (within i (0, 0) h).1

  pub counted_more : (v : ℕ) → v < n → slice_index now v + waits_for n (replicate n n) (drop (i + 1) edges) v ≡ waits_for n (replicate n n) edges v
  counted_more v in_v = elim (cases_eq v edge.1) [
    | inl e ↦
        let w : slice_index now v ≡ slice_index waits v + 1 =
        ap (λ k. slice_index now k) e ∙ get_or-set_same waits edge.1 (slice_index waits edge.1 + 1) 0 (let low = target_low in omega (arith, low, long))
        ∙ ap (λ k. slice_index waits k + 1) (sym e) in
        let one : one_if (edge.1 == v) ≡ 1 = ap one_if (eq-eqb edge.1 v (sym e)) in
        let l = left v in
        let c = counts v in_v in
        omega (arith, w, one, l, c)
    | inr ne ↦
        let w : slice_index now v ≡ slice_index waits v = get_or-set_other waits edge.1 v (slice_index waits edge.1 + 1) 0 ne in
        let none : one_if (edge.1 == v) ≡ 0 = ap one_if (ne_eqb edge.1 v (λ e. ne (sym e))) in
        let l = left v in
        let c = counts v in_v in
        omega (arith, w, none, l, c)
  ]

  pub room_for_one : slice_index waits edge.1 < length edges
  room_for_one =
      let l = left edge.1 in
      let c = counts edge.1 target_low in
      let one : one_if (edge.1 == edge.1) ≡ 1 = ap one_if (eq-eqb edge.1 edge.1 refl) in
      let most = at_most edges edge.1 in
      omega (arith, l, c, one, most)
    where
      at_most : (es : List (ℕ × ℕ)) (v : ℕ) → waits_for n (replicate n n) es v ≤ length es
      at_most [] v = omega arith
      at_most (e ∷ es) v = let rest = at_most es v in let one = at_most_one ((e.1 == v) && (slice_index (replicate n n) e.0 == n)) in omega (arith, rest, one)
