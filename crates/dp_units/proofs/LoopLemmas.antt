-- Steps of the loops that a search is made of.
use Rattle.std.proofs.Common.{◌≡◌, ◌≢◌, inl, inr, refl, sym, subst, ◌∙◌, ap, arith, ℕ, ◌<◌, ◌≤◌, ◌+◌, ◌-◌, ◌==◌, if◌then◌else◌, min, true, false, List, [], ◌∷◌}
use Rattle.std.proofs.Common.{◌++◌, length, take, drop, Vec, slice_index_or}
use Rattle.std.proofs.Math.ListN.{set, length-set}
use Rattle.std.specs.declared.alloc.Global.{Global}
use Rattle.std.proofs.lemmas.Bool.{cases_lt, cases_eq, eq-eqb, ne_eqb}
use Rattle.std.proofs.lemmas.List.{take_more, drop_more, append_assoc, append-nil, take_at, length_push, drop_all}
use Rattle.std.proofs.lemmas.Option.{slice_get-get_or}
use Rattle.dp_units.specs.steps.Entries.{At, Has}
use Rattle.dp_units.specs.declared.mark.Mark.{Mark}
use Rattle.dp_units.specs.declared.mark.Mark.TheVariants.{Closed}
use Rattle.dp_units.specs.Graph.{AreWithin}
use Rattle.dp_units.specs.steps.Rows.{targets, IsGraph}
use Rattle.dp_units.specs.steps.Search.{IsMarked}
use Rattle.dp_units.proofs.AtLemmas.{at_one, at_push, at_last, at_kept, at_set, at_unset, has_kept}
use Rattle.dp_room.proofs.ListLemmas.{get_set_same}

pub item_at : {X : Type 0} (xs : List X) (i : ℕ) (d : X) → i < length xs → At xs i (slice_index_or xs i d)
item_at xs i d h = slice_get-get_or xs i d h

-- one node more is closed
pub marked_more : (marks now : List Mark) (nodes : List ℕ) (i unit : ℕ) → i < length nodes → slice_index_or nodes i 0 < length marks →
    IsMarked marks now (take i nodes) unit →
    IsMarked marks (set now (slice_index_or nodes i 0) (Closed unit)) (take (i + 1) nodes) unit
marked_more marks now nodes i unit h low is =
    let node : ℕ = slice_index_or nodes i 0 in
    let more : take (i + 1) nodes ≡ take i nodes ++ node ∷ [] = take_more nodes i 0 h in
    let long : node < length now = subst (λ k. node < k) (sym is.each) low in
    subst (λ (xs : List ℕ). IsMarked marks (set now node (Closed unit)) xs unit) (sym more) (record {
      each = length-set now node (Closed unit) ∙ is.each;
      closed = λ k v at. elim (cases_eq v node) [
        | inl same ↦ subst (λ x. At (set now node (Closed unit)) x (Closed unit)) (sym same) (get_set_same now node (Closed unit) long)
        | inr ne ↦ elim (at_push (take i nodes) node k v at) [
          | inl old ↦ at_unset now node (Closed unit) v (Closed unit) ne (is.closed k v old)
          | inr new ↦ absurd (ne new.1)
        ]
      ];
      kept = λ v m at none. at_unset now node (Closed unit) v m
          (λ same. none (length (take i nodes)) (subst (λ x. At (take i nodes ++ node ∷ []) (length (take i nodes)) x) (sym same)
          (at_last (take i nodes) node)))
          (is.kept v m at (λ k on. none k (at_kept (take i nodes) (node ∷ []) k v on)));
      others = λ v m at. elim (at_set now node (Closed unit) v m long at) [
        | inl new ↦ inr (
          new.1,
          (
            length (take i nodes),
            subst (λ x. At (take i nodes ++ node ∷ []) (length (take i nodes)) x) (sym new.0) (at_last
                (take i nodes) node),
          ),
        )
        | inr old ↦ elim (is.others v m old.1) [ inl was ↦ inl was | inr (same, has) ↦ inr (same, has_kept (take i nodes) (node ∷ []) v has) ]
      ];
    })

-- one edge more stands in its row
pub row_more : (rows : List (Vec ℕ Global)) (edges : List (ℕ × ℕ)) (i from to : ℕ) (old new : Vec ℕ Global) → i < length edges →
    slice_index_or edges i (0, 0) ≡ (from, to) →
    from < length rows → At rows from old → new.items ≡ old.items ++ to ∷ [] →
    ((node : ℕ) (row : Vec ℕ Global) → At rows node row → row.items ++ targets (drop i edges) node ≡ targets edges node) →
    (node : ℕ) (row : Vec ℕ Global) → At (set rows from new) node row → row.items ++ targets (drop (i + 1) edges) node ≡ targets edges node
row_more rows edges i from to old new h is low there made before node row at = elim (at_set rows from new node row low at) [
  | inl (same, is_new) ↦
      let items : row.items ≡ old.items ++ to ∷ [] = ap (λ (r : Vec ℕ Global). r.items) is_new ∙ made in
      let was : old.items ++ targets (drop i edges) node ≡ targets edges node = before node old (subst (λ k. At rows k old) (sym same) there) in
      let step : targets (drop i edges) node ≡ to ∷ targets (drop (i + 1) edges) node =
      ap (λ (es : List (ℕ × ℕ)). targets es node) split ∙ here (eq-eqb from node (sym same)) in
      ap (λ (xs : List ℕ). xs ++ targets (drop (i + 1) edges) node) items ∙ append_assoc old.items (to ∷ []) (targets (drop (i + 1) edges) node)
      ∙ ap (λ (xs : List ℕ). old.items ++ xs) (sym step) ∙ was
  | inr (ne, at_old) ↦
      let step : targets (drop i edges) node ≡ targets (drop (i + 1) edges) node =
      ap (λ (es : List (ℕ × ℕ)). targets es node) split ∙ past (ne_eqb from node (λ e. ne (sym e))) in
      ap (λ (xs : List ℕ). row.items ++ xs) (sym step) ∙ before node row at_old
]
  where
    split : drop i edges ≡ (from, to) ∷ drop (i + 1) edges
    split = drop_more edges i (0, 0) h ∙ ap (λ (e : ℕ × ℕ). e ∷ drop (i + 1) edges) is

    here : (from == node) ≡ true → targets ((from, to) ∷ drop (i + 1) edges) node ≡ to ∷ targets (drop (i + 1) edges) node
    here e = ap (λ t. if t then to ∷ targets (drop (i + 1) edges) node else targets (drop (i + 1) edges) node) e

    past : (from == node) ≡ false → targets ((from, to) ∷ drop (i + 1) edges) node ≡ targets (drop (i + 1) edges) node
    past e = ap (λ t. if t then to ∷ targets (drop (i + 1) edges) node else targets (drop (i + 1) edges) node) e

-- where all edges stand in their rows, the rows are those of the graph
pub is_graph : (edges : List (ℕ × ℕ)) (rows : List (Vec ℕ Global)) (count i : ℕ) → length rows ≡ count → AreWithin count edges → length edges ≤ i →
    ((node : ℕ) (row : Vec ℕ Global) → At rows node row → row.items ++ targets (drop i edges) node ≡ targets edges node) → IsGraph edges rows
is_graph edges rows count i long within past each = record {
  within = subst (λ k. AreWithin k edges) (sym long) within;
  targets = λ node row at.
      let none : targets (drop i edges) node ≡ [] = ap (λ (es : List (ℕ × ℕ)). targets es node) (drop_all i edges past) in
      sym (append-nil row.items) ∙ ap (λ (xs : List ℕ). row.items ++ xs) (sym none) ∙ each node row at;
}

pub least_more : (nodes : List ℕ) (least i : ℕ) → i < length nodes → Has nodes least → Has nodes (min least (slice_index_or nodes i 0))
least_more nodes least i h has = elim (cases_lt least (slice_index_or nodes i 0)) [
  | inl low ↦ let e : least ≡ min least (slice_index_or nodes i 0) = omega (arith, low) in subst (λ k. Has nodes k) e has
  | inr high ↦ let e : slice_index_or nodes i 0 ≡ min least (slice_index_or nodes i 0) = omega (arith, high) in
      subst (λ k. Has nodes k) e (i, item_at nodes i 0 h)
]

pub least_below : (nodes : List ℕ) (least i : ℕ) → i < length nodes → ((k node : ℕ) → k < i → At nodes k node → least ≤ node) →
    (k node : ℕ) → k < i + 1 → At nodes k node → min least (slice_index_or nodes i 0) ≤ node
least_below nodes least i h low k node before at = elim (cases_eq k i) [
  | inl same ↦
      let e : slice_index_or nodes i 0 ≡ node = at_one nodes i (slice_index_or nodes i 0) node (item_at nodes i 0 h) (subst (λ j. At nodes j node) same at) in
      omega (arith, e)
  | inr ne ↦ let l = low k node (omega (arith, before, ne)) at in omega (arith, l)
]

-- the last bottom goes
module _ (bottoms front rest : List ℕ) (bottom : ℕ) (is : bottoms ≡ front ++ bottom ∷ []) (left : rest ≡ take (length bottoms - 1) bottoms) where
  pub is_front : rest ≡ front
  is_front =
      let long : length bottoms ≡ length front + 1 = ap (λ (xs : List ℕ). length xs) is ∙ length_push front bottom in
      let less : length bottoms - 1 ≡ length front = omega (arith, long) in
      left ∙ ap (λ k. take k bottoms) less ∙ ap (λ (xs : List ℕ). take (length front) xs) is ∙ take_at front (bottom ∷ []) (length front) refl

  pub rest_at : (i b : ℕ) → At rest i b → At bottoms i b
  rest_at i b at = subst (λ (xs : List ℕ). At xs i b) (sym is) (at_kept front (bottom ∷ []) i b (subst (λ (xs : List ℕ). At xs i b) is_front at))

  pub rest_has : (b : ℕ) → Has bottoms b → b ≢ bottom → Has rest b
  rest_has b (i, at) ne = elim (at_push front bottom i b (subst (λ (xs : List ℕ). At xs i b) is at)) [
    | inl old ↦ (i, subst (λ (xs : List ℕ). At xs i b) (sym is_front) old)
    | inr new ↦ absurd (ne new.1)
  ]
