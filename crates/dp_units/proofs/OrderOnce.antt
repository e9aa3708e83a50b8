-- The units of a graph have one order, and each node has one place in it.
use Rattle.std.proofs.Common.{◌≡◌, inl, inr, refl, sym, subst, ◌∙◌, ap, arith, ℕ, zero, suc, ◌<◌, ◌≤◌, List, [], ◌∷◌, ◌++◌, length, take, slice_index}
use Rattle.std.proofs.Math.Seq.{take-suc}
use Rattle.std.proofs.lemmas.Bool.{cases_lt}
use Rattle.std.proofs.lemmas.Grind.{same_number_lists}
use Rattle.std.proofs.lemmas.List.{get_or-take, take_all, length-take-le}
use Rattle.std.proofs.lemmas.List.Elements.{Contains-get_or}
use Rattle.dp_units.specs.Graph.{SameUnit}
use Rattle.dp_units.specs.Order.{IsTaken, IsNext, IsOrder, ArePlaces}
use Rattle.dp_units.proofs.PathLemmas.{walk_on}

module _ (n : ℕ) (edges : List (ℕ × ℕ)) where
  abbrev AreNext : List ℕ → Type 0
  AreNext order = (place : ℕ) → place < length order → IsNext n edges (take place order) (slice_index order place)

  one_next : (taken : List ℕ) (a b : ℕ) → IsNext n edges taken a → IsNext n edges taken b → a ≡ b
  one_next taken a b x y =
      let low = x.least b y.free in
      let high = y.least a x.free in
      omega (arith, low, high)

  same_front : (a b : List ℕ) → AreNext a → AreNext b → (k : ℕ) → k ≤ length a → k ≤ length b → take k a ≡ take k b
  same_front a b x y zero h g = refl
  same_front a b x y (suc k) h g =
      let below : k < length a = omega (arith, h) in
      let under : k < length b = omega (arith, g) in
      let front : take k a ≡ take k b = same_front a b x y k (omega (arith, h)) (omega (arith, g)) in
      let other : IsNext n edges (take k a) (slice_index b k) = subst (λ (front : List ℕ). IsNext n edges front (slice_index b k)) (sym front) (y k under) in
      let same : slice_index a k ≡ slice_index b k = one_next (take k a) (slice_index a k) (slice_index b k) (x k below) other in
      take-suc a k 0 below ∙ ap (λ (front : List ℕ). front ++ slice_index a k ∷ []) front ∙ ap (λ (node : ℕ). take k b ++ node ∷ []) same
      ∙ sym (take-suc b k 0 under)

  no_longer : (a b : List ℕ) → IsOrder n edges a → IsOrder n edges b → length a < length b → ⊥
  no_longer a b x y less =
      let next = y.next (length a) less in
      let front : take (length a) b ≡ a = sym (same_front a b x.next y.next (length a) (omega arith) (omega (arith, less)))
      ∙ take_all (length a) a (omega arith) in
      next.free.left (subst (λ (taken : List ℕ). IsTaken edges taken (slice_index b (length a))) (sym front)
      (x.all (slice_index b (length a)) next.free.within))

  pub one_order : (a b : List ℕ) → IsOrder n edges a → IsOrder n edges b → a ≡ b
  one_order a b x y = elim (cases_lt (length a) (length b)) [
    | inl less ↦ absurd (no_longer a b x y less)
    | inr most ↦ elim (cases_lt (length b) (length a)) [
      | inl more ↦ absurd (no_longer b a y x more)
      | inr least ↦
          let size : length b ≡ length a = omega (arith, most, least) in
          sym (take_all (length a) a (omega arith)) ∙ same_front a b x.next y.next (length a) (omega arith) (omega (arith, size))
          ∙ take_all (length a) b (omega (arith, size))
    ]
  ]

  -- a unit stands once in the order
  pub not_again : (order : List ℕ) → IsOrder n edges order → (i j : ℕ) → i < j → j < length order →
      SameUnit edges (slice_index order i) (slice_index order j) → ⊥
  not_again order ordered i j less within same =
      let at : slice_index (take j order) i ≡ slice_index order i = get_or-take j order i 0 less in
      let size : i < length (take j order) = let count = length-take-le j order (omega (arith, within)) in omega (arith, count, less) in
      let held = Contains-get_or (take j order) i 0 size in
      (ordered.next j within).free.left (slice_index (take j order) i, held, subst (λ (node : ℕ). SameUnit edges node (slice_index order j)) (sym at) same)

  one_place : (order : List ℕ) → IsOrder n edges order → (i j node : ℕ) → i < length order → j < length order → SameUnit edges (slice_index order i) node →
      SameUnit edges (slice_index order j) node → i ≡ j
  one_place order ordered i j node low high a b = elim (cases_lt i j) [
    | inl less ↦ absurd (not_again order ordered i j less high (walk_on edges a.0 b.1, walk_on edges b.0 a.1))
    | inr most ↦ elim (cases_lt j i) [
      | inl more ↦ absurd (not_again order ordered j i more low (walk_on edges b.0 a.1, walk_on edges a.0 b.1))
      | inr least ↦ omega (arith, most, least)
    ]
  ]

  pub same_places : (order a b : List ℕ) → IsOrder n edges order → ArePlaces n edges order a → ArePlaces n edges order b → a ≡ b
  same_places order a b ordered x y =
      same_number_lists a b (x.each ∙ sym y.each)
      (λ k h.
      let low : k < n = subst (λ (m : ℕ). k < m) x.each h in
      one_place order ordered (slice_index a k) (slice_index b k) k (x.within k low) (y.within k low) (x.same k low) (y.same k low))
