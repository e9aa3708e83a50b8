-- What an order of units says of the places of nodes.
use Rattle.std.proofs.Common.{◌≡◌, inl, inr, sym, subst, arith, ℕ, ◌<◌, ◌≤◌, List, length, take, drop, slice_index, Contains}
use Rattle.std.proofs.lemmas.Bool.{cases_lt}
use Rattle.std.proofs.lemmas.List.{take-take, take-append-drop}
use Rattle.std.proofs.lemmas.List.Elements.{Contains-append_left}
use Rattle.dp_units.specs.Graph.{Walk, SameUnit}
use Rattle.dp_units.specs.Order.{IsOrder, ArePlaces}
use Rattle.dp_units.proofs.PathLemmas.{walk_on}
use Rattle.dp_units.proofs.OrderOnce.{not_again}

more_taken : (xs : List ℕ) (x j k : ℕ) → j ≤ k → Contains (take j xs) x → Contains (take k xs) x
more_taken xs x j k h c = subst (λ (ys : List ℕ). Contains ys x) (take-append-drop j (take k xs))
    (Contains-append_left (take j (take k xs)) (drop j (take k xs)) x (subst (λ (ys : List ℕ). Contains ys x) (sym (take-take j k xs h)) c))

module _ (n : ℕ) (edges : List (ℕ × ℕ)) (order places : List ℕ) (ordered : IsOrder n edges order) (placed : ArePlaces n edges order places) where
  abbrev place : ℕ → ℕ
  place a = slice_index places a

  abbrev leader : ℕ → ℕ
  leader a = slice_index order (slice_index places a)

  joined : {a b c : ℕ} → SameUnit edges a b → SameUnit edges b c → SameUnit edges a c
  joined one two = (walk_on edges one.0 two.0, walk_on edges two.1 one.1)

  turned : {a b : ℕ} → SameUnit edges a b → SameUnit edges b a
  turned one = (one.1, one.0)

  -- along a walk the places don't fall
  pub along_walks : (a b : ℕ) → a < n → b < n → Walk edges a b → place a ≤ place b
  along_walks a b ha hb walk = elim (cases_lt (place b) (place a)) [
    | inr low ↦ low
    | inl below ↦
        let la : place a < length order = placed.within a ha in
        let lb : place b < length order = placed.within b hb in
        let to_leader : Walk edges a (leader b) = walk_on edges walk (placed.same b hb).1 in
        elim ((ordered.next (place b) lb).free.ready a to_leader) [
          | inl same ↦ absurd (not_again n edges order ordered (place b) (place a) below la (turned (joined (placed.same a ha) same)))
          | inr taken ↦ absurd
              ((ordered.next (place a) la).free.left
              (taken.0, more_taken order taken.0 (place b) (place a) (omega (arith, below)) taken.1, joined taken.2 (turned (placed.same a ha))))
        ]
  ]

  -- each unit in the order has the place at which it stands
  pub place_of_leader : (k : ℕ) → k < length order → place (slice_index order k) ≡ k
  place_of_leader k l =
      let node : ℕ = slice_index order k in
      let h : node < n = (ordered.next k l).free.within in
      let there : place node < length order = placed.within node h in
      let same : SameUnit edges (leader node) node = placed.same node h in
      elim (cases_lt (place node) k) [
        | inl below ↦ absurd (not_again n edges order ordered (place node) k below l same)
        | inr low ↦ elim (cases_lt k (place node)) [
          | inl above ↦ absurd (not_again n edges order ordered k (place node) above there (turned same))
          | inr high ↦
              omega (arith, low, high)
        ]
      ]

  -- the least node stands first where walks lead from it to all others
  pub first_of_all : 0 < n → ((b : ℕ) → b < n → Walk edges 0 b) → place 0 ≡ 0
  first_of_all h all =
      let some : 0 < length order = omega (arith, placed.within 0 h) in
      let leads : Walk edges 0 (slice_index order 0) = all (slice_index order 0) (ordered.next 0 some).free.within in
      let low = along_walks 0 (slice_index order 0) h (ordered.next 0 some).free.within leads in
      let first = place_of_leader 0 some in
      omega (arith, low, first)
