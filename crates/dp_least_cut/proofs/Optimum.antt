-- A cut that keeps the least bound, whose stages are as short as can be, and replicated only where they have to be, is the least.
use Rattle.std.proofs.Common.{◌≡◌, ◌⊎◌, inl, inr, refl, subst, ◌∙◌, ap, arith, ℕ, ◌<◌, ◌≤◌, ◌+◌, Bool, true, false, List, [], ◌∷◌, if◌then◌else◌}
use Rattle.std.proofs.lemmas.Bool.{cases_lt}
use Rattle.dp_least_cut.specs.declared.Stretch.{Stretch}
use Rattle.dp_least_cut.specs.Allowed.{IsAllowed, bottleneck}
use Rattle.dp_least_cut.specs.Order.{places_from, IsListBefore, IsBefore, replicated_count}
use Rattle.dp_least_cut.specs.Order.IsBefore.{by_bottleneck, by_places, by_count}
use Rattle.dp_least_cut.specs.LeastCut.{IsLeastCut}
use Rattle.dp_least_cut.specs.steps.Best.{NoLater, Best}
use Rattle.dp_least_cut.specs.steps.Fits.{Fits}

-- the same stages, replicated only where those of the second are
abbrev pub IsWithin : List Stretch → List Stretch → Type 0
IsWithin [] [] = Unit {0}
IsWithin [] (o ∷ os) = ⊥
IsWithin (g ∷ gs) [] = ⊥
IsWithin (g ∷ gs) (o ∷ os) = (g.units ≡ o.units) × (g.replicated ≡ true → o.replicated ≡ true) × IsWithin gs os

pub places_first : (begin : ℕ) (g o : List Stretch) → NoLater g o → IsListBefore (λ x y. x < y) (places_from begin g) (places_from begin o)
    ⊎ ((places_from begin g ≡ places_from begin o) × IsWithin g o)
places_first begin [] [] n = inr (refl, n)
places_first begin [] (o ∷ os) n = absurd n
places_first begin (g ∷ gs) [] n = absurd n
places_first begin (g ∷ []) (o ∷ []) n = inr (refl, (n.0, n.1, tt))
places_first begin (g ∷ []) (o ∷ p ∷ os) n = inl tt
places_first begin (g ∷ h ∷ gs) (o ∷ []) n = absurd n
places_first begin (g ∷ h ∷ gs) (o ∷ p ∷ os) n = elim n [
  | inl less ↦ inl (inl (omega (arith, less)))
  | inr same ↦
      let at : begin + g.units ≡ begin + o.units = ap (λ k. begin + k) same.0 in
      elim (places_first (begin + g.units) (h ∷ gs) (p ∷ os) same.2) [
        | inl before ↦ inl (inr (at, subst (λ k. IsListBefore (λ x y. x < y) (places_from (begin + g.units) (h ∷ gs)) (places_from k (p ∷ os))) at before))
        | inr rest ↦ inr (
          ap (λ xs. (begin + g.units) ∷ xs) rest.0 ∙ ap (λ k. k ∷ places_from k (p ∷ os)) at,
          (same.0, same.1, rest.1),
        )
      ]
]

one_kind : (g o : Bool) → (g ≡ true → o ≡ true) → (g ≡ o) ⊎ ((g ≡ false) × (o ≡ true))
one_kind true true h = inl refl
one_kind true false h = absurd (cc (h refl))
one_kind false true h = inr (refl, refl)
one_kind false false h = inl refl

same_stretch : (g o : Stretch) → g.units ≡ o.units → g.replicated ≡ o.replicated → g ≡ o
same_stretch g o e f = ap (λ (u : ℕ). record g { units = u }) e ∙ ap (λ (r : Bool). record o { replicated = r }) f

abbrev count_of : Bool → ℕ
count_of r = if r then 1 else 0

pub fewer_replicated : (g o : List Stretch) → IsWithin g o → (replicated_count g < replicated_count o) ⊎ (g ≡ o)
fewer_replicated [] [] n = inr refl
fewer_replicated [] (o ∷ os) n = absurd n
fewer_replicated (g ∷ gs) [] n = absurd n
fewer_replicated (g ∷ gs) (o ∷ os) n = elim (fewer_replicated gs os n.2) [
  | inl less ↦ elim (one_kind g.replicated o.replicated n.1) [
    | inl same ↦ let e = ap count_of same in inl (omega (arith, e, less))
    | inr change ↦ let e = ap count_of change.0 in let f = ap count_of change.1 in inl (omega (arith, e, f, less))
  ]
  | inr equal ↦ elim (one_kind g.replicated o.replicated n.1) [
    | inl same ↦ inr (ap (λ s. s ∷ gs) (same_stretch g o n.0 same) ∙ ap (λ xs. o ∷ xs) equal)
    | inr change ↦ let e = ap count_of change.0 in let f = ap count_of change.1 in let k = ap replicated_count equal in inl (omega (arith, e, f, k))
  ]
]

module _ (weights : List ℕ) (carried : List (ℕ × ℕ)) (most workers bound : ℕ) (cut : List Stretch) (allowed : IsAllowed weights carried most cut)
    (keeps : bottleneck weights workers 0 cut ≤ bound)
    (least : (other : List Stretch) → IsAllowed weights carried most other → bound ≤ bottleneck weights workers 0 other)
    (first : (other : List Stretch) → IsAllowed weights carried most other → bottleneck weights workers 0 other ≤ bound → NoLater cut other) where
  is_first : (other : List Stretch) → IsAllowed weights carried most other → (cut ≡ other) ⊎ IsBefore weights workers cut other
  is_first other may =
      let low : bound ≤ bottleneck weights workers 0 cut = least cut allowed in
      elim (cases_lt bound (bottleneck weights workers 0 other)) [
        | inl above ↦ inr (by_bottleneck (omega (arith, above, keeps)))
        | inr within ↦
            let other_low = least other may in
            let same : bottleneck weights workers 0 cut ≡ bottleneck weights workers 0 other = omega (arith, low, keeps, within, other_low) in
            elim (places_first 0 cut other (first other may within)) [
              | inl before ↦ inr (by_places same before)
              | inr rest ↦ elim (fewer_replicated cut other rest.1) [
                | inl fewer ↦ inr (by_count same rest.0 fewer)
                | inr equal ↦ inl equal
              ]
            ]
      ]

  pub is_least : IsLeastCut weights carried most workers cut
  is_least = record { allowed = allowed; first = is_first }

-- the best cut that keeps a bound, of which no lower one can be kept
pub least_of_best : (weights : List ℕ) (carried : List (ℕ × ℕ)) (most workers bound : ℕ) (cut : List Stretch) →
    Best weights carried workers bound most true 0 cut →
    ((lower : ℕ) → lower < bound → ¬ Fits weights carried workers lower most true 0) → IsLeastCut weights carried most workers cut
least_of_best weights carried most workers bound cut best low = is_least weights carried most workers bound cut (best.stages, best.few) best.cheap
    (λ other may. elim (cases_lt (bottleneck weights workers 0 other) bound) [
      | inl below ↦ absurd (low (bottleneck weights workers 0 other) below (record { cut = other; stages = may.0; few = may.1; cheap = omega arith }))
      | inr above ↦ above
    ])
    (λ other may cheap. best.first other may.0 may.1 cheap)
