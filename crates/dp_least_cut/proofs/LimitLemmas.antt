-- One edge more, and one limit more.
use Rattle.std.proofs.Common.{◌≡◌, inl, inr, sym, subst, ◌∙◌, ap, arith, ℕ, ◌<◌, ◌≤◌, ◌+◌, List, [], ◌∷◌, ◌++◌, length, slice_index, slice_index_or}
use Rattle.std.proofs.lemmas.Bool.{cases_eq}
use Rattle.std.proofs.lemmas.List.{get_or_push, get_or_append_left, get_or_default}
use Rattle.dp_least_cut.specs.Allowed.{IsBetween}
use Rattle.dp_least_cut.specs.steps.Fits.{IsLimit}

module _ (edges : List (ℕ × ℕ)) (begin count limit next i : ℕ) (h : i < length edges)
    (least : (end : ℕ) → end ≤ next → (end ≤ limit) × ¬ ((begin ≤ (slice_index_or edges i (0, 0)).0) × ((slice_index_or edges i (0, 0)).0 < end)
    × (begin ≤ (slice_index_or edges i (0, 0)).1) × ((slice_index_or edges i (0, 0)).1 < end)))
    (most : (end : ℕ) → end ≤ limit → ¬ ((begin ≤ (slice_index_or edges i (0, 0)).0) × ((slice_index_or edges i (0, 0)).0 < end)
    × (begin ≤ (slice_index_or edges i (0, 0)).1) × ((slice_index_or edges i (0, 0)).1 < end)) → end ≤ next)
    (low : (end : ℕ) → end ≤ limit → (end ≤ count) × ((k : ℕ) (d : ℕ × ℕ) → k < i → ¬ (IsBetween begin end (slice_index_or edges k d).0
    × IsBetween begin end (slice_index_or edges k d).1)))
    (high : (end : ℕ) → end ≤ count → ((k : ℕ) (d : ℕ × ℕ) → k < i → ¬ (IsBetween begin end (slice_index_or edges k d).0
    × IsBetween begin end (slice_index_or edges k d).1)) → end ≤ limit) where
  pub low_more : (end : ℕ) → end ≤ next → (end ≤ count)
      × ((k : ℕ) (d : ℕ × ℕ) → k < i + 1 → ¬ (IsBetween begin end (slice_index_or edges k d).0 × IsBetween begin end (slice_index_or edges k d).1))
  low_more end e =
      let now = least end e in (
        (low end now.0).0,
        λ k d below both. elim (cases_eq k i) [
          | inl here ↦
              let same : slice_index_or edges k d ≡ slice_index_or edges i (0, 0) = ap (λ x. slice_index_or edges x d) here
              ∙ get_or_default edges i d (0, 0) h in
              let at : IsBetween begin end (slice_index_or edges i (0, 0)).0 × IsBetween begin end (slice_index_or edges i (0, 0)).1 =
              subst (λ (x : ℕ × ℕ). IsBetween begin end x.0 × IsBetween begin end x.1) same both in
              now.1 (at.0.0, at.0.1, at.1.0, at.1.1)
          | inr other ↦ (low end now.0).1 k d (omega (arith, below, other)) both
        ],
      )

  pub high_more : (end : ℕ) → end ≤ count →
      ((k : ℕ) (d : ℕ × ℕ) → k < i + 1 → ¬ (IsBetween begin end (slice_index_or edges k d).0 × IsBetween begin end (slice_index_or edges k d).1)) → end ≤ next
  high_more end e all = most end (high end e (λ k d below. all k d (omega (arith, below)))) (λ q. all i (0, 0) (omega arith) ((q.0, q.1), (q.2, q.3)))

pub limits_more : (edges : List (ℕ × ℕ)) (count limit : ℕ) (limits : List ℕ) → ((b : ℕ) → b < length limits → IsLimit edges count b (slice_index limits b)) →
    IsLimit edges count (length limits) limit →
    (b : ℕ) → b < length limits + 1 → IsLimit edges count b (slice_index (limits ++ limit ∷ []) b)
limits_more edges count limit limits before last b h = elim (cases_eq b (length limits)) [
  | inl here ↦
      let is : slice_index (limits ++ limit ∷ []) b ≡ limit = get_or_push limits limit 0 b (sym here) in
      subst (λ (x : ℕ). IsLimit edges count b x) (sym is) (subst (λ (x : ℕ). IsLimit edges count x limit) (sym here) last)
  | inr other ↦
      let early : b < length limits = omega (arith, h, other) in
      subst (λ (x : ℕ). IsLimit edges count b x) (sym (get_or_append_left limits (limit ∷ []) 0 b early)) (before b early)
]
