-- A region's statement, found among those of `main`: the first, and the only one where one is counted.
use Rattle.std.proofs.Common.{◌≡◌, ap, ◌∙◌, ℕ, ◌+◌, ◌<◌, Bool, true, false, if◌then◌else◌, List, [], ◌∷◌, filter, drop, get_or, length, Some, None, slice_get}
use Rattle.std.proofs.Common.{count_by, arith}
use Rattle.std.proofs.lemmas.List.Sums.{length-filter}
use Rattle.dp_tree.specs.declared.Stmt.{Stmt}
use Rattle.dp_plan.specs.Access.{is_region_at}
use Rattle.dp_plan.specs.Walks.{is_region_of}
use Rattle.dp_room.proofs.ListLemmas.{next_of}

module _ (r : ℕ) (all : List Stmt) (i : ℕ) (s : Stmt) (low : i < length all) (is : s ≡ get_or all i s) where
  pub first_here : is_region_of r s ≡ true → slice_get (filter (is_region_at r) (drop i all)) 0 ≡ Some s
  unfolding is_region_of
  first_here e = ap (λ (xs : List Stmt). slice_get (filter (is_region_at r) xs) 0) (next_of all i s low is)
      ∙ ap (λ (b : Bool). slice_get (if b then s ∷ filter (is_region_at r) (drop (i + 1) all) else filter (is_region_at r) (drop (i + 1) all)) 0) e

  pub first_later : is_region_of r s ≡ false → filter (is_region_at r) (drop i all) ≡ filter (is_region_at r) (drop (i + 1) all)
  unfolding is_region_of
  first_later e = ap (filter (is_region_at r)) (next_of all i s low is) ∙ ap (λ (b : Bool). if b then s ∷ filter (is_region_at r) (drop (i + 1) all)
      else filter (is_region_at r) (drop (i + 1) all)) e

single : (xs : List Stmt) (s : Stmt) → slice_get xs 0 ≡ Some s → length xs ≡ 1 → xs ≡ s ∷ []
single [] s e n = absurd (cc e)
single (x ∷ []) s e n = let is : x ≡ s = cc e in ap (λ (y : Stmt). y ∷ []) is
single (x ∷ y ∷ xs) s e n = absurd (omega (arith, n))

pub only_one : (r : ℕ) (all : List Stmt) (s : Stmt) → slice_get (filter (is_region_at r) all) 0 ≡ Some s → count_by (is_region_at r) all ≡ 1 →
    filter (is_region_at r) all ≡ s ∷ []
only_one r all s e n = single (filter (is_region_at r) all) s e (length-filter (is_region_at r) all ∙ n)

pub not_one : (xs : List Stmt) → slice_get xs 0 ≡ None → length xs ≡ 1 → ⊥
not_one [] e n = omega (arith, n)
not_one (x ∷ xs) e n = cc e
