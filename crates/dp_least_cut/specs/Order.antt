-- Which of two cuts comes first.
use Rattle.std.specs.Prelude.{ℕ, ◌≡◌, ◌<◌, ◌⊎◌, ◌+◌, Bool, true, false, List, [], ◌∷◌, map, if◌then◌else◌}
use Rattle.dp_least_cut.specs.declared.Stretch.{Stretch}
use Rattle.dp_least_cut.specs.Allowed.{bottleneck}

-- the places of the cuts between the stages: how many units stand before each
abbrev pub places_from : ℕ → List Stretch → List ℕ
places_from begin [] = []
places_from begin (s ∷ []) = []
places_from begin (s ∷ t ∷ rest) = (begin + s.units) ∷ places_from (begin + s.units) (t ∷ rest)

-- the first list comes before the second, element by element; the front of a list comes before it
abbrev pub IsListBefore : {X : Type 0} → (X → X → Type 0) → List X → List X → Type 0
IsListBefore before xs [] = ⊥
IsListBefore before [] (y ∷ ys) = Unit {0}
IsListBefore before (x ∷ xs) (y ∷ ys) = before x y ⊎ ((x ≡ y) × IsListBefore before xs ys)

-- a sequential stage comes before a replicated one
abbrev pub IsKindBefore : Bool → Bool → Type 0
IsKindBefore a b = (a ≡ false) × (b ≡ true)

abbrev pub kinds : List Stretch → List Bool
kinds cut = map (λ (s : Stretch). s.replicated) cut

-- how many stages are replicated
abbrev pub replicated_count : List Stretch → ℕ
replicated_count [] = 0
replicated_count (s ∷ rest) = (if s.replicated then 1 else 0) + replicated_count rest

-- The first cut comes before the second: by the bottleneck, then by the list of cut places, then by the number of replicated stages, then by the list of kinds.
pub data IsBefore (weights : List ℕ) (workers : ℕ) (a b : List Stretch) : Type 0 where
  by_bottleneck : bottleneck weights workers 0 a < bottleneck weights workers 0 b → IsBefore weights workers a b
  by_places : bottleneck weights workers 0 a ≡ bottleneck weights workers 0 b → IsListBefore (λ x y. x < y) (places_from 0 a) (places_from 0 b) →
      IsBefore weights workers a b
  by_count : bottleneck weights workers 0 a ≡ bottleneck weights workers 0 b → places_from 0 a ≡ places_from 0 b → replicated_count a < replicated_count b →
      IsBefore weights workers a b
  by_kinds : bottleneck weights workers 0 a ≡ bottleneck weights workers 0 b → places_from 0 a ≡ places_from 0 b → replicated_count a ≡ replicated_count b →
      IsListBefore IsKindBefore (kinds a) (kinds b) → IsBefore weights workers a b
