-- The least node of each unit, which leads it, and the edges between units.
use Rattle.std.specs.Prelude.{ℕ, ◌≡◌, ◌≢◌, ◌<◌, ◌≤◌, ◌⊎◌, List, length, slice_index}
use Rattle.dp_units.specs.Graph.{HasEdge, SameUnit}

-- `leader_of` gives for each node the least node of its unit, and there is a rank of units that falls along each edge between two
pub record AreLeaders (count : ℕ) (edges : List (ℕ × ℕ)) (leader_of : List ℕ) : Type 0 where
  pub each : length leader_of ≡ count
  pub least : (v : ℕ) → v < count → slice_index leader_of v ≤ v
  pub same : (v : ℕ) → v < count → SameUnit edges (slice_index leader_of v) v
  pub one : (a b : ℕ) → a < count → b < count → SameUnit edges a b → slice_index leader_of a ≡ slice_index leader_of b
  pub rank : ℕ → ℕ
  pub highest : ℕ
  pub bound : (v : ℕ) → v < count → rank (slice_index leader_of v) ≤ highest
  pub falls : (a b : ℕ) → HasEdge edges a b → (slice_index leader_of a ≡ slice_index leader_of b)
      ⊎ (rank (slice_index leader_of b) < rank (slice_index leader_of a))

-- the edges that lead from one unit to another, each from leader to leader
pub record AreBetween (edges : List (ℕ × ℕ)) (leader_of : List ℕ) (between : List (ℕ × ℕ)) : Type 0 where
  pub from : (x y : ℕ) → HasEdge between x y → (x ≢ y) × (a : ℕ) × (b : ℕ) × HasEdge edges a b × (slice_index leader_of a ≡ x) × (slice_index leader_of b ≡ y)
  pub all : (a b : ℕ) → HasEdge edges a b → slice_index leader_of a ≢ slice_index leader_of b →
      HasEdge between (slice_index leader_of a) (slice_index leader_of b)
