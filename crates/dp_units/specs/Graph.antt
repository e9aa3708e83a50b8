-- A directed graph, given by its edges, and the classes of nodes that reach each other.
use Rattle.std.specs.Prelude.{ℕ, ◌<◌, List, Contains, All}

-- both ends of each edge are among the first so many nodes
abbrev pub AreWithin : ℕ → List (ℕ × ℕ) → Type 0
AreWithin count edges = All (λ edge. (edge.0 < count) × (edge.1 < count)) edges

-- an edge leads from the one node to the other
abbrev pub HasEdge : List (ℕ × ℕ) → ℕ → ℕ → Type 0
HasEdge edges from to = Contains edges (from, to)

-- a walk along edges, of any length: each node has one to itself
pub data Walk (edges : List (ℕ × ℕ)) (from : ℕ) : ℕ → Type 0 where
  stay : Walk edges from from
  along : {between to : ℕ} → Walk edges from between → HasEdge edges between to → Walk edges from to

-- two nodes are of one unit where walks lead both ways
abbrev pub SameUnit : List (ℕ × ℕ) → ℕ → ℕ → Type 0
SameUnit edges a b = Walk edges a b × Walk edges b a
