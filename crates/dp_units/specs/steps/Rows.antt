-- The edges of a graph, by the node that they lead from, and counted by the node that they lead to.
use Rattle.std.specs.Prelude.{ℕ, ◌≡◌, ◌+◌, ◌&&◌, ◌==◌, if◌then◌else◌, List, [], ◌∷◌, length, slice_index, Vec}
use Rattle.std.specs.declared.alloc.Global.{Global}
use Rattle.dp_room.specs.OneIf.{one_if}
use Rattle.dp_units.specs.Graph.{AreWithin}
use Rattle.dp_units.specs.steps.Entries.{At}

-- what the edges from this node lead to
abbrev pub targets : List (ℕ × ℕ) → ℕ → List ℕ
targets [] node = []
targets (edge ∷ edges) node = if edge.0 == node then edge.1 ∷ targets edges node else targets edges node

-- how many edges lead to this node from nodes without a place; in place of one such a node has the number of all nodes
abbrev pub waits_for : ℕ → List ℕ → List (ℕ × ℕ) → ℕ → ℕ
waits_for count place_of [] node = 0
waits_for count place_of (edge ∷ edges) node = one_if ((edge.1 == node) && (slice_index place_of edge.0 == count)) + waits_for count place_of edges node

-- each row has what the edges of its node lead to
abbrev pub AreRows : List (ℕ × ℕ) → List (Vec ℕ Global) → Type 0
AreRows edges rows = (node : ℕ) (row : Vec ℕ Global) → At rows node row → row.items ≡ targets edges node

-- these are edges between so many nodes as there are rows, and their rows
pub record IsGraph (edges : List (ℕ × ℕ)) (rows : List (Vec ℕ Global)) : Type 0 where
  pub within : AreWithin (length rows) edges
  pub targets : AreRows edges rows
