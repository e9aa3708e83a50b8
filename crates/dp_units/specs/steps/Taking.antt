-- Taking the units one by one, each by its leader.
use Rattle.std.specs.Prelude.{ℕ, ◌≡◌, ◌≢◌, ◌<◌, ◌≤◌, ◌+◌, ◌==◌, List, [], ◌∷◌, length, take, slice_index}
use Rattle.dp_room.specs.OneIf.{one_if}
use Rattle.dp_units.specs.steps.Entries.{Has}
use Rattle.dp_units.specs.Order.{IsNext}
use Rattle.dp_units.specs.steps.Rows.{waits_for}

-- how many nodes have no place; in place of one such a node has the number of all nodes
abbrev pub left_over : ℕ → List ℕ → ℕ
left_over count [] = 0
left_over count (place ∷ places) = one_if (place == count) + left_over count places

-- the node leads a unit that has no place and waits for none
pub record MayBeTaken (count : ℕ) (leader_of : List ℕ) (between : List (ℕ × ℕ)) (place_of : List ℕ) (node : ℕ) : Type 0 where
  pub within : node < count
  pub leader : slice_index leader_of node ≡ node
  pub left : slice_index place_of node ≡ count
  pub ready : waits_for count place_of between node ≡ 0

-- the order so far, the places that were given to leaders, how many edges each waits for, and the leaders that may be taken
pub record IsTaking (count : ℕ) (edges : List (ℕ × ℕ)) (leader_of : List ℕ) (between : List (ℕ × ℕ)) (place_of order waits free : List ℕ) : Type 0 where
  pub each : length place_of ≡ count
  pub wide : length waits ≡ count
  pub counts : (node : ℕ) → node < count → slice_index waits node ≡ waits_for count place_of between node
  pub may : (node : ℕ) → Has free node → MayBeTaken count leader_of between place_of node
  pub all : (node : ℕ) → MayBeTaken count leader_of between place_of node → Has free node
  pub placed : (node : ℕ) → node < count → slice_index place_of node ≢ count → slice_index place_of node < length order
  pub stands : (node : ℕ) → node < count → slice_index place_of node ≢ count → slice_index order (slice_index place_of node) ≡ node
  pub leader : (node : ℕ) → node < count → slice_index place_of node ≢ count → slice_index leader_of node ≡ node
  pub ready : (node : ℕ) → node < count → slice_index place_of node ≢ count → waits_for count place_of between node ≡ 0
  pub within : (place : ℕ) → place < length order → slice_index order place < count
  pub given : (place : ℕ) → place < length order → slice_index place_of (slice_index order place) ≢ count
  pub next : (place : ℕ) → place < length order → IsNext count edges (take place order) (slice_index order place)
  pub room : left_over count place_of + length order ≤ count
