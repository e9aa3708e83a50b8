-- What a piece holds.
use Rattle.std.specs.Prelude.{ℤ, List, map, Option, None, Some}
use Rattle.std.specs.Arc.{arc_value}
use Rattle.std.specs.declared.sync.Arc.{Arc}
use Rattle.std.specs.declared.vec.Vec.{Vec}
use Rattle.std.specs.declared.alloc.Global.{Global}
use Rattle.dp_memory.specs.declared.piece.Piece.{Piece}

-- the shared items, or else the own ones
unfoldable pub held : {X : Type 0} → List X → Option (Arc (Vec X Global) Global) → List X
held own None = own
held own (Some shared) = (arc_value shared).items

-- the items of a piece
abbrev pub items_of : {X : Type 0} → Piece X → List X
items_of piece = held piece.own.items piece.shared

-- the cells of each page of a group
abbrev pub pages_of : Piece (Piece ℤ) → List (List ℤ)
pages_of group = map items_of (items_of group)

-- the pages of each of the groups
abbrev pub groups_of : Piece (Piece (Piece ℤ)) → List (List (List ℤ))
groups_of groups = map pages_of (items_of groups)
