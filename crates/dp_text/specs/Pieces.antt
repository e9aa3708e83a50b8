-- A text that is cut.
use Rattle.std.specs.Prelude.{ℕ, Bool, if◌then◌else◌, List, [], ◌∷◌}

-- the byte at the front of the first piece
abbrev pub onto_first : ℕ → List (List ℕ) → List (List ℕ)
onto_first byte [] = (byte ∷ []) ∷ []
onto_first byte (piece ∷ pieces) = (byte ∷ piece) ∷ pieces

-- what stands before, between and after the bytes of a kind, some of it empty
abbrev pub pieces : (ℕ → Bool) → List ℕ → List (List ℕ)
pieces is_cut [] = [] ∷ []
pieces is_cut (byte ∷ text) = if is_cut byte then [] ∷ pieces is_cut text else onto_first byte (pieces is_cut text)
