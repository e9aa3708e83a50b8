-- A log that is compared with a text piece by piece.
use Rattle.std.specs.Prelude.{◌≡◌, ℕ, suc, ◌+◌, ◌==◌, if◌then◌else◌, List, [], ◌∷◌, ◌++◌, length, take, drop, Option, Some, None}
use Rattle.dp_log.specs.Compared.{DifferFirst}

-- a log, of which so many bytes are as expected
pub record Compared : Type 0 where
  pub log : List ℕ
  pub place : ℕ

-- the number of the bytes at the front that two texts share
abbrev pub shared : List ℕ → List ℕ → ℕ
shared [] other = 0
shared (x ∷ xs) [] = 0
shared (x ∷ xs) (y ∷ ys) = if x == y then suc (shared xs ys) else 0

-- how many LFs there are
abbrev pub breaks : List ℕ → ℕ
breaks [] = 0
breaks (byte ∷ rest) = if byte == 10 then suc (breaks rest) else breaks rest

-- the number of the line, from 1, that stands behind these bytes
abbrev pub line_behind : List ℕ → ℕ
line_behind text = 1 + breaks text

-- The piece stands there, and the comparison stands behind it.
pub record PassesPiece (old new : Compared) (piece : List ℕ) : Type 0 where
  pub log : new.log ≡ old.log
  pub piece_is : drop old.place old.log ≡ piece ++ drop new.place old.log
  pub place_is : new.place ≡ old.place + length piece

-- What is expected from there on isn't what the log has, and this is the first line at which they differ.
abbrev pub Fails : Compared → List ℕ → ℕ → Type 0
Fails old expected line = DifferFirst old.log (take old.place old.log ++ expected) line

-- the piece passes, or this is the first line that differs, whatever comes behind the piece
abbrev pub Compares : Compared → Compared → List ℕ → Option ℕ → Type 0
Compares old new piece None = PassesPiece old new piece
Compares old new piece (Some line) = (later : List ℕ) → Fails old (piece ++ later) line
