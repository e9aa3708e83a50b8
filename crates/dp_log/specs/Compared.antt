-- Where two texts differ.
use Rattle.std.specs.Prelude.{◌≡◌, ◌≢◌, ℕ, ◌+◌, ◌-◌, ◌<◌, ◌≤◌, List, slice_get}
use Rattle.dp_text.specs.Lines.{lines_of}

-- This line, from 1, is the first that isn't the same in both texts: a line that one of them lacks differs, and so does one without its LF.
pub record DifferFirst (text other : List ℕ) (line : ℕ) : Type 0 where
  pub counted : 1 ≤ line
  pub same : (k : ℕ) → k + 1 < line → slice_get (lines_of text) k ≡ slice_get (lines_of other) k
  pub differs : slice_get (lines_of text) (line - 1) ≢ slice_get (lines_of other) (line - 1)
