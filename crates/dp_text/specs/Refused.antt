-- The line at which a text that isn't in a grammar is refused.
use Rattle.std.specs.Prelude.{◌≡◌, ℕ, ◌+◌, ◌<◌, ◌≤◌, List, ◌++◌, length, take}

-- a text of a grammar begins with these lines
abbrev pub BeginsText : (List (List ℕ) → Type 0) → List (List ℕ) → Type 0
BeginsText IsText lines = (more : List (List ℕ)) × IsText (lines ++ more)

-- The least line, from 1, up to which no text of a grammar begins so. Where one begins with all lines, but isn't
-- these, it is the number after the last line.
pub data IsRefusedAt (IsText : List (List ℕ) → Type 0) (lines : List (List ℕ)) : ℕ → Type 0 where
  at_line : (line : ℕ) → 1 ≤ line → line ≤ length lines → ((k : ℕ) → k < line → BeginsText IsText (take k lines)) → ¬ BeginsText IsText (take line lines) →
      IsRefusedAt IsText lines line
  at_end : (line : ℕ) → line ≡ length lines + 1 → ((k : ℕ) → k < line → BeginsText IsText (take k lines)) → ¬ IsText lines → IsRefusedAt IsText lines line
