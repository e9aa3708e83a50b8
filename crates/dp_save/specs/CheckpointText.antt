-- The text of a checkpoint: its lines in order, and the words of each.
use Rattle.std.specs.Prelude.{◌≡◌, ◌⊎◌, ℕ, ◌==◌, if◌then◌else◌, List, [], ◌∷◌, ◌++◌, map, codes, decimal, ℤ, pos}
use Rattle.std.specs.Fmt.{signed_decimal}
use Rattle.dp_base.specs.declared.RegionReport.{RegionReport}
use Rattle.dp_text.specs.Lines.{lines_of}
use Rattle.dp_text.specs.Words.{joined_words}
use Rattle.dp_tree.specs.declared.Program.{Program}
use Rattle.dp_save.specs.declared.Checkpoint.{Checkpoint}
use Rattle.dp_save.specs.Fits.{Fits}

-- the first line
abbrev pub head_words : List (List ℕ)
head_words = codes "checkpoint" ∷ codes "1" ∷ []

-- the region, how many of its iterations were made, and how many steps of the fuel; numbers are decimal, without a sign or leading zeros
abbrev pub place_words : Checkpoint → List (List ℕ)
place_words c = codes "region" ∷ decimal c.region ∷ codes "after" ∷ decimal c.after ∷ codes "steps" ∷ decimal c.steps ∷ codes "fuel" ∷ decimal c.fuel ∷ []

-- the memory, by a word for each value
abbrev pub cells_words : List (List ℕ) → List (List ℕ)
cells_words written = codes "cells" ∷ written

-- a count, and behind a colon the numbers that are listed, where it isn't 0
abbrev pub counted_words : ℕ → List ℕ → List (List ℕ)
counted_words count numbers = if count == 0 then decimal count ∷ [] else (decimal count ++ codes ":") ∷ map decimal numbers

-- a region's begun iterations, and those of them that were executed again
abbrev pub report_words : RegionReport → List (List ℕ)
report_words r = codes "report" ∷ decimal r.region ∷ codes "iterations" ∷ decimal r.iterations ∷ codes "recovered" ∷ counted_words r.recovered_count r.recovered

-- the last line
abbrev pub end_words : List (List ℕ)
end_words = codes "end" ∷ []

-- the words of the lines of a checkpoint whose values are written so
abbrev pub checkpoint_lines : Checkpoint → List (List ℕ) → List (List (List ℕ))
checkpoint_lines c written = head_words ∷ place_words c ∷ cells_words written ∷ (map report_words c.reports ++ end_words ∷ [])

-- a line's bytes: its words with single spaces between, and LF
abbrev pub line_bytes : List (List ℕ) → List ℕ
line_bytes words = joined_words words ++ 10 ∷ []

-- the word writes the value: in decimal without leading zeros, behind a minus where it is negative; 0 may have a minus, too
abbrev pub Writes : List ℕ → ℤ → Type 0
Writes word z = (word ≡ signed_decimal z) ⊎ ((word ≡ codes "-0") × (z ≡ pos 0))

-- the words write the values, one each
abbrev pub WriteAll : List (List ℕ) → List ℤ → Type 0
WriteAll [] [] = Unit {0}
WriteAll [] (z ∷ zs) = ⊥
WriteAll (word ∷ words) [] = ⊥
WriteAll (word ∷ words) (z ∷ zs) = Writes word z × WriteAll words zs

-- the lines are those of this checkpoint of the program
pub record CheckpointLines (p : Program) (lines : List (List ℕ)) (c : Checkpoint) : Type 0 where
  pub written : List (List ℕ)
  pub write : WriteAll written c.cells
  pub lines_are : lines ≡ map line_bytes (checkpoint_lines c written)
  pub fits : Fits p c

-- the text is that of this checkpoint
abbrev pub CheckpointText : Program → List ℕ → Checkpoint → Type 0
CheckpointText p bytes c = CheckpointLines p (lines_of bytes) c
