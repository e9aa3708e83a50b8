-- The text of a checkpoint as it is written.
use Rattle.std.specs.Prelude.{ℕ, ◌==◌, if◌then◌else◌, List, [], ◌∷◌, ◌++◌, map, codes, ℤ}
use Rattle.std.specs.Fmt.{signed_decimal}
use Rattle.std.specs.List.{flat_map}
use Rattle.dp_base.specs.declared.RegionReport.{RegionReport}
use Rattle.dp_text.specs.Labels.{labelled, spaced}
use Rattle.dp_save.specs.declared.Checkpoint.{Checkpoint}
use Rattle.dp_save.specs.CheckpointText.{checkpoint_lines, line_bytes, place_words, report_words}

-- the lines of the checkpoint, without a minus before 0
unfoldable pub checkpoint_bytes : Checkpoint → List ℕ
checkpoint_bytes c = flat_map line_bytes (checkpoint_lines c (map signed_decimal c.cells))

-- the line of the place
unfoldable pub place_text : Checkpoint → List ℕ
place_text c = line_bytes (place_words c)

-- a value behind a space
unfoldable pub value_text : ℤ → List ℕ
value_text z = codes " " ++ signed_decimal z

abbrev pub values_text : List ℤ → List ℕ
values_text values = flat_map value_text values

-- the line of the memory
abbrev pub cells_text : List ℤ → List ℕ
cells_text cells = codes "cells" ++ (values_text cells ++ 10 ∷ [])

-- a colon and the numbers, where there are any
abbrev pub listed_text : ℕ → List ℕ → List ℕ
listed_text count numbers = if count == 0 then [] else (codes ":" ++ spaced numbers)

-- the line of a report
abbrev pub report_text : RegionReport → List ℕ
report_text r = labelled (codes "report ") r.region ++ (labelled (codes " iterations ") r.iterations ++ (labelled (codes " recovered ") r.recovered_count
    ++ (listed_text r.recovered_count r.recovered ++ 10 ∷ [])))

abbrev pub reports_text : List RegionReport → List ℕ
reports_text reports = flat_map report_text reports
