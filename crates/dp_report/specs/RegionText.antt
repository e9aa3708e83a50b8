-- The regions of a run: how many iterations were begun, and which of them were executed again.
use Rattle.std.specs.Prelude.{ℕ, Bool, List, [], ◌++◌, ◌==◌, if◌then◌else◌, codes}
use Rattle.std.specs.List.{flat_map}
use Rattle.dp_base.specs.declared.RegionReport.{RegionReport}
use Rattle.dp_text.specs.Labels.{labelled, spaced}
use Rattle.dp_report.specs.Lines.{line}
use Rattle.dp_report.specs.CauseText.{causes_bytes}

-- a colon and the numbers, where there are any
unfoldable pub numbers_listed : ℕ → List ℕ → List ℕ
numbers_listed count numbers = if count == 0 then [] else (codes ":" ++ spaced numbers)

-- a region's number, its begun iterations, and how many were executed again, with the first of their numbers
abbrev pub counts_line : ℕ → ℕ → ℕ → List ℕ → List ℕ
counts_line region begun count numbers =
    line (labelled (codes "region ") region ++ labelled (codes " iterations ") begun ++ labelled (codes " recovered ") count ++ numbers_listed count numbers)

-- the cause of each number that is listed, where `why` holds
abbrev pub causes_if : Bool → RegionReport → List ℕ
causes_if why r = if why then causes_bytes r.recovered r.causes else []

-- a region without a begun iteration has no line
abbrev pub report_lines : Bool → RegionReport → List ℕ
report_lines why r = if r.iterations == 0 then [] else (counts_line r.region r.iterations r.recovered_count r.recovered ++ causes_if why r)

-- the reports' lines, in their order
abbrev pub regions_bytes : Bool → List RegionReport → List ℕ
regions_bytes why reports = flat_map (report_lines why) reports
