-- A run that goes on from a checkpoint: what is written of it, and what one run writes that begins an epoch there.
use Rattle.std.specs.Prelude.{ℕ, if◌then◌else◌, ◌-◌, ◌==◌, Bool, false, List, [], ◌∷◌, ◌++◌, map, ℤ}
use Rattle.dp_base.specs.declared.RegionReport.{RegionReport}
use Rattle.dp_tree.specs.declared.Program.{Program}
use Rattle.dp_tree.specs.Step.{standing}
use Rattle.dp_tree.specs.Trace.{Run, run_of, prints}
use Rattle.dp_plan.specs.declared.Plan.{Plan}
use Rattle.dp_semantics.specs.EpochKey.{statements_from}
use Rattle.dp_semantics.specs.Reported.{gone_on, region_report, region_report_with}
use Rattle.dp_report.specs.EndText.{end_bytes}
use Rattle.dp_report.specs.PrintsText.{prints_bytes}
use Rattle.dp_run.specs.RunText.{final_cells, region_reports}
use Rattle.dp_save.specs.declared.Checkpoint.{Checkpoint}

-- the run from the checkpoint on: its region's condition is next, in its memory, and the steps that were made are of its fuel
abbrev pub resumed_run : Program → List ℤ → Checkpoint → Run
resumed_run p input c = run_of p input (c.fuel - c.steps) (standing p (statements_from c.region p.main) c.cells)

-- The reports of all regions: those of the regions before the checkpoint's own stand, that of its own is gone on with, and those behind it are the
-- run's. The plans are those of the regions from that of the first saved report on.
abbrev pub resumed_reports : Program → Run → List RegionReport → List Plan → List RegionReport
resumed_reports p run [] plans = region_reports p plans run
resumed_reports p run (saved ∷ rest) [] = []
resumed_reports p run (saved ∷ []) (plan ∷ plans) = gone_on saved (region_report p plan run) ∷ region_reports p plans run
resumed_reports p run (saved ∷ next ∷ rest) (plan ∷ plans) = saved ∷ resumed_reports p run (next ∷ rest) plans

-- the variables, the regions and the end of the run
abbrev pub resumed_closing : Program → List Plan → List ℤ → Checkpoint → List ℕ
resumed_closing p plans input c =
    end_bytes p (final_cells (resumed_run p input c)) (resumed_reports p (resumed_run p input c) c.reports plans) (resumed_run p input c).end false

-- what is written of it, under a plan for each of the program's regions
abbrev pub resumed_bytes : Program → List Plan → List ℤ → Checkpoint → List ℕ
resumed_bytes p plans input c = prints_bytes (prints (resumed_run p input c).trace) ++ resumed_closing p plans input c

-- ---- one run that begins an epoch there

-- iteration n begins an epoch
abbrev pub before_iteration : ℕ → ℕ → Bool
before_iteration n i = i == n

-- the report of the plan's region, where iteration n of region r begins an epoch
abbrev pub report_at : Program → Run → ℕ → ℕ → Plan → RegionReport
report_at p run r n plan = if plan.region == r then region_report_with (before_iteration n) p plan run else region_report p plan run

-- the text of the run, where iteration n of region r begins an epoch
abbrev pub run_bytes_at : Program → List Plan → Run → ℕ → ℕ → List ℕ
run_bytes_at p plans run r n = prints_bytes (prints run.trace) ++ end_bytes p (final_cells run) (map (report_at p run r n) plans) run.end false
