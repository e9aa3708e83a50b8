-- A run that is saved before an iteration of a region: what is written of it.
use Rattle.std.specs.Prelude.{ℕ, if◌then◌else◌, ◌==◌, false, List, [], ◌++◌, map, take, ℤ, Option, Some, None}
use Rattle.dp_base.specs.declared.RegionReport.{RegionReport}
use Rattle.dp_tree.specs.declared.Program.{Program}
use Rattle.dp_tree.specs.Trace.{Run, prints}
use Rattle.dp_tree.specs.Iteration.{start, cells_after}
use Rattle.dp_plan.specs.declared.Plan.{Plan}
use Rattle.dp_semantics.specs.Recovery.{nowhere}
use Rattle.dp_semantics.specs.Reported.{region_report, report_first_with}
use Rattle.dp_report.specs.PrintsText.{prints_bytes}
use Rattle.dp_run.specs.RunText.{source_run, trace_text}
use Rattle.dp_save.specs.declared.Checkpoint.{Checkpoint}
use Rattle.dp_save.specs.WrittenText.{checkpoint_bytes}
use Rattle.dp_resume.specs.declared.save.SaveEnd.{SaveEnd}
use Rattle.dp_resume.specs.declared.save.SaveEnd.TheVariants.{Saved, Ran}

-- a report without the causes
abbrev pub uncaused : RegionReport → RegionReport
uncaused r = record { region = r.region; iterations = r.iterations; recovered_count = r.recovered_count; recovered = r.recovered; causes = [] }

-- what is reported of the plan's region where the run is saved before iteration n of region r: of region r its first n iterations, and of another all
abbrev pub saved_report : Program → Run → ℕ → ℕ → Plan → RegionReport
saved_report p run r n plan = uncaused (if plan.region == r then report_first_with nowhere p plan run n else region_report p plan run)

-- the checkpoint before iteration n of region r, where k steps were made
abbrev pub checkpoint_at : Program → List Plan → List ℤ → ℕ → ℕ → ℕ → ℕ → Checkpoint
checkpoint_at p plans input fuel r n k = record {
  region = r;
  after = n;
  steps = k;
  fuel = fuel;
  cells = cells_after (source_run p input fuel) k;
  reports = map (saved_report p (source_run p input fuel) r n) (take r plans);
}

-- what is written before it: a line for each print of these steps
abbrev pub text_before : Run → ℕ → List ℕ
text_before run k = prints_bytes (prints (take k run.trace))

-- What is written of a run of a program without calls, under a plan for each of its regions, that is to be saved before iteration n of region r:
-- the prints so far and the checkpoint, or the text of the whole run where that iteration isn't reached.
abbrev pub saved_from : Program → List Plan → List ℤ → ℕ → ℕ → ℕ → Option ℕ → List ℕ
saved_from p plans input fuel r n None = trace_text p plans (source_run p input fuel) false
saved_from p plans input fuel r n (Some k) = text_before (source_run p input fuel) k ++ checkpoint_bytes (checkpoint_at p plans input fuel r n k)

abbrev pub saved_bytes : Program → List Plan → List ℤ → ℕ → ℕ → ℕ → List ℕ
saved_bytes p plans input fuel r n = saved_from p plans input fuel r n (start (source_run p input fuel) r n)

-- .. and how it ends
abbrev pub end_from : Run → Option ℕ → SaveEnd
end_from run None = Ran run.end
end_from run (Some k) = Saved

abbrev pub saved_end : Program → List ℤ → ℕ → ℕ → ℕ → SaveEnd
saved_end p input fuel r n = end_from (source_run p input fuel) (start (source_run p input fuel) r n)
