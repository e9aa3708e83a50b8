-- The text of a whole run under a plan for each region, of a program without calls.
use Rattle.std.specs.Prelude.{ℕ, ◌+◌, ◌-◌, Bool, List, [], ◌∷◌, ◌++◌, length, map, ℤ}
use Rattle.dp_base.specs.declared.RegionReport.{RegionReport}
use Rattle.dp_tree.specs.declared.Program.{Program}
use Rattle.dp_tree.specs.Trace.{Run, prints}
use Rattle.dp_tree.specs.Iteration.{begun_count, cells_after}
use Rattle.dp_plan.specs.declared.Plan.{Plan}
use Rattle.dp_semantics.specs.Recovery.{recovered}
use Rattle.dp_semantics.specs.Reported.{region_report}
pub use Rattle.dp_semantics.specs.Verdict.{source_run}
use Rattle.dp_epoch.specs.Accounts.{told_when}
use Rattle.dp_report.specs.PrintsText.{prints_bytes}
use Rattle.dp_report.specs.EndText.{end_bytes}

-- the reports of the plans' regions, in order
abbrev pub region_reports : Program → List Plan → Run → List RegionReport
region_reports p plans run = map (λ plan. region_report p plan run) plans

-- what is told of them: with the causes where `why` asks for them
abbrev pub told_reports : Bool → Program → List Plan → Run → List RegionReport
told_reports why p plans run = map (λ plan. told_when why (region_report p plan run)) plans

-- the memory where the run ends
abbrev pub final_cells : Run → List ℤ
final_cells run = cells_after run (length run.trace)

-- the variables, the regions and the end; `why` asks for the causes
abbrev pub closing_text : Program → List Plan → Run → Bool → List ℕ
closing_text p plans run why = end_bytes p (final_cells run) (region_reports p plans run) run.end why

-- a line for each print, and then the variables, the regions and the end
abbrev pub trace_text : Program → List Plan → Run → Bool → List ℕ
trace_text p plans run why = prints_bytes (prints run.trace) ++ closing_text p plans run why

-- the begun iterations of the plan's region that aren't executed again
abbrev pub committed_count : Program → Plan → Run → ℕ
committed_count p plan run = begun_count run plan.region - length (recovered p plan run)

-- .. of all plans
abbrev pub committed_in_all : Program → List Plan → Run → ℕ
committed_in_all p [] run = 0
committed_in_all p (plan ∷ rest) run = committed_count p plan run + committed_in_all p rest run
