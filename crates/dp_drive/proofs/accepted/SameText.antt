-- The text of a run is the same from the source with call frames and from the program with its calls expanded.
use Rattle.std.proofs.Common.{◌≡◌, sym, ap, ◌∙◌, ℕ, Bool, List, ◌++◌, take, ℤ}
use Rattle.dp_base.specs.declared.RegionReport.{RegionReport}
use Rattle.dp_tree.specs.declared.Program.{Program}
use Rattle.dp_tree.specs.Inlined.{IsInlined}
use Rattle.dp_tree.specs.Trace.{Run, prints}
use Rattle.dp_calls.specs.Frame.{global_count}
use Rattle.dp_calls.specs.Frames.{CallsOutcome, outcome}
use Rattle.dp_calls.specs.Meaning.{SameMeaning}
use Rattle.dp_calls.specs.Expand.{expand}
use Rattle.dp_calls.proofs.KeptGlobals.{expansion_keeps_globals}
use Rattle.dp_report.specs.PrintsText.{prints_bytes}
use Rattle.dp_report.specs.RegionText.{regions_bytes}
use Rattle.dp_report.specs.EndText.{end_bytes, end_line}
use Rattle.dp_report.specs.StateText.{state_bytes}
use Rattle.dp_plan.specs.declared.Plan.{Plan}
use Rattle.dp_run.specs.RunText.{source_run, region_reports, final_cells, trace_text}
use Rattle.dp_drive.specs.RunText.{run_text}
use Rattle.dp_drive.proofs.accepted.State.{state_from_globals, same_state}

module _ (p : Program) (inlined : IsInlined (expand p)) (same : SameMeaning p) (plans : List Plan) (input : List ℤ) (fuel : ℕ) (why : Bool) where
  abbrev q : Program
  q = expand p

  abbrev run : Run
  run = source_run q input fuel

  abbrev reports : List RegionReport
  reports = region_reports q plans run

  state_is : state_bytes p.vars (take (global_count q) (final_cells run)) ≡ state_bytes q.vars (final_cells run)
  state_is = same_state p.vars q.vars (take (global_count q) (final_cells run)) (sym (expansion_keeps_globals p))
      ∙ state_from_globals q.vars (final_cells run) inlined.cells inlined.globals

  pub same_end : (outcome p input fuel).end ≡ run.end
  same_end = ap (λ (o : CallsOutcome). o.end) (same input fuel)

  -- the file-scope variables at the end
  pub same_state_text : state_bytes p.vars (outcome p input fuel).globals ≡ state_bytes q.vars (final_cells run)
  same_state_text = ap (λ (o : CallsOutcome). state_bytes p.vars o.globals) (same input fuel) ∙ state_is

  pub same_text : run_text p plans input fuel why ≡ trace_text q plans run why
  same_text =
      ap (λ (o : CallsOutcome). prints_bytes o.prints ++ end_bytes p o.globals reports o.end why) (same input fuel)
      ∙ ap (λ (state : List ℕ). prints_bytes (prints run.trace) ++ (state ++ regions_bytes why reports ++ end_line run.end)) state_is
