-- What is kept of a run's iterations tells which of them are clean, and why the others aren't.
use Rattle.std.specs.Prelude.{◌≡◌, ℕ, suc, ◌-◌, ◌≤◌, ◌&&◌, true, false, is_none, List, ℤ, Option, None, Some, if◌then◌else◌}
use Rattle.dp_base.specs.declared.Cause.{Cause}
use Rattle.dp_base.specs.declared.End.{End}
use Rattle.dp_tree.specs.declared.Program.{Program}
use Rattle.dp_tree.specs.Step.{Config}
use Rattle.dp_tree.specs.Trace.{Run, run_of}
use Rattle.dp_tree.specs.InMain.{StandsInMain}
use Rattle.dp_tree.specs.Iteration.{start, iteration, has_ended, is_closing, memory_after}
use Rattle.dp_plan.specs.declared.Plan.{Plan}
use Rattle.dp_semantics.specs.Cause.{cause_since, end_cause}
use Rattle.dp_semantics.specs.Clean.{is_clean}
use Rattle.dp_semantics.specs.Recovery.{epoch}
use Rattle.dp_semantics.specs.FindsCauses.{watch_before}
use Rattle.dp_semantics.specs.Reported.{reported}
use Rattle.dp_semantics.specs.Verdict.{CleanSince, memory_of}
use Rattle.dp_view.specs.Heard.{LoadsFrom}
use Rattle.dp_view.specs.Viewed.{Viewed, after_all, settled, next_in_epoch, anew}

-- This is kept where iteration i of the run begins, in the epoch that began at e.
pub record KeptBefore (p : Program) (plan : Plan) (run : Run) (e i : ℕ) (v : Viewed) : Type 0 where
  pub program : v.program ≡ p
  pub plan_is : v.plan ≡ plan
  pub watch : v.watch ≡ watch_before p plan run e (i - e)
  pub source : v.source ≡ memory_after run plan.region i
  pub before : v.before ≡ memory_after run plan.region i
  pub found : v.found ≡ None
  pub since : e ≤ i
  pub epoch : epoch p plan run i ≡ e
  pub clean : CleanSince p plan run e i

-- the epoch of the next iteration, and what is kept where that begins
abbrev pub KeptNext : Program → Plan → Run → ℕ → ℕ → Viewed → Type 0
KeptNext p plan run e i v =
    KeptBefore p plan run (if is_none v.found then e else suc i) (suc i) (if is_none v.found then next_in_epoch (settled v) else anew (settled v))

-- the failure that is found, or else the run's fault or the spent fuel
abbrev pub found_or_end : Option Cause → End → Cause
found_or_end (Some cause) end = cause
found_or_end None end = reported (end_cause end)

-- Behind the iteration's events it is known whether it is clean, and its cause where it isn't; and where the next one begins that is kept of it.
pub record TellsClean (p : Program) (plan : Plan) (run : Run) (e i : ℕ) (v : Viewed) : Type 0 where
  pub clean : is_clean p plan run e i ≡ (has_ended run plan.region i && is_none v.found)
  pub cause : found_or_end v.found run.end ≡ reported (cause_since p plan run e i)
  pub source : v.source ≡ memory_of run plan.region i
  pub before : v.before ≡ memory_after run plan.region i
  pub next : has_ended run plan.region i ≡ true → is_closing run plan.region i ≡ false → KeptNext p plan run e i v

-- So it is in each run that begins within `main`, at each iteration that starts.
abbrev pub ViewsTell : Program → Plan → Type 0
ViewsTell p plan = (input : List ℤ) (fuel : ℕ) (c : Config) → StandsInMain p c → (e i k : ℕ) → start (run_of p input fuel c) plan.region i ≡ Some k →
    (v : Viewed) → KeptBefore p plan (run_of p input fuel c) e i v →
    TellsClean p plan (run_of p input fuel c) e i (after_all (iteration (run_of p input fuel c) plan.region i) v)

-- Of what is kept where an iteration of such a run begins, its events load from the memory that the ones before them leave.
abbrev pub ViewsFollow : Program → Plan → Type 0
ViewsFollow p plan = (input : List ℤ) (fuel : ℕ) (c : Config) → StandsInMain p c → (e i k : ℕ) → start (run_of p input fuel c) plan.region i ≡ Some k →
    (v : Viewed) → KeptBefore p plan (run_of p input fuel c) e i v →
    LoadsFrom v.source (iteration (run_of p input fuel c) plan.region i)
