-- The law of the walk: it finds an iteration's cause, and none exactly where the iteration is clean.
use Rattle.std.specs.Prelude.{◌≡◌, ℕ, zero, suc, ◌+◌, ◌-◌, ◌≤◌, true, false, List, [], ◌∷◌, ℤ, Option, Some, None}
use Rattle.dp_tree.specs.declared.Stmt.{Stmt, out-Stmt}
use Rattle.dp_tree.specs.declared.Stmt.TheOpen.{Stmt-F, Region}
use Rattle.dp_tree.specs.declared.Stmt.TheVariants as tree
use Rattle.dp_tree.specs.declared.Program.{Program}
use Rattle.dp_tree.specs.Step.{Config}
use Rattle.dp_tree.specs.Trace.{Run, run_of}
use Rattle.dp_tree.specs.InMain.{StandsInMain}
use Rattle.dp_tree.specs.Iteration.{start, iteration, memory_after}
use Rattle.dp_plan.specs.declared.Plan.{Plan}
use Rattle.dp_plan.specs.Access.{region_statement}
use Rattle.dp_semantics.specs.Clean.{is_clean}
use Rattle.dp_semantics.specs.Cause.{Cause, cause_since}
use Rattle.dp_semantics.specs.Verdict.{CleanSince}
use Rattle.dp_semantics.specs.CauseWalk.{Watch, cause_walk, watched_all, next_watch, first_watch}

-- one turn of a region: its condition, and its body where that isn't 0
abbrev pub turn_by : Stmt-F Stmt → List Stmt
turn_by (Region r site cond body) = tree.If site cond body [] ∷ []
turn_by _ = []

abbrev pub turn_in : List Stmt → List Stmt
turn_in [] = []
turn_in (s ∷ rest) = turn_by (out-Stmt s)

-- .. of the plan's region
abbrev pub turn_text : Program → Plan → List Stmt
turn_text p plan = turn_in (region_statement p plan)

-- what is kept before the n-th iteration of the epoch that began at iteration e of the run
abbrev pub watch_before : Program → Plan → Run → ℕ → ℕ → Watch
watch_before p plan run e zero = first_watch plan (memory_after run plan.region e)
watch_before p plan run e (suc n) = next_watch p plan (watched_all p plan (iteration run plan.region (e + n)) (watch_before p plan run e n))

-- the cause that the walk finds in iteration i, which starts after k steps
abbrev pub walk_at : Program → Plan → List ℤ → Run → ℕ → ℕ → ℕ → Option Cause
walk_at p plan input run e i k = cause_walk p plan input (run.fuel - k) (watch_before p plan run e (i - e)) (turn_text p plan) (memory_after run plan.region i)

-- In an epoch whose iterations so far are clean, the walk finds the cause of the next one, and none where that is clean.
pub record FoundAt (p : Program) (plan : Plan) (input : List ℤ) (run : Run) (e i k : ℕ) : Type 0 where
  pub none : is_clean p plan run e i ≡ true → walk_at p plan input run e i k ≡ None
  pub some : is_clean p plan run e i ≡ false → walk_at p plan input run e i k ≡ Some (cause_since p plan run e i)

-- So it is in each run that begins within `main`.
abbrev pub FindsCauses : Program → Plan → Type 0
FindsCauses p plan = (input : List ℤ) (fuel : ℕ) (c : Config) → StandsInMain p c → (e i k : ℕ) → e ≤ i → start (run_of p input fuel c) plan.region i ≡ Some k →
    CleanSince p plan (run_of p input fuel c) e i →
    FoundAt p plan input (run_of p input fuel c) e i k
