-- An epoch by what it depends on: plain data, from which its packets, its verdicts and its own run follow.
use Rattle.std.specs.Prelude.{ℕ, ◌-◌, if◌then◌else◌, List, [], ◌∷◌, ℤ}
use Rattle.dp_tree.specs.declared.Stmt.{Stmt, out-Stmt}
use Rattle.dp_tree.specs.declared.Program.{Program}
use Rattle.dp_tree.specs.Step.{Config, standing}
use Rattle.dp_tree.specs.Trace.{Run, run_of}
use Rattle.dp_tree.specs.Iteration.{is_region}
use Rattle.dp_plan.specs.declared.Plan.{Plan}
use Rattle.dp_semantics.specs.Packets.{Epoch}

-- the number of the epoch's first iteration, the memory with which it begins, the number of steps made by then, and the fuel; the region is the plan's
pub record EpochKey : Type 0 where
  pub program : Program
  pub plan : Plan
  pub input : List ℤ
  pub first : ℕ
  pub base : List ℤ
  pub steps : ℕ
  pub fuel : ℕ

-- the epoch as its stages see it
abbrev pub epoch_of : EpochKey → Epoch
epoch_of key = record { program = key.program; plan = key.plan; input = key.input; base = key.base }

-- the statements from region r on
abbrev pub statements_from : ℕ → List Stmt → List Stmt
statements_from r [] = []
statements_from r (s ∷ rest) = if is_region r (out-Stmt s) then s ∷ rest else statements_from r rest

-- where the epoch begins: its region's condition comes next, in the base memory
abbrev pub epoch_begin : EpochKey → Config
epoch_begin key = standing key.program (statements_from key.plan.region key.program.main) key.base

-- the source's run from there, within the fuel that is left; the epoch's iterations are its iterations from 0 on
abbrev pub epoch_run : EpochKey → Run
epoch_run key = run_of key.program key.input (key.fuel - key.steps) (epoch_begin key)
