-- The epochs of a region, and its iterations that are executed again.
use Rattle.std.specs.Prelude.{ℕ, if◌then◌else◌, zero, suc, Bool, false, not, List, filter}
use Rattle.dp_tree.specs.declared.Program.{Program}
use Rattle.dp_plan.specs.declared.Plan.{Plan}
use Rattle.dp_tree.specs.Trace.{Run}
use Rattle.dp_tree.specs.Iteration.{begun_count}
use Rattle.dp_tree.specs.Numbering.{numbers_from}
use Rattle.dp_semantics.specs.Clean.{is_clean}

-- the epoch after iteration i of the one that began at e: a new one where i isn't clean
abbrev pub next_epoch : Program → Plan → Run → ℕ → ℕ → ℕ
next_epoch p plan run i e = if is_clean p plan run e i then e else suc i

-- the iteration at which the epoch of iteration i began, where some iterations begin one in any case, as those before which a run was saved
abbrev pub epoch_with : (ℕ → Bool) → Program → Plan → Run → ℕ → ℕ
epoch_with begins p plan run zero = 0
epoch_with begins p plan run (suc i) = if begins (suc i) then suc i else next_epoch p plan run i (epoch_with begins p plan run i)

-- iteration i isn't clean in that epoch
abbrev pub is_recovered_with : (ℕ → Bool) → Program → Plan → Run → ℕ → Bool
is_recovered_with begins p plan run i = not (is_clean p plan run (epoch_with begins p plan run i) i)

-- those of the first n iterations that are executed again, in order
abbrev pub recovered_first_with : (ℕ → Bool) → Program → Plan → Run → ℕ → List ℕ
recovered_first_with begins p plan run n = filter (is_recovered_with begins p plan run) (numbers_from 0 n)

-- those of the begun iterations
abbrev pub recovered_with : (ℕ → Bool) → Program → Plan → Run → List ℕ
recovered_with begins p plan run = recovered_first_with begins p plan run (begun_count run plan.region)

-- no iteration has to begin an epoch
abbrev pub nowhere : ℕ → Bool
nowhere i = false

-- the iteration at which the epoch of iteration i began, in a run that is made in one piece
abbrev pub epoch : Program → Plan → Run → ℕ → ℕ
epoch p plan run i = epoch_with nowhere p plan run i

-- iteration i isn't clean in its epoch
abbrev pub is_recovered : Program → Plan → Run → ℕ → Bool
is_recovered p plan run i = is_recovered_with nowhere p plan run i

-- the begun iterations that are executed again, in order
abbrev pub recovered : Program → Plan → Run → List ℕ
recovered p plan run = recovered_with nowhere p plan run
