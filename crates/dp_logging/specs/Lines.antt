-- The lines of a region's log as they are written, one iteration after the other.
use Rattle.std.specs.Prelude.{ℕ, zero, suc, ◌-◌, ◌==◌, if◌then◌else◌, List, [], ◌++◌, Option, Some, None}
use Rattle.dp_tree.specs.declared.Program.{Program}
use Rattle.dp_tree.specs.Trace.{Run}
use Rattle.dp_tree.specs.Iteration.{begun_count}
use Rattle.dp_plan.specs.declared.Plan.{Plan}
use Rattle.dp_meaning.specs.declared.ends.IterEnd.{IterEnd}
use Rattle.dp_meaning.specs.declared.ends.IterEnd.TheVariants as iter_end
use Rattle.dp_epoch.specs.declared.ends.RegionEnd.{RegionEnd}
use Rattle.dp_epoch.specs.declared.ends.RegionEnd.TheVariants.{Closed, Fault, Fuel}
use Rattle.dp_log.specs.LogText.{closed_line, group_bytes, iterations_bytes, region_bytes, region_line, was_left}
use Rattle.dp_audit.specs.declared.group.Group.{Group}

-- the region's last line, behind an iteration that ended so
abbrev pub last_lines : ℕ → IterEnd → List ℕ
last_lines r iter_end.Closed = closed_line r
last_lines r iter_end.Next = []
last_lines r (iter_end.Fault fault) = []
last_lines r iter_end.Fuel = []
last_lines r iter_end.Going = []

-- the region's first line, in front of its first iteration
abbrev pub first_lines : ℕ → ℕ → List ℕ
first_lines r n = if n == 0 then region_line r else []

-- the lines of an iteration, with those of its region
abbrev pub group_lines : ℕ → Group → List ℕ
group_lines r group = first_lines r group.iteration ++ group_bytes group.iteration group.again group.sets group.prints ++ last_lines r group.end

-- the lines of the iterations from the n-th on, and the region's last one
abbrev pub rest_lines : Program → Plan → Run → ℕ → List ℕ
rest_lines p plan run n = iterations_bytes p plan run n (begun_count run plan.region - n) ++ (if was_left run plan.region then closed_line plan.region else [])

-- the lines of the region that are left behind those of its first n iterations
abbrev pub left_lines : Program → Plan → Run → ℕ → List ℕ
left_lines p plan run zero = region_bytes p plan run
left_lines p plan run (suc n) = rest_lines p plan run (suc n)

-- how the region ended with an iteration that ended so, if it did
abbrev pub region_end_of : IterEnd → Option RegionEnd
region_end_of iter_end.Next = None
region_end_of iter_end.Closed = Some Closed
region_end_of (iter_end.Fault fault) = Some (Fault fault)
region_end_of iter_end.Fuel = Some Fuel
region_end_of iter_end.Going = None

-- the lines that are left behind iteration n, where the region has ended or goes on
abbrev pub left_then : Program → Plan → Run → ℕ → Option RegionEnd → List ℕ
left_then p plan run n None = left_lines p plan run (suc n)
left_then p plan run n (Some end) = []
