-- The log of a run: for each begun iteration of each region whether it was committed or executed again, what it changed and what it printed.
use Rattle.std.specs.Prelude.{ℕ, if◌then◌else◌, ◌-◌, ◌==◌, Bool, List, [], ◌++◌, ℤ, codes}
use Rattle.std.specs.List.{flat_map}
use Rattle.dp_text.specs.Labels.{labelled}
use Rattle.dp_log.specs.declared.SetOf.{SetOf}
use Rattle.dp_log.specs.Changes.{changes_of}
use Rattle.dp_tree.specs.declared.Program.{Program}
use Rattle.dp_tree.specs.Numbering.{numbers_from}
use Rattle.dp_tree.specs.Trace.{Run, prints}
use Rattle.dp_tree.specs.Iteration.{begun_count, is_closing, iteration}
use Rattle.dp_plan.specs.declared.Plan.{Plan}
use Rattle.dp_semantics.specs.Recovery.{is_recovered}
use Rattle.dp_report.specs.Lines.{line, labelled_signed}
use Rattle.dp_report.specs.EndText.{end_line}

-- the line of a cell that changed, and of a print
abbrev pub set_line : SetOf → List ℕ
set_line set = line (labelled (codes "set ") set.cell.0 ++ labelled_signed (codes " ") set.value)

abbrev pub logged_print : ℤ → List ℕ
logged_print z = line (labelled_signed (codes "print ") z)

-- the first line of an iteration: it was executed again, or committed
abbrev pub iteration_line : ℕ → Bool → List ℕ
iteration_line i again = line (labelled (if again then codes "again " else codes "commit ") i)

-- the lines of an iteration
abbrev pub group_bytes : ℕ → Bool → List SetOf → List ℤ → List ℕ
group_bytes i again sets printed = iteration_line i again ++ flat_map set_line sets ++ flat_map logged_print printed

-- .. as the run has it
abbrev pub iteration_bytes : Program → Plan → Run → ℕ → List ℕ
iteration_bytes p plan run i = group_bytes i (is_recovered p plan run i) (changes_of p plan run i) (prints (iteration run plan.region i))

-- the lines of the iterations of the plan's region from number i on, so many of them
abbrev pub iterations_bytes : Program → Plan → Run → ℕ → ℕ → List ℕ
iterations_bytes p plan run i n = flat_map (iteration_bytes p plan run) (numbers_from i n)

-- the first line of a region, and the one behind the iteration that left it
abbrev pub region_line : ℕ → List ℕ
region_line r = line (labelled (codes "region ") r)

abbrev pub closed_line : ℕ → List ℕ
closed_line r = line (labelled (codes "closed ") r)

-- the region was left: its last begun iteration is the closing one
abbrev pub was_left : Run → ℕ → Bool
was_left run r = is_closing run r (begun_count run r - 1)

-- the lines of the plan's region: none where no iteration of it is begun
abbrev pub region_bytes : Program → Plan → Run → List ℕ
region_bytes p plan run =
    if begun_count run plan.region == 0 then []
    else region_line plan.region ++ iterations_bytes p plan run 0 (begun_count run plan.region)
    ++ (if was_left run plan.region then closed_line plan.region else [])

-- the first line of a log
abbrev pub first_line : List ℕ
first_line = line (codes "log 1")

-- the lines of these plans' regions
abbrev pub logged_regions : Program → List Plan → Run → List ℕ
logged_regions p plans run = flat_map (λ plan. region_bytes p plan run) plans

-- the whole log of a run of a program without calls, under a plan for each of its regions
abbrev pub log_bytes : Program → List Plan → Run → List ℕ
log_bytes p plans run = first_line ++ logged_regions p plans run ++ end_line run.end
