-- What the committed memory stands for.
use Rattle.std.specs.Prelude.{◌≡◌, ◌⊎◌, ℕ, ◌+◌, ◌≤◌, if◌then◌else◌, true, false, List, [], All, ℤ, length, Option, Some, None}
use Rattle.dp_tree.specs.Step.{Config}
use Rattle.dp_tree.specs.Trace.{Run, prints}
use Rattle.dp_tree.specs.Iteration.{stands_at_head, start, iteration, is_closing, memory_after}
use Rattle.dp_tree.specs.IterationLaws.{events_of_first}
use Rattle.dp_semantics.specs.EpochVerdicts.{Carried}
use Rattle.dp_meaning.specs.declared.ends.Part.TheVariants.{Plain, Region}
use Rattle.dp_meaning.specs.declared.ends.IterEnd.{IterEnd}
use Rattle.dp_meaning.specs.declared.ends.IterEnd.TheVariants.{Next, Closed, Fault, Fuel, Going}
use Rattle.dp_meaning.specs.Continues.{Continues}
use Rattle.dp_meaning.specs.MachineState.{MachineState, rest_of_run, part_of, next_part}
use Rattle.dp_meaning.specs.IterationRun.{IterationRun}
use Rattle.dp_meaning.specs.NextIteration.{NextIteration, end_of_iteration}

-- a machine with the committed memory, the region, and how many of its iterations were committed
pub record CommittedState : Type 0 where
  pub machine : MachineState
  pub region : ℕ
  pub count : ℕ

-- the region's condition comes next: the region isn't closed, no iteration is under way, and memory wasn't wanting
pub record IsOpen (c : CommittedState) : Type 0 where
  pub next : next_part c.machine ≡ Region c.region
  pub between : c.machine.current ≡ None
  pub sound : c.machine.spoiled ≡ false

-- the iteration that is under way, if any
abbrev pub under_way_count : Option ℕ → ℕ
under_way_count None = 0
under_way_count (Some region) = 1

-- each committed iteration made a step, and so did the one that is under way
abbrev pub CountsSteps : CommittedState → Type 0
CountsSteps c = c.machine.spoiled ≡ false → c.count + under_way_count c.machine.current ≤ c.machine.steps

-- It carries what leads to the memory behind the iteration that comes next, which ends within the fuel, its prints and steps, and whether that closes.
pub record CarriesNext (c : CommittedState) (v : Carried) : Type 0 where
  pub iteration_is : NextIteration c.region c.machine v.stores v.steps v.closing
  pub prints_are : v.prints ≡ prints (iteration (rest_of_run c.machine) c.region 0)

-- The iteration was committed from what is carried of it: the machine stands where its steps lead.
pub record Applied (v : Carried) (old new : CommittedState) : Type 0 where
  pub turns : ℕ
  pub call : IterationRun old.region turns old.machine new.machine [] v.prints (end_of_iteration v.closing)
  pub rest : new ≡ record old { machine = new.machine; count = old.count + 1 }

-- the count after a call that executes the current iteration
abbrev pub count_after : ℕ → IterEnd → ℕ
count_after n Next = n + 1
count_after n Closed = n + 1
count_after n (Fault fault) = n
count_after n Fuel = n
count_after n Going = n

-- One call of the re-execution: the machine made steps of the current iteration, as `iterate` does, and the iteration counts where it ends.
pub record RecoversFor (turns : ℕ) (old new : CommittedState) (before after : List ℤ) (end : IterEnd) : Type 0 where
  pub call : IterationRun old.region turns old.machine new.machine before after end
  pub rest : new ≡ record old { machine = new.machine; count = count_after old.count end }

-- the region's own run: from the machine that stands where its condition comes next for the first time, within the fuel that is left
abbrev pub region_run : MachineState → Run
region_run first = rest_of_run first

-- the number of steps of the first i iterations
abbrev pub steps_of_first : Run → ℕ → ℕ → ℕ
steps_of_first run r i = length (events_of_first run r i)

-- no other region's condition is the next evaluation
abbrev pub IsInside : ℕ → Config → Type 0
IsInside r c = (part_of c.to_do ≡ Region r) ⊎ (part_of c.to_do ≡ Plain)

-- The memory and the number of steps are the source's after `count` iterations of the region, in the run that began with this machine,
-- and what is left is the rest of that run: the region's next iteration starts there, if one does.
pub record HoldsCommitted (first : MachineState) (c : CommittedState) : Type 0 where
  pub memory : c.machine.config.cells ≡ memory_after (region_run first) c.region c.count
  pub steps : c.machine.steps ≡ first.steps + steps_of_first (region_run first) c.region c.count
  pub configs : List Config
  pub piece : Continues (region_run first) (events_of_first (region_run first) c.region c.count) configs (rest_of_run c.machine)
  pub inside : All (IsInside c.region) configs
  pub reached : start (region_run first) c.region c.count ≡ (if stands_at_head c.region c.machine.config
      then Some (steps_of_first (region_run first) c.region c.count) else None)
  pub program : c.machine.program ≡ first.program
  pub input : c.machine.input ≡ first.input
  pub fuel : c.machine.fuel ≡ first.fuel

-- The region isn't reached again once it closed.
abbrev pub ClosesOnce : MachineState → ℕ → Type 0
ClosesOnce first r = (i k : ℕ) → start (region_run first) r i ≡ Some k → is_closing (region_run first) r i ≡ true → start (region_run first) r (i + 1) ≡ None

-- The region's run has ended within its last iteration: the memory is that at the trace's end, as after one iteration more, and no further one starts.
pub record BrokeOff (first : MachineState) (c : CommittedState) : Type 0 where
  pub memory : c.machine.config.cells ≡ memory_after (region_run first) c.region (c.count + 1)
  pub last : start (region_run first) c.region (c.count + 1) ≡ None

-- the first is so where the iteration has ended, and the second where the run has ended within it
abbrev pub WhereEnded : Type 0 → Type 0 → IterEnd → Type 0
WhereEnded P Q Next = P
WhereEnded P Q Closed = P
WhereEnded P Q (Fault fault) = Q
WhereEnded P Q Fuel = Q
WhereEnded P Q Going = Unit {0}
