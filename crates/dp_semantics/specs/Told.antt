-- What a Clean judgement tells: the stores, the prints and the number of steps of its iteration.
use Rattle.std.specs.Prelude.{◌≡◌, ℕ, List, [], ◌∷◌, ℤ, length, filter_map, Option, Some, None, slice_set}
use Rattle.dp_base.specs.declared.StoreOf.{StoreOf}
use Rattle.dp_tree.specs.Step.{Event, Effect, Stored, Printed, Decided, Tried}
use Rattle.dp_tree.specs.Trace.{Run, printed_by, prints}
use Rattle.dp_tree.specs.Iteration.{iteration}
use Rattle.dp_plan.specs.declared.Plan.{Plan}
use Rattle.dp_semantics.specs.Judge.{Agreed}
use Rattle.dp_semantics.specs.Verdict.{applied, done_in}

-- the store that an effect makes, if it is one
abbrev pub store_made : Effect → Option StoreOf
store_made (Stored cell value) = Some (record { cell = record { 0 = cell }; value = value })
store_made (Printed value) = None
store_made (Decided value) = None
store_made (Tried value) = None

-- the stores in order
abbrev pub stores_told : Agreed → List StoreOf
stores_told v = filter_map store_made v.effects

-- the printed values in order
abbrev pub prints_told : Agreed → List ℤ
prints_told v = filter_map printed_by v.effects

-- the number of steps
abbrev pub steps_told : Agreed → ℕ
steps_told v = length v.effects

-- the memory after these stores, one after the other
abbrev pub with_stores : List StoreOf → List ℤ → List ℤ
with_stores [] cells = cells
with_stores (s ∷ rest) cells = with_stores rest (slice_set cells s.cell.0 s.value)

-- the stores of events in order
abbrev pub stores_of : List Event → List StoreOf
stores_of events = filter_map (λ e. store_made e.effect) events

-- What the source did in an iteration: its stores, prints and steps.
pub record TellsAll (plan : Plan) (run : Run) (i : ℕ) : Type 0 where
  pub stores : stores_told (done_in plan run i) ≡ stores_of (iteration run plan.region i)
  pub prints : prints_told (done_in plan run i) ≡ prints (iteration run plan.region i)
  pub steps : steps_told (done_in plan run i) ≡ length (iteration run plan.region i)

-- The stores alone lead to the memory after the effects.
abbrev pub StoresAreAll : Type 0
StoresAreAll = (effects : List Effect) (cells : List ℤ) → applied effects cells ≡ with_stores (filter_map store_made effects) cells

-- So it is of each iteration of each run.
abbrev pub Tells : Plan → Type 0
Tells plan = (run : Run) (i : ℕ) → TellsAll plan run i
