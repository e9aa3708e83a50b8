-- Pairs of sites that pass the test of far accesses: what the store leaves isn't what the load reads.
use Rattle.std.specs.Prelude.{◌≡◌, ℕ, ◌<◌, true, List, ℤ, Some}
use Rattle.dp_tree.specs.declared.Program.{Program}
use Rattle.dp_tree.specs.Eval.{Load}
use Rattle.dp_tree.specs.Event.{Event, Stored}
use Rattle.dp_tree.specs.Step.{Config}
use Rattle.dp_tree.specs.Trace.{run_of}
use Rattle.dp_tree.specs.InMain.{StandsInMain}
use Rattle.dp_tree.specs.Iteration.{start, iteration}
use Rattle.dp_plan.specs.declared.Plan.{Plan}
use Rattle.dp_plan.specs.Each.{Each}
use Rattle.dp_plan.specs.IsFar.{is_far, is_far_within}

-- Where site d stores in these events, site u loads another cell in those.
abbrev pub AreApart : ℕ → ℕ → List Event → List Event → Type 0
AreApart d u stores loads = Each (λ (store : Event). store.site ≡ d → (c : ℕ) (z : ℤ) → store.effect ≡ Stored c z →
    Each (λ (load : Event). load.site ≡ u → Each (λ (l : Load). l.cell ≡ c → ⊥) load.loads) loads) stores

-- Where sites d and u are far, no load at u is of a cell that d stored in an earlier iteration, in any run that begins within `main`.
abbrev pub FarNeverCarried : Program → Plan → Type 0
FarNeverCarried p plan = (d u : ℕ) → is_far p plan.region d u ≡ true → (input : List ℤ) (fuel : ℕ) (c : Config) → StandsInMain p c → (i j last : ℕ) → i < j →
    start (run_of p input fuel c) plan.region j ≡ Some last →
    AreApart d u (iteration (run_of p input fuel c) plan.region i) (iteration (run_of p input fuel c) plan.region j)

-- Where they are far within an iteration, no load at u is of a cell that d stores in the same one.
abbrev pub FarNeverWithin : Program → Plan → Type 0
FarNeverWithin p plan = (d u : ℕ) → is_far_within p plan.region d u ≡ true → (input : List ℤ) (fuel : ℕ) (c : Config) → StandsInMain p c → (i last : ℕ) →
    start (run_of p input fuel c) plan.region i ≡ Some last →
    AreApart d u (iteration (run_of p input fuel c) plan.region i) (iteration (run_of p input fuel c) plan.region i)
