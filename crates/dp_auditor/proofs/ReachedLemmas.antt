-- How far a region's iterations were compared.
use Rattle.std.proofs.Common.{◌≡◌, ◌<◌, ◌≤◌, arith, ℕ, suc, Bool, true, false, if◌then◌else◌, List, [], ◌∷◌, length, All}
use Rattle.dp_tree.specs.declared.Program.{Program}
use Rattle.dp_tree.specs.Step.{Config, Event}
use Rattle.dp_tree.specs.Iteration.{is_closing, places, stands_at_head}
use Rattle.dp_plan.specs.declared.Plan.{Plan}
use Rattle.dp_meaning.specs.Continues.{Continues}
use Rattle.dp_meaning.specs.MachineState.{MachineState, fuel_left, rest_of_run}
use Rattle.dp_meaning.proofs.ContinuesLemmas.{fuel_of_run}
use Rattle.dp_log.specs.LogText.{iterations_bytes}
use Rattle.dp_view.specs.Following.{KeptBefore}
use Rattle.dp_view.specs.Viewed.{Viewed}
use Rattle.dp_auditor.specs.Comparing.{Compared, PassesPiece}
use Rattle.dp_auditor.specs.Regions.{AtRegion, SameRun}
use Rattle.dp_auditor.specs.Walking.{IsInside}

-- Before iteration i the lines of the ones before it were compared, and the machines and what is kept stand where it starts.
pub record Reached (p : Program) (plan : Plan) (first ahead behind : MachineState) (v : Viewed) (old now : Compared) (i : ℕ) : Type 0 where
  pub at : AtRegion p plan ahead
  pub trace : (rest_of_run behind).trace ≡ (rest_of_run ahead).trace
  pub steps : behind.steps ≡ ahead.steps
  pub same : SameRun first ahead
  pub rest : ahead.config.to_do ≡ first.config.to_do
  pub events : List Event
  pub configs : List Config
  pub piece : Continues (rest_of_run first) events configs (rest_of_run ahead)
  pub inside : All (IsInside plan.region) configs
  pub heads : length (places (stands_at_head plan.region) 0 configs) ≡ i
  pub going : (j : ℕ) → j < i → is_closing (rest_of_run first) plan.region j ≡ false
  pub epoch : ℕ
  pub kept : KeptBefore p plan (rest_of_run first) epoch i v
  pub lines : PassesPiece old now (iterations_bytes p plan (rest_of_run first) 0 i)

places_few : {X : Type 0} (test : X → Bool) (k : ℕ) (xs : List X) → length (places test k xs) ≤ length xs
places_few test k [] = omega arith
places_few test k (x ∷ xs) = by (test x) (places_few test (suc k) xs)
  where
    by : (b : Bool) → length (places test (suc k) xs) ≤ length xs → length (if b then k ∷ places test (suc k) xs else places test (suc k) xs) ≤ suc (length xs)
    by true h = omega (arith, h)
    by false h = omega (arith, h)

-- There are no more iterations than steps.
pub few_iterations : (p : Program) (plan : Plan) (first ahead behind : MachineState) (v : Viewed) (old now : Compared) (i : ℕ) → AtRegion p plan first →
    Reached p plan first ahead behind v old now i → i ≤ 1000000000
few_iterations p plan first ahead behind v old now i at h =
    let many = places_few (stands_at_head plan.region) 0 h.configs in
    let fuel = fuel_of_run first.program first.input (fuel_left first) first.config in
    let heads = h.heads in let paired = h.piece.paired in let whole = h.piece.fuel in let few = at.few in
    omega (arith, many, heads, paired, whole, fuel, few)
