-- What the laws give for whole runs, written out.
use Rattle.std.proofs.Common.{◌≡◌, ◌⊎◌, ℕ, suc, ◌<◌, ◌≤◌, List, ℤ, length, take, filter, Some, slice_get, slice_range}
use Rattle.dp_base.specs.declared.End.TheVariants.{Fuel}
use Rattle.dp_tree.specs.declared.Program.{Program}
use Rattle.dp_tree.specs.Step.{Config, Event, Stepped, step}
use Rattle.dp_tree.specs.Trace.{Run, run_of, begin}
use Rattle.dp_tree.specs.Iteration.{start, starts, stop_from}
use Rattle.dp_tree.specs.IterationLaws.{events_of_first}
use Rattle.dp_tree.specs.RegionLaws.{StandsOnce, is_event_of}
use Rattle.dp_tree.proofs.RunLaws.{fuel_extends, runs_by_step}
use Rattle.dp_tree.proofs.IterationLaws.{iterations_adjoin}
use Rattle.dp_tree.proofs.RegionLaws.{regions_are_iterations}

module _ (p : Program) (input : List ℤ) where
  abbrev run : ℕ → Run
  run fuel = run_of p input fuel (begin p)

  less_fuel_is_a_front : (m n : ℕ) → m ≤ n → (run m).trace ≡ take m (run n).trace
  less_fuel_is_a_front m n less = (fuel_extends p input m n (begin p) less).trace

  less_fuel_ends_alike : (m n : ℕ) → m ≤ n → ((run m).end ≡ Fuel) ⊎ ((run n).end ≡ (run m).end)
  less_fuel_ends_alike m n less = (fuel_extends p input m n (begin p) less).end

  fuel_is_kept : (fuel : ℕ) → (run fuel).fuel ≡ fuel
  fuel_is_kept fuel = (runs_by_step p input fuel (begin p)).kept

  steps_are_within : (fuel : ℕ) → length (run fuel).trace ≤ fuel
  steps_are_within fuel = (runs_by_step p input fuel (begin p)).steps_within

  each_event_is_a_step : (fuel k : ℕ) (before after : Config) (event : Event) → slice_get (run fuel).configs k ≡ Some before →
      slice_get (run fuel).trace k ≡ Some event →
      slice_get (run fuel).configs (suc k) ≡ Some after → step p input before ≡ Stepped event after
  each_event_is_a_step fuel = (runs_by_step p input fuel (begin p)).each

  starts_ascend : (fuel r i k next : ℕ) → start (run fuel) r i ≡ Some k → start (run fuel) r (suc i) ≡ Some next → k < next
  starts_ascend fuel r = (iterations_adjoin p input fuel (begin p) r).ascending

  iterations_leave_no_gap : (fuel r first i k : ℕ) → start (run fuel) r 0 ≡ Some first → start (run fuel) r i ≡ Some k →
      events_of_first (run fuel) r (suc i) ≡ slice_range (run fuel).trace first (stop_from (run fuel) k (start (run fuel) r (suc i)))
  iterations_leave_no_gap fuel r = (iterations_adjoin p input fuel (begin p) r).joined

  events_of_a_region : (fuel r : ℕ) → StandsOnce p r → filter (is_event_of p r) (run fuel).trace ≡ events_of_first (run fuel) r (length (starts (run fuel) r))
  events_of_a_region fuel r = regions_are_iterations p input fuel r
