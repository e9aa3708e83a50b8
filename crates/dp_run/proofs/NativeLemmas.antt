-- Steps of a plain part that native code made, and what the machine makes behind them.
use Rattle.std.proofs.Common.{◌≡◌, ◌≢◌, refl, sym, ◌∙◌, ℕ, ◌+◌, ◌<◌, List, ◌++◌, length, length-append, ℤ, Result, Ok, Err, IfOk, MatchResult, None, arith}
use Rattle.dp_room.specs.declared.NoMemory.{NoMemory}
use Rattle.dp_meaning.specs.declared.ends.Part.TheVariants.{Plain}
use Rattle.dp_meaning.specs.declared.ends.PartEnd.{PartEnd}
use Rattle.dp_meaning.specs.declared.ends.PartEnd.TheVariants.{Done, Fault, Fuel, Going}
use Rattle.dp_meaning.specs.MachineState.{MachineState, next_part}
use Rattle.dp_meaning.specs.Moved.{Spoiled}
use Rattle.dp_meaning.specs.PartRun.{PartMoved, PartRun, PartStops}
use Rattle.dp_meaning.proofs.PartLemmas.{part_joined}
use Rattle.dp_meaning.proofs.StopLemmas.{from_region-over, part_idle, plain_idle}
use Rattle.dp_run.specs.steps.Calls.{PartCall}

module _ (old mid : MachineState) (x y : List ℤ) (next : next_part old ≡ Plain) (went : PartMoved old mid x y) where
  idle : mid.current ≡ None
  idle = went.current ∙ plain_idle old.current old.config.to_do next

  -- the part is over
  pub over_call : next_part mid ≢ Plain → PartCall old mid x y Done
  over_call over = record {
    turns = length went.events + 1;
    some = omega arith;
    call = record {
      went = went;
      within = omega arith;
      stops = record { part = over; rest = sym (from_region-over mid.config.to_do (λ e. over (part_idle mid idle ∙ e))) ∙ went.behind };
    };
  }

  -- it goes on
  pub going_call : next_part mid ≡ Plain → old.steps < mid.steps → mid.steps < mid.fuel → PartCall old mid x y Going
  going_call plain some left =
      let steps = went.moved.steps in
      record { turns = length went.events; some = omega (arith, some, steps); call = record { went = went; within = omega arith; stops = (plain, left, refl) } }

  module _ (turns : ℕ) (some : 0 < turns) (new : MachineState) (z : List ℤ) where
    stops_on : (end : PartEnd) (made all : ℕ) → all ≡ length went.events + made → PartStops turns made mid new end →
        PartStops (length went.events + turns) all old new end
    stops_on Done made all e s = record { part = s.part; rest = s.rest ∙ went.behind }
    stops_on (Fault fault) made all e s = let less = s.1 in (s.0, omega (arith, less, e), s.2)
    stops_on Fuel made all e s = s
    stops_on Going made all e s = let is = s.2 in (s.0, s.1, omega (arith, is, e))

    call_on : (end : PartEnd) → PartRun turns mid new y z end → PartCall old new x z end
    unfolding part_joined
    call_on end run =
        let sizes = length-append went.events run.went.events in
        let few = run.within in
        record {
          turns = length went.events + turns;
          some = omega (arith, some);
          call = record {
            went = part_joined old mid new x y z went run.went;
            within = omega (arith, sizes, few);
            stops = stops_on end (length run.went.events) (length (went.events ++ run.went.events)) sizes run.stops;
          };
        }

    -- the machine went on
    pub machine_call : (r : Result PartEnd NoMemory) → MatchResult r (PartRun turns mid new y z) (λ _. Spoiled turns mid new y z) →
        IfOk r (PartCall old new x z)
    machine_call (Ok end) run = call_on end run
    machine_call (Err why) run = tt
