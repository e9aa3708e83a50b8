use denote.Param.Send.{sendable}
use Rattle.dp_pipeline.proofs.Crossing.{carried_send}
use Rattle.std.proofs.Common.{◌+◌, ℕ, IfOk, OnErr, sym, subst}
use Rattle.dp_relay.specs.UnitsKey.{UnitsKey}
use Rattle.dp_pipeline.specs.declared.carried.Carried.{Carried}
use Rattle.dp_pipeline.specs.declared.source.Source.{Source}
use Rattle.dp_pipeline.specs.Carried.{IsCarried}
use Rattle.dp_pipeline.specs.Standing.{GivesBatches, Starts}
use Rattle.dp_pipeline.proofs.source.Source.take.Goals as goal

pub returns-in-Start-clause-took : goal.returns-in-Start-clause-took
returns-in-Start-clause-took g c =
    subst (λ (x : Source). IfOk c.take.result (λ (item : Carried). (key : UnitsKey) (s n : ℕ) → GivesBatches x key s n → IsCarried key s n item
    × Starts c.take.new.self key s (n + 1)))
    (sym c.in-Start.is) c.take.ensures.took

pub returns-in-Start-clause-idle : goal.returns-in-Start-clause-idle
returns-in-Start-clause-idle g c =
    subst (λ (x : Source). OnErr c.take.result ((key : UnitsKey) (s n : ℕ) → GivesBatches x key s n → Starts c.take.new.self key s n))
    (sym c.in-Start.is) c.take.ensures.idle

pub take-requires-in-Lane-send-T : goal.take-requires-in-Lane-send-T
take-requires-in-Lane-send-T g c κs within = search (carried_send, sendable) depth 60 fits 20000

pub take-requires-in-Ring-send-T : goal.take-requires-in-Ring-send-T
take-requires-in-Ring-send-T g c κs within = search (carried_send, sendable) depth 60 fits 20000
