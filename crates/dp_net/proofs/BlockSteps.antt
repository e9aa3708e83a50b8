-- A block that comes to its end has made a step.
use Rattle.dp_semantics.proofs.Names.{◌≡◌, ap, arith, ℕ, zero, suc, ◌-◌, ◌<◌, List, ◌∷◌, length, ℤ, Ok, Err, Stmt, out-Stmt, Program, Evaluated, evaluated}
use Rattle.dp_semantics.proofs.Names.{Event, Effect, value_of, stored, followed}
use Rattle.dp_net.specs.Quiet.{event_by, BlockOutcome, Through, Broke, with_event, quiet_by}
unfoldable use Rattle.dp_net.specs.Quiet.{quiet_from}

module _ (p : Program) (input : List ℤ) where
  pub made_some : (n : ℕ) (x : Stmt) (rest : List Stmt) (cells : List ℤ) (events : List Event) (after : List ℤ) →
      quiet_from p input n (x ∷ rest) cells ≡ Through events after → 0 < length events
  unfolding quiet_from
  made_some zero x rest cells events after e = absurd (cc e)
  made_some (suc n) x rest cells events after e = by (evaluated p input cells (out-Stmt x)) e
    where
      by : (u : Evaluated Effect) → quiet_by (quiet_from p input n) x rest cells (out-Stmt x) u ≡ Through events after → 0 < length events
      by (Err kind) e = absurd (cc e)
      by (Ok v) e = more (quiet_from p input n (followed x rest (out-Stmt x) (value_of v.value)) (stored v.value cells)) e
        where
          more : (o : BlockOutcome) → with_event (event_by (out-Stmt x) v.loads v.value) o ≡ Through events after → 0 < length events
          more Broke e = absurd (cc e)
          more (Through others last) e = let same : event_by (out-Stmt x) v.loads v.value ∷ others ≡ events = cc e in
              let size = ap length same in omega (arith, size)
