-- What a stage makes of a batch that came.
use Rattle.std.proofs.Common.{arith, ◌≡◌, ◌≤◌, ℕ, suc, ◌+◌, ◌-◌, Bool, true, false, not, ◌&&◌, nat_le, Option, Some, None, sym, ap}
use Rattle.std.proofs.Common.{◌∙◌, subst, refl}
use Rattle.dp_plan.specs.Access.{is_replicated}
use Rattle.dp_relay.specs.UnitsKey.{UnitsKey}
use Rattle.dp_relay.specs.Places.{At, place_behind}
use Rattle.dp_lean_region.specs.LeanEpoch.{LeanEpoch}
use Rattle.dp_lean_machine.specs.declared.batch.BatchStatus.{BatchStatus}
use Rattle.dp_lean_machine.specs.declared.batch.BatchStatus.TheVariants.{Going, Closing, Void, NoMemory}
use Rattle.dp_lean_machine.specs.declared.machine.Kept.{Kept}
use Rattle.dp_lean_machine.specs.declared.machine.Kept.TheVariants.{Cells, Versioned, Nothing}
use Rattle.dp_lean_machine.specs.declared.machine.LeanMachine.{LeanMachine}
use Rattle.dp_lean_machine.specs.Sent.{IsSent}
use Rattle.dp_lean_machine.specs.Standing.{KeepsMemory, MachineStands, Passes}
use Rattle.dp_pipeline.specs.declared.carried.Carried.{Carried}
use Rattle.dp_pipeline.specs.declared.staged.Staged.{Staged}
use Rattle.dp_pipeline.specs.Carried.{lean_of, IsCarried, is_going_on, is_last_carried}
use Rattle.dp_pipeline.specs.Staging.{StandsForBatch, RunsAt}

-- behind a batch that isn't the last, the epoch goes on
pub not_last : (a b : Bool) → not (a && b) ≡ false → (a ≡ true) × (b ≡ true)
not_last true true e = (refl, refl)
not_last true false e = absurd (cc e)
not_last false b e = absurd (cc e)

pub going_is : (status : BatchStatus) → is_going_on status ≡ true → status ≡ Going
going_is Going e = refl
going_is Closing e = absurd (cc e)
going_is Void e = absurd (cc e)
going_is NoMemory e = absurd (cc e)

-- no batch follows this one, with this fuel
abbrev pub is_last_with : Carried → ℕ → Bool
is_last_with x fuel = not (is_going_on x.batch.status && nat_le x.batch.iterations (fuel - x.batch.first))

-- a replicated stage keeps the same before each batch
keeps_anywhere : (e : LeanEpoch) (s : ℕ) (kept : Kept) (n k : ℕ) → is_replicated e.key.plan s ≡ true → KeepsMemory e s n kept → KeepsMemory e s k kept
keeps_anywhere e s (Cells cells) n k par keeps = let clash : true ≡ false = sym par ∙ keeps.0 in absurd (cc clash)
keeps_anywhere e s (Versioned both) n k par keeps = let clash : true ≡ false = sym par ∙ keeps.0 in absurd (cc clash)
keeps_anywhere e s Nothing n k par keeps = par

stands_anywhere : (m : LeanMachine) (e : LeanEpoch) (b : ℕ) → is_replicated e.key.plan m.stage ≡ true → MachineStands m e b → (d : ℕ) → MachineStands m e d
stands_anywhere m e b par stands d = record {
  epoch = stands.epoch;
  some = stands.some;
  within = stands.within;
  keeps = keeps_anywhere e m.stage m.kept _ _ par stands.keeps;
}

-- it runs any batch
pub runs_anywhere : (x : Staged) (key : UnitsKey) (s : ℕ) → is_replicated key.epoch.plan s ≡ true → RunsAt x key s (Some 0) → RunsAt x key s None
runs_anywhere x key s par runs =
    let replicated : is_replicated key.epoch.plan x.machine.stage ≡ true = ap (is_replicated key.epoch.plan) runs.stage ∙ par in record {
      stage = runs.stage;
      fuel = runs.fuel;
      stands = (replicated, stands_anywhere x.machine (lean_of key) 0 replicated runs.stands);
    }

stands_here : (m : LeanMachine) (key : UnitsKey) (place : Option ℕ) (b : ℕ) → StandsForBatch m key place → At place b → MachineStands m (lean_of key) b
stands_here m key (Some c) b stands at = subst (MachineStands m (lean_of key)) (sym at) stands
stands_here m key None b stands at = stands.1 b

stands_behind : (m new : LeanMachine) (key : UnitsKey) (place : Option ℕ) (b : ℕ) → new.stage ≡ m.stage → StandsForBatch m key place →
    MachineStands new (lean_of key) (suc b)
    → StandsForBatch new key (place_behind place b)
stands_behind m new key (Some c) b same stands next = let one : suc b ≡ b + 1 = omega arith in subst (MachineStands new (lean_of key)) one next
stands_behind m new key None b same stands next =
    let par : is_replicated key.epoch.plan new.stage ≡ true = ap (is_replicated key.epoch.plan) same ∙ stands.0 in
    (par, stands_anywhere new (lean_of key) (suc b) par next)

module _ (x new : Staged) (came sent : Carried) (key : UnitsKey) (s : ℕ) (place : Option ℕ) (b : ℕ) (runs : RunsAt x key s place) (at : At place b)
    (is : IsCarried key (s - 1) b came) (stage : new.machine.stage ≡ x.machine.stage) (fuel : new.fuel ≡ x.fuel) where
  -- the machine passes it on, wherever it stands
  abbrev pub PassesOn : Type 0
  PassesOn = (e : LeanEpoch) (c : ℕ) → MachineStands x.machine e c → IsSent e (x.machine.stage - 1) c came.batch → Passes new.machine e c sent.batch

  passed : PassesOn → Passes new.machine (lean_of key) b sent.batch
  passed step = step (lean_of key) b (stands_here x.machine key place b runs.stands at)
      (subst (λ (t : ℕ). IsSent (lean_of key) (t - 1) b came.batch) (sym runs.stage) is.sent)

  pub batch_sent : PassesOn → IsCarried key s b sent
  batch_sent step =
      let sends = subst (λ (t : ℕ). IsSent (lean_of key) t b sent.batch) (stage ∙ runs.stage) (passed step).is in record {
        sent = sends;
        within = subst (λ (i : ℕ). i ≤ key.epoch.fuel) (is.sent.first ∙ sym sends.first) is.within;
      }

  pub batch_next : PassesOn → is_last_carried key sent ≡ false → RunsAt new key s (place_behind place b)
  batch_next step goes = record {
    stage = stage ∙ runs.stage;
    fuel = fuel ∙ runs.fuel;
    stands = stands_behind x.machine new.machine key place b stage runs.stands ((passed step).next (going_is sent.batch.status (not_last _ _ goes).0));
  }
