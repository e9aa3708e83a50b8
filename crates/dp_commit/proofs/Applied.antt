-- What is held after one more iteration, by how it ends.
use Rattle.std.proofs.Common.{sym, subst, ℕ, ◌+◌, Bool, true, false, List, ℤ}
use Rattle.dp_base.specs.declared.End.TheVariants as how
use Rattle.dp_meaning.specs.declared.ends.IterEnd.{IterEnd}
use Rattle.dp_meaning.specs.declared.ends.IterEnd.TheVariants.{Next, Closed, Fault, Fuel, Going}
use Rattle.dp_meaning.specs.MachineState.{MachineState, fuel_left}
use Rattle.dp_meaning.specs.IterationRun.{IterationRun}
use Rattle.dp_meaning.specs.NextIteration.{end_of_iteration}
use Rattle.dp_commit.specs.CommittedState.{CommittedState, IsOpen, HoldsCommitted, BrokeOff, ClosesOnce, RecoversFor, WhereEnded, steps_of_first, region_run}
use Rattle.dp_commit.proofs.Going.{started}
use Rattle.dp_commit.proofs.Committing.{held_next, held_closed}
use Rattle.dp_commit.proofs.BrokenOff.{broke_off}

module _ (first : MachineState) (c : CommittedState) (once : ClosesOnce first c.region) (o : IsOpen c) (h : HoldsCommitted first c) where
  pub applied_holds : (m : MachineState) (turns : ℕ) (before after : List ℤ) (closing : Bool) → IterationRun c.region turns c.machine m before after
      (end_of_iteration closing) → HoldsCommitted first (record c { machine = m; count = c.count + 1 })
  applied_holds m turns before after false call = (held_next first c h o m turns before after call).held
  applied_holds m turns before after true call =
      (held_closed first c h o m turns before after (once c.count (steps_of_first (region_run first) c.region c.count) (started first c h o)) call).held

  pub recovers_holds : (new : CommittedState) (turns : ℕ) (before after : List ℤ) (end : IterEnd) → RecoversFor turns c new before after end →
      WhereEnded (HoldsCommitted first new) (BrokeOff first new) end
  recovers_holds new turns before after Next q = subst (HoldsCommitted first) (sym q.rest) (applied_holds new.machine turns before after false q.call)
  recovers_holds new turns before after Closed q = subst (HoldsCommitted first) (sym q.rest) (applied_holds new.machine turns before after true q.call)
  recovers_holds new turns before after (Fault fault) q =
      subst (BrokeOff first) (sym q.rest) (broke_off first c h o new.machine before after q.call.events q.call.configs q.call.moved q.call.heads q.call.stops.0
      (fuel_left new.machine) (how.Fault fault) q.call.stops.2.ends)
  recovers_holds new turns before after Fuel q =
      subst (BrokeOff first) (sym q.rest) (broke_off first c h o new.machine before after q.call.events q.call.configs q.call.moved q.call.heads q.call.stops.0
      0 how.Fuel q.call.stops.1.ends)
  recovers_holds new turns before after Going q = tt
