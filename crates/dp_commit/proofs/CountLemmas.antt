-- A committed iteration makes a step, so their count stays below the number of steps.
use Rattle.std.proofs.Common.{◌≡◌, refl, ap, subst, ℕ, ◌+◌, ◌≤◌, ◌<◌, Bool, true, false, IsTrue, IsErr, Result, Ok, List, [], ◌∷◌, length, ℤ, Option, Some}
use Rattle.std.proofs.Common.{None, arith}
use Rattle.dp_tree.specs.Step.{Event}
use Rattle.dp_meaning.specs.declared.ends.IterEnd.{IterEnd}
use Rattle.dp_meaning.specs.declared.ends.IterEnd.TheVariants.{Next, Closed, Fault}
use Rattle.dp_meaning.specs.MachineState.{MachineState}
use Rattle.dp_meaning.specs.IterationRun.{IterationRun, IterationStops, IterationGoesOn, StartsAgain, has_closed}
use Rattle.dp_meaning.specs.NextIteration.{end_of_iteration}
use Rattle.dp_commit.specs.CommittedState.{count_after, under_way_count}

-- an iteration that goes on was begun, or made no step
going_bound : (region count : ℕ) (old new : MachineState) (events : List Event) → IterationGoesOn region old new events →
    new.steps ≡ old.steps + length events → count + under_way_count old.current ≤ old.steps → count + under_way_count new.current ≤ new.steps
going_bound region count old new [] g s h = let same = ap under_way_count g.current in omega (arith, s, h, same)
going_bound region count old new (e ∷ events) g s h = let same = ap under_way_count g.current in omega (arith, s, h, same)

again_bound : (region count : ℕ) (old new : MachineState) (events : List Event) (current : Option ℕ) → old.current ≡ current →
    StartsAgain region old new events → new.steps ≡ old.steps + length events → count + under_way_count old.current ≤ old.steps → count + 1 ≤ new.steps
again_bound region count old new events None e g s h = let some = g.some e in omega (arith, s, h, some)
again_bound region count old new events (Some r) e g s h = let one = ap under_way_count e in omega (arith, s, h, one)

pub some_closed : (current : Option ℕ) (events : List Event) → has_closed current events ≡ true → 0 < length events
some_closed None [] e = absurd (cc)
some_closed (Some r) [] e = absurd (cc)
some_closed current (x ∷ events) e = omega arith

bound_by : (region turns count : ℕ) (old new : MachineState) (events : List Event) (end : IterEnd) → IterationStops region turns old new events end →
    new.steps ≡ old.steps + length events → count + under_way_count old.current ≤ old.steps →
    count_after count end + under_way_count new.current ≤ new.steps
bound_by region turns count old new events Next g s h =
    let low = again_bound region count old new events old.current refl g s h in
    let none = ap under_way_count g.current in omega (arith, low, none)
bound_by region turns count old new events Closed g s h =
    let none = ap under_way_count g.current in let some = some_closed old.current events g.closed in omega (arith, s, h, none, some)
bound_by region turns count old new events (Fault fault) g s h = going_bound region count old new events g.0 s h
bound_by region turns count old new events _ g s h = going_bound region count old new events g.0 s h

pub bound : (region turns count : ℕ) (old new : MachineState) (before after : List ℤ) (end : IterEnd) → IterationRun region turns old new before after end →
    count + under_way_count old.current ≤ old.steps →
    count_after count end + under_way_count new.current ≤ new.steps
bound region turns count old new before after end call h = bound_by region turns count old new call.events end call.stops call.moved.steps h

pub counted : (n : ℕ) (closing : Bool) → count_after n (end_of_iteration closing) ≡ n + 1
counted n true = refl
counted n false = refl

-- memory wasn't wanting, where the call answered
pub not_spoiled : {X E : Type 0} (spoiled : Bool) (result : Result X E) (x : X) → result ≡ Ok x → (IsTrue spoiled → IsErr result) → spoiled ≡ false
not_spoiled false result x e h = refl
not_spoiled true result x e h = let bad = subst (λ (r : Result _ _). IsErr r) e (h refl) in absurd (cc)
