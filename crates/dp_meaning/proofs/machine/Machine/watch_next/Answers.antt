-- Each answer of a watched step.
use Rattle.dp_meaning.proofs.Names.{rules, ◌≡◌, ◌≢◌, sym, ap, subst, true, false, Loads, TurnTaken, rest_at, MachineState, part_of, WatchSpoiled}
use Rattle.dp_meaning.specs.declared.turn.Turn.TheVariants as turn
use Rattle.dp_meaning.specs.declared.ends.Part.TheVariants.{Finished}
use Rattle.dp_meaning.proofs.StretchLemmas.{step_left}
use Rattle.dp_meaning.proofs.WatchedLemmas.{nothing_left, ends_fuel, faulted_so, stepped_so, step_printed, step_unmade, step_untold}
use Rattle.dp_meaning.proofs.machine.Machine.watch_next.Goals as goal
use Rattle.dp_room.proofs.ResultLemmas.{on_err}

pub returns-then-eq-clause-ok : goal.returns-then-eq-clause-ok
returns-then-eq-clause-ok c =
    let over : part_of (rest_at c.self.inside.code c.self.inside.position.place) ≡ Finished = search rules in
    nothing_left c.args.self.now (subst (λ (m : MachineState). part_of m.config.to_do ≡ Finished) c.self.view_is over)

pub returns-then-self-clause-ok : goal.returns-then-self-clause-ok
returns-then-self-clause-ok c =
    let some : part_of (rest_at c.self.inside.code c.self.inside.position.place) ≢ Finished = search rules in
    let at : c.self.inside.steps ≡ c.self.inside.fuel = c.if-self.true in
    ends_fuel c.args.self.now (subst (λ (m : MachineState). part_of m.config.to_do ≢ Finished) c.self.view_is some)
    (subst (λ (m : MachineState). m.steps ≡ m.fuel) c.self.view_is at)

pub returns-in-Fault-clause-ok : goal.returns-in-Fault-clause-ok
returns-in-Fault-clause-ok c =
    let less = step_left _ c.args.self.now c.self.view_is c.self.invariant.within c.if-self.false in
    let taken : TurnTaken c.in_ok-turn.turn c.args.self.now c.step.new.self c.args.out.now c.step.new.out = c.in_ok-turn.ensures.ok in
    let t : TurnTaken (turn.Fault c.in-Fault.fault) c.args.self.now c.step.new.self c.args.out.now c.step.new.out = rw c.in-Fault.is at taken in
    faulted_so c.args.self.now c.step.new.self c.in-Fault.fault c.step.new.watch.cells less t.0 t.1

pub returns-in-Made-clause-ok : goal.returns-in-Made-clause-ok
returns-in-Made-clause-ok c =
    let less = step_left _ c.args.self.now c.self.view_is c.self.invariant.within c.if-self.false in
    let taken : TurnTaken c.in_ok-turn.turn c.args.self.now c.step.new.self c.args.out.now c.step.new.out = c.in_ok-turn.ensures.ok in
    let t : TurnTaken (turn.Made c.in-Made.left c.in-Made.site c.in-Made.effect) c.args.self.now c.step.new.self c.args.out.now c.step.new.out = rw
    c.in-Made.is at taken in
    let whole : c.step.new.watch.wanting ≡ false = search rules in
    stepped_so c.args.self.now c.step.new.self c.in-Made.left c.in-Made.site c.in-Made.effect c.args.out.now c.step.new.out c.clear.new.self c.step.new.watch
    less t c.in_ok-turn.ensures.told (ap (λ (l : Loads). l.cells) c.clear.ensures) whole

pub returns-in-Made-clause-prints : goal.returns-in-Made-clause-prints
returns-in-Made-clause-prints c =
    let taken : TurnTaken c.in_ok-turn.turn c.args.self.now c.step.new.self c.args.out.now c.step.new.out = c.in_ok-turn.ensures.ok in
    let t : TurnTaken (turn.Made c.in-Made.left c.in-Made.site c.in-Made.effect) c.args.self.now c.step.new.self c.args.out.now c.step.new.out = rw
    c.in-Made.is at taken in
    step_printed c.args.self.now c.step.new.self c.in-Made.left c.in-Made.site c.in-Made.effect c.args.out.now c.step.new.out t

pub returns-in_err-turn-clause-err : goal.returns-in_err-turn-clause-err
returns-in_err-turn-clause-err c =
    let less = step_left _ c.args.self.now c.self.view_is c.self.invariant.within c.if-self.false in
    let some : part_of (rest_at c.self.inside.code c.self.inside.position.place) ≢ Finished = search rules in
    let next : part_of c.args.self.now.config.to_do ≢ Finished = subst (λ (m : MachineState). part_of m.config.to_do ≢ Finished) c.self.view_is some in
    let refused = c.in_err-turn.ensures.err in
    on_err c.from_residual.result _ (step_unmade c.args.self.now c.step.new.self c.args.out.now c.step.new.out less next refused.0 refused.1)

pub returns-then-loads-clause-err : goal.returns-then-loads-clause-err
returns-then-loads-clause-err c =
    let less = step_left _ c.args.self.now c.self.view_is c.self.invariant.within c.if-self.false in
    let some : part_of (rest_at c.self.inside.code c.self.inside.position.place) ≢ Finished = search rules in
    let next : part_of c.args.self.now.config.to_do ≢ Finished = subst (λ (m : MachineState). part_of m.config.to_do ≢ Finished) c.self.view_is some in
    let taken : TurnTaken c.in_ok-turn.turn c.args.self.now c.step.new.self c.args.out.now c.step.new.out = c.in_ok-turn.ensures.ok in
    subst (λ (m : MachineState). WatchSpoiled c.args.self.now (record m { spoiled = true }) c.args.out.now c.step.new.out) (sym c.self-2.view_is)
    (step_untold c.args.self.now c.step.new.self c.in_ok-turn.turn c.args.out.now c.step.new.out less next taken)
