-- Each answer of a watched step of an iteration.
use Rattle.dp_meaning.proofs.Names.{rules, ◌≡◌, ◌∙◌, sym, ap, subst, true, false, Loads, TurnTaken, MachineState, part_of, UnderWay, WatchSpoiled, IterationRun}
use Rattle.dp_meaning.specs.declared.ends.IterEnd.{IterEnd}
use Rattle.dp_meaning.specs.declared.turn.Turn.TheVariants as turn
use Rattle.dp_meaning.specs.declared.ends.Part.TheVariants.{Finished}
use Rattle.dp_meaning.proofs.StretchLemmas.{step_left}
use Rattle.dp_meaning.proofs.WatchedIteration.{fault_run, some_next, spent_run, step_run}
use Rattle.dp_meaning.proofs.WatchedLemmas.{ends_fuel, faulted_so, stepped_so, step_unmade, step_untold, watches_no_more}
use Rattle.dp_meaning.proofs.machine.Machine.watch_iteration.Goals as goal
use Rattle.dp_room.proofs.ResultLemmas.{on_err}

pub returns-then-self-clause-err : goal.returns-then-self-clause-err
returns-then-self-clause-err c = watches_no_more c.args.self.now c.args.out.now (ap (λ (m : MachineState). m.spoiled) (sym c.self.view_is) ∙ c.if-self.true)

pub returns-then-self-2-clause-runs : goal.returns-then-self-2-clause-runs
returns-then-self-2-clause-runs c region next =
    let u : UnderWay c.args.self.now.current c.args.self.now.config.to_do = subst (λ (m : MachineState). UnderWay m.current m.config.to_do) c.self.view_is
    c.self.invariant.under_way in
    spent_run region c.args.self.now c.args.self.now c.args.out.now c.args.out.now u next (ap (λ (m : MachineState). m.steps) (sym c.self.view_is)
    ∙ c.if-self-2.true ∙ ap (λ (m : MachineState). m.fuel) c.self.view_is)

pub returns-then-self-2-clause-told : goal.returns-then-self-2-clause-told
returns-then-self-2-clause-told c =
    let u : UnderWay c.args.self.now.current c.args.self.now.config.to_do = subst (λ (m : MachineState). UnderWay m.current m.config.to_do) c.self.view_is
    c.self.invariant.under_way in
    ends_fuel c.args.self.now (some_next c.args.self.now u c.requires.part) (ap (λ (m : MachineState). m.steps) (sym c.self.view_is) ∙ c.if-self-2.true
    ∙ ap (λ (m : MachineState). m.fuel) c.self.view_is)

pub returns-in-Fault-clause-runs : goal.returns-in-Fault-clause-runs
returns-in-Fault-clause-runs c region next =
    let u : UnderWay c.args.self.now.current c.args.self.now.config.to_do = subst (λ (m : MachineState). UnderWay m.current m.config.to_do) c.self.view_is
    c.self.invariant.under_way in
    let less = step_left _ c.args.self.now c.self.view_is c.self.invariant.within c.if-self-2.false in
    let taken : TurnTaken c.in_ok-turn.turn c.args.self.now c.step.new.self c.args.out.now c.step.new.out = c.in_ok-turn.ensures.ok in
    fault_run region c.args.self.now c.step.new.self c.args.out.now c.step.new.out u next c.in-Fault.fault less (rw c.in-Fault.is at taken)

pub returns-in-Fault-clause-told : goal.returns-in-Fault-clause-told
returns-in-Fault-clause-told c =
    let less = step_left _ c.args.self.now c.self.view_is c.self.invariant.within c.if-self-2.false in
    let taken : TurnTaken c.in_ok-turn.turn c.args.self.now c.step.new.self c.args.out.now c.step.new.out = c.in_ok-turn.ensures.ok in
    let t : TurnTaken (turn.Fault c.in-Fault.fault) c.args.self.now c.step.new.self c.args.out.now c.step.new.out = rw c.in-Fault.is at taken in
    faulted_so c.args.self.now c.step.new.self c.in-Fault.fault c.step.new.watch.cells less t.0 t.1

pub returns-in-Made-clause-runs : goal.returns-in-Made-clause-runs
returns-in-Made-clause-runs c region next =
    let u : UnderWay c.args.self.now.current c.args.self.now.config.to_do = subst (λ (m : MachineState). UnderWay m.current m.config.to_do) c.self.view_is
    c.self.invariant.under_way in
    let less = step_left _ c.args.self.now c.self.view_is c.self.invariant.within c.if-self-2.false in
    let taken : TurnTaken c.in_ok-turn.turn c.args.self.now c.step.new.self c.args.out.now c.step.new.out = c.in_ok-turn.ensures.ok in
    let t : TurnTaken (turn.Made c.in-Made.left c.in-Made.site c.in-Made.effect) c.args.self.now c.step.new.self c.args.out.now c.step.new.out = rw
    c.in-Made.is at taken in
    subst (λ (end : IterEnd). IterationRun region 1 c.args.self.now c.step.new.self c.args.out.now c.step.new.out end) (sym c.end_behind-end.ensures)
    (step_run region c.args.self.now c.step.new.self c.args.out.now c.step.new.out u next c.in-Made.left c.in-Made.site c.in-Made.effect less t)

pub returns-in-Made-clause-told : goal.returns-in-Made-clause-told
returns-in-Made-clause-told c =
    let less = step_left _ c.args.self.now c.self.view_is c.self.invariant.within c.if-self-2.false in
    let taken : TurnTaken c.in_ok-turn.turn c.args.self.now c.step.new.self c.args.out.now c.step.new.out = c.in_ok-turn.ensures.ok in
    let t : TurnTaken (turn.Made c.in-Made.left c.in-Made.site c.in-Made.effect) c.args.self.now c.step.new.self c.args.out.now c.step.new.out = rw
    c.in-Made.is at taken in
    let whole : c.step.new.watch.wanting ≡ false = search rules in
    stepped_so c.args.self.now c.step.new.self c.in-Made.left c.in-Made.site c.in-Made.effect c.args.out.now c.step.new.out c.clear.new.self c.step.new.watch
    less t c.in_ok-turn.ensures.told (ap (λ (l : Loads). l.cells) c.clear.ensures) whole

pub returns-in_err-turn-clause-err : goal.returns-in_err-turn-clause-err
returns-in_err-turn-clause-err c =
    let u : UnderWay c.args.self.now.current c.args.self.now.config.to_do = subst (λ (m : MachineState). UnderWay m.current m.config.to_do) c.self.view_is
    c.self.invariant.under_way in
    let less = step_left _ c.args.self.now c.self.view_is c.self.invariant.within c.if-self-2.false in
    let refused = c.in_err-turn.ensures.err in
    on_err c.from_residual.result _ (step_unmade c.args.self.now c.step.new.self c.args.out.now c.step.new.out less
    (some_next c.args.self.now u c.requires.part) refused.0 refused.1)

pub returns-then-loads-clause-err : goal.returns-then-loads-clause-err
returns-then-loads-clause-err c =
    let u : UnderWay c.args.self.now.current c.args.self.now.config.to_do = subst (λ (m : MachineState). UnderWay m.current m.config.to_do) c.self.view_is
    c.self.invariant.under_way in
    let less = step_left _ c.args.self.now c.self.view_is c.self.invariant.within c.if-self-2.false in
    let taken : TurnTaken c.in_ok-turn.turn c.args.self.now c.step.new.self c.args.out.now c.step.new.out = c.in_ok-turn.ensures.ok in
    subst (λ (m : MachineState). WatchSpoiled c.args.self.now (record m { spoiled = true }) c.args.out.now c.step.new.out) (sym c.self-2.view_is)
    (step_untold c.args.self.now c.step.new.self c.in_ok-turn.turn c.args.out.now c.step.new.out less (some_next c.args.self.now u c.requires.part) taken)
