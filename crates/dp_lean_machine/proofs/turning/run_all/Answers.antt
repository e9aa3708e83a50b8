use Rattle.std.proofs.Common.{◌≡◌, refl, subst, arith, ℕ, suc, ◌+◌}
use Rattle.dp_lean_machine.specs.Within.{Within, IsRan}
use Rattle.dp_lean_machine.specs.declared.batch.BatchStatus.TheVariants as status
use Rattle.dp_lean_machine.proofs.AllRan.{keeps_same, keeps_on, can_still, all_ran}
use Rattle.dp_lean_machine.proofs.turning.run_all.Goals as goal

pub loop-done-init : goal.loop-done-init
loop-done-init g c = (keeps_same c.args.turn.now c.args.turn.now refl refl, omega arith, λ e s b ends like is runs at. at)

pub turn_once-requires-clause-can : goal.turn_once-requires-clause-can
turn_once-requires-clause-can g c = can_still c.args.stage.frame c.args.stage.ready c.args.turn.now c.loop-done.turn c.requires.can c.loop-done.invariant.0

pub returns-in-Closes-clause-ran : goal.returns-in-Closes-clause-ran
returns-in-Closes-clause-ran g c e s b ends like is runs at =
    let more : suc c.loop-done.done ≡ c.loop-done.done + 1 = omega arith in
    subst (λ (i : ℕ). IsRan e s b g.M.Memory.cells c.turn_once.new.turn c.turn_once.new.steps (record { iterations = i; status = status.Closing })) more
    (c.in-Closes.ensures.steps e s b c.loop-done.done (record { iterations = c.args.came.iterations; ends = ends }) is runs
    (omega (arith, c.loop-done-test.true, c.loop-done.auto.done-end)) (c.loop-done.invariant.2 e s b ends like is runs at))

pub returns-in-Closes-clause-keeps : goal.returns-in-Closes-clause-keeps
returns-in-Closes-clause-keeps g c = keeps_on c.args.turn.now c.loop-done.turn c.turn_once.new.turn c.loop-done.invariant.0 c.in-Closes.ensures.keeps

pub returns-in-Void-clause-ran : goal.returns-in-Void-clause-ran
returns-in-Void-clause-ran g c e s b ends like is runs at =
    c.in-Void.ensures.steps e s b c.loop-done.done (record { iterations = c.args.came.iterations; ends = ends }) is runs
    (omega (arith, c.loop-done-test.true, c.loop-done.auto.done-end)) (c.loop-done.invariant.2 e s b ends like is runs at)

pub returns-in-Void-clause-keeps : goal.returns-in-Void-clause-keeps
returns-in-Void-clause-keeps g c = keeps_on c.args.turn.now c.loop-done.turn c.turn_once.new.turn c.loop-done.invariant.0 c.in-Void.ensures.keeps

pub returns-in-NoMemory-clause-keeps : goal.returns-in-NoMemory-clause-keeps
returns-in-NoMemory-clause-keeps g c = keeps_on c.args.turn.now c.loop-done.turn c.turn_once.new.turn c.loop-done.invariant.0 c.in-NoMemory.ensures.keeps

pub loop-done-preserved : goal.loop-done-preserved
loop-done-preserved g c = (
  keeps_on c.args.turn.now c.loop-done.turn c.turn_once.new.turn c.loop-done.invariant.0 c.in-Goes.ensures.keeps,
  omega (arith, c.loop-done-test.true, c.loop-done.auto.done-end),
  λ e s b ends like is runs at. (
      let more : suc c.loop-done.done ≡ c.loop-done.done + 1 = omega arith in
      subst (λ (i : ℕ). Within e s b g.M.Memory.cells c.args.came.iterations i c.turn_once.new.turn c.turn_once.new.steps) more
      (c.in-Goes.ensures.steps e s b c.loop-done.done (record { iterations = c.args.came.iterations; ends = ends }) is runs
      (omega (arith, c.loop-done-test.true, c.loop-done.auto.done-end)) (c.loop-done.invariant.2 e s b ends like is runs at))),
)

pub returns-clause-ran : goal.returns-clause-ran
returns-clause-ran g c e s b ends like is runs at =
    all_ran g.M.Memory.cells e s b c.args.came ends like is c.loop-done.turn c.loop-done.steps
    (let over : c.loop-done.done ≡ c.args.came.iterations = omega (arith, c.loop-done-test.false, c.loop-done.auto.done-end, c.loop-done.invariant.1) in
    subst (λ (i : ℕ). Within e s b g.M.Memory.cells c.args.came.iterations i c.loop-done.turn c.loop-done.steps) over
    (c.loop-done.invariant.2 e s b ends like is runs at))

pub returns-clause-keeps : goal.returns-clause-keeps
returns-clause-keeps g c = c.loop-done.invariant.0
