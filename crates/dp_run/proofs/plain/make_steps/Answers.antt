-- What native code made, or the machine behind it.
use Rattle.std.proofs.Common.{◌≡◌, ◌≢◌, arith, rules}
use Rattle.dp_meaning.specs.declared.ends.Part.TheVariants.{Plain}
use Rattle.dp_meaning.specs.MachineState.{next_part}
use Rattle.dp_run.proofs.NativeLemmas.{over_call, going_call, machine_call}
use Rattle.dp_run.proofs.plain.make_steps.Goals as goal

pub returns-then-ne : goal.returns-then-ne
returns-then-ne g c =
    let over : next_part c.go_on.new.machine ≢ Plain = search rules in
    over_call c.args.machine.now c.go_on.new.machine c.args.waiting.now c.go_on.new.out c.requires c.go_on.ensures over

pub returns-then-steps-fuel : goal.returns-then-steps-fuel
returns-then-steps-fuel g c =
    let plain : next_part c.go_on.new.machine ≡ Plain = search rules in
    let before = c.steps-before.ensures.value in
    let now = c.steps-steps.ensures.value in
    let fuel = c.fuel.ensures in
    let more = c.if-before-steps.true in
    let left = c.if-steps-fuel.true in
    going_call c.args.machine.now c.go_on.new.machine c.args.waiting.now c.go_on.new.out c.requires c.go_on.ensures plain (omega (arith, before, now, more))
    (omega (arith, now, fuel, left))

pub returns : goal.returns
returns g c =
    machine_call c.args.machine.now c.go_on.new.machine c.args.waiting.now c.go_on.new.out c.requires c.go_on.ensures 65536 (omega arith) c.run_part.new.self
    c.run_part.new.out c.run_part.result c.run_part.ensures.runs
