-- Native code leads on in the same run.
use Rattle.std.proofs.Common.{◌≡◌, ◌∙◌, ◌-◌, length, sym, ap, subst, rules, arith}
use Rattle.dp_tree.specs.Step.{Config}
use Rattle.dp_meaning.specs.MachineState.{MachineState}
use Rattle.dp_meaning.specs.steps.PlainSteps.{PlainSteps}
use Rattle.dp_meaning.proofs.PartLemmas.{part_unmoved}
use Rattle.dp_native.proofs.MachineLemmas.{plain_here, reached_steps, written_back}
use Rattle.dp_native.proofs.native.leap.Goals as goal

pub returns-in_default : goal.returns-in_default
returns-in_default g c = part_unmoved c.args.machine.now c.args.out.now

pub overflow_sub-fuel-2 : goal.overflow_sub-fuel-2
overflow_sub-fuel-2 g c =
    let spent = (c.run-place.ensures c.args.machine.now.program c.requires.inlined c.requires.suits
    (plain_here c.args.machine.now c.place.result c.requires.part c.place.ensures)).spent in omega (arith, spent)

pub stand-requires-clause-led : goal.stand-requires-clause-led
stand-requires-clause-led g c =
    let m = c.args.machine.now in
    let same : c.as_mut_slice.result.now ≡ m.config.cells = search rules in
    let back : c.from_values.result ≡ c.run-place.new.cells = c.from_values.ensures ∙ written_back c.in-Ok.cells.len c.run-place.new.cells c.in-Ok.cells.items
    (c.run-place.auto.cells ∙ ap length c.as_mut_slice.ensures.value) (sym c.in-Ok.cells.ok.0) in (
      c.args.out.now,
      c.run-place.new.out,
      reached_steps m _ _ _ _ _ _ _ _ _ _ c.input-input.ensures c.place.ensures same back (c.run-place.ensures m.program
          c.requires.inlined c.requires.suits (plain_here c.args.machine.now c.place.result c.requires.part c.place.ensures)),
    )

pub returns : goal.returns
returns g c =
    let m = c.args.machine.now in
    let same : c.as_mut_slice.result.now ≡ m.config.cells = search rules in
    let back : c.from_values.result ≡ c.run-place.new.cells = c.from_values.ensures ∙ written_back c.in-Ok.cells.len c.run-place.new.cells c.in-Ok.cells.items
    (c.run-place.auto.cells ∙ ap length c.as_mut_slice.ensures.value) (sym c.in-Ok.cells.ok.0) in
    let steps = reached_steps m _ _ _ _ _ _ _ _ _ _ c.input-input.ensures c.place.ensures same back
    (c.run-place.ensures m.program c.requires.inlined c.requires.suits (plain_here c.args.machine.now c.place.result c.requires.part c.place.ensures)) in
    let at = ap (λ (n : MachineState). n.config) c.stand.ensures.state in
    c.stand.ensures.moved c.args.out.now c.run-place.new.out
    (subst (λ (d : Config). PlainSteps m.program m.input m.config c.args.out.now d c.run-place.new.out (c.fuel.result - c.steps.result - c.run-place.result.1))
    (sym at) steps)
