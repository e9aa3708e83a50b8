use Rattle.std.proofs.Common.{◌≡◌, sym, subst, rules, List, ℤ, length}
use Rattle.dp_tree.specs.Step.{standing}
use Rattle.dp_meaning.specs.Places.{config_at, rest_at}
use Rattle.dp_native.specs.Reaches.{Reaches}
use Rattle.dp_forms.proofs.WholeLemmas.{idle, gone}
use Rattle.dp_forms.proofs.composed.ComposedNativeProgram.run.Goals as goal

pub returns-then-not-ready : goal.returns-then-not-ready
returns-then-not-ready g c = λ p inlined whole plain. idle p c.args.place c.args.cells.now plain

pub returns-in-None : goal.returns-in-None
returns-in-None g c = λ p inlined whole plain.
    subst (λ (xs : List ℤ). Reaches p c.args.input.now c.args.fuel c.args.out.now (config_at p (record { place = c.args.place; cells = c.args.cells.now }))
    c.args.fuel xs (standing p (rest_at p c.args.place) c.enter.new.memory)) (sym c.in-None.ensures.1)
    (subst (λ (xs : List ℤ). Reaches p c.args.input.now c.args.fuel c.args.out.now (config_at p (record { place = c.args.place; cells = c.args.cells.now }))
    c.args.fuel c.args.out.now (standing p (rest_at p c.args.place) xs)) (sym c.in-None.ensures.0)
    (idle p c.args.place c.args.cells.now plain))

pub returns-in-Some : goal.returns-in-Some
returns-in-Some g c = λ p inlined whole plain.
    let long : length c.args.cells.now ≡ c.args.self.now.size = search rules in
    gone c.args.place c.place_of-next.result c.in-Some.ensures.1 long c.loaded.ensures c.put_back.ensures c.place_of-next.ensures.done
    c.place_of-next.ensures.left p inlined whole
