use Rattle.std.proofs.Common.{◌≡◌, refl, subst, arith, ℕ, suc, ◌+◌}
use Rattle.dp_judge.specs.Decided.{cleans}
use Rattle.dp_judge.specs.steps.Within.{CleanTo, Within}
use Rattle.dp_judge.proofs.judging.Bench.decide_all.Goals as goal

pub loop-place-init : goal.loop-place-init
loop-place-init c = (c.requires.kept, c.requires.ungiven, omega arith, λ e b came by at. at)

pub decide-requires-clause-kept : goal.decide-requires-clause-kept
decide-requires-clause-kept c = c.loop-place.invariant.0

pub decide-requires-clause-ungiven : goal.decide-requires-clause-ungiven
decide-requires-clause-ungiven c = c.loop-place.invariant.1

pub loop-place-preserved : goal.loop-place-preserved
loop-place-preserved c = (
  c.in-Goes.ensures.kept,
  c.in-Goes.ensures.ungiven refl,
  omega (arith, c.loop-place-test.true, c.loop-place.auto.place-end),
  λ e b came by at. (
      let more : suc c.loop-place.place ≡ c.loop-place.place + 1 = omega arith in
      subst (λ (i : ℕ). Within e b c.args.iterations i c.decide.new.self.left c.decide.new.self.cells c.decide.new.readers (cleans c.decide.new.told)) more
      (c.in-Goes.ensures.comes e b c.args.iterations came by (omega (arith, c.loop-place-test.true, c.loop-place.auto.place-end))
      (c.loop-place.invariant.3 e b came by at))),
)

pub returns-in-Closes : goal.returns-in-Closes
returns-in-Closes c = record {
  comes = λ e b came by at.
      c.in-Closes.ensures.comes e b c.args.iterations came by (omega (arith, c.loop-place-test.true, c.loop-place.auto.place-end))
      (c.loop-place.invariant.3 e b came by at);
}

pub returns-in-Unclean : goal.returns-in-Unclean
returns-in-Unclean c = record {
  comes = λ e b came by at.
      c.in-Unclean.ensures.comes e b c.args.iterations came by (omega (arith, c.loop-place-test.true, c.loop-place.auto.place-end))
      (c.loop-place.invariant.3 e b came by at);
}

pub returns-in-NoMemory : goal.returns-in-NoMemory
returns-in-NoMemory c = record {
  comes = λ e b came by at.
      c.in-NoMemory.ensures.comes e b c.args.iterations came by (omega (arith, c.loop-place-test.true, c.loop-place.auto.place-end))
      (c.loop-place.invariant.3 e b came by at);
}

pub returns : goal.returns
returns c = record {
  comes = λ e b came by at. (
      let over : c.loop-place.place ≡ c.args.iterations = omega (arith, c.loop-place-test.false, c.loop-place.auto.place-end, c.loop-place.invariant.2) in
      let within = c.loop-place.invariant.3 e b came by at in
      subst (λ (i : ℕ). CleanTo e b i c.loop-place.self.left c.loop-place.self.cells (cleans c.loop-place.told)) over within.clean);
}
