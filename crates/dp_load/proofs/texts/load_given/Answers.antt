use Rattle.dp_load.proofs.TextsLemmas.{plans_give}
use Rattle.dp_load.proofs.accepted.Given.{read_plans_fit}
use Rattle.dp_load.proofs.texts.load_given.Goals as goal

pub returns-in-Named-clause-gives : goal.returns-in-Named-clause-gives
returns-in-Named-clause-gives g c =
    rw c.in-Named.is (plans_give _ _ c.args.options _ _ _ _ _ _ c.load_plans.ensures.loads c.load_plans.ensures.faults c.load_plans.ensures.failed_names)

pub returns-in-Named-clause-fit : goal.returns-in-Named-clause-fit
returns-in-Named-clause-fit g c = read_plans_fit _ _ _ c.requires.inlined _ c.load_plans.ensures.loads

pub returns-in-Least-clause-gives : goal.returns-in-Least-clause-gives
returns-in-Least-clause-gives g c = rw c.in-Least.is c.load_least.ensures.gives
