use Rattle.dp_lean_judge.proofs.GivenStages.{given_stages}
use Rattle.dp_theorem.proofs.GivenFits.{given_fits, given_tabled}
use Rattle.dp_lean_region.proofs.law.given_plans_fit.Goals as goal

pub returns : goal.returns
returns c =
    let p = c.args.p.now in let plan = c.args.plan.now in record {
      inlined = c.requires.inlined;
      fits = given_fits p c.requires.inlined plan c.requires.is_plan;
      tabled = given_tabled p c.requires.inlined plan c.requires.is_plan;
      stages = given_stages p c.requires.inlined plan c.requires.is_plan;
    }
