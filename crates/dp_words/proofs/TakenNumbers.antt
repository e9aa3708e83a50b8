-- Each verb's command is simple, and its numbers have their ranges.
use Rattle.std.proofs.Common.{refl}
use Rattle.clap.proofs.OnLiterals.{clap_on_literals}
use Rattle.dp_words.specs.Commands.{audit_app, batch_app, check_app, explain_app, gen_app, log_app, plan_app, profile_app, resume_app, run_app, save_app}
use Rattle.dp_words.specs.Commands.{tree_app}
use Rattle.dp_words.specs.declared.verb.Verb.{Verb}
use Rattle.dp_words.specs.declared.verb.Verb.TheVariants as verb
use Rattle.dp_words.specs.steps.Numbers.{TakesNumbers}
use Rattle.dp_words.specs.steps.Verbs.{app_by}

run_takes : TakesNumbers run_app
unfolding clap_on_literals
run_takes = record {
  simple = refl;
  rate = refl;
  stages = refl;
  workers = refl;
  lane = refl;
  fuel = refl;
  seed = refl;
  size = refl;
  region = refl;
  after = refl;
}

plan_takes : TakesNumbers plan_app
unfolding clap_on_literals
plan_takes = record {
  simple = refl;
  rate = refl;
  stages = refl;
  workers = refl;
  lane = refl;
  fuel = refl;
  seed = refl;
  size = refl;
  region = refl;
  after = refl;
}

explain_takes : TakesNumbers explain_app
unfolding clap_on_literals
explain_takes = record {
  simple = refl;
  rate = refl;
  stages = refl;
  workers = refl;
  lane = refl;
  fuel = refl;
  seed = refl;
  size = refl;
  region = refl;
  after = refl;
}

check_takes : TakesNumbers check_app
unfolding clap_on_literals
check_takes = record {
  simple = refl;
  rate = refl;
  stages = refl;
  workers = refl;
  lane = refl;
  fuel = refl;
  seed = refl;
  size = refl;
  region = refl;
  after = refl;
}

tree_takes : TakesNumbers tree_app
unfolding clap_on_literals
tree_takes = record {
  simple = refl;
  rate = refl;
  stages = refl;
  workers = refl;
  lane = refl;
  fuel = refl;
  seed = refl;
  size = refl;
  region = refl;
  after = refl;
}

profile_takes : TakesNumbers profile_app
unfolding clap_on_literals
profile_takes = record {
  simple = refl;
  rate = refl;
  stages = refl;
  workers = refl;
  lane = refl;
  fuel = refl;
  seed = refl;
  size = refl;
  region = refl;
  after = refl;
}

gen_takes : TakesNumbers gen_app
unfolding clap_on_literals
gen_takes = record {
  simple = refl;
  rate = refl;
  stages = refl;
  workers = refl;
  lane = refl;
  fuel = refl;
  seed = refl;
  size = refl;
  region = refl;
  after = refl;
}

log_takes : TakesNumbers log_app
unfolding clap_on_literals
log_takes = record {
  simple = refl;
  rate = refl;
  stages = refl;
  workers = refl;
  lane = refl;
  fuel = refl;
  seed = refl;
  size = refl;
  region = refl;
  after = refl;
}

audit_takes : TakesNumbers audit_app
unfolding clap_on_literals
audit_takes = record {
  simple = refl;
  rate = refl;
  stages = refl;
  workers = refl;
  lane = refl;
  fuel = refl;
  seed = refl;
  size = refl;
  region = refl;
  after = refl;
}

save_takes : TakesNumbers save_app
unfolding clap_on_literals
save_takes = record {
  simple = refl;
  rate = refl;
  stages = refl;
  workers = refl;
  lane = refl;
  fuel = refl;
  seed = refl;
  size = refl;
  region = refl;
  after = refl;
}

resume_takes : TakesNumbers resume_app
unfolding clap_on_literals
resume_takes = record {
  simple = refl;
  rate = refl;
  stages = refl;
  workers = refl;
  lane = refl;
  fuel = refl;
  seed = refl;
  size = refl;
  region = refl;
  after = refl;
}

batch_takes : TakesNumbers batch_app
unfolding clap_on_literals
batch_takes = record {
  simple = refl;
  rate = refl;
  stages = refl;
  workers = refl;
  lane = refl;
  fuel = refl;
  seed = refl;
  size = refl;
  region = refl;
  after = refl;
}

pub takes_numbers : (v : Verb) → TakesNumbers (app_by v)
takes_numbers verb.Run = run_takes
takes_numbers verb.Plan = plan_takes
takes_numbers verb.Explain = explain_takes
takes_numbers verb.Check = check_takes
takes_numbers verb.Tree = tree_takes
takes_numbers verb.Profile = profile_takes
takes_numbers verb.Gen = gen_takes
takes_numbers verb.Log = log_takes
takes_numbers verb.Audit = audit_takes
takes_numbers verb.Save = save_takes
takes_numbers verb.Resume = resume_takes
takes_numbers verb.Batch = batch_takes
