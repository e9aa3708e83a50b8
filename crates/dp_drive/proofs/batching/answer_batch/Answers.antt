use Rattle.std.proofs.Common.{◌∙◌, ap, Ok}
use Rattle.dp_words.specs.Run.{shown}
use Rattle.dp_drive.proofs.BatchLemmas.{carry_batch, carry_failed, carry_refused, few, given, loaded}
use Rattle.dp_drive.proofs.batching.answer_batch.Goals as goal

pub returns-in-Run-clause-carried : goal.returns-in-Run-clause-carried
returns-in-Run-clause-carried g c words asks =
    let texts = loaded _ _ _ _ _ _ _ _ _ (c.in_ok-program.was ∙ ap Ok c.in-Run.is) c.load_batch.ensures.loads in
    carry_batch _ _ _ _ _ _ _ _ (shown c.args.run) _ asks _ _ _ _ texts c.run_each.ensures.finishes

pub returns-in-Refused-clause-carried : goal.returns-in-Refused-clause-carried
returns-in-Refused-clause-carried g c words asks =
    let texts = loaded _ _ _ _ _ _ _ _ _ (c.in_ok-program.was ∙ ap Ok c.in-Refused.is) c.load_batch.ensures.loads in
    carry_refused _ _ _ _ _ _ _ _ (shown c.args.run) _ asks _ _ texts c.refuse.ensures.finishes

pub returns-in-Failed-clause-carried : goal.returns-in-Failed-clause-carried
returns-in-Failed-clause-carried g c words asks =
    let texts = loaded _ _ _ _ _ _ _ _ _ (c.in_ok-program.was ∙ ap Ok c.in-Failed.is) c.load_batch.ensures.loads in
    carry_failed _ _ _ _ _ _ _ _ (shown c.args.run) _ asks _ _ texts c.fail_read.ensures.finishes

pub run_each-requires-clause-given : goal.run_each-requires-clause-given
run_each-requires-clause-given g c κs within =
    given _ _ _ _ _ _ _ _ _ _ (loaded _ _ _ _ _ _ _ _ _ (c.in_ok-program.was ∙ ap Ok c.in-Run.is) c.load_batch.ensures.loads)

pub run_each-requires-clause-words : goal.run_each-requires-clause-words
run_each-requires-clause-words g c κs within =
    few _ _ _ _ _ _ _ _ _ _ (loaded _ _ _ _ _ _ _ _ _ (c.in_ok-program.was ∙ ap Ok c.in-Run.is) c.load_batch.ensures.loads)
