use Rattle.dp_drive.proofs.CountLemmas.{refused_counts}
use Rattle.dp_drive.proofs.MadeLemmas.{carry_refused, carry_run, few_words, read_given, read_inlined, read_made, run_counts, short_made}
use Rattle.dp_drive.proofs.made.answer_gen.Goals as goal

pub read_program-requires : goal.read_program-requires
read_program-requires g c = short_made _ _ c.as_slice.ensures c.in_ok-made.ensures.text

pub automatic_plans-requires-clause-inlined : goal.automatic_plans-requires-clause-inlined
automatic_plans-requires-clause-inlined g c = read_inlined _ (read_made _ _ _ _ c.as_slice.ensures c.in_ok-made.ensures.text c.in-Ok.is c.in_ok-program.ensures)

pub run_made-requires-clause-given : goal.run_made-requires-clause-given
run_made-requires-clause-given g c κs within =
    read_given _ (read_made _ _ _ _ c.as_slice.ensures c.in_ok-made.ensures.text c.in-Ok.is c.in_ok-program.ensures) _ c.in_ok-plans-in-Ok.ensures.fit

pub run_made-requires-clause-words : goal.run_made-requires-clause-words
run_made-requires-clause-words g c κs within = few_words c.args.words _ c.in_ok-made.ensures.words c.requires.within

pub returns-in-Ok-clause-carried : goal.returns-in-Ok-clause-carried
returns-in-Ok-clause-carried g c given contents faults failed asks =
    carry_run given contents c.args.words asks faults failed _ _ _ _ _ _ c.in_ok-made.ensures.words
    (read_made _ _ _ _ c.as_slice.ensures c.in_ok-made.ensures.text c.in-Ok.is c.in_ok-program.ensures) c.in_ok-plans-in-Ok.ensures.made
    c.run_made.ensures.runs.finishes

pub returns-in-Ok-clause-counted : goal.returns-in-Ok-clause-counted
returns-in-Ok-clause-counted g c given contents asks =
    run_counts given contents c.args.words asks _ _ _ _ _ _ c.in_ok-made.ensures.words (read_made _ _ _ _ c.as_slice.ensures c.in_ok-made.ensures.text
    c.in-Ok.is c.in_ok-program.ensures) c.in_ok-plans-in-Ok.ensures.made c.run_made.ensures.runs.counted

pub returns-clause-carried : goal.returns-clause-carried
returns-clause-carried g c given contents faults failed asks = carry_refused given contents c.args.words asks faults failed _ _ _ _
    (read_made _ _ _ _ c.as_slice.ensures c.in_ok-made.ensures.text c.in-Err.is c.in_ok-program.ensures) c.refuse.ensures.finishes

pub returns-clause-counted : goal.returns-clause-counted
returns-clause-counted g c given contents asks = refused_counts given contents _ _ _ _ _ _ c.refuse.ensures.finishes
