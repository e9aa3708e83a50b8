use Rattle.dp_words.proofs.AnswerLemmas.{unknown_word}
use Rattle.dp_words.proofs.verbs.asked.Goals as goal

pub returns-in-None-clause-none : goal.returns-in-None-clause-none
returns-in-None-clause-none c = unknown_word c.args.words.now c.in-Some.rest.now c.in-Some.verb.now c.in-Some.ensures.cases.0 c.as_str.result.now
    c.as_str.ensures.value c.in-None.ensures.none
