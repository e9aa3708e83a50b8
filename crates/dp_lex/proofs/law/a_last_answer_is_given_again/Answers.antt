use Rattle.dp_lex.proofs.LastAnswer.{last_again}
use Rattle.dp_lex.proofs.law.a_last_answer_is_given_again.Goals as goal

pub returns : goal.returns
returns c = last_again
