use Rattle.dp_drive.proofs.definite.AnswersOnce.{answers_once}
use Rattle.dp_drive.proofs.law.words_have_one_answer.Goals as goal

pub returns : goal.returns
returns c words held status other bytes more a b = answers_once held a b
