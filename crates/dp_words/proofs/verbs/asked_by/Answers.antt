use Rattle.std.proofs.Common.{subst, sym}
use Rattle.dp_words.proofs.AnswerLemmas.{told_by, untold_by}
use Rattle.dp_words.proofs.TakenNumbers.{takes_numbers}
use Rattle.dp_words.specs.steps.Numbers.{TakesNumbers}
use Rattle.dp_words.proofs.verbs.asked_by.Goals as goal

pub found-requires : goal.found-requires
found-requires c = record { numbers = subst TakesNumbers (sym c.in_ok-command_of.ensures) (takes_numbers c.args.line.verb) }

pub returns-in-Some : goal.returns-in-Some
returns-in-Some c =
    told_by c.args.line.verb _ _ c.in_ok-command_of.ensures c.in_ok-matches.field-0 c.in-Some.matches c.in-Some.is c.in_ok-matches.ensures.some
    c.task_in.result c.task_in.ensures

pub returns-in-None : goal.returns-in-None
returns-in-None c = untold_by c.args.line.verb _ _ c.in_ok-command_of.ensures c.in_ok-matches.field-0 c.in-None.is c.in_ok-matches.ensures.none
