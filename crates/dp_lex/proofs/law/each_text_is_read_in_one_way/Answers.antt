use Rattle.dp_lex.proofs.Definite.{tokens_or_refused, tokens_not_refused, tokens_once, refused_once}
use Rattle.dp_lex.proofs.law.each_text_is_read_in_one_way.Goals as goal

pub returns-clause-either : goal.returns-clause-either
returns-clause-either c = tokens_or_refused c.args.text.now

pub returns-clause-not_both : goal.returns-clause-not_both
returns-clause-not_both c = tokens_not_refused c.args.text.now

pub returns-clause-one_list : goal.returns-clause-one_list
returns-clause-one_list c = tokens_once c.args.text.now

pub returns-clause-one_place : goal.returns-clause-one_place
returns-clause-one_place c = refused_once c.args.text.now
