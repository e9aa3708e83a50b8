use Rattle.dp_parse.proofs.ProgramComplete.{one_program}
use Rattle.dp_parse.proofs.law.no_tokens_derive_two_programs.Goals as goal

pub returns : goal.returns
returns c tokens p q d e = one_program tokens p q d e
