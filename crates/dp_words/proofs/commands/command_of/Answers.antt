use Rattle.dp_words.proofs.TableLemmas.{command_made}
use Rattle.dp_words.proofs.commands.command_of.Goals as goal

pub returns : goal.returns
returns c =
    command_made c.args.line c.requires _ _ _ c.verb_command.ensures c.in_ok-command.ensures c.in_ok-command-2.ensures c.with_all-3.result c.with_all-3.ensures
