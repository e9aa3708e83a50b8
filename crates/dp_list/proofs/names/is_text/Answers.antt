use Rattle.std.proofs.Common.{◌∙◌}
use Rattle.dp_list.proofs.NameLemmas.{tells_text}
use Rattle.dp_list.proofs.names.is_text.Goals as goal

pub returns : goal.returns
returns c = c.is_ok.ensures.value ∙ tells_text c.args.bytes.now c.from_utf8.result _ _ c.from_utf8.ensures.cases
