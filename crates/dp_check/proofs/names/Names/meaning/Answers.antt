use Rattle.std.proofs.Common.{ap, sym, ◌∙◌}
use Rattle.dp_check.specs.Names.{named}
use Rattle.dp_check.proofs.NamesLemmas.{named-shown}
use Rattle.dp_check.proofs.names.Names.meaning.Goals as goal

pub returns : goal.returns
returns c = c.copied.ensures ∙ c.get.ensures.value ∙ sym (named-shown c.args.name.now c.self.inside.meanings.entries)
    ∙ ap (λ l. named l c.args.name.now) c.self.view_is
