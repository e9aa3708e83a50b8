use Rattle.std.proofs.Common.{map, ap, sym, ◌∙◌, take}
use Rattle.std.proofs.lemmas.List.{take-map}
use Rattle.dp_check.proofs.NamesLemmas.{shown}
use Rattle.dp_check.proofs.names.Names.keep.Goals as goal

pub returns : goal.returns
returns c = ap (λ l. map shown l) c.truncate.ensures.entries ∙ sym (take-map shown c.args.count c.self.inside.meanings.entries)
    ∙ ap (take c.args.count) c.self.view_is
