use Rattle.std.proofs.Common.{ap, ◌∙◌, List, ◌∷◌}
use Rattle.dp_calls.specs.Renaming.{Renamed}
use Rattle.dp_inline.specs.Named.{renamed_names}
use Rattle.dp_inline.proofs.NamesLemmas.{names_of-push}
use Rattle.dp_inline.proofs.names.Names.push.Goals as goal

pub returns : goal.returns
returns c =
    ap renamed_names c.in_ok-push.ensures.ok ∙ names_of-push c.self.inside.rows (record { source = c.args.source; target = c.args.target })
    ∙ ap (λ (names : List Renamed). record { source = c.args.source; target = c.args.target } ∷ names) c.self.view_is
