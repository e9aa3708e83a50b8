use Rattle.std.proofs.Common.{◌≡◌, ◌++◌, ◌∷◌, [], map, ap, ◌∙◌, None}
use Rattle.dp_check.specs.Names.{Named, named}
use Rattle.dp_check.proofs.NamesLemmas.{shown, shown-inserted}
use Rattle.dp_check.proofs.names.Names.declare.Goals as goal

pub returns : goal.returns
returns c =
    let absent : named (map shown c.self.inside.meanings.entries) c.args.name.now ≡ None = ap (λ l. named l c.args.name.now) c.self.view_is ∙ c.requires in
    ap (λ l. map shown l) c.in_ok-insert.ensures.entries ∙ shown-inserted c.self.inside.meanings c.args.name c.args.meaning absent
    ∙ ap (λ (l : Rattle.std.proofs.Common.List Named). l ++ record { name = c.args.name.now; meaning = c.args.meaning } ∷ []) c.self.view_is
