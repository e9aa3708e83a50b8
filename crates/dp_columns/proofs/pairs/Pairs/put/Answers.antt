use Rattle.std.proofs.Common.{◌∙◌, ◌++◌, ◌∷◌, [], ap, List}
use Rattle.std.proofs.lemmas.Int.{to_z-of_z}
use Rattle.std.proofs.Common.{w64, rules}
use mir.Val.{SFits}
use Rattle.dp_tree.specs.Eval.{Load}
use Rattle.dp_columns.specs.Paired.{pairs_of}
use Rattle.dp_columns.proofs.PairLists.{pairs_pushed}
use Rattle.dp_columns.proofs.pairs.Pairs.put.Goals as goal

pub returns-in-Ok-clause-ok : goal.returns-in-Ok-clause-ok
returns-in-Ok-clause-ok c =
    let fits : SFits w64 c.args.value = search rules in
    let values = c.in-Ok.ensures.ok ∙ ap (λ v. c.self.inside.values ++ v ∷ []) (to_z-of_z w64 c.args.value fits) in
    (λ k. pairs_of (c.in_ok-push.ensures.ok k) (values k))
    ∙ pairs_pushed c.self.inside.cells c.self.inside.values c.args.cell c.args.value c.self.invariant
    ∙ ap (λ (ls : List Load). ls ++ record { cell = c.args.cell; value = c.args.value } ∷ []) c.self.view_is
