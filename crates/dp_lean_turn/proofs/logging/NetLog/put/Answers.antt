use Rattle.std.proofs.Common.{◌≡◌, ◌∙◌, ap, ◌++◌, ◌∷◌, [], List, map, set, ℤ, w64, to_z, of_z, rules}
use Rattle.std.proofs.lemmas.Result.{on_ok_weaker}
use Rattle.dp_columns.specs.declared.Pair.{Pair}
use Rattle.dp_columns.specs.Paired.{pair_store}
use Rattle.dp_lean_turn.proofs.Entries.{put_over, put_behind}
use Rattle.dp_lean_turn.proofs.logging.NetLog.put.Goals as goal

pub returns-in-Some-clause-ok : goal.returns-in-Some-clause-ok
returns-in-Some-clause-ok c =
    let same : to_z w64 (of_z w64 c.args.value) ≡ c.args.value = search rules in
    ap (map pair_store) c.set.ensures
    ∙ ap (λ (es : List Pair). map pair_store (set es c.in-Some.place (record { cell = c.args.cell; value = to_z w64 (of_z w64 c.args.value) })))
    c.self.view_is
    ∙ ap (λ (z : ℤ). map pair_store (set c.args.self.now c.in-Some.place (record { cell = c.args.cell; value = z }))) same
    ∙ put_over c.args.cell c.in-Some.place c.args.value c.args.self.now c.in-Some.ensures

pub returns-in-None-clause-ok : goal.returns-in-None-clause-ok
returns-in-None-clause-ok c =
    let same : to_z w64 (of_z w64 c.args.value) ≡ c.args.value = search rules in
    on_ok_weaker c.add.result
    (λ e. ap (map pair_store) e ∙ ap (λ (z : ℤ). map pair_store (c.args.self.now ++ record { cell = c.args.cell; value = z } ∷ [])) same
    ∙ put_behind c.args.cell c.args.value c.args.self.now c.in-None.ensures) c.add.ensures.ok
