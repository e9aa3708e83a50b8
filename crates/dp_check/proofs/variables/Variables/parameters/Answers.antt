use Rattle.std.proofs.Common.{◌<◌, length, map, ◌∷◌, [], pos, sym, ◌∙◌, arith}
use Rattle.dp_tree.specs.declared.VarScope.TheVariants.{Outer}
use Rattle.dp_check.specs.Place.{Local}
use Rattle.dp_check.specs.Tables.{locals_of, scalar_info}
use Rattle.dp_check.specs.steps.Growing.{with_variables}
use Rattle.dp_check.proofs.TableLemmas as tables
use Rattle.dp_check.proofs.variables.Variables.parameters.Goals as goal
use Rattle.dp_room.proofs.LoopLemmas.{fold_more, fold_end}

pub loop-name-preserved : goal.loop-name-preserved
loop-name-preserved c =
    let below : c.loop-name.name-index < length c.args.all.now = omega arith in
    fold_more (λ v all. with_variables v (locals_of Outer (map Local all))) (λ v x. with_variables v (scalar_info x (pos 0) Outer ∷ [])) tables.params_more
    c.args.all.now c.loop-name.name-index c.loop-name.self _ c.loop-name.invariant c.name-item.result below c.name-item.is c.scalar.new.self
    c.in_ok-scalar.ensures

pub returns : goal.returns
returns c =
    sym (fold_end (λ v all. with_variables v (locals_of Outer (map Local all))) (λ v x. with_variables v (scalar_info x (pos 0) Outer ∷ [])) tables.params_more
    c.args.all.now c.loop-name.name-index c.loop-name.self _ c.loop-name.invariant (omega arith) ∙ tables.with_variables-none c.loop-name.self)
