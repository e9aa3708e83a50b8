use Rattle.std.proofs.Common.{map, sym, ◌∙◌}
use Rattle.dp_tree.specs.declared.VarScope.TheVariants.{Outer}
use Rattle.dp_check.specs.Place.{Local, parts_all}
use Rattle.dp_check.specs.Tables.{locals_of}
use Rattle.dp_check.specs.steps.Growing.{with_variables}
use Rattle.dp_check.proofs.TableLemmas as tables
use Rattle.dp_check.proofs.variables.Variables.function.Goals as goal

pub returns-in_ok-locals-in-Function : goal.returns-in_ok-locals-in-Function
returns-in_ok-locals-in-Function c =
    let f = c.in-Function in
    let named = c.in_ok-parameters-in-Function.ensures ∙ (λ i. with_variables c.args.self.now (locals_of Outer (map Local (c.as_slice.ensures i)))) in
    rw f.is (c.in_ok-locals-in-Function.ensures ∙ (λ i. with_variables (named i) (locals_of Outer (parts_all (c.as_slice-in-Function.ensures i))))
    ∙ sym (tables.function_variables c.args.self.now f.params f.body))
