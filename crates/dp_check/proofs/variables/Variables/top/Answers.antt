use Rattle.std.proofs.Common.{◌≡◌, OnOk, subst, ◌∙◌}
use Rattle.dp_tree.specs.declared.VarScope.TheVariants.{Body}
use Rattle.dp_check.specs.declared.variables.Variables.{Variables}
use Rattle.dp_check.specs.Place.{parts_all}
use Rattle.dp_check.specs.Tables.{locals_of}
use Rattle.dp_check.specs.steps.Growing.{with_variables}
use Rattle.dp_check.proofs.RegionLemmas.{while_is, for_is}
use Rattle.dp_check.proofs.TopLemmas as top
use Rattle.dp_check.proofs.variables.Variables.top.Goals as goal

pub returns-in-While : goal.returns-in-While
returns-in-While c =
    let w = c.in-While in let is = while_is w.line w.cond c.if-marked.true c.as_slice.ensures w.is in
    subst (λ (q : Variables). OnOk c.locals.result (c.locals.new.self ≡ q))
    (top.locals-region c.args.self.now c.args.number w.line w.cond c.as_slice.result.now c.args.s.now is) c.locals.ensures

pub returns-in_ok-locals-in-For-2 : goal.returns-in_ok-locals-in-For-2
returns-in_ok-locals-in-For-2 c =
    let f = c.in-For in let k = c.args.number in
    let is = for_is f.line f.cond c.if-marked-2.true c.as_slice-in-For.ensures c.as_slice-in-For-3.ensures c.as_slice-in-For-2.ensures f.is in
    let body_end = c.in_ok-locals-in-For-2.ensures
    ∙ (λ i. with_variables (c.in_ok-locals-in-For.ensures i) (locals_of (Body k) (parts_all c.as_slice-in-For-2.result.now))) in
    subst (λ (q : Variables). OnOk c.locals-in-For-3.result (c.locals-in-For-3.new.self ≡ q))
    ((λ i. with_variables (body_end i) (locals_of (Body k) (parts_all c.as_slice-in-For-3.result.now)))
    ∙ top.locals-stepped c.args.self.now k f.line c.as_slice-in-For.result.now f.cond c.as_slice-in-For-3.result.now
    c.as_slice-in-For-2.result.now c.args.s.now is)
    c.locals-in-For-3.ensures
