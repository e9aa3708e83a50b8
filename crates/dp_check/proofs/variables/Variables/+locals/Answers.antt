use Rattle.std.proofs.Common.{◌≡◌, ◌<◌, length, sym, ap, subst, ◌∙◌, OnOk, arith}
use Rattle.dp_check.specs.declared.variables.Variables.{Variables}
use Rattle.dp_check.specs.Place.{parts, parts_all}
use Rattle.dp_check.specs.Tables.{locals_of}
use Rattle.dp_check.specs.steps.Growing.{with_variables}
use Rattle.dp_check.proofs.TableLemmas as tables
use Rattle.dp_check.proofs.variables.Variables.+locals.Goals as goal
use Rattle.dp_room.proofs.LoopLemmas.{fold_more, fold_end}

pub locals-loop-s-preserved : goal.locals-loop-s-preserved
locals-loop-s-preserved t c =
    let below : c.loop-s.s-index < length c.args.all.now = omega arith in
    fold_more (λ v all. with_variables v (locals_of c.args.scope (parts_all all))) (λ v s. with_variables v (locals_of c.args.scope (parts s)))
    (tables.locals_more c.args.scope) c.args.all.now c.loop-s.s-index c.loop-s.self _ c.loop-s.invariant c.s-item.result below c.s-item.is c.local.new.self
    c.in_ok-local.ensures

pub locals-returns : goal.locals-returns
locals-returns t c =
    sym (fold_end (λ v all. with_variables v (locals_of c.args.scope (parts_all all))) (λ v s. with_variables v (locals_of c.args.scope (parts s)))
    (tables.locals_more c.args.scope) c.args.all.now c.loop-s.s-index c.loop-s.self _ c.loop-s.invariant (omega arith)
    ∙ tables.with_variables-none c.loop-s.self)

pub local-returns-in_ok-locals-in-If : goal.local-returns-in_ok-locals-in-If
local-returns-in_ok-locals-in-If t c =
    let scope = c.args.scope in let f = c.in-If in let old = c.args.self.now in
    let then_end = c.in_ok-locals-in-If.ensures ∙ (λ i. with_variables old (locals_of scope (parts_all (c.as_slice.ensures i)))) in
    subst (λ (grown : Variables). OnOk c.locals-in-If.result (c.locals-in-If.new.self ≡ grown))
    ((λ i. with_variables (then_end i) (locals_of scope (parts_all (c.as_slice-in-If.ensures i))))
    ∙ sym (ap (λ s. with_variables old (locals_of scope (parts s))) f.is ∙ tables.local-If old scope f.line f.cond f.then_part f.else_part))
    c.locals-in-If.ensures

pub local-returns-in-While : goal.local-returns-in-While
local-returns-in-While t c =
    let scope = c.args.scope in let w = c.in-While in let old = c.args.self.now in
    subst (λ (grown : Variables). OnOk c.locals-in-While.result (c.locals-in-While.new.self ≡ grown))
    ((λ i. with_variables old (locals_of scope (parts_all (c.as_slice-in-While.ensures i))))
    ∙ sym (ap (λ s. with_variables old (locals_of scope (parts s))) w.is ∙ tables.local-While old scope w.line w.marked w.cond w.body))
    c.locals-in-While.ensures

pub local-returns-in_ok-locals-in-For-2 : goal.local-returns-in_ok-locals-in-For-2
local-returns-in_ok-locals-in-For-2 t c =
    let scope = c.args.scope in let f = c.in-For in let old = c.args.self.now in
    let first_end = c.in_ok-locals-in-For.ensures ∙ (λ i. with_variables old (locals_of scope (parts_all (c.as_slice-in-For.ensures i)))) in
    let body_end = c.in_ok-locals-in-For-2.ensures ∙ (λ i. with_variables (first_end i) (locals_of scope (parts_all (c.as_slice-in-For-2.ensures i)))) in
    subst (λ (grown : Variables). OnOk c.locals-in-For-3.result (c.locals-in-For-3.new.self ≡ grown))
    ((λ i. with_variables (body_end i) (locals_of scope (parts_all (c.as_slice-in-For-3.ensures i))))
    ∙ sym (ap (λ s. with_variables old (locals_of scope (parts s))) f.is ∙ tables.local-For old scope f.line f.marked f.first f.cond f.step f.body))
    c.locals-in-For-3.ensures
