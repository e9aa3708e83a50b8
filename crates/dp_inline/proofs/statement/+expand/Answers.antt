use Rattle.std.proofs.Common.{◌≡◌, ◌+◌, ◌-◌, ◌<◌, ℕ, length, sym, ap, ◌∙◌, arith}
use Rattle.dp_inline.specs.declared.piece.Writer.{Writer}
use Rattle.dp_inline.specs.steps.Written.{written, after_one, after_list}
use Rattle.dp_inline.proofs.Work.{work_one, work_list, work_within, work-If, work-While, work-Region, work-Call, work_item, work_called}
use Rattle.dp_inline.proofs.FormLemmas.{after_list-none, after_list-more, after-Call-none}
use Rattle.dp_inline.proofs.EndLemmas.{if_ends, while_ends, region_ends, call_ends-zero, call_ends-more}
use Rattle.dp_room.proofs.LoopLemmas.{fold_more, fold_end}
use Rattle.dp_inline.proofs.statement.+expand.Goals.{call-then-depth-gt0+in_ok-statements, call-else-depth-gt0}
use Rattle.dp_inline.proofs.statement.+expand.Goals as goal

pub branch-returns : goal.branch-returns
branch-returns t c =
    if_ends c.args.p.now c.args.depth c.args.region (written c.args.out.now) c.args.site c.args.cond.now c.in_ok-site.ensures.number c.in_ok-site.ensures.cond
    c.args.then_part.now c.args.else_part.now c.in_ok-then_part.then_part c.in_ok-else_part.else_part
    (written c.head.new.out) (written c.block.new.out) (written c.block-2.new.out) (written c.put.new.self)
    c.in_ok-site.ensures.after c.in_ok-then_part.ensures.code c.in_ok-then_part.ensures.after c.in_ok-else_part.ensures.code
    c.in_ok-else_part.ensures.after c.in_ok-put.ensures

pub repeat-returns : goal.repeat-returns
repeat-returns t c =
    while_ends c.args.p.now c.args.depth c.args.region (written c.args.out.now) c.args.site c.args.cond.now c.in_ok-site.ensures.number
    c.in_ok-site.ensures.cond
    c.args.body.now c.in_ok-body.body (written c.head.new.out) (written c.block.new.out) (written c.put.new.self)
    c.in_ok-site.ensures.after c.in_ok-body.ensures.code c.in_ok-body.ensures.after c.in_ok-put.ensures

pub marked-returns : goal.marked-returns
marked-returns t c = λ (around : ℕ).
    region_ends c.args.p.now c.args.depth c.args.region (written c.args.out.now) c.args.site c.args.cond.now c.in_ok-site.ensures.number
    c.in_ok-site.ensures.cond
    c.line-line.result around c.args.body.now c.in_ok-body.body (written c.head.new.out) (written c.block.new.out) (written c.region.new.self)
    (written c.put.new.self)
    c.line-line.ensures c.in_ok-site.ensures.after c.in_ok-body.ensures.code c.in_ok-body.ensures.after c.in_ok-region.ensures c.in_ok-put.ensures

pub call-returns-in_default : goal.call-returns-in_default
call-returns-in_default t c =
    sym (after-Call-none c.args.p.now c.args.region (written c.args.out.now) c.args.function c.args.line c.args.args.now c.args.depth (sym c.get.ensures.value
    ∙ ap Rattle.std.specs.Prelude.option_copied c.in_default.is))

pub call-returns-after-depth-gt0 : goal.call-returns-after-depth-gt0
call-returns-after-depth-gt0 t c =
    let p = c.args.p.now in let r = c.args.region in let a = written c.args.out.now in
    elim c.if-depth-gt0.branch [
      | call-then-depth-gt0+in_ok-statements w ↦
          call_ends-more p r a c.args.function c.args.line c.args.args.now c.in-Some.function.now c.in-Some.ensures.value c.begin_call-caller.result
          c.begin_call-caller.ensures.caller
          c.as_slice-params.result.now c.as_slice-params.ensures (written c.begin_call-caller.new.self) (written c.bindings.new.out)
          (written c.end_call.new.self)
          c.begin_call-caller.ensures.after c.in_ok-bindings.ensures c.args.depth w.if-depth-gt0.true w.as_slice.result.now w.as_slice.ensures
          (written w.statements.new.out) w.in_ok-statements.ensures
          (c.end_call.ensures ∙ ap (λ (x : Writer). record (written x) { names = c.begin_call-caller.result }) w.out-is)
      | call-else-depth-gt0 w ↦
          call_ends-zero p r a c.args.function c.args.line c.args.args.now c.in-Some.function.now c.in-Some.ensures.value c.begin_call-caller.result
          c.begin_call-caller.ensures.caller
          c.as_slice-params.result.now c.as_slice-params.ensures (written c.begin_call-caller.new.self) (written c.bindings.new.out)
          (written c.end_call.new.self)
          c.begin_call-caller.ensures.after c.in_ok-bindings.ensures c.args.depth w.if-depth-gt0.false
          (c.end_call.ensures ∙ ap (λ (x : Writer). record (written x) { names = c.begin_call-caller.result }) w.out-is)
    ]

pub call-statements-requires : goal.call-statements-requires
call-statements-requires t c =
    let p = c.args.p.now in let depth = c.args.depth in
    let e : work_list (work_within p (depth - 1)) c.as_slice.result.now ≡ work_within p depth c.args.function =
    ap (work_list (work_within p (depth - 1))) c.as_slice.ensures ∙ work_called p depth c.args.function c.in-Some.function.now (sym c.in-Some.ensures.value)
    c.if-depth-gt0.true in
    (omega (arith, c.decreases, e), tt)

pub block-statements-requires : goal.block-statements-requires
block-statements-requires t c =
    let e = ap (work_list (work_within c.args.p.now c.args.depth)) c.as_slice.ensures in
    (omega (arith, c.decreases, e), tt)

pub statement-branch-p-requires : goal.statement-branch-p-requires
statement-branch-p-requires t c =
    let calls = work_within c.args.p.now c.args.depth in let f = c.in-If in
    let e : work_one calls c.args.s.now ≡ 3 + (work_list calls f.then_part + work_list calls f.else_part) =
    ap (work_one calls) f.is ∙ work-If calls f.site f.cond f.then_part f.else_part in
    (omega (arith, c.decreases, e), tt)

pub statement-repeat-requires : goal.statement-repeat-requires
statement-repeat-requires t c =
    let calls = work_within c.args.p.now c.args.depth in let f = c.in-While in
    let e : work_one calls c.args.s.now ≡ 3 + work_list calls f.body = ap (work_one calls) f.is ∙ work-While calls f.site f.cond f.body in
    (omega (arith, c.decreases, e), tt)

pub statement-marked-requires : goal.statement-marked-requires
statement-marked-requires t c =
    let calls = work_within c.args.p.now c.args.depth in let f = c.in-Region in
    let e : work_one calls c.args.s.now ≡ 3 + work_list calls f.body = ap (work_one calls) f.is ∙ work-Region calls f.region f.site f.cond f.body in
    (omega (arith, c.decreases, e), tt)

pub statement-call-requires : goal.statement-call-requires
statement-call-requires t c =
    let calls = work_within c.args.p.now c.args.depth in let f = c.in-Call in
    let e : work_one calls c.args.s.now ≡ 2 + calls f.function = ap (work_one calls) f.is ∙ work-Call calls f.function f.line f.args in
    (omega (arith, c.decreases, e), tt)

pub statements-statement-requires : goal.statements-statement-requires
statements-statement-requires t c =
    let calls = work_within c.args.p.now c.args.depth in let all = c.args.all.now in
    let below : c.loop-s.s-index < length c.args.all.now = omega arith in let here = ap (work_one calls) c.s-item.is in
    let less = work_item calls all c.loop-s.s-index c.s-item.result below in
    (omega (arith, c.decreases, here, less), tt)

pub statements-loop-s-preserved : goal.statements-loop-s-preserved
statements-loop-s-preserved t c =
    let p = c.args.p.now in let d = c.args.depth in let r = c.args.around in
    let below : c.loop-s.s-index < length c.args.all.now = omega arith in
    fold_more (after_list p d r) (after_one p d r) (after_list-more p d r) c.args.all.now c.loop-s.s-index (written c.loop-s.out) _ c.loop-s.invariant
    c.s-item.result below c.s-item.is (written c.statement.new.out) c.in_ok-statement.ensures

pub statements-returns : goal.statements-returns
statements-returns t c =
    let p = c.args.p.now in let d = c.args.depth in let r = c.args.around in
    sym (fold_end (after_list p d r) (after_one p d r) (after_list-more p d r) c.args.all.now c.loop-s.s-index (written c.loop-s.out) _ c.loop-s.invariant
    (omega arith) ∙ after_list-none p d r (written c.loop-s.out))
