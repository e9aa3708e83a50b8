use Rattle.std.proofs.Common.{◌≡◌, ◌∙◌, [], ◌++◌, ◌+◌, ◌-◌, ℕ, zero, suc, take, ap, sym, subst, drop, List, Bool, Some, OnOk, append_assoc, arith}
use Rattle.std.proofs.Math.ListN.{drop_of_length-le}
use Rattle.dp_base.specs.declared.SiteId.{SiteId}
use Rattle.dp_tree.specs.declared.Stmt.{Stmt}
use Rattle.dp_tree.specs.declared.Stmt.TheVariants as tree
use Rattle.dp_lean_code.specs.steps.Looked.{known_of}
use Rattle.dp_lean_code.proofs.WalkAppended.{take_drop}
use Rattle.dp_lean_kinds.specs.steps.Read.{site_when, leaf_read, choice_read, block_read, read, list_read}
use Rattle.dp_lean_kinds.proofs.ReadForms.{all_read, read-Assign, read-Store, read-Print, read-Break, read-Call, read-Region}
use Rattle.dp_lean_kinds.proofs.ReadAppended.{closed, if_reached, if_taken, if_passed, if_dropped, loop_reached, loop_dropped, nothing_more, one_passed}
use Rattle.dp_lean_kinds.proofs.ReadAppended.{one_more, block_more, all_done}
use Rattle.dp_lean_kinds.proofs.reads.Reading.+reads.Goals.{statements-then-count-eq0+in_ok-statement, statements-else-count-eq0+in_ok-block}
use Rattle.dp_lean_kinds.proofs.reads.Reading.+reads.Goals as goal

pub statement-returns-in-Assign : goal.statement-returns-in-Assign
statement-returns-in-Assign t c =
    let p = c.args.self.stage.program.now in let plan = c.args.self.stage.plan.now in let s = c.args.self.stage.number in let old = c.args.out.now in
    let k = known_of p plan c.args.self.stage.tables.now s in
    subst (λ (xs : List ℕ). OnOk c.leaf.result (c.leaf.new.out ≡ old ++ xs))
    (ap (λ (b : Bool). leaf_read p plan s k c.in-Assign.site b) c.does.ensures ∙ sym (read-Assign p plan s k _ _ _)
    ∙ ap (λ (x : Stmt). read p plan s k x) (sym c.in-Assign.is)) c.leaf.ensures

pub statement-returns-in-Store : goal.statement-returns-in-Store
statement-returns-in-Store t c =
    let p = c.args.self.stage.program.now in let plan = c.args.self.stage.plan.now in let s = c.args.self.stage.number in let old = c.args.out.now in
    let k = known_of p plan c.args.self.stage.tables.now s in
    subst (λ (xs : List ℕ). OnOk c.leaf-in-Store.result (c.leaf-in-Store.new.out ≡ old ++ xs))
    (ap (λ (b : Bool). leaf_read p plan s k c.in-Store.site b) c.does-in-Store.ensures ∙ sym (read-Store p plan s k _ _ _ _)
    ∙ ap (λ (x : Stmt). read p plan s k x) (sym c.in-Store.is)) c.leaf-in-Store.ensures

pub statement-returns-in-Print : goal.statement-returns-in-Print
statement-returns-in-Print t c =
    let p = c.args.self.stage.program.now in let plan = c.args.self.stage.plan.now in let s = c.args.self.stage.number in let old = c.args.out.now in
    let k = known_of p plan c.args.self.stage.tables.now s in
    subst (λ (xs : List ℕ). OnOk c.leaf-in-Print.result (c.leaf-in-Print.new.out ≡ old ++ xs))
    (ap (λ (b : Bool). leaf_read p plan s k c.in-Print.site b) c.is_judge.ensures ∙ sym (read-Print p plan s k _ _)
    ∙ ap (λ (x : Stmt). read p plan s k x) (sym c.in-Print.is)) c.leaf-in-Print.ensures

pub statement-returns-in-Break : goal.statement-returns-in-Break
statement-returns-in-Break t c =
    let p = c.args.self.stage.program.now in let plan = c.args.self.stage.plan.now in let s = c.args.self.stage.number in let old = c.args.out.now in
    let k = known_of p plan c.args.self.stage.tables.now s in
    subst (λ (xs : List ℕ). OnOk c.put_when.result (c.put_when.new.out ≡ old ++ xs))
    (ap (λ (b : Bool). site_when b c.in-Break.site) c.reaches-in-Break.ensures ∙ sym (read-Break p plan s k _ _)
    ∙ ap (λ (x : Stmt). read p plan s k x) (sym c.in-Break.is)) c.put_when.ensures

pub statement-returns-in-Call : goal.statement-returns-in-Call
statement-returns-in-Call t c =
    let p = c.args.self.stage.program.now in let plan = c.args.self.stage.plan.now in let s = c.args.self.stage.number in let old = c.args.out.now in
    let k = known_of p plan c.args.self.stage.tables.now s in
    nothing_more p plan s k old _ _ c.in-Call.is (read-Call p plan s k _ _ _)

pub statement-returns-in-false-None : goal.statement-returns-in-false-None
statement-returns-in-false-None t c =
    let p = c.args.self.stage.program.now in let plan = c.args.self.stage.plan.now in let s = c.args.self.stage.number in let old = c.args.out.now in
    let k = known_of p plan c.args.self.stage.tables.now s in
    nothing_more p plan s k old _ _ c.in-If.is (if_dropped p plan s k _ _ _ _ (sym c.in-false-None.ensures) (sym c.in-false-None.ensures'))

pub statement-returns-in-false-Some-true : goal.statement-returns-in-false-Some-true
statement-returns-in-false-Some-true t c =
    let p = c.args.self.stage.program.now in let plan = c.args.self.stage.plan.now in let s = c.args.self.stage.number in let old = c.args.out.now in
    let k = known_of p plan c.args.self.stage.tables.now s in
    subst (λ (xs : List ℕ). OnOk c.statements-in-false-Some-true.result (c.statements-in-false-Some-true.new.out ≡ old ++ xs))
    (ap (λ (ys : List Stmt). all_read p plan s k ys) c.as_slice-in-false-Some-true.ensures
    ∙ sym (if_taken p plan s k _ _ _ _ (sym c.in-false-Some-true.ensures) (sym c.in-false-Some-true.ensures' ∙ ap Some c.in-false-Some-true.field-0-test))
    ∙ ap (λ (x : Stmt). read p plan s k x) (sym c.in-If.is)) c.statements-in-false-Some-true.ensures

pub statement-returns-in-false-Some-false : goal.statement-returns-in-false-Some-false
statement-returns-in-false-Some-false t c =
    let p = c.args.self.stage.program.now in let plan = c.args.self.stage.plan.now in let s = c.args.self.stage.number in let old = c.args.out.now in
    let k = known_of p plan c.args.self.stage.tables.now s in
    subst (λ (xs : List ℕ). OnOk c.statements-in-false-Some-false.result (c.statements-in-false-Some-false.new.out ≡ old ++ xs))
    (ap (λ (ys : List Stmt). all_read p plan s k ys) c.as_slice-in-false-Some-false.ensures
    ∙ sym (if_passed p plan s k _ _ _ _ (sym c.in-false-Some-false.ensures) (sym c.in-false-Some-false.ensures' ∙ ap Some c.in-false-Some-false.field-0-test))
    ∙ ap (λ (x : Stmt). read p plan s k x) (sym c.in-If.is)) c.statements-in-false-Some-false.ensures

pub statement-returns-in_ok-statements-in-true-default-2 : goal.statement-returns-in_ok-statements-in-true-default-2
statement-returns-in_ok-statements-in-true-default-2 t c =
    let p = c.args.self.stage.program.now in let plan = c.args.self.stage.plan.now in let s = c.args.self.stage.number in let old = c.args.out.now in
    let k = known_of p plan c.args.self.stage.tables.now s in
    let site = c.in-If.site in let cond = c.in-If.cond in let a = c.as_slice.result.now in let b = c.as_slice-in-true-default.result.now in
    let is = c.in-If.is ∙ (λ i. tree.If site cond (sym c.as_slice.ensures i) (sym c.as_slice-in-true-default.ensures i)) in
    subst (λ (xs : List ℕ). OnOk c.close.result (c.close.new.out ≡ xs))
    (closed p plan s k site old (all_read p plan s k a ++ all_read p plan s k b) _ _ c.len-start.ensures
    (c.in_ok-statements-in-true-default-2.ensures ∙ ap (λ (xs : List ℕ). xs ++ all_read p plan s k b) c.in_ok-statements-in-true-default.ensures
    ∙ append_assoc old (all_read p plan s k a) (all_read p plan s k b))
    ∙ ap (λ (xs : List ℕ). old ++ xs) (sym (if_reached p plan s k site cond a b (sym c.in-true-default.ensures)))
    ∙ ap (λ (x : Stmt). old ++ read p plan s k x) (sym is))
    c.close.ensures

pub statement-returns-in-Region : goal.statement-returns-in-Region
statement-returns-in-Region t c =
    let p = c.args.self.stage.program.now in let plan = c.args.self.stage.plan.now in let s = c.args.self.stage.number in let old = c.args.out.now in
    let k = known_of p plan c.args.self.stage.tables.now s in
    subst (λ (xs : List ℕ). OnOk c.around-in-Region.result (c.around-in-Region.new.out ≡ old ++ xs))
    (ap (λ (ys : List Stmt). choice_read p plan s k c.in-Region.site (all_read p plan s k ys)) c.as_slice-in-Region.ensures
    ∙ sym (read-Region p plan s k _ _ _ _) ∙ ap (λ (x : Stmt). read p plan s k x) (sym c.in-Region.is)) c.around-in-Region.ensures

pub around-returns : goal.around-returns
around-returns t c =
    let p = c.args.self.stage.program.now in let plan = c.args.self.stage.plan.now in let s = c.args.self.stage.number in let old = c.args.out.now in
    let k = known_of p plan c.args.self.stage.tables.now s in
    subst (λ (xs : List ℕ). OnOk c.close.result (c.close.new.out ≡ xs))
    (closed p plan s k c.args.site old _ _ _ c.len-start.ensures c.in_ok-statements.ensures) c.close.ensures

pub statements-loop-place-preserved-then-left-gt0 : goal.statements-loop-place-preserved-then-left-gt0
statements-loop-place-preserved-then-left-gt0 t c =
    let p = c.args.self.stage.program.now in let plan = c.args.self.stage.plan.now in let s = c.args.self.stage.number in let old = c.args.out.now in
    let k = known_of p plan c.args.self.stage.tables.now s in
    let all = c.args.all.now in let i = c.loop-place.place in let x = c.index-all-place.result in let out = c.loop-place.out in
    let whole = old ++ list_read p plan s k zero all in
    let less : c.loop-place.left ≡ suc (c.loop-place.left - 1) = omega arith in
    one_passed p plan s k all i x (omega arith) c.index-all-place.is out whole c.loop-place.left (c.loop-place.left - 1) less c.loop-place.invariant

pub statements-loop-place-preserved : goal.statements-loop-place-preserved
statements-loop-place-preserved t c =
    let p = c.args.self.stage.program.now in let plan = c.args.self.stage.plan.now in let s = c.args.self.stage.number in let old = c.args.out.now in
    let k = known_of p plan c.args.self.stage.tables.now s in
    let all = c.args.all.now in let i = c.loop-place.place in let x = c.index-all-place.result in let out = c.loop-place.out in
    let whole = old ++ list_read p plan s k zero all in
    let none : c.loop-place.left ≡ 0 = omega arith in
    let kept = ap (λ n. out ++ list_read p plan s k n (drop i all)) (sym none) ∙ c.loop-place.invariant in
    let counted = sym (c.count-count.ensures ∙ ap (λ (q : SiteId). k.count q.0) c.site_of-site.ensures) in
    elim c.if-count-eq0.branch [
      | statements-then-count-eq0+in_ok-statement w ↦
          ap (λ n. c.if-count-eq0.out ++ list_read p plan s k n (drop (i + 1) all)) (w.left-is ∙ none)
          ∙ one_more p plan s k all i x (omega arith) c.index-all-place.is out whole kept c.if-count-eq0.out (counted ∙ w.if-count-eq0.true) (w.out-is
          ∙ w.in_ok-statement.ensures)
      | statements-else-count-eq0+in_ok-block w ↦
          let some : c.count-count.result ≡ suc (c.count-count.result - 1) = omega arith in
          ap (λ n. c.if-count-eq0.out ++ list_read p plan s k n (drop (i + 1) all)) w.left-is
          ∙ block_more p plan s k all i x (omega arith) c.index-all-place.is out whole kept c.if-count-eq0.out c.count-count.result
          (c.count-count.result - 1) counted some
          (w.out-is ∙ w.in_ok-block.ensures
          ∙ ap (λ (xs : List Stmt). out ++ block_read p plan s k c.site_of-site.result (take c.count-count.result xs)) (take_drop all i)
          ∙ ap (λ (q : SiteId). out ++ block_read p plan s k q (take c.count-count.result (drop i all))) c.site_of-site.ensures)
    ]

pub statements-returns : goal.statements-returns
statements-returns t c =
    let p = c.args.self.stage.program.now in let plan = c.args.self.stage.plan.now in let s = c.args.self.stage.number in let old = c.args.out.now in
    let k = known_of p plan c.args.self.stage.tables.now s in
    all_done p plan s k c.loop-place.left (drop c.loop-place.place c.args.all.now) c.loop-place.out (old ++ list_read p plan s k zero c.args.all.now)
    c.loop-place.invariant
    (drop_of_length-le c.args.all.now (omega arith))

pub statement-returns-in_ok-around-in-While : goal.statement-returns-in_ok-around-in-While
statement-returns-in_ok-around-in-While t c =
    let p = c.args.self.stage.program.now in let plan = c.args.self.stage.plan.now in let s = c.args.self.stage.number in let old = c.args.out.now in
    let k = known_of p plan c.args.self.stage.tables.now s in
    c.in_ok-around-in-While.ensures ∙ ap (λ (ys : List Stmt). old ++ choice_read p plan s k c.in-While.site (all_read p plan s k ys))
    c.as_slice-then-reaches-2.ensures
    ∙ ap (λ (xs : List ℕ). old ++ xs) (sym (loop_reached p plan s k _ c.in-While.cond _ [] (sym c.reaches-in-While.ensures ∙ c.if-reaches-2.true))
    ∙ ap (λ (x : Stmt). read p plan s k x) (sym c.in-While.is))

pub statement-returns-else-reaches-2 : goal.statement-returns-else-reaches-2
statement-returns-else-reaches-2 t c =
    let p = c.args.self.stage.program.now in let plan = c.args.self.stage.plan.now in let s = c.args.self.stage.number in let old = c.args.out.now in
    let k = known_of p plan c.args.self.stage.tables.now s in
    nothing_more p plan s k old _ _ c.in-While.is (loop_dropped p plan s k _ _ _ [] (sym c.reaches-in-While.ensures ∙ c.if-reaches-2.false))
