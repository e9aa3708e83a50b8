use Rattle.std.proofs.Common.{◌≡◌, ◌∙◌, ◌++◌, ◌+◌, ap, sym, subst, append-nil, drop, List, ℕ, None, OnOk, arith}
use Rattle.std.proofs.Math.ListN.{drop_of_length-le}
use Rattle.dp_base.specs.declared.SiteId.{SiteId}
use Rattle.dp_tree.specs.declared.Stmt.{Stmt}
use Rattle.dp_plan.specs.Access.{stage_of}
use Rattle.dp_lean_code.specs.steps.Runs.{count_in, inner_counts, list_counts}
use Rattle.dp_lean_code.proofs.CountForms.{inner-Assign, inner-Store, inner-Print, inner-Break, inner-Call, inner-If, inner-While, inner-Region}
use Rattle.dp_lean_code.proofs.CountLists.{two_parts, quiet_next, plain_next, counts_done}
use Rattle.dp_lean_code.proofs.WalkAppended.{take_drop}
use Rattle.dp_lean_code.proofs.quiet.Runs.+counts.Goals.{put_all-then-is_quiet+in_ok-count+in_ok-put_quiet, put_all-else-is_quiet+in_ok-ask+in_ok-put_inner}
use Rattle.dp_lean_code.proofs.quiet.Runs.+counts.Goals as goal

pub put_inner-returns-in-Assign : goal.put_inner-returns-in-Assign
put_inner-returns-in-Assign t c =
    let p = c.args.self.program.now in let plan = c.args.self.plan.now in let homes = c.args.self.homes.now in let out = c.args.out.now in
    sym (append-nil out) ∙ ap (λ (ns : List ℕ). out ++ ns) (sym (inner-Assign p plan homes _ _ _)) ∙ ap (λ (x : Stmt). out ++ inner_counts p plan homes x)
    (sym c.in-Assign.is)

pub put_inner-returns-in-Store : goal.put_inner-returns-in-Store
put_inner-returns-in-Store t c =
    let p = c.args.self.program.now in let plan = c.args.self.plan.now in let homes = c.args.self.homes.now in let out = c.args.out.now in
    sym (append-nil out) ∙ ap (λ (ns : List ℕ). out ++ ns) (sym (inner-Store p plan homes _ _ _ _))
    ∙ ap (λ (x : Stmt). out ++ inner_counts p plan homes x) (sym c.in-Store.is)

pub put_inner-returns-in-Print : goal.put_inner-returns-in-Print
put_inner-returns-in-Print t c =
    let p = c.args.self.program.now in let plan = c.args.self.plan.now in let homes = c.args.self.homes.now in let out = c.args.out.now in
    sym (append-nil out) ∙ ap (λ (ns : List ℕ). out ++ ns) (sym (inner-Print p plan homes _ _))
    ∙ ap (λ (x : Stmt). out ++ inner_counts p plan homes x) (sym c.in-Print.is)

pub put_inner-returns-in-Break : goal.put_inner-returns-in-Break
put_inner-returns-in-Break t c =
    let p = c.args.self.program.now in let plan = c.args.self.plan.now in let homes = c.args.self.homes.now in let out = c.args.out.now in
    sym (append-nil out) ∙ ap (λ (ns : List ℕ). out ++ ns) (sym (inner-Break p plan homes _ _))
    ∙ ap (λ (x : Stmt). out ++ inner_counts p plan homes x) (sym c.in-Break.is)

pub put_inner-returns-in-Call : goal.put_inner-returns-in-Call
put_inner-returns-in-Call t c =
    let p = c.args.self.program.now in let plan = c.args.self.plan.now in let homes = c.args.self.homes.now in let out = c.args.out.now in
    sym (append-nil out) ∙ ap (λ (ns : List ℕ). out ++ ns) (sym (inner-Call p plan homes _ _ _))
    ∙ ap (λ (x : Stmt). out ++ inner_counts p plan homes x) (sym c.in-Call.is)

pub put_inner-returns-in-While : goal.put_inner-returns-in-While
put_inner-returns-in-While t c =
    let p = c.args.self.program.now in let plan = c.args.self.plan.now in let homes = c.args.self.homes.now in let out = c.args.out.now in
    subst (λ (ns : List ℕ). OnOk c.put_all-in-While.result (c.put_all-in-While.new.out ≡ out ++ ns))
    (ap (λ (xs : List Stmt). list_counts p plan homes None xs) c.as_slice-in-While.ensures ∙ sym (inner-While p plan homes _ _ _)
    ∙ ap (λ (x : Stmt). inner_counts p plan homes x) (sym c.in-While.is)) c.put_all-in-While.ensures

pub put_inner-returns-in-Region : goal.put_inner-returns-in-Region
put_inner-returns-in-Region t c =
    let p = c.args.self.program.now in let plan = c.args.self.plan.now in let homes = c.args.self.homes.now in let out = c.args.out.now in
    subst (λ (ns : List ℕ). OnOk c.put_all-in-Region.result (c.put_all-in-Region.new.out ≡ out ++ ns))
    (ap (λ (xs : List Stmt). list_counts p plan homes None xs) c.as_slice-in-Region.ensures ∙ sym (inner-Region p plan homes _ _ _ _)
    ∙ ap (λ (x : Stmt). inner_counts p plan homes x) (sym c.in-Region.is)) c.put_all-in-Region.ensures

pub put_inner-returns-in_ok-put_all-in-If-2 : goal.put_inner-returns-in_ok-put_all-in-If-2
put_inner-returns-in_ok-put_all-in-If-2 t c =
    let p = c.args.self.program.now in let plan = c.args.self.plan.now in let homes = c.args.self.homes.now in let out = c.args.out.now in
    two_parts p plan homes out _ _ _ _ (c.in_ok-put_all-in-If.ensures ∙ ap (λ (xs : List Stmt). out ++ list_counts p plan homes None xs) c.as_slice.ensures)
    (c.in_ok-put_all-in-If-2.ensures ∙ ap (λ (xs : List Stmt). c.put_all.new.out ++ list_counts p plan homes None xs) c.as_slice-in-If.ensures)
    ∙ ap (λ (ns : List ℕ). out ++ ns) (sym (inner-If p plan homes _ _ _ _)) ∙ ap (λ (x : Stmt). out ++ inner_counts p plan homes x) (sym c.in-If.is)

pub put_all-loop-place-preserved : goal.put_all-loop-place-preserved
put_all-loop-place-preserved t c =
    let p = c.args.self.program.now in let plan = c.args.self.plan.now in let homes = c.args.self.homes.now in let out = c.args.out.now in
    let all = c.args.all.now in let i = c.loop-place.place in let x = c.index-all-place.result in let whole = out ++ list_counts p plan homes None all in
    let stage = c.stage-stage.ensures ∙ ap (λ (q : SiteId). stage_of p plan q.0) c.site_of.ensures in
    elim c.if-is_quiet.branch [
      | put_all-then-is_quiet+in_ok-count+in_ok-put_quiet w ↦
          ap (λ o. c.if-is_quiet.out ++ list_counts p plan homes o (drop (i + 1) all)) w.before-is
          ∙ quiet_next p plan homes all i x (omega arith) c.index-all-place.is c.loop-place.before c.loop-place.out whole c.loop-place.invariant
          c.stage-stage.result _ c.if-is_quiet.out stage
          (sym c.is_quiet.ensures ∙ w.if-is_quiet.true) (w.in_ok-count.ensures
          ∙ ap (λ (xs : List Stmt). count_in p plan homes c.loop-place.before c.stage-stage.result xs) (take_drop all i))
          (w.out-is ∙ w.in_ok-put_quiet.ensures)
      | put_all-else-is_quiet+in_ok-ask+in_ok-put_inner w ↦
          ap (λ o. c.if-is_quiet.out ++ list_counts p plan homes o (drop (i + 1) all)) w.before-is
          ∙ plain_next p plan homes all i x (omega arith) c.index-all-place.is c.loop-place.before c.loop-place.out whole c.loop-place.invariant
          c.stage-stage.result _ c.if-is_quiet.out stage
          (sym c.is_quiet.ensures ∙ w.if-is_quiet.false) w.in_ok-ask.ensures (w.out-is ∙ w.in_ok-put_inner.ensures)
    ]

pub put_all-returns : goal.put_all-returns
put_all-returns t c =
    let p = c.args.self.program.now in let plan = c.args.self.plan.now in let homes = c.args.self.homes.now in let out = c.args.out.now in
    counts_done p plan homes c.loop-place.before (drop c.loop-place.place c.args.all.now) c.loop-place.out (out ++ list_counts p plan homes None c.args.all.now)
    c.loop-place.invariant
    (drop_of_length-le c.args.all.now (omega arith))
