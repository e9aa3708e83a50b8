use Rattle.std.proofs.Common.{◌≡◌, ◌++◌, false, sym, ap, subst, ◌∙◌, refl, take, OnOk, List, Result, Err, rules, arith}
use Rattle.std.proofs.lemmas.Grind.{common_steps}
use Rattle.dp_tree.specs.declared.raw.RawStmt.{RawStmt}
use Rattle.dp_tree.specs.declared.Stmt.{Stmt}
use Rattle.dp_check.specs.declared.fail.CheckFail.{CheckFail}
use Rattle.dp_check.specs.declared.place.Place.{Place}
use Rattle.dp_check.specs.Place.{place_after, parts_all, place_passed, sited}
use Rattle.dp_check.specs.Resolved.{is_marked_loop}
use Rattle.dp_check.specs.Answer.{GivesChecked, onto, with_last, top_answer, block_answer, stepped_answer}
use Rattle.dp_check.proofs.AnswerLemmas.{gives_behind}
use Rattle.dp_check.proofs.PlaceLemmas.{for_left, after-While, after-For}
use Rattle.dp_check.proofs.RegionLemmas.{top_answer-plain, is_region-While, is_region-For, while_is, for_is, plain_unless_loop, stepped_given}
use Rattle.dp_check.proofs.RegionLemmas.{stepped_refused_at_first, stepped_refused}
use Rattle.dp_check.proofs.region.top.Goals.{in_default-via-in-While+else-marked, in_default-via-in-For+else-marked-2, in_default-via-in_default}
use Rattle.dp_check.proofs.region.top.Goals as goal

pub returns-in-While-clause-value : goal.returns-in-While-clause-value
returns-in-While-clause-value c =
    let w = c.in-While in let done = c.args.done.now in let p = c.args.place.now in let k = c.args.number in
    let is = while_is w.line w.cond c.if-marked.true c.as_slice.ensures w.is in
    subst (λ (s : RawStmt). GivesChecked (onto done (top_answer p k s)) (with_last done c.region.result)) is
    (gives_behind (top_answer p k (Rattle.dp_tree.specs.declared.raw.RawStmt.TheVariants.While w.line Rattle.std.proofs.Common.true w.cond
    c.as_slice.result.now)) done c.region.result (c.region.ensures.value w.line))

pub returns-in-While-clause-place : goal.returns-in-While-clause-place
returns-in-While-clause-place c =
    let w = c.in-While in let p = c.args.place.now in
    let is = while_is w.line w.cond c.if-marked.true c.as_slice.ensures w.is in
    subst (λ (q : Place). OnOk c.region.result (c.region.new.place ≡ q)) (sym (after-While p w.line Rattle.std.proofs.Common.true w.cond c.as_slice.result.now)
    ∙ ap (place_after p) is) c.region.ensures.place

pub returns-in_default-clause-value : goal.returns-in_default-clause-value
returns-in_default-clause-value c =
    let plain : is_marked_loop c.args.s.now ≡ false = elim c.in_default.branch [
      | in_default-via-in-While+else-marked w ↦ ap is_marked_loop w.in-While.is ∙ is_region-While w.in-While.line w.in-While.marked w.in-While.cond
          w.in-While.body ∙ w.if-marked.false
      | in_default-via-in-For+else-marked-2 w ↦ ap is_marked_loop w.in-For.is ∙ is_region-For w.in-For.line w.in-For.marked w.in-For.first w.in-For.cond
          w.in-For.step w.in-For.body ∙ w.if-marked-2.false
      | in_default-via-in_default w ↦ plain_unless_loop c.args.s.now w.in_default.not-While w.in_default.not-For
    ] in
    subst (λ (r : Result (List Stmt) CheckFail). GivesChecked (onto c.args.done.now r) (with_last c.statement.new.done c.statement.result))
    (sym (top_answer-plain c.args.place.now c.args.number c.args.s.now plain)) c.statement.ensures.value

pub returns-in_err-statements-in-For-clause-value : goal.returns-in_err-statements-in-For-clause-value
returns-in_err-statements-in-For-clause-value c =
    let f = c.in-For in let p = c.args.place.now in let k = c.args.number in let done = c.args.done.now in
    let is = for_is f.line f.cond c.if-marked-2.true c.as_slice-in-For.ensures refl refl f.is in
    let first = c.as_slice-in-For.result.now in
    let refused : (e : CheckFail) → onto done (block_answer p first) ≡ Err e → onto done (top_answer p k c.args.s.now) ≡ Err e = λ e h.
    ap (λ s. onto done (top_answer p k s)) (sym is) ∙ stepped_refused_at_first p k done f.line first f.cond f.step f.body e h in
    first_of (search rules, grind (arith, common_steps))

pub returns-in_err-last-in-For-clause-value : goal.returns-in_err-last-in-For-clause-value
returns-in_err-last-in-For-clause-value c =
    let f = c.in-For in let p = c.args.place.now in let k = c.args.number in let done = c.args.done.now in
    let is = for_is f.line f.cond c.if-marked-2.true c.as_slice-in-For.ensures c.as_slice-step.ensures c.as_slice-body.ensures f.is in
    let first = c.as_slice-in-For.result.now in let step = c.as_slice-step.result.now in let body = c.as_slice-body.result.now in
    let start = c.in_ok-statements-in-For.ensures.place in
    let refused : (e : CheckFail) → stepped_answer c.statements.new.place k f.cond step body ≡ Err e → onto done (top_answer p k c.args.s.now) ≡ Err e = λ e h.
    ap (λ s. onto done (top_answer p k s)) (sym is)
    ∙ stepped_refused p k done f.line first f.cond step body _ c.in_ok-statements-in-For.ensures.value e
    ((λ i. stepped_answer (sym start i) k f.cond step body) ∙ h) in
    first_of (search rules, grind (arith, common_steps))

pub returns-in_ok-last-in-For-clause-value : goal.returns-in_ok-last-in-For-clause-value
returns-in_ok-last-in-For-clause-value c =
    let f = c.in-For in let p = c.args.place.now in let k = c.args.number in let done = c.args.done.now in
    let is = for_is f.line f.cond c.if-marked-2.true c.as_slice-in-For.ensures c.as_slice-step.ensures c.as_slice-body.ensures f.is in
    let first = c.as_slice-in-For.result.now in let step = c.as_slice-step.result.now in let body = c.as_slice-body.result.now in
    let start = c.in_ok-statements-in-For.ensures.place in
    ap (λ s. onto done (top_answer p k s)) (sym is)
    ∙ stepped_given p k done f.line first f.cond step body _ c.in_ok-statements-in-For.ensures.value c.in_ok-last-in-For.last
    ((λ i. stepped_answer (sym start i) k f.cond step body) ∙ c.in_ok-last-in-For.ensures.value)

pub returns-in_ok-last-in-For-clause-place : goal.returns-in_ok-last-in-For-clause-place
returns-in_ok-last-in-For-clause-place c =
    let f = c.in-For in let p = c.args.place.now in
    let is = for_is f.line f.cond c.if-marked-2.true c.as_slice-in-For.ensures c.as_slice-step.ensures c.as_slice-body.ensures f.is in
    let first = c.as_slice-in-For.result.now in let step = c.as_slice-step.result.now in let body = c.as_slice-body.result.now in
    let start = c.in_ok-statements-in-For.ensures.place in
    let ended = c.in_ok-last-in-For.ensures.place ∙ (λ i. place_passed (sited (start i)) (parts_all body ++ parts_all step)) in
    let kept = c.keep.ensures ∙ (λ i. take (c.len-count.ensures i) (ended i).names) in
    (λ i. record { names = kept i; variable = (ended i).variable; site = (ended i).site }) ∙ for_left p first f.line (parts_all body ++ parts_all step)
    ∙ sym (after-For p f.line Rattle.std.proofs.Common.true first f.cond step body) ∙ ap (place_after p) is
