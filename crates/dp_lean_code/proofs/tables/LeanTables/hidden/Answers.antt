use Rattle.std.proofs.Common.{◌∙◌, ◌+◌, ◌<◌, ◌≤◌, ◌==◌, ◌||◌, false, sym, ap, subst, List, length, get_or, ℕ, Bool, Option, None}
use Rattle.dp_lean_code.specs.steps.Runs.{is_home}
use Rattle.dp_lean_code.proofs.HiddenMarks.{SoFar, marks_on, marks_stay, marks_done, hidden_told}
use Rattle.dp_lean_code.proofs.tables.LeanTables.hidden.Goals.{then-is_home+in_ok-mark, else-is_home}
use Rattle.dp_lean_code.proofs.tables.LeanTables.hidden.Goals as goal

pub loop-place-preserved : goal.loop-place-preserved
loop-place-preserved c = λ plan cell.
    let p = c.args.p.now in let homes = c.args.self.now.homes in let i = c.loop-place.place in let mark = get_or c.loop-place.hidden cell false in
    let below = subst (λ (hs : List (Option ℕ)). i < length hs) c.as_slice-home-items.ensures c.loop-place-test.true in
    let here = sym (ap (λ (hs : List (Option ℕ)). is_home c.args.stage (get_or hs i None)) c.as_slice-home-items.ensures) ∙ sym c.is_home.ensures in
    elim c.if-is_home.branch [
      | then-is_home+in_ok-mark w ↦ marks_on p plan c.args.stage cell homes i None below mark (c.loop-place.invariant plan cell)
          (get_or c.if-is_home.hidden cell false) (here ∙ w.if-is_home.true)
          (ap (λ (marks : List Bool). get_or marks cell false) w.hidden-is ∙ w.in_ok-mark.ensures cell ∙ ap (λ (k : ℕ). (k == cell) || mark) w.first_at.ensures)
      | else-is_home w ↦ subst (λ (marks : List Bool). SoFar p plan c.args.stage cell homes (i + 1) (get_or marks cell false) (i + 1)) (sym w.hidden-is)
          (marks_stay p plan c.args.stage cell homes i None below mark (c.loop-place.invariant plan cell) (here ∙ w.if-is_home.false))
    ]

pub returns : goal.returns
returns c = λ plan cell known.
    let past = subst (λ (hs : List (Option ℕ)). length hs ≤ c.loop-place.place) c.as_slice-home-items.ensures c.loop-place-test.false in
    marks_done c.args.p.now plan c.args.stage cell c.args.self.now.homes c.loop-place.place _ (c.loop-place.invariant plan cell) past
    ∙ hidden_told c.args.p.now plan c.args.self.now known c.args.stage cell
