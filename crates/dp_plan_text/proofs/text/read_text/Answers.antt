use Rattle.std.proofs.Common.{◌≡◌, ℕ, length, Result, sym, ap, subst, ◌∙◌}
use Rattle.dp_text.specs.declared.lines.Reading.{Reading}
use Rattle.dp_text.specs.Lines.{lines_of, read_from}
use Rattle.dp_text.proofs.SoFar.{next_text}
use Rattle.dp_plan_text.specs.declared.PlanFail.{PlanFail}
use Rattle.dp_plan_text.specs.declared.WrittenPlans.{WrittenPlans}
use Rattle.dp_plan_text.specs.declared.reader.Reader.{Reader}
use Rattle.dp_plan_text.specs.steps.Ending.{ReadsText, finished}
use Rattle.dp_plan_text.specs.steps.Reading.{begun, is_over}
use Rattle.dp_plan_text.proofs.TextLemmas.{plan_grammar, text_read}
use Rattle.dp_plan_text.proofs.text.read_text.Goals as goal

pub returns : goal.returns
returns c =
    let p = c.args.p.now in let bytes = c.args.bytes.now in let e = c.in_ok-regions.ensures in
    let same : c.in_ok-reading.reading ≡ read_from (next_text (plan_grammar (length c.args.p.now.regions))) (λ s. is_over s.phase) 1 begun
    (lines_of c.args.bytes.now) =
    c.in_ok-reading.ensures
    ∙ ap (λ (s : Reader). read_from (next_text (plan_grammar c.in_ok-regions.regions)) (λ r. is_over r.phase) 1 s (lines_of bytes)) c.new.ensures
    ∙ ap (λ (n : ℕ). read_from (next_text (plan_grammar n)) (λ r. is_over r.phase) 1 begun (lines_of bytes)) e.0 in
    subst (λ (r : Result WrittenPlans PlanFail). ReadsText p bytes r) (sym (c.finished.ensures ∙ ap (λ (r : Reading Reader). finished r) same))
    (text_read p e.1 bytes)
