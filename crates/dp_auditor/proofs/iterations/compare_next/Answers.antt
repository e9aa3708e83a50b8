use Rattle.std.proofs.Common.{◌≡◌, ◌∙◌, ap, subst, inl, is_some, List, ℕ}
use Rattle.dp_log.specs.LogText.{group_bytes}
use Rattle.dp_theorem.proofs.Memory.{clear-at}
use Rattle.dp_view.specs.Changed.{Cleared}
use Rattle.dp_view.specs.Viewed.{Viewed, settled}
use Rattle.dp_auditor.specs.Comparing.{Compares}
use Rattle.dp_auditor.specs.Gathered.{sets_between}
use Rattle.dp_auditor.proofs.PieceLemmas.{compares_by}
use Rattle.dp_auditor.proofs.iterations.compare_next.Goals as goal

pub returns-clause-text : goal.returns-clause-text
returns-clause-text c =
    let v = c.args.views.now in
    let again = c.is_some-again.ensures ∙ ap is_some c.found.ensures in
    let made = subst (λ (w : Viewed). Cleared w.program w.plan w.before → Cleared w.program w.plan w.source →
    c.gather.new.self.text ≡ group_bytes c.args.iteration c.is_some-again.result (sets_between w.before w.source) c.args.prints.now)
    c.settle.ensures c.in_ok-gather.ensures.text c.requires.before (λ x local. clear-at v.plan.region x v.program.vars v.source (inl local)) in
    let text = c.text.ensures ∙ made ∙ ap (λ (b : _). group_bytes c.args.iteration b (sets_between v.before (settled v).source) c.args.prints.now) again in
    subst (λ (piece : List ℕ). Compares c.args.compared.now c.take-differs.new.self piece c.take-differs.result) text
    (compares_by c.args.compared.now c.take-differs.new.self c.text.result.now c.take-differs.result c.take-differs.ensures.passes c.take-differs.ensures.fails)
