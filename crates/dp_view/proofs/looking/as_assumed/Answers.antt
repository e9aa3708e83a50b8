use Rattle.std.proofs.Common.{rules, to_z, of_z, w64, ◌≡◌, sym, ap, ◌∙◌, ℤ, pos}
use Rattle.dp_tree.specs.Step.{Tried}
use Rattle.dp_meaning.specs.declared.sight.Effect.{Effect}
use Rattle.dp_semantics.specs.Clean.{as_assumed, stays_late}
use Rattle.dp_view.specs.Viewed.{effect_of}
use Rattle.dp_view.proofs.LookLemmas.{stores_so, prints_so, tries_so}
use Rattle.dp_view.proofs.looking.as_assumed.Goals as goal

pub returns-in-Stored : goal.returns-in-Stored
returns-in-Stored c = sym (ap (λ (e : Effect). as_assumed c.args.program.now c.args.plan.now c.args.site.0 (effect_of e)) c.in-Stored.is
    ∙ stores_so c.args.program.now c.args.plan.now c.args.site.0 0 (pos 0))

pub returns-in-Printed : goal.returns-in-Printed
returns-in-Printed c = sym (ap (λ (e : Effect). as_assumed c.args.program.now c.args.plan.now c.args.site.0 (effect_of e)) c.in-Printed.is
    ∙ prints_so c.args.program.now c.args.plan.now c.args.site.0 (pos 0))

pub returns-in-Tried : goal.returns-in-Tried
returns-in-Tried c =
    let same : to_z w64 (of_z w64 c.in-Tried.value) ≡ c.in-Tried.value = search rules in
    c.stays_late.ensures ∙ ap (λ (z : ℤ). stays_late c.args.program.now c.args.plan.now c.args.site.0 (Tried z)) same
    ∙ sym (ap (λ (e : Effect). as_assumed c.args.program.now c.args.plan.now c.args.site.0 (effect_of e)) c.in-Tried.is
    ∙ tries_so c.args.program.now c.args.plan.now c.args.site.0 c.in-Tried.value)
