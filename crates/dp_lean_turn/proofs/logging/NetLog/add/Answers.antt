use Rattle.std.proofs.Common.{◌≡◌, ◌∙◌, sym, ap, subst, subst₂, List, ℕ, length, set, w64, to_z, of_z, rules}
use Rattle.dp_columns.specs.declared.Pair.{Pair}
use Rattle.dp_lean_turn.specs.Leading.{LeadBack}
use Rattle.dp_lean_turn.specs.Logged.{AreOfOtherCells}
use Rattle.dp_lean_turn.proofs.Leads.{leads_further, leads_added}
use Rattle.dp_lean_turn.proofs.logging.NetLog.add.Goals as goal

pub invariant_of-self : goal.invariant_of-self
invariant_of-self c = leads_further c.self.inside.entries c.self.inside.places c.reach.new.places c.reach.ensures.more c.self.invariant

pub invariant_of-self-in_err-push-in-Ok : goal.invariant_of-self-in_err-push-in-Ok
invariant_of-self-in_err-push-in-Ok c =
    subst (λ (es : List Pair). LeadBack es c.reach.new.places) (sym c.in_err-push-in-Ok.ensures.err)
    (leads_further c.self.inside.entries c.self.inside.places c.reach.new.places c.reach.ensures.more c.self.invariant)

pub invariant_of-self-in-Ok : goal.invariant_of-self-in-Ok
invariant_of-self-in-Ok c =
    let entries = c.self.inside.entries in
    let stands : c.in-Ok.place ≡ length entries = search rules in
    let others = subst (λ (es : List Pair). AreOfOtherCells c.args.cell (length es) es) (sym c.self.view_is) c.requires.others in
    let leads = leads_further entries c.self.inside.places c.reach.new.places c.reach.ensures.more c.self.invariant in
    subst₂ (λ (es : List Pair) (ps : List ℕ). LeadBack es ps) (sym c.in_ok-push-in-Ok.ensures.ok)
    (sym (c.set.ensures ∙ ap (set c.reach.new.places c.args.cell) stands))
    (leads_added entries c.reach.new.places (record { cell = c.args.cell; value = to_z w64 (of_z w64 c.args.value) }) others c.in_ok-reach.ensures.within leads)

pub invariant_of-self-in-Err : goal.invariant_of-self-in-Err
invariant_of-self-in-Err c = leads_further c.self.inside.entries c.self.inside.places c.reach.new.places c.reach.ensures.more c.self.invariant
