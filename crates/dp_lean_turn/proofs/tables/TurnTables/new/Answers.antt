use Rattle.std.proofs.Common.{◌∙◌, sym, ap, subst, ℕ, List, Bool}
use Rattle.dp_engine.specs.Forms.{forms_of}
use Rattle.dp_lean_code.specs.Known.{paying_marks}
use Rattle.dp_lean_turn.specs.Notes.{AreNotes}
use Rattle.dp_lean_turn.specs.Deeds.{AreQuick}
use Rattle.dp_lean_turn.specs.Made.{KnowFinishes}
use Rattle.dp_lean_turn.proofs.LeanOrder.{blocks_own, values_ordered}
use Rattle.dp_lean_turn.proofs.tables.TurnTables.new.Goals as goal

pub invariant_of-result : goal.invariant_of-result
invariant_of-result c =
    let p = c.args.program.now in let plan = c.args.plan.now in
    record {
      made = c.in_ok-forms.ensures.exact ∙ ap forms_of c.as_slice.ensures;
      ordered = values_ordered p plan c.args.stage (paying_marks p plan) c.in_ok-ops.ops c.args.code.now c.requires.code c.in_ok-ops.ensures;
      small = c.in_ok-forms.ensures.small;
    }

pub returns : goal.returns
returns c =
    let p = c.args.program.now in let plan = c.args.plan.now in
    let right = subst (AreNotes p plan c.args.kinds c.args.code.now) (sym c.as_slice-3.ensures) c.in_ok-notes.ensures.right in
    let finishes = subst (KnowFinishes p plan c.args.code.now) (sym c.as_slice-3.ensures) c.in_ok-notes.ensures.finishes in
    record {
      ops = c.in_ok-ops.ensures;
      steps = c.in_ok-steps.ensures.right p plan c.args.kinds right;
      quick = subst (λ (hs : List Bool). AreQuick hs c.in_ok-steps.steps) c.as_slice-4.ensures c.in_ok-steps.ensures.quick;
      finishes = c.in_ok-steps.ensures.finishes p plan c.args.kinds right finishes;
      hidden = λ at site here cell.
          c.in_ok-hidden.ensures plan cell c.requires.known
          ∙ ap (λ (s : ℕ). (paying_marks p plan).hides s cell)
          (sym (blocks_own p plan c.args.stage (paying_marks p plan) c.args.code.now c.requires.code at site here));
    }
