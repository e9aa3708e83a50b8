use Rattle.std.proofs.Common.{◌≡◌, ◌∙◌, refl, sym, ap, subst, ◌+◌, ℕ, [], ◌∷◌, length, length-append, IsUtf8, Ok, Err}
use Rattle.dp_load.specs.Lists.{in_list}
use Rattle.dp_load.specs.steps.Each.{EachRead}
use Rattle.dp_load.proofs.EachLemmas.{ReadSoFar, more_read, none_read, one_unfit, one_unread, step_gives, whole_read}
use Rattle.dp_load.proofs.TextsLemmas.{given}
use Rattle.dp_load.proofs.list.load_each.Goals as goal

pub loop-name-init : goal.loop-name-init
loop-name-init g c = record {
  held = refl;
  faults = refl;
  failed = refl;
  count = ap length c.new-inputs.ensures;
  read = none_read (g.S.Shelf.contents c.args.shelf.now) c.args.names.now c.new-inputs.result c.new-inputs.ensures;
}

pub name_text-requires : goal.name_text-requires
name_text-requires g c =
    subst IsUtf8 (sym (c.as_slice.ensures ∙ c.name-item.is)) (c.requires.texts c.loop-name.name-index c.name-item.result c.loop-name-test.true)

pub loop-name-preserved : goal.loop-name-preserved
loop-name-preserved g c =
    let step = given _ _ _ (c.in_ok-numbers.was ∙ ap Ok c.in-Text.is) (step_gives (g.S.Shelf.contents c.args.shelf.now) (g.S.Shelf.contents c.loop-name.shelf)
    c.name-item.result c.name_text.result.now (g.S.Shelf.faults c.args.shelf.now) (g.S.Shelf.faults c.loop-name.shelf) (g.S.Shelf.faults c.load_input.new.shelf)
    (g.S.Shelf.failed_names c.args.shelf.now) (g.S.Shelf.failed_names c.loop-name.shelf) (g.S.Shelf.failed_names c.load_input.new.shelf)
    c.loop-name.invariant.held (c.name_text.ensures ∙ c.as_slice.ensures) c.loop-name.invariant.faults c.loop-name.invariant.failed
    c.load_input.result c.load_input.ensures.loads c.load_input.ensures.faults c.load_input.ensures.failed_names) in
    let size = length-append c.loop-name.inputs (c.in-Text.numbers ∷ []) in
    record {
      held = c.load_input.ensures.contents ∙ c.loop-name.invariant.held;
      faults = step.1;
      failed = step.2;
      count = ap length c.in_ok-push-in-Text.ensures.ok ∙ size ∙ ap (λ (k : ℕ). k + 1) c.loop-name.invariant.count;
      read =
          subst (ReadSoFar (g.S.Shelf.contents c.args.shelf.now) c.args.names.now (c.loop-name.name-index + 1)) (sym c.in_ok-push-in-Text.ensures.ok)
          (more_read (g.S.Shelf.contents c.args.shelf.now) c.args.names.now c.loop-name.name-index c.loop-name.inputs c.name-item.result c.loop-name-test.true
          c.name-item.is c.loop-name.invariant.read c.in-Text.numbers step.0);
    }

pub returns-in-Refused-clause-loads : goal.returns-in-Refused-clause-loads
returns-in-Refused-clause-loads g c =
    let step = given _ _ _ (c.in_ok-numbers.was ∙ ap Ok c.in-Refused.is) (step_gives (g.S.Shelf.contents c.args.shelf.now)
    (g.S.Shelf.contents c.loop-name.shelf) c.name-item.result c.name_text.result.now (g.S.Shelf.faults c.args.shelf.now) (g.S.Shelf.faults c.loop-name.shelf)
    (g.S.Shelf.faults c.load_input.new.shelf)
    (g.S.Shelf.failed_names c.args.shelf.now) (g.S.Shelf.failed_names c.loop-name.shelf) (g.S.Shelf.failed_names c.load_input.new.shelf)
    c.loop-name.invariant.held (c.name_text.ensures ∙ c.as_slice.ensures) c.loop-name.invariant.faults c.loop-name.invariant.failed
    c.load_input.result c.load_input.ensures.loads c.load_input.ensures.faults c.load_input.ensures.failed_names) in
    one_unfit (g.S.Shelf.contents c.args.shelf.now) c.args.names.now c.loop-name.name-index c.loop-name.inputs c.name-item.result c.loop-name-test.true
    c.name-item.is c.loop-name.invariant.read _ _ _ _ c.in-Refused.refusal c.in_list.result step
    (subst (λ (k : ℕ). in_list k (Err c.in-Refused.refusal) ≡ Err c.in_list.result)
    (ap (λ (k : ℕ). k + 1) (c.len.ensures ∙ c.loop-name.invariant.count)) c.in_list.ensures)

pub returns-in-Failed-clause-loads : goal.returns-in-Failed-clause-loads
returns-in-Failed-clause-loads g c =
    let step = given _ _ _ (c.in_ok-numbers.was ∙ ap Ok c.in-Failed.is) (step_gives (g.S.Shelf.contents c.args.shelf.now) (g.S.Shelf.contents c.loop-name.shelf)
    c.name-item.result c.name_text.result.now (g.S.Shelf.faults c.args.shelf.now) (g.S.Shelf.faults c.loop-name.shelf) (g.S.Shelf.faults c.load_input.new.shelf)
    (g.S.Shelf.failed_names c.args.shelf.now) (g.S.Shelf.failed_names c.loop-name.shelf) (g.S.Shelf.failed_names c.load_input.new.shelf)
    c.loop-name.invariant.held (c.name_text.ensures ∙ c.as_slice.ensures) c.loop-name.invariant.faults c.loop-name.invariant.failed
    c.load_input.result c.load_input.ensures.loads c.load_input.ensures.faults c.load_input.ensures.failed_names) in
    one_unread (g.S.Shelf.contents c.args.shelf.now) c.args.names.now c.loop-name.name-index c.loop-name.inputs c.name-item.result c.loop-name-test.true
    c.name-item.is c.loop-name.invariant.read _ _ _ _ step

pub returns-clause-loads : goal.returns-clause-loads
returns-clause-loads g c =
    EachRead c.loop-name.inputs (whole_read (g.S.Shelf.contents c.args.shelf.now) c.args.names.now c.loop-name.name-index c.loop-name.inputs
    c.loop-name-test.false c.loop-name.invariant.read) c.loop-name.invariant.faults c.loop-name.invariant.failed
