use Rattle.std.proofs.Common.{refl, sym, subst, ◌∙◌, List}
use Rattle.dp_lean_code.specs.declared.LeanOp.{LeanOp}
use Rattle.dp_lean_turn.specs.declared.Frame.{Frame}
use Rattle.dp_lean_turn.specs.Made.{AreTurnTables}
use Rattle.dp_lean_region.proofs.stages.staged.Goals as goal

pub returns : goal.returns
returns c =
    let lent = c.args.lent in let stage = c.requires.stage in
    let f : Frame = record {
      program = lent.program;
      plan = lent.plan;
      input = lent.input;
      code = c.as_slice.result;
      kinds = c.kinds_at.result;
      hidden = c.hidden.result;
      first = lent.first;
    } in
    let tables = subst (λ (ops : List LeanOp). AreTurnTables lent.program.now lent.plan.now stage.of ops c.args.stage.now.turn)
    (sym c.as_slice.ensures) stage.tables in
    let own = c.kinds_at.ensures.own ∙ sym stage.own in let read = c.kinds_at.ensures.read ∙ sym stage.read in
    let same = c.hidden.ensures.same in record {
      program = refl;
      under = refl;
      words = refl;
      code = c.as_slice.ensures ∙ stage.code;
      own = c.kinds_at.ensures.own;
      read = c.kinds_at.ensures.read;
      first = c.requires.first;
      ready = c.ready.ensures f stage.of (record { tables = tables; own = own; read = read; hidden = same }) refl;
      hidden = c.hidden.ensures.hides f stage.of (record { tables = tables; own = own; read = read; hidden = same }) refl;
      body = refl;
    }
