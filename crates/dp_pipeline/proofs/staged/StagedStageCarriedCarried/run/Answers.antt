use Rattle.std.proofs.Common.{ℕ, ◌-◌, refl, sym, ◌∙◌, subst}
use Rattle.dp_lean_region.specs.LeanEpoch.{LeanEpoch}
use Rattle.dp_lean_machine.specs.declared.batch.LeanBatch.{LeanBatch}
use Rattle.dp_lean_machine.specs.Sent.{IsSent}
use Rattle.dp_lean_machine.specs.Standing.{MachineStands, Passes}
use Rattle.dp_pipeline.specs.declared.carried.Carried.{Carried}
use Rattle.dp_pipeline.specs.declared.staged.Staged.{Staged}
use Rattle.dp_pipeline.proofs.Staging.{batch_sent, batch_next, is_last_with}
use Rattle.dp_pipeline.proofs.staged.StagedStageCarriedCarried.run.Goals as goal

pub returns : goal.returns
returns g c = λ key s place n stands at came.
    let x = c.args.self.now in
    let new : Staged = record { machine = c.run.new.self; stage = x.stage; fuel = x.fuel } in
    let sent : Carried = record { batch = c.run.new.batch; told = c.args.item.told } in
    let passes = subst (λ (batch : LeanBatch). (e : LeanEpoch) (b : ℕ) → MachineStands x.machine e b → IsSent e (x.machine.stage - 1) b batch →
    Passes c.run.new.self e b c.run.new.batch) c.get_mut.ensures.value c.run.ensures.sent in
    let last = c.is_last_batch-last.ensures ∙ (λ i. is_last_with (record { batch = c.get-3.ensures i; told = c.args.item.told }) x.fuel)
    ∙ (λ i. is_last_with sent (stands.fuel i)) in (
      batch_sent x new c.args.item sent key s place n stands at came c.run.ensures.stage refl passes,
      last,
      λ e. batch_next x new c.args.item sent key s place n stands at came c.run.ensures.stage refl passes (sym last ∙ e),
    )
