use denote.Param.Send.{sendable}
use Rattle.std.proofs.Common.{rules, ◌≡◌, sym, ap, subst, ◌∙◌, ℕ, List, Result, IfOk, length, get_or}
use Rattle.std.proofs.Crossing as crossing
use Rattle.dp_room.specs.declared.NoMemory.{NoMemory}
use Rattle.dp_room.proofs.row.Row.TheSendSync as row
use Rattle.dp_batch.proofs.seats.Seats.TheSendSync as seats
use Rattle.dp_batch.specs.BatchText.{AreTexts, batched_run_text}
use Rattle.dp_batch.proofs.Crossing.{prepared_sync}
use Rattle.dp_batch.proofs.TextLemmas.{each_beside, written_back}
use Rattle.dp_batch.proofs.many.texts_of.Goals as goal

pub for_each_mut-requires-sync-F : goal.for_each_mut-requires-sync-F
for_each_mut-requires-sync-F g c κs within =
    let r = c.type_bounds.sync-R in
    search (prepared_sync, row.the_sync, seats.the_sync, crossing.crosses, sendable) depth 60 fits 20000

pub returns : goal.returns
returns g c =
    let p = c.args.prepared.now.program in let plans = c.args.prepared.now.plans in let fuel = c.args.fuel in
    let many : length c.in_ok-texts.texts.items ≡ length c.args.inputs.now = c.in_ok-texts.ensures in
    let kept : length c.for_each_mut.new.s ≡ length c.in_ok-texts.texts.items = c.for_each_mut.auto.s ∙ ap length c.as_mut_slice.ensures.value in
    let all : length c.in_ok-texts.texts.items ≡ c.in_ok-texts.texts.len = sym c.in_ok-texts.texts.ok.0 in
    subst (AreTexts (batched_run_text p plans fuel) c.args.inputs.now)
    (sym (written_back c.in_ok-texts.texts.len c.for_each_mut.new.s c.in_ok-texts.texts.items kept all))
    (each_beside (λ input made. IfOk made (λ bytes. bytes ≡ batched_run_text p plans fuel input)) c.args.inputs.now c.for_each_mut.new.s (kept ∙ many)
    (λ i d e lt.
    let at = (c.for_each_mut.ensures i e (search rules)).1 in
    subst (λ (made : Result (List ℕ) NoMemory). IfOk made (λ bytes. bytes ≡ batched_run_text p plans fuel (get_or c.args.inputs.now i d))) at.left (at.call d)))
