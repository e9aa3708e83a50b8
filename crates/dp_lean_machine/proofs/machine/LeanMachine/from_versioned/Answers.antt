use Rattle.dp_semantics.proofs.Names.{◌≡◌, sym, ap, ◌∙◌, subst, arith, ℕ, suc, ◌-◌, ◌≤◌, length, Some, is_replicated}
use Rattle.dp_lean_epoch.specs.Coming.{LeanStands}
use Rattle.dp_lean_region.specs.LeanEpoch.{epoch_marks, begin_in}
use Rattle.dp_lean_machine.specs.Sent.{AsStatus, IsSent}
use Rattle.dp_lean_machine.specs.declared.batch.BatchStatus.{BatchStatus}
use Rattle.dp_lean_machine.proofs.Passing.{goes_behind, same_sent, replicated_within}
use Rattle.dp_lean_machine.proofs.machine.LeanMachine.from_versioned.Goals as goal

pub returns-in-Ok-clause-sent : goal.returns-in-Ok-clause-sent
returns-in-Ok-clause-sent c e b ends like at sent =
    let place = c.saturating_sub-place.result in
    let stage = c.args.self.now.stage in
    let here : stage - 1 ≡ place = omega (arith, c.saturating_sub-place.ensures, at.some) in
    let it : stage ≡ suc place = omega (arith, c.saturating_sub-place.ensures, at.some) in
    let old_stands = subst (λ (i : ℕ). LeanStands (epoch_marks e) e.key i (begin_in e b) c.args.both) it at.keeps.2 in
    let stands = subst (LeanStands (epoch_marks e) e.key (suc place) (begin_in e b)) (sym c.in-Ok.ensures.same) old_stands in
    let r = goes_behind e b place (λ cells. cells) c.snapshot.new.self c.run_batch-behind.result.memory (Some c.in-Ok.version) c.taken_room.new.batch
    c.run_batch-behind.new.batch (c.run_batch-behind.ensures.sent e b) ends
    (subst (λ (x : BatchStatus). AsStatus x ends) (sym c.taken_room.ensures.same.status) like) at.epoch
    (subst (λ (i : ℕ). i ≤ length e.key.plan.stages) it at.within)
    (ap (is_replicated e.key.plan) (sym it) ∙ at.keeps.0)
    stands
    (λ q. subst (LeanStands (epoch_marks e) e.key (suc (suc place)) (begin_in e b)) (sym (c.in-Ok.ensures.ok))
    (at.epoch.laws.workers (suc place) (begin_in e b) (replicated_within e.key.plan (suc place) q) q c.args.both old_stands))
    (same_sent e place b c.args.batch.now c.taken_room.new.batch c.taken_room.ensures.same c.taken_room.ensures.version
    (subst (λ (i : ℕ). IsSent e i b c.args.batch.now) here sent)) in
    record {
      is = subst (λ (i : ℕ). IsSent e i b c.run_batch-behind.new.batch) (sym it) r.0;
      next = λ goes. record {
        epoch = at.epoch;
        some = at.some;
        within = at.within;
        keeps = (
          at.keeps.0,
          at.keeps.1,
          subst (λ (i : ℕ). LeanStands (epoch_marks e) e.key i (begin_in e (suc b))
              c.run_batch-behind.result.memory) (sym it) (r.1 goes),
        );
      };
    }
