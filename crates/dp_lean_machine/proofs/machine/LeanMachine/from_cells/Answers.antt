use Rattle.dp_semantics.proofs.Names.{◌≡◌, sym, ap, ◌∙◌, subst, arith, ℕ, suc, ◌-◌, ◌≤◌, length, None, is_replicated}
use Rattle.dp_lean_epoch.specs.Coming.{LeanStands}
use Rattle.dp_lean_region.specs.LeanEpoch.{epoch_marks, begin_in}
use Rattle.dp_lean_machine.specs.Sent.{IsSent}
use Rattle.dp_lean_machine.proofs.Passing.{goes_behind}
use Rattle.dp_lean_machine.proofs.machine.LeanMachine.from_cells.Goals as goal

pub returns-clause-sent : goal.returns-clause-sent
returns-clause-sent c e b ends like at sent =
    let place = c.saturating_sub-place.result in
    let stage = c.args.self.now.stage in
    let here : stage - 1 ≡ place = omega (arith, c.saturating_sub-place.ensures, at.some) in
    let it : stage ≡ suc place = omega (arith, c.saturating_sub-place.ensures, at.some) in
    let r = goes_behind e b place (λ cells. cells) c.args.cells c.run_batch-behind.result.memory None c.args.batch.now c.run_batch-behind.new.batch
    (c.run_batch-behind.ensures.sent e b) ends like at.epoch
    (subst (λ (i : ℕ). i ≤ length e.key.plan.stages) it at.within)
    (ap (is_replicated e.key.plan) (sym it) ∙ at.keeps.0)
    (subst (λ (i : ℕ). LeanStands (epoch_marks e) e.key i (begin_in e b) c.args.cells) it at.keeps.2)
    (λ q. absurd (cc (sym (ap (λ (i : ℕ). is_replicated e.key.plan (suc i)) (sym it) ∙ at.keeps.1) ∙ q)))
    (subst (λ (i : ℕ). IsSent e i b c.args.batch.now) here sent) in
    record {
      is = subst (λ (i : ℕ). IsSent e i b c.run_batch-behind.new.batch) (sym it) r.0;
      next = λ goes. record {
        epoch = at.epoch;
        some = at.some;
        within = at.within;
        keeps = (
          at.keeps.0,
          at.keeps.1,
          subst (λ (i : ℕ). LeanStands (epoch_marks e) e.key i (begin_in e (suc b))
              c.run_batch-behind.result.memory) (sym it) (r.1 goes),
        );
      };
    }
