use Rattle.dp_semantics.proofs.Names.{◌≡◌, refl, sym, ap, ◌∙◌, subst, arith, ℕ, suc, ◌-◌, ◌≤◌, length, is_replicated}
use Rattle.dp_lean_machine.specs.Sent.{IsSent}
use Rattle.dp_lean_machine.proofs.Working.{worker_sends}
use Rattle.dp_lean_machine.proofs.machine.LeanMachine.from_version.Goals as goal

pub returns-in-Some-flat_of-clause-sent : goal.returns-in-Some-flat_of-clause-sent
returns-in-Some-flat_of-clause-sent c e b ends like at sent =
    let place = c.saturating_sub-place.result in
    let stage = c.args.self.now.stage in
    let here : stage - 1 ≡ place = omega (arith, c.saturating_sub-place.ensures, at.some) in
    let it : stage ≡ suc place = omega (arith, c.saturating_sub-place.ensures, at.some) in
    record {
      is = subst (λ (i : ℕ). IsSent e i b c.keep_room.new.batch) (sym it)
          (worker_sends e b place (λ cells. cells) c.in-Some-flat_of.cells c.run_batch-behind.result.memory c.in-Some.version c.args.batch.now c.taken_version.new.batch
          c.run_batch-behind.new.batch c.keep_room.new.batch (c.run_batch-behind.ensures.sent e b) c.taken_version.ensures.same (sym c.taken_version.ensures.version ∙ c.in-Some.is) c.in-Some-flat_of.ensures
          c.keep_room.ensures.same c.keep_room.ensures.version ends like at.epoch (subst (λ (i : ℕ). i ≤ length e.key.plan.stages) it at.within)
          (ap (is_replicated e.key.plan) (sym it) ∙ at.keeps) (subst (λ (i : ℕ). IsSent e i b c.args.batch.now) here sent));
      next = λ goes. record { epoch = at.epoch; some = at.some; within = at.within; keeps = at.keeps };
    }

pub returns-in-None-flat_of-clause-sent : goal.returns-in-None-flat_of-clause-sent
returns-in-None-flat_of-clause-sent c e b ends like at sent =
    let place = c.saturating_sub-place.result in
    let stage = c.args.self.now.stage in
    let here : stage - 1 ≡ place = omega (arith, c.saturating_sub-place.ensures, at.some) in
    let it : stage ≡ suc place = omega (arith, c.saturating_sub-place.ensures, at.some) in
    record {
      is = subst (λ (i : ℕ). IsSent e i b c.keep_room-in-None-flat_of.new.batch) (sym it)
          (worker_sends e b place (λ cells. cells) c.in-Some.version c.run_batch-behind-in-None-flat_of.result.memory c.in-Some.version c.args.batch.now c.taken_version.new.batch
          c.run_batch-behind-in-None-flat_of.new.batch c.keep_room-in-None-flat_of.new.batch (c.run_batch-behind-in-None-flat_of.ensures.sent e b) c.taken_version.ensures.same (sym c.taken_version.ensures.version ∙ c.in-Some.is) refl
          c.keep_room-in-None-flat_of.ensures.same c.keep_room-in-None-flat_of.ensures.version ends like at.epoch (subst (λ (i : ℕ). i ≤ length e.key.plan.stages) it at.within)
          (ap (is_replicated e.key.plan) (sym it) ∙ at.keeps) (subst (λ (i : ℕ). IsSent e i b c.args.batch.now) here sent));
      next = λ goes. record { epoch = at.epoch; some = at.some; within = at.within; keeps = at.keeps };
    }
