-- Call by call: what was made and printed so far, and what the stages saw.
use Rattle.std.proofs.Common.{refl, subst, ◌++◌, [], append-nil, sym, inl}
use Rattle.dp_meaning.specs.declared.ends.IterEnd.{IterEnd}
use Rattle.dp_meaning.specs.declared.ends.IterEnd.TheVariants as iter_end
use Rattle.dp_epoch.specs.Remade.{Remade}
use Rattle.dp_epoch.proofs.HearingLemmas.{hears_on_join, hears_on_none, kept_both, remade_more}
use Rattle.dp_epoch.proofs.RemadeLemmas.{remade, remade_falls, remade_going}
use Rattle.dp_epoch.proofs.Reexecuted.{waits}
use Rattle.dp_epoch.proofs.again.execute.Goals as goal

pub calls-init : goal.calls-init
calls-init c = record {
  so_far = ([], record { now_at = c.requires.next; made = inl (refl, refl) }, sym (append-nil c.args.ledger.now.waiting));
  account = refl;
  heard = hears_on_none c.args.ledger.now.committed.machine c.args.ledger.now.account.views;
}

pub calls-preserved : goal.calls-preserved
calls-preserved c =
    let f = c.calls.invariant.so_far in
    let q = c.in_ok-recover.ensures.ok in
    let s : Remade c.calls.ledger.committed c.recover.new.self.committed q.0 iter_end.Going = subst
    (λ (end : IterEnd). Remade c.calls.ledger.committed c.recover.new.self.committed q.0 end) c.in-Going.is q.1 in
    record {
      so_far = (
        f.0 ++ q.0,
        remade_going _ _ f.0 f.1 _ q.0 s,
        waits c.args.ledger.now.waiting f.0 c.calls.ledger.waiting q.0 c.recover.new.self.waiting f.2 q.2,
      );
      account = kept_both c.args.ledger.now.account c.calls.ledger.account c.recover.new.self.account c.calls.invariant.account c.in_ok-recover.ensures.account;
      heard = hears_on_join _ _ _ _ _ _ (remade_more _ _ _ _ q.1) c.calls.invariant.heard c.in_ok-recover.ensures.heard;
    }

pub calls-smaller : goal.calls-smaller
calls-smaller c =
    let q = c.in_ok-recover.ensures.ok in
    let s : Remade c.calls.ledger.committed c.recover.new.self.committed q.0 iter_end.Going = subst
    (λ (end : IterEnd). Remade c.calls.ledger.committed c.recover.new.self.committed q.0 end) c.in-Going.is q.1 in
    remade_falls _ _ q.0 s

pub returns-in-Next-clause-ok : goal.returns-in-Next-clause-ok
returns-in-Next-clause-ok c =
    let f = c.calls.invariant.so_far in
    let q = c.in_ok-recover.ensures.ok in
    let s : Remade c.calls.ledger.committed c.recover.new.self.committed q.0 iter_end.Next = subst
    (λ (end : IterEnd). Remade c.calls.ledger.committed c.recover.new.self.committed q.0 end) c.in-Next.is q.1 in
    (f.0 ++ q.0, remade _ _ f.0 f.1 _ q.0 iter_end.Next s, waits c.args.ledger.now.waiting f.0 c.calls.ledger.waiting q.0 c.recover.new.self.waiting f.2 q.2)

pub returns-in-Next-clause-account : goal.returns-in-Next-clause-account
returns-in-Next-clause-account c =
    kept_both c.args.ledger.now.account c.calls.ledger.account c.recover.new.self.account c.calls.invariant.account c.in_ok-recover.ensures.account

pub returns-in-Next-clause-heard : goal.returns-in-Next-clause-heard
returns-in-Next-clause-heard c =
    hears_on_join _ _ _ _ _ _ (remade_more _ _ _ _ c.in_ok-recover.ensures.ok.1) c.calls.invariant.heard c.in_ok-recover.ensures.heard

pub returns-in-Closed-clause-ok : goal.returns-in-Closed-clause-ok
returns-in-Closed-clause-ok c =
    let f = c.calls.invariant.so_far in
    let q = c.in_ok-recover.ensures.ok in
    let s : Remade c.calls.ledger.committed c.recover.new.self.committed q.0 iter_end.Closed = subst
    (λ (end : IterEnd). Remade c.calls.ledger.committed c.recover.new.self.committed q.0 end) c.in-Closed.is q.1 in
    (f.0 ++ q.0, remade _ _ f.0 f.1 _ q.0 iter_end.Closed s, waits c.args.ledger.now.waiting f.0 c.calls.ledger.waiting q.0 c.recover.new.self.waiting f.2 q.2)

pub returns-in-Closed-clause-account : goal.returns-in-Closed-clause-account
returns-in-Closed-clause-account c =
    kept_both c.args.ledger.now.account c.calls.ledger.account c.recover.new.self.account c.calls.invariant.account c.in_ok-recover.ensures.account

pub returns-in-Closed-clause-heard : goal.returns-in-Closed-clause-heard
returns-in-Closed-clause-heard c =
    hears_on_join _ _ _ _ _ _ (remade_more _ _ _ _ c.in_ok-recover.ensures.ok.1) c.calls.invariant.heard c.in_ok-recover.ensures.heard

pub returns-in-Fault-clause-ok : goal.returns-in-Fault-clause-ok
returns-in-Fault-clause-ok c =
    let f = c.calls.invariant.so_far in
    let q = c.in_ok-recover.ensures.ok in
    let s : Remade c.calls.ledger.committed c.recover.new.self.committed q.0 (iter_end.Fault c.in-Fault.fault) = subst
    (λ (end : IterEnd). Remade c.calls.ledger.committed c.recover.new.self.committed q.0 end) c.in-Fault.is q.1 in (
      f.0 ++ q.0,
      remade _ _ f.0 f.1 _ q.0 (iter_end.Fault
          c.in-Fault.fault) s,
      waits c.args.ledger.now.waiting f.0 c.calls.ledger.waiting q.0 c.recover.new.self.waiting f.2 q.2,
    )

pub returns-in-Fault-clause-account : goal.returns-in-Fault-clause-account
returns-in-Fault-clause-account c =
    kept_both c.args.ledger.now.account c.calls.ledger.account c.recover.new.self.account c.calls.invariant.account c.in_ok-recover.ensures.account

pub returns-in-Fault-clause-heard : goal.returns-in-Fault-clause-heard
returns-in-Fault-clause-heard c =
    hears_on_join _ _ _ _ _ _ (remade_more _ _ _ _ c.in_ok-recover.ensures.ok.1) c.calls.invariant.heard c.in_ok-recover.ensures.heard

pub returns-in-Fuel-clause-ok : goal.returns-in-Fuel-clause-ok
returns-in-Fuel-clause-ok c =
    let f = c.calls.invariant.so_far in
    let q = c.in_ok-recover.ensures.ok in
    let s : Remade c.calls.ledger.committed c.recover.new.self.committed q.0 iter_end.Fuel = subst
    (λ (end : IterEnd). Remade c.calls.ledger.committed c.recover.new.self.committed q.0 end) c.in-Fuel.is q.1 in
    (f.0 ++ q.0, remade _ _ f.0 f.1 _ q.0 iter_end.Fuel s, waits c.args.ledger.now.waiting f.0 c.calls.ledger.waiting q.0 c.recover.new.self.waiting f.2 q.2)

pub returns-in-Fuel-clause-account : goal.returns-in-Fuel-clause-account
returns-in-Fuel-clause-account c =
    kept_both c.args.ledger.now.account c.calls.ledger.account c.recover.new.self.account c.calls.invariant.account c.in_ok-recover.ensures.account

pub returns-in-Fuel-clause-heard : goal.returns-in-Fuel-clause-heard
returns-in-Fuel-clause-heard c =
    hears_on_join _ _ _ _ _ _ (remade_more _ _ _ _ c.in_ok-recover.ensures.ok.1) c.calls.invariant.heard c.in_ok-recover.ensures.heard
