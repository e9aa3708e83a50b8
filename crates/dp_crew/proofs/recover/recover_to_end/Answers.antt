use Rattle.std.proofs.Common.{◌∙◌, ◌++◌, subst, sym, refl, inl, append-nil, [], List, ℤ}
use Rattle.dp_meaning.specs.declared.ends.IterEnd.{IterEnd}
use Rattle.dp_meaning.specs.declared.ends.IterEnd.TheVariants as iter_end
use Rattle.dp_epoch.specs.Remade.{Remade}
use Rattle.dp_epoch.proofs.HearingLemmas.{hears_on_join, hears_on_none, kept_both, remade_more}
use Rattle.dp_epoch.proofs.RemadeLemmas.{may_print, remade, remade_going, remade_falls}
use Rattle.dp_crew.specs.Output.{Emits}
use Rattle.dp_crew.proofs.StreamLemmas.{emits_nothing}
use Rattle.dp_crew.proofs.CallPrints.{emits_both, front_both}
use Rattle.dp_crew.proofs.recover.recover_to_end.Goals as goal
use Rattle.dp_room.proofs.ResultLemmas.{on_err}

pub returns-in_err-go_on-clause-err : goal.returns-in_err-go_on-clause-err
returns-in_err-go_on-clause-err g c =
    let f = c.calls.invariant.so_far in
    let s = c.in_err-go_on.ensures.err in
    on_err c.from_residual.result _ (f.0 ++ s.0, may_print _ _ f.0 f.1 s.0 s.1, front_both _ f.0 _ s.0 _ _ f.2 _ s.2)

pub calls-preserved : goal.calls-preserved
calls-preserved g c =
    let f = c.calls.invariant.so_far in
    let s = c.in_ok-go_on.ensures.ok in
    record {
      so_far = (
        f.0 ++ s.0,
        remade_going _ _ f.0 f.1 _ s.0 (subst (λ (end : IterEnd). Remade c.calls.ledger.committed c.go_on.new.ledger.committed s.0 end) c.in-Going.is s.1),
        emits_both _ f.0 _ s.0 _ _ f.2 _ _ s.2,
      );
      account = kept_both c.args.ledger.now.account c.calls.ledger.account c.go_on.new.ledger.account c.calls.invariant.account c.in_ok-go_on.ensures.account;
      heard = hears_on_join _ _ _ _ _ _ (remade_more _ _ _ _ s.1) c.calls.invariant.heard c.in_ok-go_on.ensures.heard;
      faults = c.in_ok-go_on.ensures.faults ∙ c.calls.invariant.faults;
    }

pub calls-smaller : goal.calls-smaller
calls-smaller g c =
    let s = c.in_ok-go_on.ensures.ok in
    remade_falls _ _ s.0 (subst (λ (end : IterEnd). Remade c.calls.ledger.committed c.go_on.new.ledger.committed s.0 end) c.in-Going.is s.1)

pub returns-in-Next-clause-ok : goal.returns-in-Next-clause-ok
returns-in-Next-clause-ok g c =
    let f = c.calls.invariant.so_far in
    let s = c.in_ok-go_on.ensures.ok in (
      f.0 ++ s.0,
      remade _ _ f.0 f.1 _ s.0 iter_end.Next (subst (λ (end : IterEnd). Remade c.calls.ledger.committed c.go_on.new.ledger.committed s.0 end)
          c.in-Next.is s.1),
      emits_both _ f.0 _ s.0 _ _ f.2 _ _ s.2,
    )

pub returns-in-Closed-clause-ok : goal.returns-in-Closed-clause-ok
returns-in-Closed-clause-ok g c =
    let f = c.calls.invariant.so_far in
    let s = c.in_ok-go_on.ensures.ok in (
      f.0 ++ s.0,
      remade _ _ f.0 f.1 _ s.0 iter_end.Closed (subst (λ (end : IterEnd). Remade c.calls.ledger.committed c.go_on.new.ledger.committed s.0 end)
          c.in-Closed.is s.1),
      emits_both _ f.0 _ s.0 _ _ f.2 _ _ s.2,
    )

pub returns-in-Fault-clause-ok : goal.returns-in-Fault-clause-ok
returns-in-Fault-clause-ok g c =
    let f = c.calls.invariant.so_far in
    let s = c.in_ok-go_on.ensures.ok in (
      f.0 ++ s.0,
      remade _ _ f.0 f.1 _ s.0 (iter_end.Fault c.in-Fault.fault) (subst
          (λ (end : IterEnd). Remade c.calls.ledger.committed c.go_on.new.ledger.committed s.0 end) c.in-Fault.is s.1),
      emits_both _ f.0 _ s.0 _ _ f.2 _ _ s.2,
    )

pub returns-in-Fuel-clause-ok : goal.returns-in-Fuel-clause-ok
returns-in-Fuel-clause-ok g c =
    let f = c.calls.invariant.so_far in
    let s = c.in_ok-go_on.ensures.ok in (
      f.0 ++ s.0,
      remade _ _ f.0 f.1 _ s.0 iter_end.Fuel (subst (λ (end : IterEnd). Remade c.calls.ledger.committed c.go_on.new.ledger.committed s.0 end)
          c.in-Fuel.is s.1),
      emits_both _ f.0 _ s.0 _ _ f.2 _ _ s.2,
    )

pub returns-in-Next-clause-account : goal.returns-in-Next-clause-account
returns-in-Next-clause-account g c =
    kept_both c.args.ledger.now.account c.calls.ledger.account c.go_on.new.ledger.account c.calls.invariant.account c.in_ok-go_on.ensures.account

pub returns-in-Next-clause-heard : goal.returns-in-Next-clause-heard
returns-in-Next-clause-heard g c =
    hears_on_join _ _ _ _ _ _ (remade_more _ _ _ _ c.in_ok-go_on.ensures.ok.1) c.calls.invariant.heard c.in_ok-go_on.ensures.heard

pub returns-in-Closed-clause-account : goal.returns-in-Closed-clause-account
returns-in-Closed-clause-account g c =
    kept_both c.args.ledger.now.account c.calls.ledger.account c.go_on.new.ledger.account c.calls.invariant.account c.in_ok-go_on.ensures.account

pub returns-in-Closed-clause-heard : goal.returns-in-Closed-clause-heard
returns-in-Closed-clause-heard g c =
    hears_on_join _ _ _ _ _ _ (remade_more _ _ _ _ c.in_ok-go_on.ensures.ok.1) c.calls.invariant.heard c.in_ok-go_on.ensures.heard

pub returns-in-Fault-clause-account : goal.returns-in-Fault-clause-account
returns-in-Fault-clause-account g c =
    kept_both c.args.ledger.now.account c.calls.ledger.account c.go_on.new.ledger.account c.calls.invariant.account c.in_ok-go_on.ensures.account

pub returns-in-Fault-clause-heard : goal.returns-in-Fault-clause-heard
returns-in-Fault-clause-heard g c =
    hears_on_join _ _ _ _ _ _ (remade_more _ _ _ _ c.in_ok-go_on.ensures.ok.1) c.calls.invariant.heard c.in_ok-go_on.ensures.heard

pub returns-in-Fuel-clause-account : goal.returns-in-Fuel-clause-account
returns-in-Fuel-clause-account g c =
    kept_both c.args.ledger.now.account c.calls.ledger.account c.go_on.new.ledger.account c.calls.invariant.account c.in_ok-go_on.ensures.account

pub returns-in-Fuel-clause-heard : goal.returns-in-Fuel-clause-heard
returns-in-Fuel-clause-heard g c =
    hears_on_join _ _ _ _ _ _ (remade_more _ _ _ _ c.in_ok-go_on.ensures.ok.1) c.calls.invariant.heard c.in_ok-go_on.ensures.heard

pub calls-init : goal.calls-init
calls-init g c = record {
  so_far = (
    [],
    record { now_at = c.requires.next; made = inl (refl, refl) },
    subst (λ (xs : List ℤ). Emits xs c.args.ledger.now.waiting
        (g.K.Sink.written c.args.sink.now) (g.K.Sink.written c.args.sink.now)) (sym (append-nil c.args.ledger.now.waiting)) (emits_nothing _ _),
  );
  account = refl;
  heard = hears_on_none c.args.ledger.now.committed.machine c.args.ledger.now.account.views;
  faults = refl;
}
