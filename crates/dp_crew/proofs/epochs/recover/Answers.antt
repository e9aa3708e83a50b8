use Rattle.std.proofs.Common.{sym, subst, Option}
use Rattle.dp_plan.specs.declared.Plan.{Plan}
use Rattle.dp_meaning.specs.MachineState.{MachineState}
use Rattle.dp_epoch.specs.declared.ends.EpochEnd.{EpochEnd}
use Rattle.dp_epoch.specs.declared.ends.RegionEnd.{RegionEnd}
use Rattle.dp_epoch.specs.declared.ledger.Ledger.{Ledger}
use Rattle.dp_epoch.specs.InEpoch.{AfterRecovery, EpochEnds, IsUnclean, left_by_epoch}
use Rattle.dp_epoch.specs.Prints.{prints_to_come}
use Rattle.dp_crew.specs.Output.{Emits}
use Rattle.dp_crew.proofs.Answering.{if_ok}
use Rattle.dp_crew.proofs.StreamLemmas.{emits_nothing}
use Rattle.dp_crew.proofs.epochs.recover.Goals as goal

pub returns-in-Closed-clause-streams : goal.returns-in-Closed-clause-streams
returns-in-Closed-clause-streams g c plan first h =
    subst (λ (x : EpochEnd). Emits (left_by_epoch plan first c.args.ledger.waiting c.args.ledger.committed.count x) c.args.ledger.waiting
    (g.K.Sink.written c.args.sink.now) (g.K.Sink.written c.args.sink.now)) (sym c.in-Closed.is) (emits_nothing _ _)

pub returns-in-Unclean-clause-ok : goal.returns-in-Unclean-clause-ok
returns-in-Unclean-clause-ok g c =
    if_ok c.recover_unclean.result
    (λ (r : Ledger × Option RegionEnd). (plan : Plan) (first : MachineState) → IsUnclean plan first c.args.ledger.committed c.args.ledger.account →
    AfterRecovery plan first r.0.committed r.0.account r.1)
    (λ (r : Ledger × Option RegionEnd). (plan : Plan) (first : MachineState) → EpochEnds plan first c.args.ledger.committed c.args.ledger.account c.args.end →
    AfterRecovery plan first r.0.committed r.0.account r.1)
    (λ r told plan first h. told plan first (subst (λ (x : EpochEnd). EpochEnds plan first c.args.ledger.committed c.args.ledger.account x) c.in-Unclean.is h))
    c.recover_unclean.ensures.ok

pub returns-in-Left-clause-streams : goal.returns-in-Left-clause-streams
returns-in-Left-clause-streams g c plan first h =
    subst (λ (x : EpochEnd). Emits (left_by_epoch plan first c.args.ledger.waiting c.args.ledger.committed.count x)
    (prints_to_come plan first c.args.ledger.waiting c.args.ledger.committed.count) (g.K.Sink.written c.args.sink.now) (g.K.Sink.written c.args.sink.now))
    (sym c.in-Left.is) (emits_nothing _ _)
