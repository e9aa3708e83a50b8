use Rattle.dp_semantics.specs.EpochKey.{EpochKey}
use Rattle.dp_theorem.proofs.Fitting.{accepted}
use Rattle.dp_net.specs.NetItems.{Marks}
use Rattle.dp_lean_epoch.specs.Laws.{FreshBatch, BatchesAre}
use Rattle.dp_lean_epoch.proofs.Extending.{fresh_batch, batches_extend, batches_are}
use Rattle.dp_lean_epoch.proofs.Queueing.{batches_come}
use Rattle.dp_lean_epoch.proofs.Caps.{in_epochs}
use Rattle.dp_lean_epoch.proofs.law.batches_extend.Goals as goal

pub returns-clause-fresh : goal.returns-clause-fresh
returns-clause-fresh c = λ kept. in_epochs (λ (m : Marks) (key : EpochKey). FreshBatch m key kept) c.args.p.now c.args.plan.now c.requires.fits
    (λ key fits pays. fresh_batch _ key kept (accepted key.program key.plan fits))

pub returns-clause-extend : goal.returns-clause-extend
returns-clause-extend c = batches_extend

pub returns-clause-come : goal.returns-clause-come
returns-clause-come c = batches_come

pub returns-clause-are : goal.returns-clause-are
returns-clause-are c = λ kept kinds. in_epochs (λ (m : Marks) (key : EpochKey). BatchesAre m key kept kinds) c.args.p.now c.args.plan.now c.requires.fits
    (λ key fits pays. batches_are _ key kept (accepted key.program key.plan fits) kinds)
