use Rattle.std.proofs.Common.{arith, ◌+◌, ◌≤◌}
use Rattle.dp_epoch.specs.declared.ends.EpochEnd.{EpochEnd}
use Rattle.dp_epoch.specs.declared.ledger.Ledger.{Ledger}
use Rattle.dp_epoch.specs.Applied.{steps_left}
use Rattle.dp_crew.specs.EpochRan.{made_at_least}
use Rattle.dp_crew.proofs.Answering.{err_ok, if_ok}
use Rattle.dp_crew.proofs.EpochRuns.{joined, stops_so}
use Rattle.dp_crew.proofs.begun.run_behind.Goals as goal

pub run_own_epoch-requires-clause-fuel : goal.run_own_epoch-requires-clause-fuel
run_own_epoch-requires-clause-fuel g c =
    let b = c.requires.epoch.1 in
    let there = (c.in_ok-followed.ensures.followed.ends c.requires.epoch.0 b).progress.holds.fuel in
    let here = b.at_epoch.progress.holds.fuel in
    let low = c.requires.fuel in
    omega (arith, there, here, low)

pub run_own_epoch-requires-clause-sink : goal.run_own_epoch-requires-clause-sink
run_own_epoch-requires-clause-sink g c =
    let same = c.in_ok-followed.ensures.followed.faults_are in
    let low = c.requires.sink in
    omega (arith, same, low)

pub run_own_epoch-requires-clause-epoch : goal.run_own_epoch-requires-clause-epoch
run_own_epoch-requires-clause-epoch g c κs within =
    let b = c.requires.epoch.1 in
    (c.requires.epoch.0, record { at_epoch = c.in_ok-followed.ensures.followed.ends c.requires.epoch.0 b; program_is = b.program_is; input_is = b.input_is })

pub run_own_epoch-requires-clause-room : goal.run_own_epoch-requires-clause-room
run_own_epoch-requires-clause-room g c κs within = c.in_ok-followed.ensures.followed.room

pub returns-in_err-followed-clause-ran : goal.returns-in_err-followed-clause-ran
returns-in_err-followed-clause-ran g c = stops_so _ _ _ _ _ _ _ _ _ _ c.in_err-followed.ensures.followed c.from_residual.result c.from_residual.ensures.1

pub returns-clause-ran : goal.returns-clause-ran
returns-clause-ran g c = joined _ _ _ _ _ _ _ _ _ _ _ _ _ _ c.in_ok-followed.ensures.followed
    (λ first b e. record { at_epoch = e; program_is = b.program_is; input_is = b.input_is }) c.run_own_epoch.result c.run_own_epoch.ensures.ran

pub returns-clause-falls : goal.returns-clause-falls
returns-clause-falls g c =
    let left = c.in_ok-followed.ensures.followed.left in
    if_ok c.run_own_epoch.result
    (λ (r : Ledger × EpochEnd). steps_left r.0.committed + made_at_least r.1 ≤ steps_left c.in_ok-followed.followed.committed)
    (λ (r : Ledger × EpochEnd). steps_left r.0.committed + made_at_least r.1 ≤ steps_left c.args.ledger.committed)
    (λ r less. omega (arith, less, left)) c.run_own_epoch.ensures.falls

pub returns-in_err-followed-clause-falls : goal.returns-in_err-followed-clause-falls
returns-in_err-followed-clause-falls g c = err_ok c.from_residual.result _ c.from_residual.ensures.0
