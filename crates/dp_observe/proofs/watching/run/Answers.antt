-- Each way out of the loop, and one step more.
use Rattle.std.proofs.Common.{sym, subst, List, ℕ}
use Rattle.dp_base.specs.declared.End.TheVariants as how
use Rattle.dp_meaning.specs.Watched.{Watches}
use Rattle.dp_observe.proofs.RunLemmas.{running_none, running_step, running_ends}
use Rattle.dp_observe.proofs.watching.run.Goals as goal

pub loop-loads-init : goal.loop-loads-init
loop-loads-init c = record { so = running_none c.args.machine.now c.args.board.now }

pub returns-in-Finished : goal.returns-in-Finished
returns-in-Finished c = running_ends c.args.machine.now c.loop-loads.machine c.watch.new.self c.args.board.now c.loop-loads.board how.Done
    c.loop-loads.invariant.so (rw c.in-Finished.is at c.in_ok-watch.ensures.ok)

pub returns-in-Fuel : goal.returns-in-Fuel
returns-in-Fuel c = running_ends c.args.machine.now c.loop-loads.machine c.watch.new.self c.args.board.now c.loop-loads.board how.Fuel c.loop-loads.invariant.so
    (rw c.in-Fuel.is at c.in_ok-watch.ensures.ok)

pub returns-in-Fault : goal.returns-in-Fault
returns-in-Fault c = running_ends c.args.machine.now c.loop-loads.machine c.watch.new.self c.args.board.now c.loop-loads.board (how.Fault c.in-Fault.fault)
    c.loop-loads.invariant.so (rw c.in-Fault.is at c.in_ok-watch.ensures.ok)

pub loop-loads-preserved : goal.loop-loads-preserved
loop-loads-preserved c =
    let step : Watches c.in-Step.site c.in-Step.effect c.watch.new.loads.cells c.loop-loads.machine c.watch.new.self = rw c.in-Step.is at
    c.in_ok-watch.ensures.ok in
    let told : Watches c.in-Step.site c.in-Step.effect c.as_slice.result.now c.loop-loads.machine c.watch.new.self =
    subst (λ (cells : List ℕ). Watches c.in-Step.site c.in-Step.effect cells c.loop-loads.machine c.watch.new.self) (sym c.as_slice.ensures) step in
    record {
      so = running_step c.args.machine.now c.loop-loads.machine c.watch.new.self c.args.board.now c.loop-loads.board c.note.new.self c.in-Step.site
          c.in-Step.effect c.as_slice.result.now c.steps.result c.loop-loads.invariant.so
          told c.steps.ensures.value c.in_ok-note-in-Step.ensures;
    }
