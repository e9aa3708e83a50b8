use Rattle.std.proofs.Common.{◌∙◌, ap, subst, suc, sym}
use Rattle.dp_lean_epoch.specs.Coming.{LeanStands}
use Rattle.dp_lean_region.specs.LeanEpoch.{epoch_marks, begin_in}
use Rattle.dp_lean_machine.proofs.Over.{begins, can_over, left_so}
use Rattle.dp_lean_machine.proofs.running.run_over.Goals as goal

pub run_all-ran-requires-clause-can : goal.run_all-ran-requires-clause-can
run_all-ran-requires-clause-can g c =
    can_over c.args.stage c.args.desk.own.columns.kinds c.args.earlier.now c.requires.can c.first_turn-turn.result
    (ap (λ t. t.teller.own) c.first_turn-turn.ensures ∙ c.cleared-columns.ensures.columns)
    (ap (λ t. t.readers) c.first_turn-turn.ensures ∙ c.in-Ok.ensures)

pub returns-clause-done : goal.returns-clause-done
returns-clause-done g c e s b ends like is runs comes stands =
    left_so g.M.Memory.cells e s b c.run_all-ran.new.turn c.run_all-ran.new.steps c.run_all-ran.result c.left.result.ran c.left.result.desk.own
    c.left.result.memory
    c.left.ensures.ran c.left.ensures.memory c.left.ensures.own
    (c.run_all-ran.ensures.ran e s b ends like is runs
    (begins g.M.Memory.cells e s b c.args.came.iterations c.args.stage runs c.args.desk.own.columns.kinds c.requires.can.own_is
    c.args.earlier.now comes c.first_turn-turn.result
    (subst (λ m. LeanStands (epoch_marks e) e.key (suc s) (begin_in e b) (g.M.Memory.cells m)) (sym (ap (λ t. t.memory) c.first_turn-turn.ensures)) stands)
    (ap (λ t. t.teller.own) c.first_turn-turn.ensures ∙ c.cleared-columns.ensures.columns)
    (ap (λ t. t.readers) c.first_turn-turn.ensures ∙ c.in-Ok.ensures) c.cleared-columns.result.steps c.cleared-columns.ensures.steps))
