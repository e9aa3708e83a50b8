use Rattle.dp_semantics.proofs.Names.{◌≤◌, length, sym, subst, Plan}
use Rattle.dp_lean_machine.proofs.Passing.{base_keeps}
use Rattle.dp_lean_machine.proofs.machine.LeanMachine.new.Goals as goal

pub returns-clause-begins : goal.returns-clause-begins
returns-clause-begins c e is plan within stands = record {
  epoch = is;
  some = c.requires;
  within = subst (λ (p : Plan). c.args.stage ≤ length p.stages) (sym plan) within;
  keeps = base_keeps e c.args.plan.now c.args.stage c.args.base.now c.in_ok-kept.kept plan c.in_ok-kept.ensures stands;
}
