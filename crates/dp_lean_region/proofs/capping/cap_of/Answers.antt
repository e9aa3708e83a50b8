use Rattle.std.proofs.Common.{sym, ◌∙◌}
use Rattle.dp_lean_region.proofs.Capped.{cap_where}
use Rattle.dp_lean_region.proofs.capping.cap_of.Goals as goal

pub returns-then-all : goal.returns-then-all
returns-then-all c =
    cap_where c.args.program.now c.args.plan.now c.cap_by.result c.cap_by.ensures.some c.cap_by.ensures.most (sym c.in_ok-all.ensures ∙ c.if-all.true)
