use Rattle.std.proofs.Common.{sym}
use Rattle.dp_plan.proofs.Searched.{absent}
use Rattle.dp_audit.proofs.order.has.Goals as goal

pub returns-in-Err : goal.returns-in-Err
returns-in-Err c = sym (absent c.args.ascending.now c.args.number c.in-Err.field-0 c.in-Err.ensures.position c.requires)
