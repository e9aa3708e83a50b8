use Rattle.std.proofs.Common.{sym, subst, map}
use Rattle.dp_columns.specs.Paired.{pair_load}
use Rattle.dp_lean_turn.specs.Told.{Grown}
use Rattle.dp_lean_turn.proofs.Growing.{grown_then, loads_end}
use Rattle.dp_lean_turn.proofs.Teller.put.Goals as goal

pub returns-in_ok-put_loads-clause-grown : goal.returns-in_ok-put_loads-clause-grown
returns-in_ok-put_loads-clause-grown c =
    grown_then c.args.self.now.own c.put_done.new.own c.put_loads.new.self c.put_done.ensures.grown
    (subst (Grown c.put_done.new.own) (sym c.in_ok-put_loads.ensures.ok)
    (loads_end c.args.note.now.place (map pair_load c.as_slice.result.now) c.put_done.new.own))
