use Rattle.std.proofs.Common.{sym, ◌∙◌}
use Rattle.std.proofs.lemmas.List.{set_past}
use Rattle.dp_engine.proofs.MemoryLemmas.{nothing_there}
use Rattle.dp_engine.proofs.memory.put_version.Goals as goal

pub returns-in-None-clause-ok : goal.returns-in-None-clause-ok
returns-in-None-clause-ok c =
    sym (set_past c.args.version.now c.args.cell c.args.value (nothing_there c.args.version.now c.args.cell (sym c.in-None.is ∙ c.find.ensures)))
