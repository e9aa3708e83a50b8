use Rattle.std.proofs.Common.{sym, ◌∙◌, pos}
use Rattle.std.proofs.lemmas.List.{get_or_past}
use Rattle.dp_engine.proofs.MemoryLemmas.{nothing_there}
use Rattle.dp_engine.proofs.memory.number.Goals as goal

pub returns-in-None : goal.returns-in-None
returns-in-None c = sym (get_or_past c.args.version.now c.args.cell (pos 0) (nothing_there c.args.version.now c.args.cell (sym c.in-None.is ∙ c.find.ensures)))
