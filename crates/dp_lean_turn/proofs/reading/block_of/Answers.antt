use Rattle.std.proofs.Common.{◌∙◌, sym}
use Rattle.dp_lean_turn.proofs.Puts.{keeps_blocks}
use Rattle.dp_lean_turn.proofs.reading.block_of.Goals as goal

pub next_block-requires : goal.next_block-requires
next_block-requires c = keeps_blocks c.args.reader.now.kinds c.args.place (sym c.requires.kind ∙ c.in-Block.is)
