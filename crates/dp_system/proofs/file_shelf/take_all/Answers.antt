use Rattle.std.proofs.Common.{sym, subst, rules}
use Rattle.std.specs.Io.KnownBytes.{Consumes}
use Rattle.std.proofs.KnownBytes.{Consumes-trans, starts_with_rest}
use Rattle.dp_system.proofs.file_shelf.take_all.Goals as goal

pub turns-preserved : goal.turns-preserved
turns-preserved g c = (
  search rules,
  subst (Consumes _ _) (sym (starts_with_rest _ _ c.in_ok-take_block.ensures.appends)) (Consumes-trans _ _ _ _ _ c.turns.invariant.1
      c.in_ok-take_block.ensures.bytes),
)
