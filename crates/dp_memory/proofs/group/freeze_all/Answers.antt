use Rattle.std.proofs.Common.{ap, ◌∙◌}
use Rattle.std.proofs.Math.Seq.{map-set_same}
use Rattle.std.proofs.lemmas.List.{length-set}
use Rattle.dp_memory.specs.Piece.{pages_of}
use Rattle.dp_memory.proofs.group.freeze_all.Goals as goal

pub returns-in_err-freeze : goal.returns-in_err-freeze
returns-in_err-freeze c = map-set_same pages_of _ _ _ c.index_mut.result.now (c.freeze.ensures ∙ ap pages_of c.index_mut.ensures.value) ∙ c.loop-at.invariant.0

pub loop-at-preserved : goal.loop-at-preserved
loop-at-preserved c = (
  map-set_same pages_of _ _ _ c.index_mut.result.now (c.freeze.ensures ∙ ap pages_of c.index_mut.ensures.value) ∙ c.loop-at.invariant.0,
  length-set _ _ _ ∙ c.loop-at.invariant.1,
)
