use Rattle.std.proofs.Common.{◌∙◌, sym, subst, map}
use Rattle.dp_columns.specs.Paired.{pair_store}
use Rattle.dp_lean_turn.proofs.Puts.{keeps_blocks}
use Rattle.dp_lean_turn.specs.Told.{Grown}
use Rattle.dp_lean_turn.specs.declared.Teller.{Teller}
use Rattle.dp_lean_turn.proofs.Growing.{block_ends, stays}
use Rattle.dp_lean_turn.proofs.Teller.finish_block.Goals as goal
use Rattle.dp_lean_turn.proofs.Teller.finish_block.Goals.{in-Nothing, in-Block+in_ok-put_block-in-Block}

pub put_block-requires : goal.put_block-requires
put_block-requires c = keeps_blocks c.args.self.now.own.kinds c.args.self.now.log.place (sym c.requires.kind ∙ c.in-Block.is)

pub returns-clause-grown : goal.returns-clause-grown
returns-clause-grown c = elim c.match-kind.branch [
  | in-Nothing w ↦ subst (λ (t : Teller). Grown c.args.self.now.own t.own) (sym w.self-is) (stays c.args.self.now.own)
  | in-Block+in_ok-put_block-in-Block w ↦ subst (λ (t : Teller). Grown c.args.self.now.own t.own) (sym w.self-is)
      (subst (Grown c.args.self.now.own) (sym w.in_ok-put_block-in-Block.ensures.ok)
      (block_ends c.args.self.now.log.place (map pair_store w.as_slice.result.now) c.args.self.now.own))
]
