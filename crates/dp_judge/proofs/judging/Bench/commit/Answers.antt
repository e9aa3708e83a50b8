use Rattle.std.proofs.Common.{refl, ap, ◌∙◌}
use Rattle.dp_lean_judge.specs.Collecting.{undone}
use Rattle.dp_lean_judge.specs.declared.collected.Collected.{Collected}
use Rattle.dp_judge.proofs.Giving.{cleans_stay}
use Rattle.dp_judge.proofs.judging.Bench.commit.Goals as goal

pub returns-in-Err : goal.returns-in-Err
returns-in-Err c t whole grown begins = record {
  left = refl;
  cells = c.undo.ensures.cells ∙ ap (λ (k : Collected). undone k.before c.args.self.now.cells) c.in-Err.ensures.collected;
  told = c.undo.ensures.cleans ∙ c.in-Err.ensures.same ∙ cleans_stay t c.args.told.now whole grown;
}
