use Rattle.std.proofs.Common.{◌≡◌, ◌∙◌, ◌++◌, sym, subst, length, List}
use Rattle.dp_tree.specs.declared.Stmt.{Stmt}
use Rattle.dp_lean_code.specs.steps.Looked.{known_of}
use Rattle.dp_lean_code.specs.steps.Walked.{block_part}
use Rattle.dp_lean_code.proofs.WalkForms.{block_own}
use Rattle.dp_lean_code.proofs.stage.LeanStage.block.Goals as goal

pub returns-in_ok-push-2 : goal.returns-in_ok-push-2
returns-in_ok-push-2 c =
    let p = c.args.self.program.now in let plan = c.args.self.plan.now in let s = c.args.self.number in let k = known_of p plan c.args.self.tables.now s in
    subst (λ (block : List Stmt). c.push-then-owns.new.self ≡ c.args.ops.now ++ block_part p plan s k c.args.site block (length c.args.ops.now))
    c.front-block.ensures
    (block_own p plan s k c.args.site c.front-block.result.now c.args.ops.now _ _ _ (sym c.reaches.ensures ∙ c.if-not-reaches.false)
    (sym c.owns.ensures ∙ c.if-owns.true)
    c.in_ok-push.ensures.ok c.in_ok-silent.ensures c.in_ok-push-2.ensures.ok)
