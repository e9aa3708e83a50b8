use Rattle.std.proofs.Common.{◌≡◌, ◌∙◌, ◌++◌, sym, subst, List}
use Rattle.dp_tree.specs.declared.Stmt.{Stmt}
use Rattle.dp_lean_code.specs.steps.Looked.{known_of}
use Rattle.dp_lean_kinds.specs.steps.Read.{block_read}
use Rattle.dp_lean_kinds.proofs.ReadAppended.{block_put}
use Rattle.dp_lean_kinds.proofs.reads.Reading.block.Goals as goal

pub returns-in_ok-put_sites : goal.returns-in_ok-put_sites
returns-in_ok-put_sites c =
    let p = c.args.self.stage.program.now in let plan = c.args.self.stage.plan.now in let s = c.args.self.stage.number in
    let k = known_of p plan c.args.self.stage.tables.now s in
    subst (λ (block : List Stmt). c.put_sites.new.out ≡ c.args.out.now ++ block_read p plan s k c.args.site block) c.front-block.ensures
    (block_put p plan s k c.args.site c.front-block.result.now c.args.out.now _ (sym c.keeps.ensures ∙ c.if-keeps.true) c.in_ok-put_sites.ensures)
