use Rattle.std.proofs.Common.{◌≡◌, ◌+◌, ◌<◌, ◌≤◌, ◌++◌, List, length, get_or, drop, sym, ap, subst, ◌∙◌, arith}
use Rattle.std.proofs.Math.ListN.{drop_of_length-le}
use Rattle.dp_tree.specs.declared.Stmt.{Stmt}
use Rattle.dp_plan.specs.Access.{region_statement}
use Rattle.dp_lean_code.specs.declared.LeanOp.{LeanOp}
use Rattle.dp_lean_code.specs.steps.Looked.{known_of}
use Rattle.dp_lean_code.specs.steps.Walked.{regions}
use Rattle.dp_lean_code.proofs.ProgramRight.{walked_code}
use Rattle.dp_lean_code.proofs.RegionWalk.{in_region, region_more, region_skip, region_done}
use Rattle.dp_lean_code.proofs.program.lean_program.Goals.{then-is_region+in_ok-statement, else-is_region}
use Rattle.dp_lean_code.proofs.program.lean_program.Goals as goal

pub loop-statement-preserved : goal.loop-statement-preserved
loop-statement-preserved c =
    let p = c.args.p.now in let plan = c.args.plan.now in let s = c.args.stage in let k = known_of p plan c.args.tables.now s in
    let all = p.main in let i = c.loop-statement.statement-index in let x = c.statement-item.result in
    let same : c.as_slice-statement-items.result.now ≡ c.args.p.now.main = c.as_slice-statement-items.ensures in
    let below : c.loop-statement.statement-index < length c.args.p.now.main = let e = ap length same in omega (arith, e) in
    let is : c.statement-item.result ≡ get_or c.args.p.now.main c.loop-statement.statement-index c.statement-item.result =
    c.statement-item.is ∙ ap (λ (xs : List Stmt). get_or xs i x) same in
    elim c.if-is_region.branch [
      | then-is_region+in_ok-statement w ↦
          region_more p plan s k all i x c.loop-statement.ops c.if-is_region.ops _ c.loop-statement.invariant below is (sym c.is_region.ensures
          ∙ w.if-is_region.true) (w.ops-is ∙ w.in_ok-statement.ensures)
      | else-is_region w ↦
          subst (λ (ops : List LeanOp). ops ++ in_region p plan s k (drop (i + 1) all) (length ops) ≡ regions p plan s k
          (region_statement p plan) 0) (sym w.ops-is)
          (region_skip p plan s k all i x c.loop-statement.ops _ c.loop-statement.invariant below is (sym c.is_region.ensures ∙ w.if-is_region.false))
    ]

pub returns : goal.returns
returns c =
    let p = c.args.p.now in let plan = c.args.plan.now in let s = c.args.stage in let k = known_of p plan c.args.tables.now s in
    let over : length c.args.p.now.main ≤ c.loop-statement.statement-index = let e = ap length c.as_slice-statement-items.ensures in omega (arith, e) in
    region_done p plan s k (drop c.loop-statement.statement-index p.main) c.loop-statement.ops _ _ c.loop-statement.invariant (drop_of_length-le p.main over)
    c.in_ok-push.ensures.ok
    ∙ walked_code p plan c.requires.inlined c.requires.fits c.requires.tabled c.args.tables.now c.requires.known s c.requires.low c.requires.high
