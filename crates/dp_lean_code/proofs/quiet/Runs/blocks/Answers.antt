use Rattle.std.proofs.Common.{◌≡◌, ◌+◌, ◌<◌, ◌≤◌, ◌++◌, List, ℕ, length, get_or, drop, sym, ap, subst, ◌∙◌, arith}
use Rattle.std.specs.List.{flat_map}
use Rattle.std.proofs.Math.ListN.{drop_of_length-le}
use Rattle.dp_tree.specs.declared.Stmt.{Stmt}
use Rattle.dp_plan.specs.Access.{region_statement}
use Rattle.dp_lean_code.specs.steps.Runs.{region_counts}
use Rattle.dp_lean_code.proofs.CountLists.{in_region, region_next, region_past, region_over}
use Rattle.dp_lean_code.proofs.quiet.Runs.blocks.Goals.{then-is_region+in_ok-ask+in_ok-put_inner, else-is_region}
use Rattle.dp_lean_code.proofs.quiet.Runs.blocks.Goals as goal

pub loop-statement-preserved : goal.loop-statement-preserved
loop-statement-preserved c =
    let p = c.args.self.program.now in let plan = c.args.self.plan.now in let homes = c.args.self.homes.now in
    let all = p.main in let i = c.loop-statement.statement-index in let x = c.statement-item.result in
    let whole = flat_map (region_counts p plan homes) (region_statement p plan) in
    let same : c.as_slice-statement-items.result.now ≡ c.args.self.program.now.main = c.as_slice-statement-items.ensures in
    let below : c.loop-statement.statement-index < length c.args.self.program.now.main = let e = ap length same in omega (arith, e) in
    let is : c.statement-item.result ≡ get_or c.args.self.program.now.main c.loop-statement.statement-index c.statement-item.result =
    c.statement-item.is ∙ ap (λ (xs : List Stmt). get_or xs i x) same in
    elim c.if-is_region.branch [
      | then-is_region+in_ok-ask+in_ok-put_inner w ↦
          region_next p plan homes all i x below is c.loop-statement.blocks whole c.loop-statement.invariant _ c.if-is_region.blocks (sym c.is_region.ensures
          ∙ w.if-is_region.true)
          w.in_ok-ask.ensures (w.blocks-is ∙ w.in_ok-put_inner.ensures)
      | else-is_region w ↦
          subst (λ (out : List ℕ). out ++ in_region p plan homes (drop (i + 1) all) ≡ whole) (sym w.blocks-is)
          (region_past p plan homes all i x below is c.loop-statement.blocks whole c.loop-statement.invariant (sym c.is_region.ensures ∙ w.if-is_region.false))
    ]

pub returns : goal.returns
returns c =
    let p = c.args.self.program.now in let plan = c.args.self.plan.now in let homes = c.args.self.homes.now in
    let over : length c.args.self.program.now.main ≤ c.loop-statement.statement-index = let e = ap length c.as_slice-statement-items.ensures in
    omega (arith, e) in
    region_over p plan homes (drop c.loop-statement.statement-index p.main) c.loop-statement.blocks _ c.loop-statement.invariant (drop_of_length-le p.main over)
