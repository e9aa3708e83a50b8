use Rattle.std.proofs.Common.{◌≡◌, ◌+◌, ◌<◌, ◌≤◌, ◌++◌, List, length, get_or, drop, refl, sym, ap, ◌∙◌, append-nil, arith}
use Rattle.std.proofs.Math.ListN.{drop_of_length-le}
use Rattle.dp_tree.specs.declared.Stmt.{Stmt}
use Rattle.dp_lean_code.specs.steps.Looked.{known_of}
unfoldable use Rattle.dp_lean_kinds.specs.steps.Read.{stage_read}
use Rattle.dp_lean_kinds.proofs.ReadAppended.{in_region, region_more, region_skip}
use Rattle.dp_lean_kinds.proofs.reads.Reading.region.Goals.{then-is_region+in_ok-statement, else-is_region}
use Rattle.dp_lean_kinds.proofs.reads.Reading.region.Goals as goal

pub loop-statement-init : goal.loop-statement-init
unfolding stage_read
loop-statement-init c = refl

pub loop-statement-preserved : goal.loop-statement-preserved
loop-statement-preserved c =
    let p = c.args.self.stage.program.now in let plan = c.args.self.stage.plan.now in let s = c.args.self.stage.number in
    let k = known_of p plan c.args.self.stage.tables.now s in
    let all = p.main in let i = c.loop-statement.statement-index in let x = c.statement-item.result in
    let same : c.as_slice-statement-items.result.now ≡ c.args.self.stage.program.now.main = c.as_slice-statement-items.ensures in
    let below : c.loop-statement.statement-index < length c.args.self.stage.program.now.main = let e = ap length same in omega (arith, e) in
    let is : c.statement-item.result ≡ get_or c.args.self.stage.program.now.main c.loop-statement.statement-index c.statement-item.result =
    c.statement-item.is ∙ ap (λ (xs : List Stmt). get_or xs i x) same in
    elim c.if-is_region.branch [
      | then-is_region+in_ok-statement w ↦
          region_more p plan s k all i x c.loop-statement.out _ c.loop-statement.invariant below is c.if-is_region.out (sym c.is_region.ensures
          ∙ w.if-is_region.true) (w.out-is ∙ w.in_ok-statement.ensures)
      | else-is_region w ↦
          ap (λ (out : List _). out ++ in_region p plan s k (drop (i + 1) all)) w.out-is
          ∙ region_skip p plan s k all i x c.loop-statement.out _ c.loop-statement.invariant below is (sym c.is_region.ensures ∙ w.if-is_region.false)
    ]

pub returns : goal.returns
returns c =
    let p = c.args.self.stage.program.now in let plan = c.args.self.stage.plan.now in let s = c.args.self.stage.number in
    let k = known_of p plan c.args.self.stage.tables.now s in
    let over : length c.args.self.stage.program.now.main ≤ c.loop-statement.statement-index = let e = ap length c.as_slice-statement-items.ensures in
    omega (arith, e) in
    sym (append-nil c.loop-statement.out) ∙ ap (λ (xs : List Stmt). c.loop-statement.out ++ in_region p plan s k xs) (sym (drop_of_length-le p.main over))
    ∙ c.loop-statement.invariant
