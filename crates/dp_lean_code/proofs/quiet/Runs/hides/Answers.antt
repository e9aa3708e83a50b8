use Rattle.std.proofs.Common.{◌∙◌, ◌&&◌, ◌==◌, sym, ap, arith}
use Rattle.dp_tree.specs.Eval.{first_cell}
use Rattle.dp_lean_code.proofs.RunLists.{hides_found, hides_past, hides_over}
use Rattle.dp_lean_code.proofs.quiet.Runs.hides.Goals.{else-is_home-via-then-is_home+else-is_at, else-is_home-via-else-is_home}
use Rattle.dp_lean_code.proofs.quiet.Runs.hides.Goals as goal

pub returns-then-is_at : goal.returns-then-is_at
returns-then-is_at c =
    hides_found c.args.self.program.now c.args.self.plan.now c.args.stage c.args.cell.0 c.args.self.homes.now c.loop-place.place
    c.loop-place.invariant _ (omega arith)
    (sym c.is_home.ensures ∙ c.if-is_home.true) (sym c.is_at.ensures ∙ c.if-is_at.true)

pub loop-place-preserved : goal.loop-place-preserved
loop-place-preserved c =
    hides_past c.args.self.program.now c.args.self.plan.now c.args.stage c.args.cell.0 c.args.self.homes.now c.loop-place.place
    c.loop-place.invariant _ (omega arith)
    (ap (λ b. b && (first_cell c.args.self.program.now (record { 0 = c.loop-place.place }) == c.args.cell.0)) (sym c.is_home.ensures)
    ∙ elim c.else-is_home.branch [
      | else-is_home-via-then-is_home+else-is_at w ↦ ap (λ b. b && (first_cell c.args.self.program.now (record { 0 = c.loop-place.place }) == c.args.cell.0))
          w.if-is_home.true ∙ (sym w.is_at.ensures ∙ w.if-is_at.false)
      | else-is_home-via-else-is_home w ↦
          ap (λ b. b && (first_cell c.args.self.program.now (record { 0 = c.loop-place.place }) == c.args.cell.0)) w.if-is_home.false
    ])

pub returns : goal.returns
returns c = hides_over c.args.self.program.now c.args.self.plan.now c.args.stage c.args.cell.0 c.args.self.homes.now c.loop-place.place
    c.loop-place.invariant (omega arith)
