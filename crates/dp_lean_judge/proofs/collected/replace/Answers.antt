use Rattle.std.proofs.Common.{◌∙◌, ap, slice_set, w64, rules}
use Rattle.std.proofs.lemmas.Int.{to_z-of_z}
use mir.Val.{SFits}
use Rattle.dp_lean_judge.proofs.Undoing.{replaced}
use Rattle.dp_lean_judge.proofs.collected.replace.Goals as goal

pub returns-clause-before : goal.returns-clause-before
returns-clause-before c =
    let fits : SFits w64 c.load.result = search rules in
    let fits_value : SFits w64 c.args.value = search rules in
    replaced c.args.before.now c.push.new.self c.args.cell _ c.args.value c.args.cells.now c.set.new.self c.in_ok-push.ensures.ok
    (to_z-of_z w64 c.load.result fits ∙ c.load.ensures) (c.set.ensures ∙ ap (slice_set c.args.cells.now c.args.cell) (to_z-of_z w64 c.args.value fits_value))
