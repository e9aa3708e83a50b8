use Rattle.std.proofs.Common.{◌∙◌, ap, map, length, List, ℕ, ℤ, arith}
use Rattle.std.proofs.lemmas.List.{length-map}
use Rattle.dp_view.specs.Memories.{refreshed}
use Rattle.dp_view.proofs.StageLemmas.{changed-length, changed_all, map_at}
use Rattle.dp_view.proofs.shares.refresh_all.Goals as goal

pub returns : goal.returns
returns c =
    let f : List ℤ → List ℤ = λ view. refreshed c.args.from.now c.args.locals.now c.args.since.now view in
    let size = changed-length (λ (place : ℕ) (view : List ℤ). f view) c.loop-place.place c.args.views.now in
    let same = ap length c.loop-place.invariant in
    c.loop-place.invariant
    ∙ changed_all (λ (place : ℕ) (view : List ℤ). f view) c.loop-place.place c.args.views.now (map f c.args.views.now)
    (omega (arith, c.loop-place-test.false, size, same))
    (length-map c.args.views.now f) (λ j h. map_at f c.args.views.now j h)
