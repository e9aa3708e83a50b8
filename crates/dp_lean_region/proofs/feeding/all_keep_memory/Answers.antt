use Rattle.std.proofs.Common.{◌≡◌, sym, ap, ◌∙◌, arith, ◌+◌, ◌<◌, length}
use Rattle.dp_lean_epoch.specs.Steps.{keeps_memory}
use Rattle.dp_lean_region.specs.steps.Fed.{keeps_among}
use Rattle.dp_lean_region.proofs.AllOver.{all_next, all_fails}
use Rattle.dp_lean_region.proofs.FedBy.{keeps_is}
use Rattle.dp_lean_region.proofs.feeding.all_keep_memory.Goals as goal

pub loop-place-preserved : goal.loop-place-preserved
loop-place-preserved c =
    let p = c.args.program.now in let plan = c.args.plan.now in let place = c.loop-place.place in
    let many = c.in_ok-count.ensures in let here = c.loop-place-test.true in
    let below : place < length plan.stages = omega (arith, here, many) in
    let from : 1 + place ≡ place + 1 = omega arith in
    let among : keeps_among p plan c.args.tables.now (place + 1) c.as_slice.result.now ≡ keeps_memory p plan (place + 1) =
    ap (keeps_among p plan c.args.tables.now (place + 1)) (c.as_slice.ensures ∙ c.in_ok-stores.ensures)
    ∙ keeps_is p plan c.requires.inlined c.requires.fits c.args.tables.now c.requires.known (place + 1) (omega arith) (omega (arith, below)) in
    all_next (keeps_memory p plan) 1 place (length plan.stages) _ below
    (ap (keeps_memory p plan) from ∙ sym among ∙ sym c.keeps_memory.ensures ∙ c.if-not-keeps_memory.false) c.loop-place.invariant

pub returns-then-not-keeps_memory : goal.returns-then-not-keeps_memory
returns-then-not-keeps_memory c =
    let p = c.args.program.now in let plan = c.args.plan.now in let place = c.loop-place.place in
    let many = c.in_ok-count.ensures in let here = c.loop-place-test.true in
    let below : place < length plan.stages = omega (arith, here, many) in
    let from : 1 + place ≡ place + 1 = omega arith in
    let among : keeps_among p plan c.args.tables.now (place + 1) c.as_slice.result.now ≡ keeps_memory p plan (place + 1) =
    ap (keeps_among p plan c.args.tables.now (place + 1)) (c.as_slice.ensures ∙ c.in_ok-stores.ensures)
    ∙ keeps_is p plan c.requires.inlined c.requires.fits c.args.tables.now c.requires.known (place + 1) (omega arith) (omega (arith, below)) in
    all_fails (keeps_memory p plan) 1 place (length plan.stages) _ below
    (ap (keeps_memory p plan) from ∙ sym among ∙ sym c.keeps_memory.ensures ∙ c.if-not-keeps_memory.true) c.loop-place.invariant
