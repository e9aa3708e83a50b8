use Rattle.std.proofs.Common.{◌≡◌, drop}
use Rattle.dp_lean_region.specs.steps.Fed.{feeds_among}
use Rattle.dp_lean_region.proofs.feeding.feeds_itself.Given as goal

abbrev pub invariant-loop-store : goal.invariant-loop-store
invariant-loop-store l =
    feeds_among l.stage.program.now l.stage.plan.now l.stage.tables.now l.stage.number (drop l.store-index l.stores)
    ≡ feeds_among l.stage.program.now l.stage.plan.now l.stage.tables.now l.stage.number l.stores
