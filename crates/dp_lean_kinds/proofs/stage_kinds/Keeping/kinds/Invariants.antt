use Rattle.std.proofs.Common.{◌≡◌, ◌++◌, drop, map}
use Rattle.dp_lean_kinds.specs.steps.KindAmong.{kind_among}
use Rattle.dp_lean_kinds.proofs.stage_kinds.Keeping.kinds.Given as goal

abbrev pub invariant-loop-site : goal.invariant-loop-site
invariant-loop-site l =
    l.made ++ map (kind_among l.self.stage.program.now l.self.stage.plan.now l.self.stage.tables.now l.self.stage.number l.self.reads.now)
    (drop l.site-index l.sites)
    ≡ map (kind_among l.self.stage.program.now l.self.stage.plan.now l.self.stage.tables.now l.self.stage.number l.self.reads.now) l.sites
