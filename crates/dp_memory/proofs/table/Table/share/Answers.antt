use Rattle.std.proofs.Common.{map, ap, ◌∙◌}
use Rattle.dp_memory.specs.Piece.{pages_of}
use Rattle.dp_memory.proofs.Held.{held_same}
use Rattle.dp_memory.proofs.table.Table.share.Goals as goal

pub returns-in_err-freeze_all-clause-same : goal.returns-in_err-freeze_all-clause-same
returns-in_err-freeze_all-clause-same c =
    held_same pages_of c.args.self.now.groups.own.items c.freeze_all.new.groups.items c.args.self.now.groups.shared c.freeze_all.ensures

pub returns-in_err-groups-clause-same : goal.returns-in_err-groups-clause-same
returns-in_err-groups-clause-same c =
    ap (map pages_of) c.share.ensures.same
    ∙ held_same pages_of c.args.self.now.groups.own.items c.freeze_all.new.groups.items c.args.self.now.groups.shared c.freeze_all.ensures

pub returns-clause-ok : goal.returns-clause-ok
returns-clause-ok c =
    ap (map pages_of) c.in_ok-groups.ensures.ok
    ∙ held_same pages_of c.args.self.now.groups.own.items c.freeze_all.new.groups.items c.args.self.now.groups.shared c.freeze_all.ensures

pub returns-clause-same : goal.returns-clause-same
returns-clause-same c =
    ap (map pages_of) c.share.ensures.same
    ∙ held_same pages_of c.args.self.now.groups.own.items c.freeze_all.new.groups.items c.args.self.now.groups.shared c.freeze_all.ensures
