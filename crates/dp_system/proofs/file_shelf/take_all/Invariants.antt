-- Each turn appends what the file loses.
use Rattle.std.proofs.Common.{◌≤◌, ◌-◌, vec_len}
use Rattle.std.specs.Io.KnownBytes.{Consumes}
use Rattle.dp_system.proofs.file_shelf.take_all.Given as goal

abbrev pub invariant-turns : goal.invariant-turns
invariant-turns g l =
    (vec_len l.bytes ≤ l.limit) × Consumes (g.F.Read.remaining l.initial.file) (g.F.Read.remaining l.file) l.bytes.items

abbrev pub decreases-turns : goal.decreases-turns
decreases-turns g l = l.limit - vec_len l.bytes
