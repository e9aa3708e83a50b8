use Rattle.std.proofs.Common.{◌≡◌, drop, filter, slice_get}
use Rattle.dp_plan.specs.Access.{is_region_at}
use Rattle.dp_sites.proofs.table.first_region.Given as goal

abbrev pub invariant-loop-statement : goal.invariant-loop-statement
invariant-loop-statement l = slice_get (filter (is_region_at l.region) (drop l.statement-index l.all)) 0 ≡ slice_get (filter (is_region_at l.region) l.all) 0
