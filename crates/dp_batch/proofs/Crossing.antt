-- A prepared program may be lent to several threads: each type that holds a program, from the innermost on.
use denote.Param.Send.{IsSync, sendable, recorded_sync}
use denote.Ref.{NamedLft}
use Rattle.std.proofs.Crossing as crossing
use Rattle.dp_room.proofs.row.Row.TheSendSync as row
use Rattle.dp_pipeline.proofs.Crossing.{program_sync, tables_sync}
use Rattle.dp_prepared.specs.contracts.region.PreparedRegion as Region
use Rattle.dp_prepared.specs.contracts.region.PreparedRegion.TheInside as RegionInside
use Rattle.dp_run_plan.proofs.Crossing.{region_sync as run_region_sync}
use Rattle.dp_run.specs.contracts.prepared.PreparedProgram as Prepared
use Rattle.dp_run.specs.contracts.prepared.PreparedProgram.TheInside as PreparedInside

region_field_sync : (a : NamedLft) → IsSync (RegionInside.the_field a).row
region_field_sync a = let t = tables_sync a in search (sendable) depth 60 fits 20000

region_inside_sync : (a : NamedLft) → IsSync (RegionInside.the_row a)
region_inside_sync a = recorded_sync (RegionInside.the_field a).row _ _ (RegionInside.the_type a).to_one (region_field_sync a)

region_sync : (a : NamedLft) → IsSync (Region.the_row a)
region_sync a = let k = region_inside_sync a in search (sendable) depth 60 fits 20000

prepared_field_sync : (a : NamedLft) → IsSync (PreparedInside.the_field a).row
prepared_field_sync a = let p = program_sync in let r = run_region_sync region_sync a in search (row.the_sync, crossing.crosses, sendable) depth 60 fits 20000

prepared_inside_sync : (a : NamedLft) → IsSync (PreparedInside.the_row a)
prepared_inside_sync a = recorded_sync (PreparedInside.the_field a).row _ _ (PreparedInside.the_type a).to_one (prepared_field_sync a)

pub prepared_sync : (a : NamedLft) → IsSync (Prepared.the_row a)
prepared_sync a = let k = prepared_inside_sync a in search (sendable) depth 60 fits 20000
