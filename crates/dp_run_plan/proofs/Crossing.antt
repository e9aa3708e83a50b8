-- A region that may be run under two plans may be lent to several threads, where a prepared region may.
use denote.Param.Send.{IsSync, sendable, recorded_sync}
use denote.Ref.{NamedLft}
use Rattle.dp_prepared.specs.contracts.region.PreparedRegion as Prepared
use Rattle.dp_run_plan.specs.contracts.region.RunRegion as Region
use Rattle.dp_run_plan.specs.contracts.region.RunRegion.TheInside as RegionInside

module _ (prepared_sync : (a : NamedLft) → IsSync (Prepared.the_row a)) where
  region_field_sync : (a : NamedLft) → IsSync (RegionInside.the_field a).row
  region_field_sync a = let p = prepared_sync a in search (sendable) depth 60 fits 20000

  region_inside_sync : (a : NamedLft) → IsSync (RegionInside.the_row a)
  region_inside_sync a = recorded_sync (RegionInside.the_field a).row _ _ (RegionInside.the_type a).to_one (region_field_sync a)

  pub region_sync : (a : NamedLft) → IsSync (Region.the_row a)
  region_sync a = let k = region_inside_sync a in search (sendable) depth 60 fits 20000
