-- What goes from unit to unit may go to another thread: each type that holds a program, from the innermost on.
use denote.Param.Send.{IsSend, IsSync, sendable, recorded_send, recorded_sync}
use denote.Ref.{NamedLft}
use Rattle.std.proofs.Crossing as crossing
use Rattle.std.proofs.alloc.Global.TheSendSync as heap
use Rattle.std.proofs.option.Option.TheSendSync as option
use Rattle.dp_base.proofs.BinOp.TheSendSync as bin
use Rattle.dp_base.proofs.UnOp.TheSendSync as un
use Rattle.dp_base.proofs.SiteId.TheSendSync as site
use Rattle.dp_base.proofs.VarId.TheSendSync as var
use Rattle.dp_room.proofs.boxed.Boxed.TheSendSync as boxed
use Rattle.dp_room.proofs.row.Row.TheSendSync as row
use Rattle.dp_tree.proofs.Expr.TheLaws.TheKnot as expr
use Rattle.dp_tree.proofs.Stmt.TheLaws.TheKnot as stmt
use Rattle.dp_tree.proofs.RegionInfo.TheSendSync as region_info
use Rattle.dp_tree.proofs.SiteInfo.TheSendSync as site_info
use Rattle.dp_tree.proofs.SiteKind.TheSendSync as site_kind
use Rattle.dp_tree.proofs.VarInfo.TheSendSync as var_info
use Rattle.dp_tree.proofs.VarScope.TheSendSync as var_scope
use Rattle.dp_tree.specs.contracts.Function as Function
use Rattle.dp_tree.specs.contracts.Program as Program
use Rattle.dp_plan.proofs.Plan.TheSendSync as plan
use Rattle.dp_base.proofs.CellId.TheSendSync as cell
use Rattle.dp_columns.proofs.ColumnKind.TheSendSync as kind
use Rattle.dp_lean_region.proofs.judging.JudgeMade.TheSendSync as judge_made
use Rattle.dp_lean_region.proofs.stages.StageTables.TheSendSync as stage_tables
use Rattle.dp_lean_region.specs.contracts.region.RegionTables as Region
use Rattle.dp_lean_region.specs.contracts.region.RegionTables.TheInside as RegionInside
use Rattle.dp_lean_region.specs.contracts.line.Line as Line
use Rattle.dp_memory.proofs.version.Version.TheSendSync as version
use Rattle.dp_memory.proofs.version.VersionRoom.TheSendSync as version_room
use Rattle.dp_lean_machine.proofs.batch.StageColumns.TheSendSync as stage_columns
use Rattle.dp_lean_machine.proofs.batch.BatchStatus.TheSendSync as status
use Rattle.dp_lean_machine.specs.contracts.batch.LeanBatch as LeanBatch
use Rattle.dp_judge.proofs.told.ToldBatch.TheSendSync as told
use Rattle.dp_pipeline.specs.contracts.carried.Carried as Carried
use Rattle.dp_pipeline.specs.contracts.judged.Judged as Judged
use Rattle.dp_pipeline.specs.contracts.spare.Spare as Spare

ruleset plain = (
  bin.the_field_sync,
  bin.the_sync,
  bin.the_field_send,
  bin.the_send,
  un.the_field_sync,
  un.the_sync,
  un.the_field_send,
  un.the_send,
  site.the_field_sync,
  site.the_sync,
  site.the_field_send,
  site.the_send,
  var.the_field_sync,
  var.the_sync,
  var.the_field_send,
  var.the_send,
  region_info.the_field_sync,
  region_info.the_sync,
  region_info.the_field_send,
  region_info.the_send,
  site_info.the_field_sync,
  site_info.the_sync,
  site_info.the_field_send,
  site_info.the_send,
  site_kind.the_field_sync,
  site_kind.the_sync,
  site_kind.the_field_send,
  site_kind.the_send,
  var_info.the_field_sync,
  var_info.the_sync,
  var_info.the_field_send,
  var_info.the_send,
  var_scope.the_field_sync,
  var_scope.the_sync,
  var_scope.the_field_send,
  var_scope.the_send,
  heap.the_field_sync,
  heap.the_sync,
  heap.the_field_send,
  heap.the_send,
  crossing.crosses,
  expr.crosses,
  stmt.crosses,
  sendable,
)

pub function_field_sync : IsSync (Function.the_field).row
function_field_sync = search (plain, boxed.the_sync, row.the_sync) depth 60 fits 20000

pub function_sync : IsSync Function.the_row
function_sync = recorded_sync (Function.the_field).row _ _ (Function.the_type).to_one function_field_sync

pub program_field_sync : IsSync (Program.the_field).row
program_field_sync = let f = function_field_sync in let g = function_sync in search (plain, boxed.the_sync, row.the_sync) depth 60 fits 20000

pub program_sync : IsSync Program.the_row
program_sync = recorded_sync (Program.the_field).row _ _ (Program.the_type).to_one program_field_sync

tables_field_sync : (a : NamedLft) → IsSync (RegionInside.the_field a).row
tables_field_sync a = let p = program_sync in let q = program_field_sync in
    search (
      plan.the_sync,
      cell.the_field_sync,
      cell.the_sync,
      kind.the_field_sync,
      kind.the_sync,
      judge_made.the_field_sync,
      judge_made.the_sync,
      stage_tables.the_field_sync,
      stage_tables.the_sync,
      row.the_sync,
      crossing.crosses,
      sendable,
    ) depth 60 fits 20000

tables_inside_sync : (a : NamedLft) → IsSync (RegionInside.the_row a)
tables_inside_sync a = recorded_sync (RegionInside.the_field a).row _ _ (RegionInside.the_type a).to_one (tables_field_sync a)

pub tables_sync : (a : NamedLft) → IsSync (Region.the_row a)
tables_sync a = let k = tables_inside_sync a in search (sendable) depth 60 fits 20000

pub line_field_send : (a : NamedLft) → IsSend (Line.the_field a).row
line_field_send a = let t = tables_sync a in search (sendable) depth 60 fits 20000

pub line_send : (a : NamedLft) → IsSend (Line.the_row a)
line_send a = recorded_send (Line.the_field a).row _ _ (Line.the_type a).to_one (line_field_send a)

pub batch_field_send : (a : NamedLft) → IsSend (LeanBatch.the_field a).row
batch_field_send a = let l = line_send a in let f = line_field_send a in
    search (
      status.the_field_send,
      status.the_send,
      stage_columns.the_field_send,
      stage_columns.the_send,
      row.the_send,
      option.the_send,
      version.the_send,
      version_room.the_send,
      sendable,
    ) depth 60 fits 20000

pub batch_send : (a : NamedLft) → IsSend (LeanBatch.the_row a)
batch_send a = recorded_send (LeanBatch.the_field a).row _ _ (LeanBatch.the_type a).to_one (batch_field_send a)

pub carried_field_send : (a : NamedLft) → IsSend (Carried.the_field a).row
carried_field_send a = let b = batch_send a in let f = batch_field_send a in search (told.the_send, boxed.the_send, sendable) depth 60 fits 20000

pub carried_send : (a : NamedLft) → IsSend (Carried.the_row a)
carried_send a = recorded_send (Carried.the_field a).row _ _ (Carried.the_type a).to_one (carried_field_send a)

pub judged_field_send : (a : NamedLft) → IsSend (Judged.the_field a).row
judged_field_send a = let b = batch_send a in let f = batch_field_send a in search (told.the_send, boxed.the_send, sendable) depth 60 fits 20000

pub judged_send : (a : NamedLft) → IsSend (Judged.the_row a)
judged_send a = recorded_send (Judged.the_field a).row _ _ (Judged.the_type a).to_one (judged_field_send a)

pub spare_field_send : (a : NamedLft) → IsSend (Spare.the_field a).row
spare_field_send a = let b = batch_send a in let f = batch_field_send a in search (told.the_send, boxed.the_send, sendable) depth 60 fits 20000

pub spare_send : (a : NamedLft) → IsSend (Spare.the_row a)
spare_send a = recorded_send (Spare.the_field a).row _ _ (Spare.the_type a).to_one (spare_field_send a)
