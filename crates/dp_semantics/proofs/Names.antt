-- The words of the definitions, as the proofs use them.
pub use Rattle.std.proofs.Common.{le_antisymm, ◌&&◌, ◌+◌, ◌++◌, ◌-◌, ◌<◌, ◌==◌, [], AllPairs, ap, append_assoc, arith, Bool, Contains, drop, eq-eqb, eqb-true}
pub use Rattle.std.proofs.Common.{Err, false, filter, filter_map, get_or, if◌then◌else◌, inl, inr, is_some, le-leb, le-ltb, leb-true, length, length-append}
pub use Rattle.std.proofs.Common.{List, lt-ltb, ltb-false, ltb-true, map, nat_le, nat_lt, ne_eqb, negsuc, None, not, Ok, Option, pos, refl, replicate, Result}
pub use Rattle.std.proofs.Common.{slice_get, slice_index, slice_index_or, slice_range, slice_set, Some, subst, suc, sum_by, sym, take, true, unwrap_or, zero}
pub use Rattle.std.proofs.Common.{◌||◌, ℕ, ℤ, ◌∙◌, ◌∷◌, ◌≡◌, ◌≤◌, ◌⊎◌}
pub use Rattle.std.specs.List.{cons_option, flat_map, list_all, list_any}
pub use Rattle.std.proofs.Math.Bool.{and-false, and-true, and_self, or-false, or-true}
pub use Rattle.std.proofs.lemmas.Bool.{and_from, and_parts, or_from, or_parts, both_ways, cases_Bool, cases_eq, cases_lt, cases_order, lt-leb, not-true}
pub use Rattle.std.proofs.lemmas.Bool.Decides.{Decides-int_eq}
pub use Rattle.std.specs.Ordering.{int_eq}
pub use Rattle.std.proofs.lemmas.List.{append_cancel_left, append-nil, get_or-replicate, get_or-set_other, get_or_append_left, get_or_past, length-map}
pub use Rattle.std.proofs.lemmas.List.{length-replicate, length-set, map-append}
pub use Rattle.std.proofs.lemmas.Grind.{flat_map-append, get_or-set_at}
pub use Rattle.std.proofs.lemmas.Option.{slice_get-get_or, slice_get_past, slice_get_within, unwrap_or-slice_get}
pub use Rattle.std.proofs.lemmas.List.Sums.{sum_by-cons, sum_by-set}
pub use Rattle.std.proofs.Math.Seq.{get_or-append_seam, drop-append_seam, take-append_seam}
pub use Rattle.std.proofs.lemmas.List.Kept.{AllPairs-cons, AllPairs-filter}
pub use Rattle.std.proofs.lemmas.List.Folds.{list_all-append, list_all-map, list_any-append}
pub use Rattle.dp_base.specs.Arithmetic.{binary_result, is_zero, unary_result}
pub use Rattle.dp_base.specs.declared.{Fault.Fault as FaultAt, FaultKind.FaultKind, SiteId.SiteId, Word.Word}
pub use Rattle.dp_tree.specs.declared.{Assume.Assume, Expr.end_of-Expr, Expr.Expr, Expr.more_of-Expr, Program.Program, RegionInfo.RegionInfo, VarInfo.VarInfo}
pub use Rattle.dp_tree.specs.declared.Stmt.{end_of-Stmt, more_of-Stmt, out-roll-Stmt, out-Stmt, roll-out-Stmt, roll-Stmt, Row_of-Stmt, Stmt}
pub use Rattle.dp_tree.specs.declared.Stmt.{TheBlock.hidden-the_row-Stmt-0, TheVariants.outs-If}
pub use Rattle.dp_tree.proofs.{Heads.followed-append, Heads.taken, Heads.taken_left, RunLaws.runs_by_step}
pub use Rattle.dp_plan.specs.declared.{Plan.Plan, StageKind.StageKind, StageKind.TheVariants.Par, StageKind.TheVariants.Seq}
pub use Rattle.dp_tree.specs.Eval.{after_loads, and_then, cell_count, Evaluated, first_cell, first_of, just, length_of, Load, load, place, WithLoads}
pub use Rattle.dp_tree.specs.Eval.{without_loads}
unfoldable pub use Rattle.dp_tree.specs.Eval.{eval}
pub use Rattle.dp_tree.specs.Iteration.{begun_count, cells_after, closes, is_leaving, last_events, leaves, upto_leaving, cells_in, decided_zero, decides_zero}
pub use Rattle.dp_tree.specs.Iteration.{events_from, has_ended, is_closing, is_region, iteration, memory_after, memory_from, places, stands_at_head, start}
pub use Rattle.dp_tree.specs.Iteration.{starts, stop_from}
pub use Rattle.dp_tree.specs.Step.{after_effect, behind_one, behind_region, choose, choose_cells, clear_locals, cleared_leaving, region_number, stored_by}
pub use Rattle.dp_tree.specs.Step.{Tried, tried, cleared_at, Config, Decided, decided, Effect, evaluated, Event, Faulted, Finished, followed, is_local_of}
pub use Rattle.dp_tree.specs.Step.{Printed, site_of, standing, Step, step, step_at, step_by, Stepped, Stored, stored, value_of}
pub use Rattle.dp_tree.specs.InMain.{StandsInMain}
pub use Rattle.dp_tree.specs.Numbering.{is_plain, is_plain_in, is_inner_in}
pub use Rattle.dp_tree.specs.Trace.{begin, extended, Run, run_by, start_cells}
unfoldable pub use Rattle.dp_tree.specs.Trace.{run_of}
pub use Rattle.dp_tree.specs.declared.Stmt.TheOpen.{Assign, Break, Call, If, Print, Region, Stmt-F, Store, While}
pub use Rattle.dp_tree.specs.declared.Stmt.TheViews.{rolls-Assign, rolls-Break, rolls-Call, rolls-If, rolls-Print, rolls-Region, rolls-Store, rolls-While}
pub use Rattle.dp_plan.specs.Access.{Access, accesses, first_site_of, accesses_in, first_site, is_body_local, is_local, is_par, is_region_at, is_replicated}
pub use Rattle.dp_plan.specs.Access.{is_same_variable, is_stored_after, is_stored_beside, loaded_by, region_accesses, region_in, region_statement, stage_of}
pub use Rattle.dp_plan.specs.Access.{stores_var}
pub use Rattle.dp_plan.specs.Checked.{is_checked, is_checked_access, may_differ, is_apart, is_apart_between, comes_before}
pub use Rattle.dp_tree.specs.Numbering.{numbers_from}
pub use Rattle.dp_semantics.specs.Clean.{all_agree, as_assumed, event_agrees, event_as_assumed, event_words, events_since, fits_words, goes_as, stays_late}
pub use Rattle.dp_semantics.specs.Clean.{is_clean, loads_agree, pushed, went, word_count, words_at}
pub use Rattle.dp_semantics.specs.Fits.{access_known, fits_plan, has_cell, is_inner_access, is_numbered, is_single, kinds_apart, kinds_fit, lies_between}
pub use Rattle.dp_semantics.specs.Fits.{cells_in_order, one_region, region_alone, region_fits, stands_alone, stores_known}
pub use Rattle.dp_semantics.specs.Judge.{Agreed, Clean, judge, judge_at, judge_by, judge_lists, judge_spent, judge_status, judge_step, judged, Judgement}
pub use Rattle.dp_semantics.specs.Judge.{Judging, last, loads_hold, Unclean}
unfoldable pub use Rattle.dp_semantics.specs.Judge.{judge_from}
pub use Rattle.dp_semantics.specs.Laws.{CleanInOneStage, RecoversInOrder}
pub use Rattle.dp_semantics.specs.Nesting.{is_free, is_free_in, none_earlier, well_nested, well_nested_in}
pub use Rattle.dp_semantics.specs.OneStage.{one_stage_plan, sites_between}
pub use Rattle.dp_semantics.specs.Packets.{at_kind, at_replicated, at_sequential, Broken, cleared, Closing, Epoch, Going, Packet, Passed, passed, passed_by}
pub use Rattle.dp_semantics.specs.Packets.{passed_on, run_on, Status, status_of}
pub use Rattle.dp_semantics.specs.Project.{assumed_in, branch_of, project, project_all, project_in, where_reached}
pub use Rattle.dp_semantics.specs.Recovery.{epoch, is_recovered}
pub use Rattle.dp_semantics.specs.Seen.{covered_value, is_covered, is_local_at, is_local_cell, Past, seen, stored_in}
pub use Rattle.dp_semantics.specs.StageRun.{closes_at, consumed, consumed_step, Ended, is_zero_at, own_step, stage_at, stage_run, Turn, turn_at, turn_begin}
pub use Rattle.dp_semantics.specs.StageRun.{turn_by, turn_step, turned, TurnEnd, words_left}
unfoldable pub use Rattle.dp_semantics.specs.StageRun.{turn_from}
pub use Rattle.dp_semantics.specs.Verdict.{applied, CleanSince, Closes, ClosingLeaves, effect_in, site_in, epoch_at, Follows, Judged, JudgesEpochs}
pub use Rattle.dp_semantics.specs.Verdict.{JudgesRightly, memory_of, status_when, StoresLead, to_do_after, to_do_in, source_run, words_at_stage}
pub use Rattle.dp_semantics.specs.Words.{after_loads_of, done_word, effect_by, Full, is_cell_of, is_done_of, is_load_of, load_word, load_words, Taken}
pub use Rattle.dp_semantics.specs.Words.{taken_from, Void, word_list, words_in, words_of}
unfoldable pub use Rattle.dp_tree.proofs.Heads.{opened_statement}
