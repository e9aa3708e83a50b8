-- The words of the definitions, as the proofs use them.
pub use Rattle.std.proofs.Common.{All, Bool, Err, IfSome, List, MatchOption, None, Ok, Option, Result, Some, [], add-one, ap, append-nil, append_assoc, arith}
pub use Rattle.std.proofs.Common.{drop, drop-cons, eq-eqb, false, get_or, if◌then◌else◌, inl, inr, is_some, length, length-append, length-set, map, not, of_z}
pub use Rattle.std.proofs.Common.{pos, refl, replicate, rules, slice_get, slice_set, subst, suc, sym, take, to_z, true, vec_len, w64, zero, ℕ, ℤ, ◌++◌, ◌+◌}
pub use Rattle.std.proofs.Common.{◌-◌, ◌<◌, ◌==◌, ◌^◌, ◌||◌, ◌∙◌, ◌∷◌, ◌≡◌, ◌≢◌, ◌≤◌, ◌⊎◌}
pub use Rattle.std.proofs.Math.Seq.{set_out, take-append_seam}
pub use Rattle.std.proofs.lemmas.Bool.{cases_Bool}
pub use Rattle.std.proofs.lemmas.List.Elements.{All-cons, All-head, All-nil, All-tail, filter_map-append}
pub use Rattle.std.specs.List.{list_all, list_any}
pub use Rattle.std.specs.Option.{option_copied, option_map}
unfoldable pub use Rattle.dp_base.specs.Arithmetic.{is_zero}
pub use Rattle.dp_base.specs.declared.End.{End}
pub use Rattle.dp_base.specs.declared.Fault.{Fault}
pub use Rattle.dp_base.specs.declared.SiteId.{SiteId}
pub use Rattle.dp_base.specs.declared.StoreOf.{StoreOf}
pub use Rattle.dp_tree.proofs.Heads.{StepsTo, and_make, and_true, keeps_all, keeps_out, no_region, not_stepped, standing_to_do, stepped, taken, taken_left}
unfoldable pub use Rattle.dp_tree.proofs.Heads.{opened_statement}
pub use Rattle.dp_tree.proofs.InMain.{begins_in_main, next_at, stands_next}
pub use Rattle.dp_tree.proofs.Inner.{all_top, inner_all, inner_at, inner_left, inner_out, inner_plain, is_top, plain_all, plain_choose, top_at}
pub use Rattle.dp_tree.specs.Eval.{Evaluated, Load, WithLoads, after_loads, and_then, cell_count, eval, first_cell, just, result_of}
pub use Rattle.dp_tree.specs.Event.{Decided, Effect, Event, Printed, Stored, Tried, stored, value_of}
pub use Rattle.dp_tree.specs.InMain.{StandsInMain}
pub use Rattle.dp_tree.specs.Inlined.{IsInlined, has_call, has_call_in}
pub use Rattle.dp_tree.specs.Iteration.{begins_with, closes, decides_zero, events_from, has_ended, is_closing, is_leaving, is_region, iteration, last_events}
pub use Rattle.dp_tree.specs.Iteration.{leaves, places, stands_at_head, start, upto_leaving}
pub use Rattle.dp_tree.specs.Numbering.{is_inner, is_inner_in, is_plain, is_plain_in, next_region, numbers_from, regions_in_order, site_numbers}
pub use Rattle.dp_tree.specs.Numbering.{site_numbers_all, site_numbers_in, top_fits}
pub use Rattle.dp_tree.specs.Step.{Config, Faulted, Finished, Step, Stepped, after_effect, behind_one, behind_region, choose, clear_locals, clear_one}
pub use Rattle.dp_tree.specs.Step.{cleared_at, cleared_leaving, evaluated, followed, is_local_of, region_number, site_of, standing, step, step_at, step_by}
pub use Rattle.dp_tree.specs.Step.{step_from, stored_by}
pub use Rattle.dp_tree.specs.Trace.{Run, begin, end_at, ended, printed_by, prints, run_by, start_cells}
unfoldable pub use Rattle.dp_tree.specs.Trace.{run_of}
pub use Rattle.dp_tree.specs.declared.Expr.{Expr}
pub use Rattle.dp_tree.specs.declared.Program.{Program}
pub use Rattle.dp_tree.specs.declared.Stmt.{Row_of-Stmt, Stmt, end_of-Stmt, items-the_row-Stmt, items_shown-the_row-Stmt-0, more_of-Stmt, out-Stmt}
pub use Rattle.dp_tree.specs.declared.Stmt.TheOpen.{Stmt-F}
pub use Rattle.dp_tree.specs.declared.Stmt.TheViews.{outs-Assign, outs-Break, outs-Call, outs-If', outs-Print, outs-Region', outs-Store, outs-While'}
pub use Rattle.dp_tree.specs.declared.VarInfo.{VarInfo}
pub use Rattle.dp_engine.specs.Evaluating.{Evaluates, ToldLoads}
pub use Rattle.dp_engine.specs.declared.Reached.{Reached}
pub use Rattle.dp_engine.specs.declared.Stop.{Stop}
pub use Rattle.dp_engine.specs.declared.Stop.TheVariants.{NoMemory}
pub use Rattle.dp_semantics.specs.Told.{stores_of, with_stores}
pub use Rattle.dp_meaning.specs.Acting.{GivesEffect, StandFor, act_of, acted, acted_on, at_place, index_in, leaves_by, part_by, stays_by, stored_element}
pub use Rattle.dp_meaning.specs.Acting.{value_in}
pub use Rattle.dp_meaning.specs.Continues.{Continues}
pub use Rattle.dp_meaning.specs.IterationRun.{AwaitsCondition, IterationGoesOn, HeadsOnce, IterationRun, IterationStops, StartsAgain, current_after, has_closed}
pub use Rattle.dp_meaning.specs.IterationRun.{upto_closing}
pub use Rattle.dp_meaning.specs.MachineState.{IsAnyRegion, MachineState, from_region, fuel_left, is_any_region, next_part, part_at, part_from, part_of}
pub use Rattle.dp_meaning.specs.MachineState.{rest_of_run}
pub use Rattle.dp_meaning.specs.Moved.{FaultsNext, HasSpentFuel, Moved, Spoiled}
pub use Rattle.dp_meaning.specs.NextIteration.{NextIteration, end_of_iteration}
pub use Rattle.dp_meaning.specs.PartRun.{PartMoved, PartRun, PartStops}
pub use Rattle.dp_tree.specs.Statements.{listed}
pub use Rattle.dp_meaning.specs.Places.{LeadsAt, Leaves, NodeAt, PositionAt, config_at, entry, first_given, first_region, led_to, node, site_number, rests}
pub use Rattle.dp_meaning.specs.Places.{table, table_for}
unfoldable pub use Rattle.dp_meaning.specs.Places.{rest_at, rests_in, rests_of, table_in, table_of}
pub use Rattle.dp_meaning.specs.steps.PlainSteps.{Follows, LedTo, PlainStep, PlainSteps, Ran, more, none}
pub use Rattle.dp_meaning.specs.Sound.{IsOrdered, MachineIsSound, UnderWay}
pub use Rattle.dp_meaning.specs.Standing.{IsEndOfMain}
pub use Rattle.dp_meaning.specs.steps.Turn.{Made, StepTaken, TurnTaken, current_behind, leaves_region}
pub use Rattle.dp_meaning.specs.Watched.{Ends, Shows, TellsLoads, WatchSpoiled, WatchedStep, cells_of, effect_prints, effect_seen, notes, sight_prints}
pub use Rattle.dp_meaning.specs.declared.act.Act.{Act}
pub use Rattle.dp_meaning.specs.declared.ends.Part.{Part}
pub use Rattle.dp_meaning.specs.declared.ends.PartEnd.{PartEnd}
pub use Rattle.dp_meaning.specs.declared.loads.Loads.{Loads}
pub use Rattle.dp_meaning.specs.declared.sight.Effect.{Effect as Seen}
pub use Rattle.dp_meaning.specs.declared.turn.Turn.{Turn}
