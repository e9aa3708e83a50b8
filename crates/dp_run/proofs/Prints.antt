-- What is to be printed, and what was written of it.
use Rattle.std.proofs.Common.{◌≡◌, refl, sym, ap, ◌∙◌, append_assoc, ℕ, zero, suc, ◌-◌, ◌≤◌, if◌then◌else◌, Bool, List, ◌∷◌, ◌++◌, ℤ, take, drop, nat_lt}
use Rattle.std.proofs.Common.{Option, Some, slice_get, arith}
use Rattle.std.proofs.lemmas.List.{take-append-drop}
use Rattle.std.proofs.lemmas.List.Sums.{count_by-le-length}
use Rattle.dp_room.proofs.ListLemmas.{at_index}
use Rattle.dp_tree.specs.Step.{Config, Event}
use Rattle.dp_tree.specs.Trace.{Run, prints}
use Rattle.dp_tree.specs.Iteration.{starts, start, places, begun_count, stands_at_head, stop_from}
use Rattle.dp_tree.specs.IterationLaws.{events_of_first, AreAdjacent}
use Rattle.dp_tree.proofs.IterationLaws.{iterations_adjoin}
use Rattle.dp_report.specs.PrintsText.{prints_bytes}
use Rattle.dp_meaning.specs.declared.ends.Part.TheVariants as part
use Rattle.dp_meaning.specs.declared.ends.PartEnd.{PartEnd}
use Rattle.dp_meaning.specs.MachineState.{MachineState, fuel_left, rest_of_run, part_of}
use Rattle.dp_meaning.specs.Continues.{Continues}
use Rattle.dp_meaning.specs.PartRun.{PartRun}
use Rattle.dp_edge.specs.Sink.{appended}
use Rattle.dp_edge.specs.Writing.{WritesFront}
use Rattle.dp_crew.specs.Output.{Emits}
use Rattle.dp_epoch.specs.RegionRun.{region_run, region_prints}
use Rattle.dp_run.specs.Stretches.{to_come}
use Rattle.dp_run.proofs.RegionsLeft.{on_region}
use Rattle.dp_run.proofs.Passing.{prints_on}
use Rattle.dp_meaning.proofs.MovedLemmas.{prints-append}
use Rattle.dp_edge.proofs.FrontLemmas.{front_more}
use Rattle.dp_crew.proofs.StreamLemmas.{emits_ahead, front_ahead, prints-split}
use Rattle.dp_commit.proofs.Parts.{run_begins}

-- The steps of a call print what was to come.
pub part_to_come : (turns : ℕ) (old new : MachineState) (before after : List ℤ) (end : PartEnd) → PartRun turns old new before after end →
    before ++ to_come old ≡ after ++ to_come new
part_to_come turns old new before after end call =
    ap (λ (zs : List ℤ). before ++ zs) (prints_on (rest_of_run old) (rest_of_run new) call.went.events call.went.configs call.went.moved.run)
    ∙ sym (append_assoc before (prints call.went.events) (to_come new))
    ∙ ap (λ (zs : List ℤ). zs ++ to_come new) (sym call.went.moved.prints)

-- Then some of what waits was written.
module _ (old new : MachineState) (before after left : List ℤ) (told tells : Option (List ℕ)) (same : before ++ to_come old ≡ after ++ to_come new) where
  pub emits_called : Emits after left told tells → Emits (before ++ to_come old) (left ++ to_come new) told tells
  emits_called e = rw same (emits_ahead after left (to_come new) told tells e)

  pub front_called : WritesFront (prints_bytes after) told tells → WritesFront (prints_bytes (before ++ to_come old)) told tells
  front_called w = rw same (front_ahead after (to_come new) told tells w)

-- A region's prints were written, and the rest is to come.
pub region_emits : (first last : MachineState) (r : ℕ) (configs : List Config) (told tells : Option (List ℕ)) →
    Continues (region_run first) (events_of_first (region_run first) r (begun_count (region_run first) r)) configs (rest_of_run last) →
    tells ≡ appended (prints_bytes (region_prints (region_run first) r)) told → Emits (to_come first) (to_come last) told tells
region_emits first last r configs told tells c w = record {
  written = region_prints (region_run first) r;
  splits = prints_on (region_run first) (rest_of_run last) (events_of_first (region_run first) r (begun_count (region_run first) r)) configs c;
  sink = w;
}

-- a front of what a region prints is one of what is to come
record Splits (all front : List ℤ) : Type 0 where
  pub rest : List ℤ
  pub is : all ≡ front ++ rest

module _ (m : MachineState) (r : ℕ) (here : part_of m.config.to_do ≡ part.Region r) where
  abbrev run : Run
  run = region_run m

  adjacent : AreAdjacent run r
  adjacent = iterations_adjoin m.program m.input (fuel_left m) m.config r

  -- the first iteration starts at once
  pub first_here : start (rest_of_run m) r 0 ≡ Some 0
  first_here =
      let begins = run_begins m.program m.input (fuel_left m) m.config in
      let more = places (stands_at_head r) 1 begins.0 in
      ap (λ (cs : List Config). slice_get (places (stands_at_head r) 0 cs) 0) begins.1 ∙ ap (λ (t : Bool). slice_get (if t then 0 ∷ more else more) 0)
      (on_region r m.config here)

  first_events : (n : ℕ) → n ≤ begun_count run r → (k : ℕ) × (events_of_first run r n ≡ take k run.trace)
  first_events zero h = (0, refl)
  first_events (suc i) h =
      let few = count_by-le-length (λ k. nat_lt k run.fuel) (starts run r) in
      let at = at_index (starts run r) i (omega (arith, few, h)) in
      let stop = stop_from run at.0 (start run r (suc i)) in
      let size : stop - 0 ≡ stop = omega arith in
      (stop, adjacent.joined 0 i at.0 first_here at.1 ∙ ap (λ (n : ℕ). take n run.trace) size)

  region_splits : Splits (to_come m) (region_prints run r)
  region_splits =
      let first = first_events (begun_count run r) (omega arith) in
      record {
        rest = prints (drop first.0 run.trace);
        is = ap prints (sym (take-append-drop first.0 run.trace)) ∙ prints-append (take first.0 run.trace) (drop first.0 run.trace)
            ∙ ap (λ (es : List Event). prints es ++ prints (drop first.0 run.trace)) (sym first.1);
      }

  pub region_front : (told tells : Option (List ℕ)) → WritesFront (prints_bytes (region_prints run r)) told tells →
      WritesFront (prints_bytes (to_come m)) told tells
  region_front told tells w =
      let s = region_splits in
      let all : prints_bytes (to_come m) ≡ prints_bytes (region_prints run r) ++ prints_bytes s.rest = ap prints_bytes s.is
      ∙ prints-split (region_prints run r) s.rest in
      rw all (front_more (prints_bytes (region_prints run r)) (prints_bytes s.rest) told tells w)
