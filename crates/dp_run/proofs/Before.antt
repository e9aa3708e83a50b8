-- What was written where a run stops early, and no region from some number on was reached.
use Rattle.std.proofs.Common.{◌≡◌, refl, sym, ap, ◌∙◌, subst, append_assoc, ℕ, zero, suc, ◌+◌, ◌≤◌, List, [], ◌∷◌, ◌++◌, ℤ, length, map, take, Option, Some}
use Rattle.std.proofs.Common.{slice_get, arith}
use Rattle.std.proofs.lemmas.List.{append_cancel_right}
use Rattle.std.proofs.Math.Seq.{take-append-add}
use Rattle.dp_tree.specs.Step.{Event}
use Rattle.dp_tree.specs.Trace.{prints}
use Rattle.dp_tree.specs.Iteration.{start, starts}
use Rattle.dp_report.specs.PrintsText.{prints_bytes}
use Rattle.dp_edge.specs.Writing.{WritesFront}
use Rattle.dp_edge.proofs.FrontLemmas.{appended-nil, front_nothing}
use Rattle.dp_meaning.specs.declared.ends.PartEnd.{PartEnd}
use Rattle.dp_meaning.specs.MachineState.{MachineState, rest_of_run}
use Rattle.dp_meaning.specs.PartRun.{PartRun}
use Rattle.dp_meaning.proofs.MovedLemmas.{prints-append}
use Rattle.dp_crew.specs.Output.{Emits}
use Rattle.dp_crew.proofs.StreamLemmas.{emits_front, front_ahead}
use Rattle.dp_epoch.specs.RegionRun.{beyond}
use Rattle.dp_run.specs.Stretches.{FrontBefore, HasPassed, to_come}
use Rattle.dp_run.proofs.PartLemmas.{part_passed}
use Rattle.dp_run.proofs.Passing.{passed_none, prints_on}
use Rattle.dp_run.proofs.Prints.{part_to_come}

-- a place in what is behind some steps is one of what is behind them, and so many more
pub start_mapped : (d : ℕ) (ks : List ℕ) (i j : ℕ) → slice_get (map (beyond d) ks) i ≡ Some j → (n : ℕ) × (slice_get ks i ≡ Some n) × (j ≡ d + n)
start_mapped d [] i j e = absurd (cc e)
start_mapped d (k ∷ ks) zero j e = let same : d + k ≡ j = cc e in (k, refl, sym same)
start_mapped d (k ∷ ks) (suc i) j e = start_mapped d ks i j e

module _ (waiting : List ℤ) (m : MachineState) (told tells : Option (List ℕ)) where
  -- .. so none from a later number on was
  pub before_less : (k l : ℕ) → k ≤ l → FrontBefore k waiting m told tells → FrontBefore l waiting m told tells
  before_less k l le f = record { front = λ r i j h e. f.front r i j (omega (arith, le, h)) e }

  -- It stopped in what waits ..
  pub before_waiting : (k : ℕ) → WritesFront (prints_bytes waiting) told tells → FrontBefore k waiting m told tells
  before_waiting k w = record { front = λ r i j h e. front_ahead waiting (prints (take j (rest_of_run m).trace)) told tells w }

  -- .. or before it
  pub before_nothing : (k : ℕ) → tells ≡ told → FrontBefore k waiting m told tells
  before_nothing k same = record { front = λ r i j h e. front_nothing (prints_bytes (waiting ++ prints (take j (rest_of_run m).trace))) told tells same }

-- Some steps were made in which no region from number k on was reached.
module _ (old new : MachineState) (k : ℕ) (a : HasPassed (rest_of_run old) (rest_of_run new) k) where
  start_behind : (r i j : ℕ) → k ≤ r → start (rest_of_run old) r i ≡ Some j → (n : ℕ) × (start (rest_of_run new) r i ≡ Some n) × (j ≡ length a.events + n)
  start_behind r i j h e = start_mapped (length a.events) (starts (rest_of_run new) r) i j (ap (λ (ks : List ℕ). slice_get ks i) (sym (a.ahead r h)) ∙ e)

  taken_on : (n : ℕ) → take (length a.events + n) (rest_of_run old).trace ≡ a.events ++ take n (rest_of_run new).trace
  taken_on n = ap (take (length a.events + n)) a.piece.trace ∙ take-append-add a.events (rest_of_run new).trace n

  module _ (first waiting : List ℤ) (told mid tells : Option (List ℕ)) (e : Emits (first ++ to_come old) (waiting ++ to_come new) told mid) where
    -- what was written and what waits are what they printed
    printed : e.written ++ waiting ≡ first ++ prints a.events
    printed =
        append_cancel_right (e.written ++ waiting) (first ++ prints a.events) (to_come new)
        (append_assoc e.written waiting (to_come new) ∙ sym e.splits
        ∙ ap (λ (zs : List ℤ). first ++ zs) (prints_on (rest_of_run old) (rest_of_run new) a.events a.configs a.piece)
        ∙ sym (append_assoc first (prints a.events) (to_come new)))

    emits_until : (n : ℕ) → Emits (first ++ prints (take (length a.events + n) (rest_of_run old).trace))
        (waiting ++ prints (take n (rest_of_run new).trace)) told mid
    emits_until n =
        let more = prints (take n (rest_of_run new).trace) in
        record {
          written = e.written;
          splits = ap (λ (es : List Event). first ++ prints es) (taken_on n)
              ∙ ap (λ (zs : List ℤ). first ++ zs) (prints-append a.events (take n (rest_of_run new).trace))
              ∙ sym (append_assoc first (prints a.events) more) ∙ ap (λ (zs : List ℤ). zs ++ more) (sym printed) ∙ append_assoc e.written waiting more;
          sink = e.sink;
        }

    -- It stopped behind them.
    pub before_on : (l : ℕ) → k ≤ l → FrontBefore l waiting new mid tells → FrontBefore l first old told tells
    before_on l le f = record { front = λ r i j h s. by r i j h (start_behind r i j (omega (arith, le, h)) s) }
      where
        by : (r i j : ℕ) → l ≤ r → (n : ℕ) × (start (rest_of_run new) r i ≡ Some n) × (j ≡ length a.events + n) →
            WritesFront (prints_bytes (first ++ prints (take j (rest_of_run old).trace))) told tells
        by r i j h q =
            subst (λ (n : ℕ). WritesFront (prints_bytes (first ++ prints (take n (rest_of_run old).trace))) told tells) (sym q.2)
            (emits_front (first ++ prints (take (length a.events + q.0) (rest_of_run old).trace)) (waiting ++ prints (take q.0 (rest_of_run new).trace)) told
            mid tells (emits_until q.0) (f.front r i q.0 h q.1))

-- It stopped in what a call of a plain part printed.
pub part_before : (turns : ℕ) (old new : MachineState) (before after : List ℤ) (end : PartEnd) → PartRun turns old new before after end →
    (told tells : Option (List ℕ)) →
    WritesFront (prints_bytes after) told tells → FrontBefore 0 before old told tells
part_before turns old new before after end call told tells w =
    before_on old new 0 (part_passed turns old old new before after end call (passed_none (rest_of_run old) 0)) before after told told tells
    (record { written = []; splits = part_to_come turns old new before after end call; sink = sym (appended-nil told) }) 0 (omega arith)
    (before_waiting after new told tells 0 w)
