-- What is still to be written of a region's prints, over one more iteration.
use Rattle.std.proofs.Common.{◌≡◌, sym, ap, ◌∙◌, append_assoc, ℕ, zero, suc, ◌+◌, ◌-◌, ◌<◌, List, [], ◌++◌, drop, length, ℤ, arith}
use Rattle.std.proofs.lemmas.List.{append-nil}
use Rattle.std.proofs.Math.Seq.{drop-append_seam, drop-length}
use Rattle.dp_epoch.specs.declared.account.Account.{Account}
use Rattle.dp_plan.specs.declared.Plan.{Plan}
use Rattle.dp_tree.specs.Step.{Event}
use Rattle.dp_tree.specs.Trace.{Run, prints}
use Rattle.dp_tree.specs.Iteration.{begun_count, iteration}
use Rattle.dp_tree.specs.IterationLaws.{events_of_first}
use Rattle.dp_meaning.specs.declared.ends.IterEnd.TheVariants as iter_end
use Rattle.dp_meaning.specs.MachineState.{MachineState, rest_of_run}
use Rattle.dp_meaning.specs.IterationRun.{IterationRun}
use Rattle.dp_commit.specs.CommittedState.{CommittedState, region_run, steps_of_first}
use Rattle.dp_commit.proofs.Committing.{held_next, held_closed}
use Rattle.dp_commit.proofs.Going.{started}
use Rattle.dp_epoch.specs.Prints.{prints_from}
use Rattle.dp_epoch.specs.Progress.{Progress}
use Rattle.dp_epoch.proofs.Here.{once}
use Rattle.dp_epoch.proofs.Ending.{begun_next}
use Rattle.dp_epoch.proofs.Done.{begun_is}
use Rattle.dp_meaning.proofs.MovedLemmas.{prints-append}

-- the events of more iterations begin with those of fewer ones
more_of : (run : Run) (r n k : ℕ) → (more : List Event) × (events_of_first run r (n + k) ≡ events_of_first run r n ++ more)
more_of run r n zero = ([], (let e : n + 0 ≡ n = omega arith in ap (events_of_first run r) e) ∙ sym (append-nil (events_of_first run r n)))
more_of run r n (suc k) =
    let fewer = more_of run r n k in (
      fewer.0 ++ iteration run r (n + k),
      (let e : n + suc k ≡ suc (n + k) = omega arith in ap (events_of_first run r) e) ∙ ap (λ (es : List Event). es ++ iteration run r (n + k)) fewer.1
          ∙ append_assoc (events_of_first run r n) fewer.0 (iteration run r (n + k)),
    )

-- behind the first n iterations comes the next one, and then those behind it
from_next : (run : Run) (r n all : ℕ) → n < all → drop (length (events_of_first run r n)) (events_of_first run r all) ≡ iteration run r n
    ++ drop (length (events_of_first run r (suc n))) (events_of_first run r all)
from_next run r n all h =
    let k : ℕ = all - suc n in
    let size : all ≡ suc n + (all - suc n) = omega (arith, h) in
    let m = more_of run r (suc n) (all - suc n) in
    let is : events_of_first run r all ≡ events_of_first run r (suc n) ++ m.0 = ap (events_of_first run r) size ∙ m.1 in
    let left : drop (length (events_of_first run r (suc n))) (events_of_first run r all) ≡ m.0 = ap (drop (length (events_of_first run r (suc n)))) is
    ∙ drop-append_seam (events_of_first run r (suc n)) m.0 in
    ap (drop (length (events_of_first run r n))) (is ∙ append_assoc (events_of_first run r n) (iteration run r n) m.0)
    ∙ drop-append_seam (events_of_first run r n) (iteration run r n ++ m.0)
    ∙ ap (λ (es : List Event). iteration run r n ++ es) (sym left)

module _ (plan : Plan) (first : MachineState) (c : CommittedState) (account : Account) (g : Progress plan first c account) where
  abbrev run : Run
  run = region_run first

  abbrev rest : Run
  rest = rest_of_run c.machine

  -- where a step is left
  pub next_prints : 0 < rest.fuel → prints_from plan first c.count ≡ prints (iteration run plan.region c.count) ++ prints_from plan first (c.count + 1)
  next_prints h =
      let n : suc c.count ≡ c.count + 1 = omega arith in
      ap prints (from_next run plan.region c.count (begun_count run plan.region) (begun_next plan first c account g h))
      ∙ prints-append (iteration run plan.region c.count) (drop (steps_of_first run plan.region (suc c.count))
      (events_of_first run plan.region (begun_count run plan.region)))
      ∙ ap (λ (k : ℕ). prints (iteration run plan.region c.count) ++ prints_from plan first k) n

  some_fuel : (m : MachineState) (events : List Event) → rest.fuel ≡ length events + (rest_of_run m).fuel → 0 < length events → 0 < rest.fuel
  some_fuel m events e h = omega (arith, e, h)

  module _ (m : MachineState) (turns : ℕ) (before after : List ℤ) where
    pub onward_prints : (call : IterationRun c.region turns c.machine m before after iter_end.Next) → prints_from plan first c.count ≡ prints call.events
        ++ prints_from plan first (c.count + 1)
    onward_prints call =
        next_prints (some_fuel m call.events call.moved.run.fuel (call.stops.some g.is_open.between))
        ∙ ap (λ (es : List Event). prints es ++ prints_from plan first (c.count + 1)) (ap (λ (r : ℕ). iteration run r c.count) (sym g.region)
        ∙ (held_next first c g.holds g.is_open m turns before after call).iteration_is)

    pub closing_prints : (call : IterationRun c.region turns c.machine m before after iter_end.Closed) → prints_from plan first c.count ≡ prints call.events
    closing_prints call =
        let all = begun_is plan first c account g m turns before after call in
        let held = held_closed first c g.holds g.is_open m turns before after
        (once plan first c account g c.count _ (started first c g.holds g.is_open)) call in
        let n : begun_count run plan.region ≡ suc c.count = omega (arith, all) in
        ap prints (from_next run plan.region c.count (begun_count run plan.region) (omega (arith, all))
        ∙ ap (λ (k : ℕ). iteration run plan.region c.count ++ drop (steps_of_first run plan.region (suc c.count)) (events_of_first run plan.region k)) n
        ∙ ap (λ (es : List Event). iteration run plan.region c.count ++ es) (drop-length (events_of_first run plan.region (suc c.count)))
        ∙ append-nil (iteration run plan.region c.count)
        ∙ ap (λ (r : ℕ). iteration run r c.count) (sym g.region) ∙ held.iteration_is)
