-- The lines of the iteration that was given.
use Rattle.std.proofs.Common.{◌≡◌, refl, sym, ap, ◌∙◌, subst, ℕ, suc, ◌+◌, ◌<◌, Bool, true, false, List, [], ◌++◌, append-nil, append_assoc, ℤ, Some, None}
use Rattle.std.proofs.Common.{ltb-true, arith}
use Rattle.std.proofs.lemmas.Bool.{false_from_ne_true}
use Rattle.dp_tree.specs.declared.Program.{Program}
use Rattle.dp_tree.specs.Trace.{Run, prints}
use Rattle.dp_tree.specs.Iteration.{begun_count, is_begun, is_closing, iteration, start, starts}
use Rattle.dp_plan.specs.declared.Plan.{Plan}
use Rattle.dp_theorem.proofs.Central.{earlier_start}
use Rattle.dp_meaning.specs.declared.ends.IterEnd.{IterEnd}
use Rattle.dp_meaning.specs.declared.ends.IterEnd.TheVariants as iter_end
use Rattle.dp_meaning.specs.MachineState.{MachineState}
use Rattle.dp_commit.specs.CommittedState.{region_run, steps_of_first}
use Rattle.dp_log.specs.declared.SetOf.{SetOf}
use Rattle.dp_log.specs.Changes.{changes_of}
use Rattle.dp_log.specs.LogText.{group_bytes, iteration_bytes}
use Rattle.dp_epoch.specs.declared.ends.RegionEnd.TheVariants as region_end
use Rattle.dp_epoch.specs.RegionRun.{RegionRan}
use Rattle.dp_epoch.proofs.Ending.{begun_next}
use Rattle.dp_epoch.proofs.Here.{closes_once, rest_fuel, starts_here}
use Rattle.dp_audit.specs.declared.group.Group.{Group}
use Rattle.dp_audit.specs.declared.runner.Runner.{Runner}
use Rattle.dp_audit.specs.Runs.{RegionStands}
use Rattle.dp_audit.specs.Groups.{GivesGroup, StandsBehind, is_left}
use Rattle.dp_audit.proofs.IterationMade.{begun_where}
use Rattle.dp_logging.specs.Lines.{first_lines, group_lines, last_lines, left_lines, left_then, region_end_of, rest_lines}
use Rattle.dp_logging.specs.Logged.{Logged}
use Rattle.dp_logging.proofs.LineLemmas.{last_left, left_next, none_left}

module _ (p : Program) (plan : Plan) (input : List ℤ) (first : MachineState) (n : ℕ) (r : Runner) (s : RegionStands p plan input first n r)
    (next : Runner) where
  abbrev run : Run
  run = region_run first

  behind_by : (e : IterEnd) → StandsBehind p plan input first (n + 1) next e → Logged p plan input first n next (region_end_of e)
  behind_by iter_end.Next b = let one : n + 1 ≡ suc n = omega arith in subst (λ (i : ℕ). RegionStands p plan input first i next) one b
  behind_by iter_end.Closed b = subst (λ (x : Program). RegionRan x plan first next.ledger.committed.machine region_end.Closed) s.kept.program_is b.done.ran
  behind_by (iter_end.Fault fault) b =
      subst (λ (x : Program). RegionRan x plan first next.ledger.committed.machine (region_end.Fault fault)) s.kept.program_is b.done.ran
  behind_by iter_end.Fuel b = subst (λ (x : Program). RegionRan x plan first next.ledger.committed.machine region_end.Fuel) s.kept.program_is b.done.ran
  behind_by iter_end.Going b = absurd b

  tail_by : (e : IterEnd) → is_closing run plan.region n ≡ is_left e → StandsBehind p plan input first (n + 1) next e →
      rest_lines p plan run (suc n) ≡ last_lines plan.region e ++ left_then p plan run n (region_end_of e)
  tail_by iter_end.Next closes b = refl
  tail_by iter_end.Closed closes b =
      last_left p plan run n iter_end.Closed closes (omega (arith, b.begun)) ∙ sym (append-nil (last_lines plan.region iter_end.Closed))
  tail_by (iter_end.Fault fault) closes b = last_left p plan run n (iter_end.Fault fault) closes (omega (arith, b.begun))
  tail_by iter_end.Fuel closes b = last_left p plan run n iter_end.Fuel closes (omega (arith, b.begun))
  tail_by iter_end.Going closes b = absurd b

  next_by : (e : IterEnd) → StandsBehind p plan input first (n + 1) next e → region_end_of e ≡ None → e ≡ iter_end.Next
  next_by iter_end.Next b none = refl
  next_by iter_end.Closed b none = absurd (cc none)
  next_by (iter_end.Fault fault) b none = absurd (cc none)
  next_by iter_end.Fuel b none = absurd (cc none)
  next_by iter_end.Going b none = absurd b

  -- an iteration was given
  module _ (group : Group) (given : GivesGroup p plan input first n next (Some group)) where
    pub group_logged : Logged p plan input first n next (region_end_of group.end)
    group_logged = behind_by group.end given.1

    pub group_next : region_end_of group.end ≡ None → group.end ≡ iter_end.Next
    group_next none = next_by group.end given.1 none

    begun : n < begun_count (region_run first) plan.region
    begun =
        let less = ltb-true r.ledger.committed.machine.steps r.ledger.committed.machine.fuel
        (sym (begun_where plan first r.ledger.committed r.ledger.account s.progress) ∙ ap (is_begun run plan.region) s.count ∙ given.0.begun) in
        let more = begun_next plan first r.ledger.committed r.ledger.account s.progress (omega (arith, less, rest_fuel r.ledger.committed.machine)) in
        omega (arith, more, s.count)

    bytes_are : iteration_bytes p plan (region_run first) n ≡ group_bytes group.iteration group.again group.sets group.prints
    bytes_are =
        ap (λ (b : Bool). group_bytes n b (changes_of p plan run n) (prints (iteration run plan.region n))) (sym given.0.again)
        ∙ ap (λ (xs : List SetOf). group_bytes n group.again xs (prints (iteration run plan.region n))) (sym given.0.sets)
        ∙ ap (λ (xs : List ℤ). group_bytes n group.again group.sets xs) (sym given.0.prints_are)
        ∙ ap (λ (i : ℕ). group_bytes i group.again group.sets group.prints) (sym given.0.number)

    -- its lines come first of those that are left
    pub lines_split : left_lines p plan (region_run first) n ≡ group_lines plan.region group ++ left_then p plan (region_run first) n (region_end_of group.end)
    lines_split =
        let head : List ℕ = first_lines plan.region group.iteration in
        let body : List ℕ = group_bytes group.iteration group.again group.sets group.prints in
        let tail : List ℕ = last_lines plan.region group.end in
        let left : List ℕ = left_then p plan run n (region_end_of group.end) in
        left_next p plan run n begun
        ∙ ap (λ (i : ℕ). first_lines plan.region i ++ (iteration_bytes p plan run n ++ rest_lines p plan run (suc n))) (sym given.0.number)
        ∙ ap (λ (x : List ℕ). first_lines plan.region group.iteration ++ (x ++ rest_lines p plan run (suc n))) bytes_are
        ∙ ap (λ (x : List ℕ). first_lines plan.region group.iteration ++ (group_bytes group.iteration group.again group.sets group.prints ++ x))
        (tail_by group.end given.0.left given.1)
        ∙ ap (λ (x : List ℕ). head ++ x) (sym (append_assoc body tail left)) ∙ sym (append_assoc head (body ++ tail) left)
        ∙ ap (λ (x : List ℕ). x ++ left) (sym (append_assoc head body tail))

  -- the fuel is spent before its condition
  module _ (given : GivesGroup p plan input first n next None) where
    pub none_logged : Logged p plan input first n next (Some region_end.Fuel)
    none_logged = subst (λ (x : Program). RegionRan x plan first next.ledger.committed.machine region_end.Fuel) s.kept.program_is given.1.done.ran

    not_closed : (i : ℕ) → n ≡ suc i → is_closing (region_run first) plan.region i ≡ false
    not_closed i e = false_from_ne_true (is_closing run plan.region i) (λ (t : is_closing run plan.region i ≡ true).
        let here : start run plan.region n ≡ Some (steps_of_first run plan.region n) = subst
        (λ (k : ℕ). start run plan.region k ≡ Some (steps_of_first run plan.region k)) s.count
        (starts_here plan first r.ledger.committed r.ledger.account s.progress) in
        let there = earlier_start (starts run plan.region) n i (steps_of_first run plan.region n) here (omega (arith, e)) in
        let none : start run plan.region (i + 1) ≡ None = closes_once plan first s.progress.start i there.0 there.1 t in
        let at : n ≡ i + 1 = omega (arith, e) in
        let clash : Some (steps_of_first run plan.region n) ≡ None = sym here ∙ ap (start run plan.region) at ∙ none in
        absurd (cc clash))

    pub lines_none : left_lines p plan (region_run first) n ≡ []
    lines_none = none_left p plan run n given.1.begun not_closed
