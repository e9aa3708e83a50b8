-- One verdict of an epoch, as the loop takes it.
use Rattle.std.proofs.Common.{◌≡◌, ◌⊎◌, inl, inr, refl, sym, ap, ◌∙◌, subst, append_assoc, ℕ, ◌+◌, ◌<◌, ◌≤◌, Bool, true, false, ◌||◌, if◌then◌else◌, ◌-◌, List}
use Rattle.std.proofs.Common.{[], ◌∷◌, ◌++◌, length, take, drop, Option, Some, None, is_some, slice_get, slice_range, ℤ, arith}
use Rattle.std.proofs.lemmas.Bool.{cases_lt, both_ways}
use Rattle.std.proofs.lemmas.List.{append-nil}
use Rattle.std.proofs.Math.Seq.{drop-length, drop-nil, take-nil}
use Rattle.dp_base.specs.declared.Cause.{Cause}
use Rattle.dp_base.specs.declared.RegionReport.{RegionReport}
use Rattle.dp_epoch.specs.declared.account.Account.{Account}
use Rattle.dp_plan.specs.declared.Plan.{Plan}
use Rattle.dp_tree.specs.declared.Program.{Program}
use Rattle.dp_tree.specs.Step.{Config, Event}
use Rattle.dp_tree.specs.Trace.{Run, run_of, prints}
use Rattle.dp_tree.specs.Iteration.{stands_at_head, places, start, stop_from, events_from, closes, is_closing, has_ended}
use Rattle.dp_tree.specs.IterationLaws.{events_of_first}
use Rattle.dp_semantics.specs.EpochKey.{EpochKey}
use Rattle.dp_semantics.specs.EpochVerdicts.{Carried, Commit, Again, verdict_at}
use Rattle.dp_semantics.specs.EpochVerdicts.{Verdict as Decided}
use Rattle.dp_judge.specs.declared.verdict.Verdict.{Verdict}
use Rattle.dp_judge.specs.Told.{SaysDecided}
use Rattle.dp_meaning.specs.declared.ends.IterEnd.TheVariants as iter_end
use Rattle.dp_meaning.specs.MachineState.{MachineState, fuel_left, rest_of_run}
use Rattle.dp_meaning.specs.IterationRun.{IterationRun}
use Rattle.dp_meaning.specs.NextIteration.{end_of_iteration}
use Rattle.dp_commit.specs.CommittedState.{CommittedState, CarriesNext, IsOpen, region_run, steps_of_first}
use Rattle.dp_commit.proofs.CountLemmas.{some_closed}
use Rattle.dp_epoch.specs.declared.ends.RegionEnd.TheVariants as region_end
use Rattle.dp_epoch.specs.Applied.{Applied, steps_left}
use Rattle.dp_epoch.specs.Prints.{prints_from, prints_of, prints_to_come}
use Rattle.dp_net.specs.NetVerdicts.{SaysTheSame}
use Rattle.dp_epoch.specs.Accounts.{CountsClean, Reports, after_clean}
use Rattle.dp_epoch.specs.Remade.{Remade}
use Rattle.dp_epoch.specs.Progress.{Progress, RegionDone, report_before}
use Rattle.dp_epoch.specs.InEpoch.{InEpoch, IsUnclean}
use Rattle.dp_epoch.proofs.Here.{rest_fuel}
use Rattle.dp_epoch.proofs.Judged.{IsClean, clean_case, unclean_case}
use Rattle.dp_epoch.proofs.Carrying.{ended_same, iteration_prints}
use Rattle.dp_epoch.proofs.Counting.{told_iterations}
use Rattle.dp_epoch.proofs.EpochSteps.{carries, ended_here, epoch_on, going, report_next, watching_on}
use Rattle.dp_epoch.proofs.Done.{closed_done, begun_is}
use Rattle.dp_epoch.proofs.Printing.{next_prints}

-- What is said of the verdict that was given last is so of the one that is shown for it.
pub told_so : (key : EpochKey) (decided : Decided) (shown given : Verdict) → shown ≡ given → SaysDecided key given decided → SaysDecided key shown decided
told_so key decided shown given is says = subst (λ (v : Verdict). SaysDecided key v decided) (sym is) says

spent_trace : (p : Program) (input : List ℤ) (c : Config) → (run_of p input 0 c).trace ≡ []
unfolding run_of
spent_trace p input c = refl

spent_configs : (p : Program) (input : List ℤ) (c : Config) → (run_of p input 0 c).configs ≡ c ∷ []
unfolding run_of
spent_configs p input c = refl

no_events : (rest : Run) → rest.trace ≡ [] → (from next : Option ℕ) → events_from rest from next ≡ []
no_events rest trace None next = refl
no_events rest trace (Some k) next =
    ap (λ (es : List Event). slice_range es k (stop_from rest k next)) trace ∙ ap (take (stop_from rest k next - k)) (drop-nil k)
    ∙ take-nil (stop_from rest k next - k)

-- An iteration for which no step is left hasn't ended.
unended : (r : ℕ) (rest : Run) (c : Config) → rest.trace ≡ [] → rest.configs ≡ c ∷ [] → has_ended rest r 0 ≡ false
unended r rest c trace configs =
    let none : start rest r 1 ≡ None = ap (λ (cs : List Config). slice_get (places (stands_at_head r) 0 cs) 1) configs ∙ by (stands_at_head r c) in
    ap (λ (o : Option ℕ). is_some o || is_closing rest r 0) none ∙ ap closes (no_events rest trace (start rest r 0) (start rest r 1))
  where
    by : (t : Bool) → slice_get {X = ℕ} (if t then 0 ∷ [] else []) 1 ≡ None
    by true = refl
    by false = refl

some_left : (plan : Plan) (first : MachineState) (c : CommittedState) (account : Account) (g : Progress plan first c account) →
    has_ended (region_run first) plan.region c.count ≡ true → 0 < steps_left c
some_left plan first c account g h = by (cases_lt 0 (steps_left c))
  where
    by : (0 < steps_left c) ⊎ (steps_left c ≤ 0) → 0 < steps_left c
    by (inl some) = some
    by (inr none) =
        let zero_left : fuel_left c.machine ≡ 0 = omega (arith, none) in
        let same : rest_of_run c.machine ≡ run_of c.machine.program c.machine.input 0 c.machine.config = ap
        (λ (n : ℕ). run_of c.machine.program c.machine.input n c.machine.config) zero_left in
        let not_yet = unended plan.region (rest_of_run c.machine) c.machine.config (ap (λ (x : Run). x.trace) same
        ∙ spent_trace c.machine.program c.machine.input c.machine.config) (ap (λ (x : Run). x.configs) same
        ∙ spent_configs c.machine.program c.machine.input c.machine.config) in
        absurd (both_ways (has_ended (rest_of_run c.machine) plan.region 0) not_yet (sym (ended_same plan first c account g) ∙ h))

-- A committed iteration leaves less fuel.
some_events : (region turns : ℕ) (old new : MachineState) (before after : List ℤ) (closing : Bool) → old.current ≡ None →
    (call : IterationRun region turns old new before after (end_of_iteration closing)) → 0 < length call.events
some_events region turns old new before after true idle call = some_closed old.current call.events call.stops.closed
some_events region turns old new before after false idle call = call.stops.some idle

pub left_falls : (v : Carried) (old new : CommittedState) → IsOpen old → Applied v old new → steps_left new < steps_left old
left_falls v old new o a =
    let some = some_events old.region a.turns old.machine new.machine [] v.prints v.closing o.between a.call in
    omega (arith, some, a.call.moved.run.fuel, rest_fuel old.machine, rest_fuel new.machine)

module _ (key : EpochKey) (n : ℕ) (first : MachineState) (c : CommittedState) (account : Account) (e : InEpoch key n first c account) where
  -- the account counts what is committed
  pub report_here : account.report ≡ record account.report { iterations = c.count }
  report_here = e.progress.report_is ∙ sym (told_iterations account.why (report_before key.plan first c.count) c.count)
      ∙ ap (λ (x : RegionReport). record x { iterations = c.count }) (sym e.progress.report_is)

  pub unclean_here : (why : Cause) → Again why ≡ verdict_at key n → IsUnclean key.plan first c account
  unclean_here why gives = record { progress = e.progress; again = unclean_case key n first c account e why gives }

  module _ (v : Carried) (gives : SaysTheSame key (verdict_at key n) (Commit v)) where
    q : IsClean key n first c account e v
    q = clean_case key n first c account e v gives

    pub may_commit : CarriesNext c v
    may_commit = carries key n first c account e v q

    pub left_here : 0 < steps_left c
    left_here = some_left key.plan first c account e.progress (ended_here key n first c account e v q)

    -- what is to come begins with what the iteration prints
    commit_prints : prints_from key.plan first c.count ≡ v.prints ++ prints_from key.plan first (c.count + 1)
    commit_prints =
        let some : 0 < (rest_of_run c.machine).fuel = omega (arith, left_here, rest_fuel c.machine) in
        next_prints key.plan first c account e.progress some
        ∙ ap (λ (xs : List ℤ). xs ++ prints_from key.plan first (c.count + 1)) (iteration_prints key.plan first c account e.progress ∙ sym q.alike.0)

    is_split : (waiting : List ℤ) → prints_to_come key.plan first waiting c.count ≡ (waiting ++ v.prints) ++ prints_from key.plan first (c.count + 1)
    is_split waiting = ap (λ (xs : List ℤ). waiting ++ xs) commit_prints ∙ sym (append_assoc waiting v.prints (prints_from key.plan first (c.count + 1)))

    -- what waits then, with the iteration's prints behind it
    pub waits : (waiting after : List ℤ) → after ≡ waiting ++ v.prints → after ≡ waiting ++ prints_of key.plan first c.count
    waits waiting after is = is ∙ ap (λ (xs : List ℤ). waiting ++ xs) (sym (iteration_prints key.plan first c account e.progress ∙ sym q.alike.0))

    module _ (new : CommittedState) (a : Applied v c new) where
      new_count : new.count ≡ c.count + 1
      new_count = ap (λ (s : CommittedState). s.count) a.rest

      made_next : v.closing ≡ false → Remade c new v.prints iter_end.Next
      made_next open_yet =
          let call = subst (λ (b : Bool). IterationRun c.region a.turns c.machine new.machine [] v.prints (end_of_iteration b)) open_yet a.call in
          let some = call.stops.some e.progress.is_open.between in
          record { turns = a.turns; some = omega (arith, some, call.within); call = call; rest = a.rest }

      none_behind : v.closing ≡ true → prints_from key.plan first (c.count + 1) ≡ []
      none_behind closing =
          let all = begun_is key.plan first c account e.progress new.machine a.turns [] v.prints
          (subst (λ (b : Bool). IterationRun c.region a.turns c.machine new.machine [] v.prints (end_of_iteration b)) closing a.call) in
          ap (λ (k : ℕ). prints (drop (steps_of_first (region_run first) key.plan.region (c.count + 1)) (events_of_first (region_run first) key.plan.region k)))
          all
          ∙ ap prints (drop-length (events_of_first (region_run first) key.plan.region (c.count + 1)))

      module _ (waiting after : List ℤ) (is : after ≡ waiting ++ v.prints) where
        ahead : prints_to_come key.plan first waiting c.count ≡ after ++ prints_from key.plan first (c.count + 1)
        ahead = is_split waiting ∙ ap (λ (xs : List ℤ). xs ++ prints_from key.plan first (c.count + 1)) (sym is)

        pub goes_ahead : prints_to_come key.plan first waiting c.count ≡ prints_to_come key.plan first after new.count
        goes_ahead = ahead ∙ ap (λ (k : ℕ). after ++ prints_from key.plan first k) (sym new_count)

        pub closes_ahead : v.closing ≡ true → prints_to_come key.plan first waiting c.count ≡ after
        closes_ahead closing = ahead ∙ ap (λ (xs : List ℤ). after ++ xs) (none_behind closing) ∙ append-nil after

      module _ (more : Account) (counted : CountsClean c new account more) where
        more_is : more ≡ after_clean (c.count + 1) counted.seen account
        more_is = counted.account ∙ ap (λ (m : ℕ). after_clean m counted.seen account) new_count

        reported : Reports more (report_before key.plan first (c.count + 1))
        reported = report_next key n first c account e v q counted.seen more more_is

        pub epoch_closes : v.closing ≡ true → RegionDone key.plan first new more region_end.Closed
        epoch_closes closing =
            subst (λ (s : CommittedState). RegionDone key.plan first s more region_end.Closed) (sym a.rest)
            (closed_done key.plan first c account e.progress new.machine a.turns [] v.prints
            (subst (λ (b : Bool). IterationRun c.region a.turns c.machine new.machine [] v.prints (end_of_iteration b)) closing a.call) more reported)

        pub epoch_goes : v.closing ≡ false → InEpoch key (n + 1) first new more
        unfolding made_next
        epoch_goes open_yet =
            let made = made_next open_yet in
            subst (λ (s : CommittedState). InEpoch key (n + 1) first s more) (sym a.rest)
            (epoch_on key n first c account e v q a.turns [] v.prints new.machine made.call open_yet more reported
            (watching_on key n first c account e v q new made (going key n first c account e v q a.turns [] v.prints new.machine made.call open_yet)
            more counted more_is))
