-- The iteration that broke an epoch, executed again.
use Rattle.std.proofs.Common.{◌≡◌, ◌⊎◌, inl, inr, refl, sym, ap, ◌∙◌, subst, append_assoc, ℕ, suc, ◌+◌, ◌<◌, ◌≤◌, Bool, true, false, cond, if◌then◌else◌, List}
use Rattle.std.proofs.Common.{[], ◌∷◌, ◌++◌, length, length-append, take, drop, nat_lt, lt-ltb, le-ltb, Option, Some, None, ℤ, arith}
use Rattle.std.proofs.lemmas.Bool.{cases_lt, not-true}
use Rattle.std.specs.Option.{option_map}
use Rattle.std.proofs.lemmas.List.{append-nil, length-take}
use Rattle.std.proofs.Math.Seq.{drop-append_seam}
use Rattle.dp_base.specs.declared.RegionReport.{RegionReport}
use Rattle.dp_epoch.specs.declared.account.Account.{Account}
use Rattle.dp_base.specs.declared.End.TheVariants as how
use Rattle.dp_plan.specs.declared.Plan.{Plan}
use Rattle.dp_tree.specs.Step.{Event}
use Rattle.dp_tree.specs.Trace.{Run, prints}
use Rattle.dp_tree.specs.Iteration.{begun_count}
use Rattle.dp_tree.specs.IterationLaws.{events_of_first}
use Rattle.dp_semantics.specs.Clean.{is_clean}
use Rattle.dp_semantics.specs.Recovery.{epoch, is_recovered}
use Rattle.dp_semantics.specs.Reported.{report_of}
use Rattle.dp_meaning.specs.declared.ends.IterEnd.TheVariants as iter_end
use Rattle.dp_meaning.specs.MachineState.{MachineState, fuel_left, rest_of_run}
use Rattle.dp_commit.specs.CommittedState.{CommittedState, region_run, steps_of_first}
use Rattle.dp_epoch.specs.declared.ends.RegionEnd.{RegionEnd}
use Rattle.dp_epoch.specs.declared.ends.RegionEnd.TheVariants as region_end
use Rattle.dp_epoch.specs.Applied.{steps_left}
use Rattle.dp_epoch.specs.Prints.{prints_from}
use Rattle.dp_view.specs.Following.{KeptBefore}
use Rattle.dp_view.specs.Viewed.{Viewed}
use Rattle.dp_epoch.specs.Accounts.{CountsAgain, Explains, HearsOn, Reports, cause_told, run_end, seen_again, told_when, views_left}
use Rattle.dp_epoch.specs.Progress.{Progress, RegionDone, Watching, again_before, cause_of, report_before}
use Rattle.dp_epoch.specs.InEpoch.{AfterRecovery, AtEpoch}
use Rattle.dp_epoch.specs.Remade.{Remade, MayPrint, nothing, some, iteration_end}
use Rattle.dp_epoch.proofs.Counting.{again_more, told_begun as told_iterated, told_count, told_listed}
use Rattle.dp_epoch.proofs.Rehearing.{ended_next, ends_so, going_on, heard_all}
use Rattle.dp_epoch.proofs.SeenLemmas.{cause_found, seen_anew}
use Rattle.dp_epoch.proofs.Here.{rest_fuel}
use Rattle.dp_epoch.proofs.Advancing.{advanced}
use Rattle.dp_epoch.proofs.Ending.{front_of_it}
use Rattle.dp_epoch.proofs.Carrying.{iteration_same}
use Rattle.dp_epoch.proofs.Done.{closed_done, some_step}
use Rattle.dp_epoch.proofs.Stopped.{stops, stops_made, report_whole, events_all}
use Rattle.dp_epoch.proofs.Printing.{next_prints, onward_prints, closing_prints}
use Rattle.dp_meaning.proofs.MovedLemmas.{prints-append}

-- what is told counts the iteration where it was begun; the stages saw its events by then
pub record CountedRecovered (c : CommittedState) (account more : Account) (seen : Option Viewed) (end : Option RegionEnd) : Type 0 where
  pub begun : c.machine.steps < c.machine.fuel → CountsAgain c.count end (record account { views = seen }) more
  pub unbegun : c.machine.fuel ≤ c.machine.steps → (more.report ≡ account.report) × (more.why ≡ account.why)

pub counts_begun : (c : CommittedState) (account mid more : Account) (number : ℕ) (end : Option RegionEnd) → number ≡ c.count →
    mid ≡ record account { views = mid.views } → CountsAgain number end mid more → c.machine.steps < c.machine.fuel →
    CountedRecovered c account more mid.views end
counts_begun c account mid more number end at same counts h = record {
  begun = λ less. subst (λ (n : ℕ). CountsAgain n end (record account { views = mid.views }) more) at
      (subst (λ (a : Account). CountsAgain number end a more) same counts);
  unbegun = λ spent. absurd (omega (arith, h, spent));
}

pub counts_unbegun : (c : CommittedState) (account mid : Account) (end : Option RegionEnd) → mid ≡ record account { views = mid.views } →
    c.machine.fuel ≤ c.machine.steps → CountedRecovered c account mid mid.views end
counts_unbegun c account mid end same h = record {
  begun = λ less. absurd (omega (arith, h, less));
  unbegun = λ spent. (ap (λ (a : Account). a.report) same, ap (λ (a : Account). a.why) same);
}

same_either : {X : Type 0} (b : Bool) (x : X) → (if b then x else x) ≡ x
same_either true x = refl
same_either false x = refl

-- so many are listed
many_listed : (xs : List ℕ) (k : ℕ) → k ≡ length (take 1000 xs) → 1000 ≤ k → 1000 ≤ length xs
many_listed xs k e h = let size = length-take 1000 xs in omega (arith, e, h, size)

module _ (plan : Plan) (first : MachineState) (c : CommittedState) (account : Account) (g : Progress plan first c account) where
  abbrev run : Run
  run = region_run first

  -- what a re-execution prints is what the iteration prints, or a front of it
  stopped_prints : (events : List Event) → events_of_first run plan.region c.count ++ events ≡ events_of_first run plan.region (begun_count run plan.region) →
      prints_from plan first c.count ≡ prints events
  stopped_prints events is =
      ap prints (ap (drop (steps_of_first run plan.region c.count)) (sym is) ∙ drop-append_seam (events_of_first run plan.region c.count) events)

  going_prints : (new : CommittedState) (printed : List ℤ) → Remade c new printed iter_end.Going → (more : List ℤ)
      × (prints_from plan first c.count ≡ printed ++ more)
  going_prints new printed s =
      let made : 0 < length s.call.events = omega (arith, s.some, s.call.stops.2) in
      let front = front_of_it plan first c account g new.machine [] printed s.call.events s.call.configs s.call.moved s.call.heads made
      s.call.stops.0.not_closed in (
        prints front.0 ++ prints_from plan first (c.count + 1),
        next_prints plan first c account g (omega (arith, made, s.call.moved.run.fuel))
            ∙ ap (λ (xs : List ℤ). xs ++ prints_from plan first (c.count + 1)) (ap prints (iteration_same plan first c account g ∙ front.1)
            ∙ prints-append s.call.events front.0 ∙ ap (λ (xs : List ℤ). xs ++ prints front.0) (sym s.call.moved.prints))
            ∙ append_assoc printed (prints front.0) (prints_from plan first (c.count + 1)),
      )

  -- what is left to be written behind it
  abbrev pub left_behind : ℕ → Option RegionEnd → List ℤ
  left_behind n None = prints_from plan first n
  left_behind n (Some end) = []

  pub recovered_prints : (new : CommittedState) (printed : List ℤ) (end : Option RegionEnd) → Remade c new printed (iteration_end end) →
      prints_from plan first c.count ≡ printed ++ left_behind new.count end
  recovered_prints new printed None s =
      onward_prints plan first c account g new.machine s.turns [] printed s.call ∙ ap (λ (xs : List ℤ). xs ++ prints_from plan first (c.count + 1))
      (sym s.call.moved.prints)
      ∙ ap (λ (t : CommittedState). printed ++ prints_from plan first t.count) (sym s.rest)
  recovered_prints new printed (Some region_end.Closed) s =
      closing_prints plan first c account g new.machine s.turns [] printed s.call ∙ sym s.call.moved.prints ∙ sym (append-nil printed)
  recovered_prints new printed (Some (region_end.Fault fault)) s =
      stopped_prints s.call.events (events_all plan first c account g new.machine [] printed s.call.events s.call.configs s.call.moved s.call.heads
      s.call.stops.0 s.call.spoiled (fuel_left new.machine) (how.Fault fault) s.call.stops.2.ends)
      ∙ sym s.call.moved.prints ∙ sym (append-nil printed)
  recovered_prints new printed (Some region_end.Fuel) s =
      stopped_prints s.call.events (events_all plan first c account g new.machine [] printed s.call.events s.call.configs s.call.moved s.call.heads
      s.call.stops.0 s.call.spoiled 0 how.Fuel s.call.stops.1.ends)
      ∙ sym s.call.moved.prints ∙ sym (append-nil printed)

  pub front_prints : (printed : List ℤ) → MayPrint c printed → (more : List ℤ) × (prints_from plan first c.count ≡ printed ++ more)
  front_prints printed (nothing e) = (prints_from plan first c.count, ap (λ (xs : List ℤ). xs ++ prints_from plan first c.count) (sym e))
  front_prints printed (some new iter_end.Next s) = (left_behind new.count None, recovered_prints new printed None s)
  front_prints printed (some new iter_end.Closed s) = ([], recovered_prints new printed (Some region_end.Closed) s)
  front_prints printed (some new (iter_end.Fault fault) s) = ([], recovered_prints new printed (Some (region_end.Fault fault)) s)
  front_prints printed (some new iter_end.Fuel s) = ([], recovered_prints new printed (Some region_end.Fuel) s)
  front_prints printed (some new iter_end.Going s) = going_prints new printed s

  module _ (again : is_recovered first.program plan (region_run first) c.count ≡ true) (new : CommittedState) (printed : List ℤ) (end : Option RegionEnd)
      (s : Remade c new printed (iteration_end end)) where
    -- its cause is told, where causes are asked for and one more is listed
    explains : (why : Bool) (views seen : Option Viewed) → Watching plan first c.count why views → HearsOn c.machine new.machine views seen →
        Explains why (again_before plan first c.count) (cause_told seen end) (cause_of plan first c.count)
    explains true (Some v) (Some w) k h =
        λ few. ap Some (cause_found plan first c account g v k.1 again w (heard_all plan first c account g new printed end s v w k.1 h) (run_end end)
        (ends_so plan first c account g new printed end s))
    explains false (Some v) (Some w) k h = absurd (let clash = k.0 in cc clash)
    explains true None None k h = λ few. (let many = k refl in absurd (omega (arith, many, few)))
    explains false None None k h = refl
    explains why None (Some w) k h = absurd h
    explains why (Some v) None k h = absurd h

    module _ (more : Account) (seen : Option Viewed) (heard : HearsOn c.machine new.machine account.views seen)
        (q : CountedRecovered c account more seen end) where
      told_begun : c.machine.steps < c.machine.fuel → Reports more (report_before plan first (c.count + 1))
      told_begun h =
          let next : suc c.count ≡ c.count + 1 = omega arith in
          (q.begun h).report plan.region c.count (again_before plan first c.count) (cause_of plan first) g.report_is
          (explains account.why account.views seen g.views_are heard)
          ∙ ap (λ (listed : List ℕ). told_when more.why (report_of plan.region (c.count + 1) listed (cause_of plan first)))
          (sym (again_more plan first c.count again) ∙ ap (again_before plan first) next)

      told : Reports more (report_before plan first (c.count + cond (nat_lt c.machine.steps c.machine.fuel) 1 0))
      told = by (cases_lt c.machine.steps c.machine.fuel)
        where
          by : (c.machine.steps < c.machine.fuel) ⊎ (c.machine.fuel ≤ c.machine.steps) →
              Reports more (report_before plan first (c.count + cond (nat_lt c.machine.steps c.machine.fuel) 1 0))
          by (inl h) = subst (λ (b : Bool). Reports more (report_before plan first (c.count + cond b 1 0)))
              (sym (lt-ltb c.machine.steps c.machine.fuel h)) (told_begun h)
          by (inr h) =
              let same : c.count ≡ c.count + 0 = omega arith in
              let still : Reports more (report_before plan first c.count) = (q.unbegun h).0 ∙ g.report_is
              ∙ ap (λ (w : Bool). told_when w (report_before plan first c.count)) (sym (q.unbegun h).1) in
              subst (λ (b : Bool). Reports more (report_before plan first (c.count + cond b 1 0))) (sym (le-ltb c.machine.steps c.machine.fuel h))
              (subst (λ (n : ℕ). Reports more (report_before plan first n)) same still)

      -- one iteration more is counted, and told as executed again
      pub recovered_counts : c.machine.steps < c.machine.fuel → more.report.iterations + account.report.recovered_count ≡ account.report.iterations
          + more.report.recovered_count
      recovered_counts h =
          let next : suc c.count ≡ c.count + 1 = omega arith in
          let now = told_begun h in
          let begun = ap (λ (x : RegionReport). x.iterations) now ∙ told_iterated more.why (report_before plan first (c.count + 1)) in
          let size = ap (λ (x : RegionReport). x.recovered_count) now ∙ told_count more.why (report_before plan first (c.count + 1)) in
          let grown = ap length (sym (ap (again_before plan first) next) ∙ again_more plan first c.count again)
          ∙ length-append (again_before plan first c.count) (c.count ∷ []) in
          let before = ap (λ (x : RegionReport). x.iterations) g.report_is ∙ told_iterated account.why (report_before plan first c.count) in
          let old = ap (λ (x : RegionReport). x.recovered_count) g.report_is ∙ told_count account.why (report_before plan first c.count) in
          omega (arith, begun, size, grown, before, old)

      -- what is kept for causes where the next iteration begins
      again_size : length (again_before plan first c.count) ≤ length (again_before plan first (c.count + 1))
      again_size =
          let next : suc c.count ≡ c.count + 1 = omega arith in
          let grown = ap length (sym (ap (again_before plan first) next) ∙ again_more plan first c.count again) in
          let size = length-append (again_before plan first c.count) (c.count ∷ []) in
          omega (arith, grown, size)

      module _ (t : Remade c new printed iter_end.Next) (h : c.machine.steps < c.machine.fuel) where
        listed_size : length more.report.recovered ≡ length (take 1000 (again_before plan first (c.count + 1)))
        listed_size = ap (λ (x : RegionReport). length x.recovered) (told_begun h) ∙ ap length (told_listed more.why (report_before plan first (c.count + 1)))

        watch_next : (why : Bool) (views behind : Option Viewed) → Watching plan first c.count why views → HearsOn c.machine new.machine views behind →
            Watching plan first (c.count + 1) why (views_left (length more.report.recovered) (option_map seen_again behind))
        watch_next why None None k g = subst (Watching plan first (c.count + 1) why) (sym (same_either (nat_lt (length more.report.recovered) 1000) None))
            (λ asked. (let many = k asked in let grows = again_size in omega (arith, many, grows)))
        watch_next why None (Some w) k g = absurd g
        watch_next why (Some v) None k g = absurd g
        watch_next why (Some v) (Some w) k hears = by (cases_lt (length more.report.recovered) 1000)
          where
            next : suc c.count ≡ c.count + 1
            next = omega arith

            seen_then : Watching plan first (c.count + 1) why (Some (seen_again w))
            seen_then = (
              k.0,
              subst (λ (n : ℕ). KeptBefore first.program plan (region_run first) (epoch first.program plan (region_run first) n) n (seen_again w)) next
                  (seen_anew plan first c account g v k.1 again w (heard_all plan first c account g new printed end s v w k.1 hears)
                  (ended_next plan first c account g new printed t) (going_on plan first c account g new printed t)),
            )

            by : (length more.report.recovered < 1000) ⊎ (1000 ≤ length more.report.recovered) →
                Watching plan first (c.count + 1) why (views_left (length more.report.recovered) (Some (seen_again w)))
            by (inl few) = subst (λ (b : Bool). Watching plan first (c.count + 1) why (if b then Some (seen_again w) else None))
                (sym (lt-ltb (length more.report.recovered) 1000 few)) seen_then
            by (inr many) = subst (λ (b : Bool). Watching plan first (c.count + 1) why (if b then Some (seen_again w) else None))
                (sym (le-ltb (length more.report.recovered) 1000 many))
                (λ asked. many_listed (again_before plan first (c.count + 1)) (length more.report.recovered) listed_size many)

        pub watching_next : Watching plan first (c.count + 1) more.why more.views
        watching_next =
            let k = q.begun h in
            subst (λ (w : Bool). Watching plan first (c.count + 1) w more.views) (sym k.why)
            (subst (Watching plan first (c.count + 1) account.why) (sym k.views) (watch_next account.why account.views seen g.views_are heard))

  -- a step was made, so one was left
  step_left : (new : MachineState) (events : List Event) → (rest_of_run c.machine).fuel ≡ length events + (rest_of_run new).fuel → 0 < length events →
      c.machine.steps < c.machine.fuel
  step_left new events e h = omega (arith, e, h, rest_fuel c.machine)

  module _ (again : is_recovered first.program plan (region_run first) c.count ≡ true) (more : Account) (seen : Option Viewed) where
    pub recovered : (new : CommittedState) (printed : List ℤ) (end : Option RegionEnd) → Remade c new printed (iteration_end end) →
        HearsOn c.machine new.machine account.views seen → CountedRecovered c account more seen end → AfterRecovery plan first new more end
    recovered new printed None s heard q =
        let begun = step_left new.machine s.call.events s.call.moved.run.fuel (s.call.stops.some g.is_open.between) in
        subst (λ (t : CommittedState). AtEpoch plan first t more) (sym s.rest) (record {
          progress = advanced plan first c account g s.turns [] printed new.machine s.call more (told_begun again new printed None s more seen heard q begun)
              (watching_next again new printed None s more seen heard q s begun);
          fresh = inl
              ((let next : c.count + 1 ≡ suc c.count = omega arith in ap (epoch first.program plan (region_run first)) next)
              ∙ ap (λ (b : Bool). if b then epoch first.program plan (region_run first) c.count else suc c.count)
              (not-true (is_clean first.program plan (region_run first) (epoch first.program plan (region_run first) c.count) c.count) again)
              ∙ (let back : suc c.count ≡ c.count + 1 = omega arith in back));
        })
    recovered new printed (Some region_end.Closed) s heard q =
        subst (λ (t : CommittedState). RegionDone plan first t more region_end.Closed) (sym s.rest)
        (closed_done plan first c account g new.machine s.turns [] printed s.call more (told_begun again new printed (Some region_end.Closed) s more seen heard
        q (some_step plan first c account g new.machine s.turns [] printed s.call)))
    recovered new printed (Some (region_end.Fault fault)) s heard q = record {
      ran = record {
        made = stops_made plan first c account g new.machine [] printed s.call.events s.call.configs s.call.moved s.call.heads s.call.stops.0 s.call.spoiled
            (fuel_left new.machine) (how.Fault fault) s.call.stops.2.ends;
        ends = (
          stops plan first c account g new.machine [] printed s.call.events s.call.configs s.call.moved s.call.heads s.call.stops.0 s.call.spoiled
              (fuel_left new.machine) (how.Fault fault) s.call.stops.2.ends,
          s.call.stops.2,
        );
      };
      report_is = report_whole plan first c account g new.machine [] printed s.call.events s.call.configs s.call.moved s.call.heads s.call.stops.0
          s.call.spoiled (fuel_left new.machine) (how.Fault fault) s.call.stops.2.ends more
          (told again new printed (Some (region_end.Fault fault)) s more seen heard q);
    }
    recovered new printed (Some region_end.Fuel) s heard q = record {
      ran = record {
        made = stops_made plan first c account g new.machine [] printed s.call.events s.call.configs s.call.moved s.call.heads s.call.stops.0 s.call.spoiled 0
            how.Fuel s.call.stops.1.ends;
        ends = (
          stops plan first c account g new.machine [] printed s.call.events s.call.configs s.call.moved s.call.heads s.call.stops.0 s.call.spoiled 0
              how.Fuel s.call.stops.1.ends,
          s.call.stops.1,
        );
      };
      report_is = report_whole plan first c account g new.machine [] printed s.call.events s.call.configs s.call.moved s.call.heads s.call.stops.0
          s.call.spoiled 0 how.Fuel s.call.stops.1.ends more
          (told again new printed (Some region_end.Fuel) s more seen heard q);
    }

  pub recovered_left : (new : CommittedState) (printed : List ℤ) (end : Option RegionEnd) → Remade c new printed (iteration_end end) → end ≡ None →
      steps_left new < steps_left c
  recovered_left new printed None s e =
      let made = s.call.stops.some g.is_open.between in
      omega (arith, made, s.call.moved.run.fuel, rest_fuel c.machine, rest_fuel new.machine)
  recovered_left new printed (Some end) s e = absurd (cc)
