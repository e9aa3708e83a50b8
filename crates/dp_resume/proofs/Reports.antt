-- What is reported of each region: before the checkpoint, and by the run that goes on from it.
use Rattle.std.proofs.Common.{◌≡◌, refl, sym, ap, ◌∙◌, subst, ℕ, zero, suc, ◌+◌, ◌-◌, ◌<◌, ◌==◌, Bool, true, false, not, List, [], ◌∷◌, ◌++◌, ℤ, length, map}
use Rattle.std.proofs.Common.{take, filter, Option, Some, None, is_some, slice_get, count_by, nat_lt, arith, rules, tests}
use Rattle.std.specs.Prelude.{if◌then◌else◌}
use Rattle.dp_base.specs.declared.RegionReport.{RegionReport}
use Rattle.dp_base.specs.declared.limits.TheConstants.{LISTED}
use Rattle.dp_tree.specs.declared.Program.{Program}
use Rattle.dp_tree.specs.Inlined.{IsInlined}
use Rattle.dp_tree.specs.Step.{Config}
use Rattle.dp_tree.specs.Trace.{Run, begin, run_of}
use Rattle.dp_tree.specs.Iteration.{begun_count, stands_at_head, start, starts}
use Rattle.dp_tree.specs.GoesOn.{GoesOnAs, moved}
use Rattle.dp_tree.specs.Numbering.{numbers_from}
use Rattle.dp_tree.proofs.GoesOn.{goes_on}
use Rattle.dp_tree.proofs.MovedLists.{at_drop}
use Rattle.dp_plan.specs.declared.Plan.{Plan}
use Rattle.dp_plan.specs.GivenPlans.{IsPlan}
use Rattle.dp_semantics.specs.Clean.{is_clean}
use Rattle.dp_semantics.specs.Recovery.{epoch_with, is_recovered_with, next_epoch, nowhere, recovered_first_with, recovered_with}
use Rattle.dp_semantics.specs.Reported.{gone_on, region_report, region_report_with, report_first_with}
use Rattle.dp_semantics.specs.Shift.{from_there}
use Rattle.dp_semantics.specs.Verdict.{source_run}
use Rattle.dp_theorem.proofs.Resumed.{begins_there, later_changes_nothing, region_reports_alone, reports_go_on}
use Rattle.dp_run.proofs.HeadPlaces.{FoundAt, found_at}
use Rattle.dp_resume.proofs.Reached.{config, config_at, none_started, rest}
use Rattle.dp_resume.specs.Resumed.{before_iteration}
use Rattle.dp_resume.specs.Saved.{uncaused}

-- ---- the first iteration of a run begins an epoch in any case

filter_same : {X : Type 0} (f g : X → Bool) → ((x : X) → f x ≡ g x) → (xs : List X) → filter f xs ≡ filter g xs
filter_same f g same [] = refl
filter_same f g same (x ∷ xs) =
    ap (λ (b : Bool). if b then x ∷ filter f xs else filter f xs) (same x) ∙ ap (λ (ys : List _). if g x then x ∷ ys else ys) (filter_same f g same xs)

module _ (p : Program) (plan : Plan) (run : Run) (begins others : ℕ → Bool) (alike : (i : ℕ) → begins (suc i) ≡ others (suc i)) where
  epochs_same : (i : ℕ) → epoch_with begins p plan run i ≡ epoch_with others p plan run i
  epochs_same zero = refl
  epochs_same (suc i) =
      ap (λ (b : Bool). if b then suc i else next_epoch p plan run i (epoch_with begins p plan run i)) (alike i)
      ∙ ap (λ (e : ℕ). if others (suc i) then suc i else next_epoch p plan run i e) (epochs_same i)

  again_same : (i : ℕ) → is_recovered_with begins p plan run i ≡ is_recovered_with others p plan run i
  again_same i = ap (λ (e : ℕ). not (is_clean p plan run e i)) (epochs_same i)

  pub listed_same : recovered_with begins p plan run ≡ recovered_with others p plan run
  listed_same = filter_same (is_recovered_with begins p plan run) (is_recovered_with others p plan run) again_same
      (numbers_from 0 (begun_count run plan.region))

-- what is told of a report without its causes
abbrev told : ℕ → ℕ → ℕ → List ℕ → RegionReport
told region iterations count numbers = record { region = region; iterations = iterations; recovered_count = count; recovered = numbers; causes = [] }

later_off : (n i : ℕ) → before_iteration n (n + suc i) ≡ false
later_off n i = let other : (n + suc i == n) ≡ false = search (rules, tests, (let e : n < n + suc i = omega arith in e)) in other

earlier_off : (n i : ℕ) → i < n → before_iteration n i ≡ nowhere i
earlier_off n i less = let other : (i == n) ≡ false = search (rules, tests) in other

here_on : (n : ℕ) → before_iteration n n ≡ true
here_on n = let same : (n == n) ≡ true = search (rules, tests) in same

-- ---- the region of the checkpoint

module _ (p : Program) (plan : Plan) (n k : ℕ) (run rest : Run) (goes : GoesOnAs plan.region n k run rest)
    (reached : is_some (start rest plan.region 0) ≡ true) where
  -- What was saved is gone on with.
  pub own_report : uncaused (gone_on (uncaused (report_first_with nowhere p plan run n)) (region_report p plan rest)) ≡ uncaused
      (region_report_with (before_iteration n) p plan run)
  own_report =
      let whole = (reports_go_on p plan (before_iteration n) n k run rest goes reached (begins_there p plan (before_iteration n) run n (here_on n))).whole in
      let first = (later_changes_nothing p plan (before_iteration n) nowhere run n (earlier_off n)).report in
      let list = listed_same p plan rest (from_there n (before_iteration n)) nowhere (later_off n) in
      sym (ap uncaused whole
      ∙ ap (λ (r : RegionReport). uncaused (gone_on r (region_report_with (from_there n (before_iteration n)) p plan rest))) first
      ∙ ap (λ (ns : List ℕ). told plan.region (n + begun_count rest plan.region) (length (recovered_first_with nowhere p plan run n) + length ns)
      (take LISTED (take LISTED (recovered_first_with nowhere p plan run n) ++ map (λ i. n + i) (take LISTED ns)))) list)

-- ---- a later region

module _ (p : Program) (inlined : IsInlined p) (input : List ℤ) (fuel : ℕ) (plan : Plan) (planned : IsPlan p plan) (n k : ℕ)
    (starts_so : start (source_run p input fuel) plan.region n ≡ Some k)
    (later : Plan) (is : IsPlan p later) (less : plan.region < later.region) where
  abbrev run : Run
  run = source_run p input fuel

  abbrev there : Config
  there = config p inlined input fuel plan planned n k starts_so

  abbrev on : Run
  on = rest p inlined input fuel plan planned n k starts_so

  goes : GoesOnAs later.region 0 k (source_run p input fuel) on
  goes =
      subst (λ (m : ℕ). GoesOnAs later.region m k (source_run p input fuel) on) (none_started p inlined input fuel plan planned n k starts_so later is less)
      (goes_on p input fuel k later.region (begin p) there (config_at p inlined input fuel plan planned n k starts_so))

  none_begun : (u : Run) → begun_count u later.region ≡ 0 → uncaused (region_report p later u) ≡ told later.region 0 0 []
  none_begun u none = ap (λ (m : ℕ). uncaused (report_first_with nowhere p later u m)) none

  none_listed : (ks : List ℕ) → slice_get ks 0 ≡ None → ks ≡ []
  none_listed [] e = refl
  none_listed (x ∷ ks) e = absurd (cc e)

  place : start (source_run p input fuel) later.region 0 ≡ moved k (start on later.region 0)
  place = let none : 0 + 0 ≡ 0 = omega arith in ap (start run later.region) (sym none) ∙ goes.started 0

  -- it isn't reached
  by_none : start on later.region 0 ≡ None → uncaused (region_report p later (source_run p input fuel)) ≡ uncaused (region_report p later on)
  by_none e =
      let few : begun_count on later.region ≡ 0 = ap (count_by (λ (j : ℕ). nat_lt j on.fuel)) (none_listed (starts on later.region) e) in
      let few_all : begun_count (source_run p input fuel) later.region ≡ 0 = omega (arith, goes.begun_in_all, few) in
      none_begun (source_run p input fuel) few_all ∙ sym (none_begun on few)

  -- its own run is the same
  by_some : (j : ℕ) → start on later.region 0 ≡ Some j → uncaused (region_report p later (source_run p input fuel)) ≡ uncaused (region_report p later on)
  by_some j e =
      let f : FoundAt (stands_at_head later.region) on.configs j = found_at (stands_at_head later.region) on.configs 0 j e in
      let at : slice_get run.configs (k + j) ≡ Some f.found = at_drop k j run.configs ∙ ap (λ (cs : List Config). slice_get cs j) goes.configs ∙ f.at in
      let begins : start run later.region 0 ≡ Some (k + j) = place ∙ ap (moved k) e in
      let one = region_reports_alone p later nowhere input fuel (k + j) (begin p) f.found at begins in
      let two = region_reports_alone p later nowhere input (fuel - k) j there f.found f.at e in
      let left : fuel - (k + j) ≡ fuel - k - j = omega arith in
      ap uncaused one.report ∙ ap (λ (m : ℕ). uncaused (region_report p later (run_of p input m f.found))) left ∙ sym (ap uncaused two.report)

  pub later_report : uncaused (region_report p later (source_run p input fuel)) ≡ uncaused (region_report p later on)
  later_report = by (start on later.region 0) refl
    where
      by : (o : Option ℕ) → start on later.region 0 ≡ o → uncaused (region_report p later (source_run p input fuel)) ≡ uncaused (region_report p later on)
      by None e = by_none e
      by (Some j) e = by_some j e
