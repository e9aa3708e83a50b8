-- Where a region that is to be left before an iteration leads: to a checkpoint of the source's run, or to the region's end.
use Rattle.std.proofs.Common.{◌≡◌, refl, sym, ap, ◌∙◌, subst, inl, ℕ, zero, suc, ◌+◌, ◌-◌, ◌≤◌, true, List, [], ◌∷◌, ◌++◌, ℤ, length, map, take, Some, None}
use Rattle.std.proofs.Common.{false, slice_get, length-append, arith}
use Rattle.std.specs.Fmt.{signed_decimal}
use Rattle.std.specs.List.{flat_map}
use Rattle.std.proofs.lemmas.List.{append_cancel_right, map-append}
use Rattle.std.proofs.Math.Seq.{take-append_seam}
use Rattle.dp_base.specs.declared.RegionReport.{RegionReport}
use Rattle.dp_tree.specs.declared.Program.{Program}
use Rattle.dp_tree.specs.Numbering.{numbers_from}
use Rattle.dp_tree.specs.Step.{Config, Event}
use Rattle.dp_tree.specs.Trace.{Run, begin, prints, run_of}
use Rattle.dp_tree.specs.Iteration.{cells_after, cells_in, stands_at_head, start}
use Rattle.dp_tree.specs.IterationLaws.{events_of_first}
use Rattle.dp_tree.specs.GoesOn.{moved}
use Rattle.dp_plan.specs.declared.Plan.{Plan}
use Rattle.dp_plan.specs.GivenPlans.{region_of}
use Rattle.dp_semantics.specs.Recovery.{nowhere}
use Rattle.dp_semantics.specs.Reported.{region_report, report_first_with}
use Rattle.dp_theorem.proofs.Central.{fuel_is}
use Rattle.dp_theorem.proofs.Resumed.{region_reports_alone}
use Rattle.dp_theorem.proofs.Runs.{first_place}
use Rattle.dp_meaning.specs.declared.ends.Part.TheVariants as part
use Rattle.dp_meaning.specs.Continues.{Continues}
use Rattle.dp_meaning.specs.MachineState.{MachineState, fuel_left, part_of, rest_of_run}
use Rattle.dp_meaning.proofs.ContinuesLemmas.{continues_join}
use Rattle.dp_commit.specs.CommittedState.{region_run, steps_of_first}
use Rattle.dp_commit.proofs.Parts.{run_begins}
use Rattle.dp_epoch.specs.declared.ends.RegionEnd.{RegionEnd}
use Rattle.dp_epoch.specs.Progress.{report_before}
use Rattle.dp_epoch.specs.RegionRun.{IsPlanned}
use Rattle.dp_epoch.proofs.Here.{starts_here}
use Rattle.dp_epoch.specs.Accounts.{told_when}
use Rattle.dp_run.specs.RunText.{region_reports, source_run, told_reports}
use Rattle.dp_run.specs.Stretches.{AfterRegion, Between, to_come}
use Rattle.dp_run.proofs.Leading.{config_here}
use Rattle.dp_run.proofs.Passing.{config_at, prints_on}
use Rattle.dp_run.proofs.Regions.{after_region, comes}
use Rattle.dp_run.proofs.RegionsLeft.{on_region}
use Rattle.dp_run.proofs.Reporting.{own_is, report_is, same}
use Rattle.dp_save.specs.declared.Checkpoint.{Checkpoint}
use Rattle.dp_save.specs.CheckpointText.{cells_words, end_words, head_words, line_bytes, place_words, report_words}
use Rattle.dp_save.specs.WrittenText.{checkpoint_bytes}
use Rattle.dp_resume.specs.Saved.{checkpoint_at, saved_report, uncaused}
use Rattle.dp_resume.specs.steps.Reaching.{EndsBefore, StandsBefore}
use Rattle.dp_resume.specs.steps.Saving.{made_by}
use Rattle.dp_resume.proofs.TextGoesOn.{if_other, if_same}
use Rattle.dp_resume.proofs.ToldReports.{told_alike}

-- ---- a checkpoint's text has no causes

words_uncaused : (reports : List RegionReport) → map report_words (map uncaused reports) ≡ map report_words reports
words_uncaused [] = refl
words_uncaused (r ∷ reports) = ap (λ (ws : List (List (List ℕ))). report_words r ∷ ws) (words_uncaused reports)

abbrev pub saved_so : ℕ → ℕ → ℕ → ℕ → List ℤ → List RegionReport → Checkpoint
saved_so region after steps fuel cells reports = record { region = region; after = after; steps = steps; fuel = fuel; cells = cells; reports = reports }

pub text_uncaused : (region after steps fuel : ℕ) (cells : List ℤ) (reports : List RegionReport) →
    checkpoint_bytes (saved_so region after steps fuel cells (map uncaused reports)) ≡ checkpoint_bytes (saved_so region after steps fuel cells reports)
unfolding checkpoint_bytes
text_uncaused region after steps fuel cells reports =
    ap (λ (ws : List (List (List ℕ))). flat_map line_bytes (head_words ∷ place_words (saved_so region after steps fuel cells [])
    ∷ cells_words (map signed_decimal cells) ∷ (ws ++ end_words ∷ [])))
    (words_uncaused reports)

-- ---- the reports of the regions before

before_saved : (p : Program) (run : Run) (r n first count : ℕ) (plans : List Plan) (m : ℕ) → map region_of plans ≡ numbers_from first count → first + m ≤ r →
    map uncaused (region_reports p (take m plans) run) ≡ map (saved_report p run r n) (take m plans)
before_saved p run r n first count plans zero numbers low = refl
before_saved p run r n first count [] (suc m) numbers low = refl
before_saved p run r n first zero (plan ∷ plans) (suc m) numbers low = absurd (cc numbers)
before_saved p run r n first (suc count) (plan ∷ plans) (suc m) numbers low =
    let number : plan.region ≡ first = cc numbers in let others : map region_of plans ≡ numbers_from (first + 1) count = cc numbers in
    ap (λ (x : RegionReport). x ∷ map uncaused (region_reports p (take m plans) run))
    (sym (ap uncaused (if_other plan.region r _ (region_report p plan run) (inl (omega (arith, number, low))))))
    ∙ ap (λ (xs : List RegionReport). saved_report p run r n plan ∷ xs) (before_saved p run r n (first + 1) count plans m others (omega (arith, low)))

pub take_next : {X : Type 0} (xs : List X) (n : ℕ) (x : X) → slice_get xs n ≡ Some x → take (suc n) xs ≡ take n xs ++ x ∷ []
take_next [] n x e = absurd (cc e)
take_next {X = X} (y ∷ xs) zero x e = let same_one : y ≡ x = cc e in ap (λ (z : X). z ∷ []) same_one
take_next {X = X} (y ∷ xs) (suc n) x e = ap (λ (zs : List X). y ∷ zs) (take_next xs n x e)

-- ---- the region in the source's run

module _ (p : Program) (plan : Plan) (input : List ℤ) (fuel n : ℕ) (first : MachineState) (planned : IsPlanned p plan) (number : plan.region ≡ suc n)
    (b : Between p input fuel (source_run p input fuel) n first) where
  abbrev run : Run
  run = source_run p input fuel

  here : part_of first.config.to_do ≡ part.Region (suc n)
  here = comes p plan input fuel run n first planned number b

  abbrev es : List Event
  es = b.behind.passed.events

  rest_fuel : (rest_of_run first).fuel ≡ fuel_left first
  rest_fuel = fuel_is first.program first.input (fuel_left first) first.config

  -- as many steps were made
  pub made_is : length b.behind.passed.events ≡ made_by first
  made_is = let all = fuel_is p input fuel (begin p) in let some = b.behind.passed.piece.fuel in omega (arith, all, some, rest_fuel, b.behind.fuel_is)

  pub started : (i : ℕ) → start (source_run p input fuel) plan.region i ≡ moved (length b.behind.passed.events + 0) (start (region_run first) plan.region i)
  started i =
      (same p plan input fuel run n first number b here).started i
      ∙ ap (λ (u : Run). moved (length es + 0) (start u plan.region i)) (own_is p plan input fuel run n first number b here)

  pub unreached : (i : ℕ) → start (region_run first) plan.region i ≡ None → start (source_run p input fuel) plan.region i ≡ None
  unreached i e = started i ∙ ap (moved (length es + 0)) e

  left_is : fuel - (length b.behind.passed.events + 0) ≡ fuel_left first
  left_is = let all = fuel_is p input fuel (begin p) in omega (arith, all, b.behind.passed.piece.fuel, rest_fuel)

  own_run : run_of p input (fuel - (length b.behind.passed.events + 0)) first.config ≡ region_run first
  own_run =
      ap (λ (m : ℕ). run_of p input m first.config) left_is ∙ ap (λ (q : Program). run_of q input (fuel_left first) first.config) (sym b.behind.program_is)
      ∙ ap (λ (zs : List ℤ). run_of first.program zs (fuel_left first) first.config) (sym b.behind.input_is)

  starts_first : start (source_run p input fuel) plan.region 0 ≡ Some (length b.behind.passed.events + 0)
  starts_first =
      let begins = run_begins first.program first.input (fuel_left first) first.config in
      let at : slice_get (region_run first).configs 0 ≡ Some first.config = ap (λ (cs : List Config). slice_get cs 0) begins.1 in
      let on : stands_at_head plan.region first.config ≡ true = ap (λ (r : ℕ). stands_at_head r first.config) number ∙ on_region (suc n) first.config here in
      started 0 ∙ ap (moved (length es + 0)) (first_place (stands_at_head plan.region) 0 (region_run first).configs first.config at on)
      ∙ (let none : (length b.behind.passed.events + 0) + 0 ≡ length b.behind.passed.events + 0 = omega arith in ap Some none)

  -- the report of its first iterations is that of the source's run
  report_first : (m : ℕ) → report_before plan first m ≡ report_first_with nowhere p plan (source_run p input fuel) m
  report_first m =
      let alone = region_reports_alone p plan nowhere input fuel (length es + 0) (begin p) first.config (config_here p input fuel run n first b) starts_first in
      ap (λ (q : Program). report_first_with nowhere q plan (region_run first) m) b.behind.program_is
      ∙ ap (λ (u : Run). report_first_with nowhere p plan u m) (sym own_run)
      ∙ sym (alone.until m).report

  pub report_whole : region_report p plan (region_run first) ≡ region_report p plan (source_run p input fuel)
  report_whole = report_is p plan input fuel run n first number b here

  pub behind_it : (last : MachineState) (end : RegionEnd) (i : ℕ) (report : RegionReport) → EndsBefore p plan first last i report end →
      AfterRegion p input fuel (source_run p input fuel) (suc n) last end
  behind_it last end i report e = after_region p plan input fuel run n first planned number b last end e.ran

  -- ---- where it was left

  module _ (after : ℕ) (last : MachineState) (report : RegionReport) (s : StandsBefore plan first last after report) where
    abbrev fs : List Event
    fs = events_of_first (region_run first) plan.region after

    inner : Continues (region_run first) (events_of_first (region_run first) plan.region after) s.progress.holds.configs (rest_of_run last)
    inner =
        subst (λ (m : MachineState). Continues (region_run first) fs s.progress.holds.configs (rest_of_run m)) s.machine_is
        (subst (λ (k : ℕ). Continues (region_run first) (events_of_first (region_run first) plan.region k) s.progress.holds.configs
        (rest_of_run s.committed.machine)) s.count
        (subst (λ (r : ℕ). Continues (region_run first) (events_of_first (region_run first) r s.committed.count) s.progress.holds.configs
        (rest_of_run s.committed.machine)) s.progress.region s.progress.holds.piece))

    joined : Continues (source_run p input fuel) (b.behind.passed.events ++ events_of_first (region_run first) plan.region after) (b.behind.passed.configs
        ++ s.progress.holds.configs) (rest_of_run last)
    joined = continues_join run (rest_of_run first) (rest_of_run last) es fs b.behind.passed.configs s.progress.holds.configs b.behind.passed.piece inner

    abbrev pub steps : ℕ
    steps = (length b.behind.passed.events + 0) + steps_of_first (region_run first) plan.region after

    steps_are : length (b.behind.passed.events ++ events_of_first (region_run first) plan.region after) ≡ steps
    steps_are = omega (arith, length-append b.behind.passed.events (events_of_first (region_run first) plan.region after))

    -- the iteration starts there
    pub starts_there : start (source_run p input fuel) plan.region after ≡ Some steps
    starts_there =
        started after
        ∙ ap (moved (length es + 0)) (subst (λ (k : ℕ). start (region_run first) plan.region k ≡ Some (steps_of_first (region_run first) plan.region k)) s.count
        (starts_here plan first s.committed s.account s.progress))

    fuel_same : last.fuel ≡ first.fuel
    fuel_same = ap (λ (m : MachineState). m.fuel) (sym s.machine_is) ∙ s.progress.holds.fuel

    pub fuel_there : last.fuel ≡ fuel
    fuel_there = fuel_same ∙ b.behind.fuel_is

    pub steps_there : last.steps ≤ last.fuel → last.steps ≡ steps
    steps_there within =
        let all = fuel_is p input fuel (begin p) in let rest = fuel_is last.program last.input (fuel_left last) last.config in
        omega (arith, all, rest, joined.fuel, steps_are, fuel_there, within)

    pub cells_there : cells_after (source_run p input fuel) steps ≡ last.config.cells
    cells_there =
        let begins = run_begins last.program last.input (fuel_left last) last.config in
        let place : length (es ++ fs) + 0 ≡ steps = omega (arith, steps_are) in
        ap (cells_after run) (sym place) ∙ ap cells_in (config_at run (rest_of_run last) (es ++ fs) (b.behind.passed.configs ++ s.progress.holds.configs) joined
        0) ∙ ap (λ (cs : List Config). cells_in (slice_get cs 0)) begins.1

    -- what is to be printed up to there
    prints_there : take (steps - made_by first) (rest_of_run first).trace ≡ events_of_first (region_run first) plan.region after
    prints_there =
        let count : steps - made_by first ≡ length fs = omega (arith, made_is) in
        ap (λ (m : ℕ). take m (region_run first).trace) count ∙ ap (take (length fs)) inner.trace ∙ take-append_seam fs (rest_of_run last).trace

    pub written_there : (w : List ℤ) → to_come first ≡ w ++ to_come last → w ≡ prints (take (steps - made_by first) (rest_of_run first).trace)
    written_there w e =
        append_cancel_right w (prints fs) (to_come last) (sym e ∙ prints_on (region_run first) (rest_of_run last) fs s.progress.holds.configs inner)
        ∙ ap prints (sym prints_there)

    report_there : report ≡ told_when false (report_first_with nowhere p plan (source_run p input fuel) after)
    report_there = s.report_is ∙ ap (told_when false) (report_first after)

    -- the reports are those of the checkpoint
    pub reports_there : (plans : List Plan) (count : ℕ) → map region_of plans ≡ numbers_from 1 count → slice_get plans n ≡ Some plan →
        (told : List RegionReport) → told ≡ told_reports false p (take n plans) (source_run p input fuel) →
        map uncaused (told ++ report ∷ []) ≡ map (saved_report p (source_run p input fuel) (suc n) after) (take (suc n) plans)
    reports_there plans count numbers at told is =
        map-append uncaused told (report ∷ [])
        ∙ ap (λ (rs : List RegionReport). map uncaused rs ++ uncaused report ∷ []) is
        ∙ ap (λ (rs : List RegionReport). rs ++ uncaused report ∷ []) (told_alike p run (take n plans)
        ∙ before_saved p run (suc n) after 1 count plans n numbers (omega arith))
        ∙ ap (λ (r : RegionReport). map (saved_report p run (suc n) after) (take n plans) ++ r ∷ []) (ap uncaused report_there
        ∙ sym (ap uncaused (if_same plan.region (suc n) (report_first_with nowhere p plan run after) (region_report p plan run) number)))
        ∙ sym (map-append (saved_report p run (suc n) after) (take n plans) (plan ∷ []))
        ∙ ap (map (saved_report p run (suc n) after)) (sym (take_next plans n plan at))

    -- so the text is that of the checkpoint
    pub text_there : (plans : List Plan) (count : ℕ) → map region_of plans ≡ numbers_from 1 count → slice_get plans n ≡ Some plan → (told : List RegionReport) →
        told ≡ told_reports false p (take n plans) (source_run p input fuel) → last.steps ≤ last.fuel →
        checkpoint_bytes (saved_so (suc n) after last.steps last.fuel last.config.cells (told ++ report ∷ [])) ≡ checkpoint_bytes
        (checkpoint_at p plans input fuel (suc n) after steps)
    text_there plans count numbers at told is within =
        let rs : List RegionReport = map (saved_report p (source_run p input fuel) (suc n) after) (take (suc n) plans) in
        sym (text_uncaused (suc n) after last.steps last.fuel last.config.cells (told ++ report ∷ []))
        ∙ ap (λ (xs : List RegionReport). checkpoint_bytes (saved_so (suc n) after last.steps last.fuel last.config.cells xs))
        (reports_there plans count numbers at told is)
        ∙ ap (λ (m : ℕ). checkpoint_bytes (saved_so (suc n) after m last.fuel last.config.cells rs)) (steps_there within)
        ∙ ap (λ (m : ℕ). checkpoint_bytes (saved_so (suc n) after steps m last.config.cells rs)) fuel_there
        ∙ ap (λ (zs : List ℤ). checkpoint_bytes (saved_so (suc n) after steps fuel zs rs)) (sym cells_there)
