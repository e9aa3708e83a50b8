-- The checkpoint where an iteration of a region starts fits the program.
use Rattle.std.proofs.Common.{◌≡◌, refl, sym, ap, ◌∙◌, subst, ℕ, zero, suc, ◌+◌, ◌^◌, ◌<◌, ◌≤◌, ◌==◌, Bool, true, false, if◌then◌else◌, List, [], ◌∷◌, ◌++◌, ℤ}
use Rattle.std.proofs.Common.{length, map, take, Some, slice_get, length-take-le, arith}
use Rattle.std.proofs.lemmas.Bool.{eqb-false}
use Rattle.std.proofs.lemmas.List.{length-map}
use Rattle.std.proofs.lemmas.Option.{slice_get_within}
use Rattle.dp_base.specs.Arithmetic.{fits}
use Rattle.dp_base.specs.declared.limits.TheConstants.{FUEL, INPUT_WORDS}
use Rattle.dp_text.specs.Each.{Each}
use Rattle.dp_tree.specs.declared.Program.{Program}
use Rattle.dp_tree.specs.Inlined.{IsInlined}
use Rattle.dp_tree.specs.InMain.{StandsInMain}
use Rattle.dp_tree.specs.Iteration.{begun_count, cells_after, cells_in, stands_at_head, start}
use Rattle.dp_tree.specs.Numbering.{numbers_from}
use Rattle.dp_tree.specs.RunLaws.{GoesByStep}
use Rattle.dp_tree.specs.Step.{Config}
use Rattle.dp_tree.specs.Trace.{Run, begin, start_cells}
use Rattle.dp_tree.proofs.InMain.{begins_in_main, stays_in_main}
use Rattle.dp_tree.proofs.RunLaws.{runs_by_step}
use Rattle.dp_plan.specs.declared.Plan.{Plan}
use Rattle.dp_plan.specs.GivenPlans.{ArePlans, region_of}
use Rattle.dp_plan.proofs.RegionFacts.{few_regions}
use Rattle.dp_semantics.specs.Recovery.{is_recovered_with, nowhere}
use Rattle.dp_semantics.specs.Reported.{region_report, report_first_with}
use Rattle.dp_semantics.specs.Verdict.{source_run}
use Rattle.dp_theorem.proofs.Placed.{standing-length}
use Rattle.dp_calls.specs.AtHome.{numbers_fit, stores_at_home}
use Rattle.dp_save.specs.Fits.{BodyLocalIsZero, CellsFit, Fits, PlaceFits, ReportFits, ReportsFit, StopsHere, reported_region}
use Rattle.dp_calls.specs.Starts.{locals_start_clear}
use Rattle.dp_save.proofs.ReadBack.{written_only}
use Rattle.dp_run.proofs.HeadPlaces.{found_at}
use Rattle.dp_resume.specs.Laws.{SavedFits, SavedIsRead}
use Rattle.dp_resume.specs.Saved.{checkpoint_at, saved_report, uncaused}
use Rattle.dp_resume.proofs.Found.{region_within}
use Rattle.dp_resume.proofs.AtHome.{locals_clear}
use Rattle.dp_resume.proofs.SavedReports.{place_above, places_below, report_fits}
use Rattle.dp_resume.proofs.WideCells.{cells_wide, each_wide, wide_each}

-- ---- lists

-- what is so at each place is so of each element
each_at : {X : Type 0} (P : X → Type 0) (xs : List X) → ((i : ℕ) (x : X) → slice_get xs i ≡ Some x → P x) → Each P xs
each_at P [] h = tt
each_at P (x ∷ xs) h = (h 0 x refl, each_at P xs (λ i y at. h (suc i) y at))

each_of_map : {X Y : Type 0} (P : Y → Type 0) (f : X → Y) (xs : List X) → ((x : X) → P (f x)) → Each P (map f xs)
each_of_map P f [] h = tt
each_of_map P f (x ∷ xs) h = (h x, each_of_map P f xs h)

numbered_front : (k first count : ℕ) (plans : List Plan) → map region_of plans ≡ numbers_from first count →
    map region_of (take k plans) ≡ numbers_from first (length (take k plans))
numbered_front zero first count plans e = refl
numbered_front (suc k) first count [] e = refl
numbered_front (suc k) first zero (plan ∷ plans) e = absurd (cc e)
numbered_front (suc k) first (suc count) (plan ∷ plans) e =
    let number : plan.region ≡ first = cc e in let others : map region_of plans ≡ numbers_from (first + 1) count = cc e in
    ap (λ (q : ℕ). q ∷ map region_of (take k plans)) number ∙ ap (λ (qs : List ℕ). first ∷ qs) (numbered_front k (first + 1) count plans others)

as_many : (first count : ℕ) (plans : List Plan) → map region_of plans ≡ numbers_from first count → length plans ≡ count
as_many first zero [] e = refl
as_many first zero (plan ∷ plans) e = absurd (cc e)
as_many first (suc count) [] e = absurd (cc e)
as_many first (suc count) (plan ∷ plans) e = let others : map region_of plans ≡ numbers_from (first + 1) count = cc e in
    ap suc (as_many (first + 1) count plans others)

-- ---- a report that is saved

module _ (p : Program) (run : Run) (r n : ℕ) where
  report_region : (plan : Plan) → reported_region (saved_report p run r n plan) ≡ plan.region
  report_region plan = by (plan.region == r)
    where
      by : (b : Bool) → reported_region (uncaused (if b then report_first_with nowhere p plan run n else region_report p plan run)) ≡ plan.region
      by true = refl
      by false = refl

  saved_fits : n ≤ FUEL → (plan : Plan) → begun_count run plan.region ≤ FUEL → ReportFits (saved_report p run r n plan)
  saved_fits few plan begun = by (plan.region == r)
    where
      by : (b : Bool) → ReportFits (uncaused (if b then report_first_with nowhere p plan run n else region_report p plan run))
      by true = report_fits plan.region n (is_recovered_with nowhere p plan run) few
      by false = report_fits plan.region (begun_count run plan.region) (is_recovered_with nowhere p plan run) begun

  saved_here : (plan : Plan) → reported_region (saved_report p run r n plan) ≡ r → (saved_report p run r n plan).iterations ≡ n
  saved_here plan here = by (plan.region == r) refl (sym (report_region plan) ∙ here)
    where
      by : (b : Bool) → (plan.region == r) ≡ b → plan.region ≡ r →
          (uncaused (if b then report_first_with nowhere p plan run n else region_report p plan run)).iterations ≡ n
      by true e same = refl
      by false e same = absurd (eqb-false plan.region r e same)

  regions_of : (plans : List Plan) → map reported_region (map (saved_report p run r n) plans) ≡ map region_of plans
  regions_of [] = refl
  regions_of (plan ∷ plans) = ap (λ (q : ℕ). q ∷ map reported_region (map (saved_report p run r n) plans)) (report_region plan)
      ∙ ap (λ (qs : List ℕ). plan.region ∷ qs) (regions_of plans)

-- ---- the checkpoint

module _ (p : Program) (plans : List Plan) (inlined : IsInlined p) (given : ArePlans p plans) (at_home : stores_at_home p ≡ true)
    (starts_so : locals_start_clear p ≡ true) (fit : numbers_fit p ≡ true)
    (input : List ℤ) (few : length input ≤ INPUT_WORDS) (wide : Each (λ z. fits z ≡ true) input) (fuel r n k : ℕ) (most : fuel ≤ FUEL) (low : 1 ≤ r)
    (high : r ≤ length p.regions)
    (e : start (source_run p input fuel) r n ≡ Some k) (d : Config) (at : slice_get (source_run p input fuel).configs k ≡ Some d)
    (on : stands_at_head r d ≡ true) where
  abbrev run : Run
  run = source_run p input fuel

  steps : GoesByStep p input fuel (begin p) (source_run p input fuel)
  steps = runs_by_step p input fuel (begin p)

  steps_within : k ≤ fuel
  steps_within = let here = slice_get_within run.configs k d at in omega (arith, here, steps.one_more, steps.steps_within)

  after_within : n ≤ k
  after_within = let above = place_above (stands_at_head r) 0 run.configs n k e in omega (arith, above)

  begun_within : (q : ℕ) → begun_count (source_run p input fuel) q ≤ FUEL
  begun_within q = let below = places_below (stands_at_head q) run.fuel 0 run.configs in omega (arith, below, steps.kept, most)

  place_fits : PlaceFits p (checkpoint_at p plans input fuel r n k)
  place_fits = record {
    some_region = low;
    region_exists = high;
    region_numbered = let fewer = few_regions p inlined in omega (arith, high, fewer);
    few_after = omega (arith, after_within, steps_within, most);
    steps_within = steps_within;
    most_fuel = most;
  }

  -- ---- the memory

  cells_are : cells_after (source_run p input fuel) k ≡ d.cells
  cells_are = ap cells_in at

  long : length d.cells ≡ length (start_cells p.vars)
  long = by (stays_in_main p input inlined.regions fuel k (begin p) d (begins_in_main p) at)
    where
      by : StandsInMain p d → length d.cells ≡ length (start_cells p.vars)
      by s = ap (λ (c : Config). length c.cells) s.config_is ∙ standing-length p (s.inner ++ s.behind) s.cells ∙ s.cells_are

  few_words : length input < 2 ^ 63
  few_words = omega (arith, few)

  cells_fit : CellsFit p (cells_after (source_run p input fuel) k)
  cells_fit = subst (CellsFit p) (sym cells_are) (record {
    long = long;
    wide = wide_each d.cells (cells_wide p input few_words (each_wide input wide) fit fuel k d at);
    locals = each_at (BodyLocalIsZero d.cells) p.vars (locals_clear p input inlined at_home starts_so fuel k r d at on);
  })

  -- ---- the reports

  front_many : length (map (saved_report p (source_run p input fuel) r n) (take r plans)) ≡ r
  front_many =
      let many : length plans ≡ length p.regions = as_many 1 (length p.regions) plans given.regions in
      length-map (take r plans) (saved_report p (source_run p input fuel) r n) ∙ length-take-le r plans (omega (arith, many, high))

  reports_fit : ReportsFit (checkpoint_at p plans input fuel r n k)
  reports_fit = record {
    regions =
        regions_of p (source_run p input fuel) r n (take r plans)
        ∙ numbered_front r 1 (length p.regions) plans given.regions
        ∙ ap (numbers_from 1) (sym (length-map (take r plans) (saved_report p (source_run p input fuel) r n)));
    each = each_of_map ReportFits (saved_report p (source_run p input fuel) r n) (take r plans)
        (λ plan. saved_fits p (source_run p input fuel) r n (omega (arith, after_within, steps_within, most)) plan (begun_within plan.region));
    here = each_of_map (StopsHere (checkpoint_at p plans input fuel r n k)) (saved_report p (source_run p input fuel) r n) (take r plans)
        (saved_here p (source_run p input fuel) r n);
  }

  pub fits_there : Fits p (checkpoint_at p plans input fuel r n k)
  fits_there = record { place = place_fits; cells = cells_fit; reports = reports_fit; all = front_many }

-- ---- where an iteration is reached

pub checkpoint_fits : (p : Program) (plans : List Plan) → SavedFits p plans
checkpoint_fits p plans given at_home starts_so fit input fuel r n k few wide most e =
    let w = region_within p given.inlined input fuel r n k e in
    let there = found_at (stands_at_head r) (source_run p input fuel).configs n k e in
    fits_there p plans given.inlined given.plans_are at_home starts_so fit input few wide fuel r n k most w.0 (omega (arith, w.1)) e there.found
    there.at there.passes

pub checkpoint_is_read : (p : Program) (plans : List Plan) → SavedIsRead p plans
checkpoint_is_read p plans given at_home starts_so fit input fuel r n k few wide most e =
    written_only p (checkpoint_at p plans input fuel r n k) (checkpoint_fits p plans given at_home starts_so fit input fuel r n k few wide most e)
