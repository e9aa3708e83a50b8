-- A run that goes on from a checkpoint, to its end: its text is written, or a front of it.
use Rattle.std.proofs.Common.{◌≡◌, refl, sym, ap, ◌∙◌, subst, ℕ, zero, suc, ◌+◌, ◌-◌, ◌<◌, ◌≤◌, false, List, [], ◌∷◌, ◌++◌, ℤ, length, map, take, drop, All}
use Rattle.std.proofs.Common.{Option, Some, None, append-nil, length-drop, arith}
use Rattle.std.proofs.lemmas.List.{take-append-drop}
use Rattle.dp_base.specs.declared.End.{End}
use Rattle.dp_base.specs.declared.RegionReport.{RegionReport}
use Rattle.dp_edge.specs.Sink.{appended}
use Rattle.dp_edge.specs.Writing.{WritesFront}
use Rattle.dp_edge.proofs.FrontLemmas.{appended-append, front_behind, front_more}
use Rattle.dp_tree.specs.declared.Program.{Program}
use Rattle.dp_tree.specs.Iteration.{starts}
use Rattle.dp_tree.specs.Numbering.{numbers_from}
use Rattle.dp_tree.specs.Step.{Config, standing}
use Rattle.dp_tree.specs.Trace.{Run, prints}
use Rattle.dp_tree.proofs.Heads.{standing_to_do}
use Rattle.dp_plan.specs.declared.Plan.{Plan}
use Rattle.dp_plan.specs.Each.{Each}
use Rattle.dp_plan.specs.GivenPlans.{IsPlan, region_of}
use Rattle.dp_semantics.specs.EpochKey.{statements_from}
use Rattle.dp_semantics.specs.Reported.{region_report}
use Rattle.dp_meaning.specs.MachineState.{MachineState}
use Rattle.dp_meaning.proofs.RegionPlaces.{region_in_main}
use Rattle.dp_crew.specs.Output.{Emits}
use Rattle.dp_report.specs.EndText.{end_bytes, end_line}
use Rattle.dp_report.specs.PrintsText.{prints_bytes}
use Rattle.dp_report.specs.RegionText.{regions_bytes}
use Rattle.dp_report.specs.StateText.{state_bytes}
use Rattle.dp_run.specs.Given.{AreGiven, AreNext}
use Rattle.dp_run.specs.Regions.{regions_left}
use Rattle.dp_run.specs.RunText.{final_cells, region_reports, told_reports}
use Rattle.dp_run.specs.Stretches.{Ahead, Behind, Over, Went, ended_by, to_come}
use Rattle.dp_run.proofs.Counting.{as_many}
use Rattle.dp_run.proofs.Ending.{IsListed, listed_in, numbers_behind, reports_append, silent_in}
use Rattle.dp_run.proofs.Leading.{finished_next, over_done}
use Rattle.dp_run.proofs.Passing.{passed_none}
use Rattle.dp_save.specs.declared.Checkpoint.{Checkpoint}
use Rattle.dp_save.specs.Fits.{Fits}
use Rattle.dp_resume.specs.Resumed.{resumed_bytes, resumed_closing, resumed_reports, resumed_run}
use Rattle.dp_resume.specs.steps.Merging.{merged}
use Rattle.dp_resume.proofs.Found.{left_at, starts_there}
use Rattle.dp_resume.proofs.MergeLemmas.{listed_merged, listed_saved, merged_alike, merged_lines, resumed_merged}
use Rattle.dp_resume.proofs.TextGoesOn.{lines_same}

pub each_first : {X : Type 0} (P : X → Type 0) (n : ℕ) (xs : List X) → Each P xs → Each P (take n xs)
each_first P zero xs all = record {}
each_first P (suc n) [] all = all
each_first P (suc n) (x ∷ xs) all = (all.0, each_first P n xs all.1)

pub each_behind : {X : Type 0} (P : X → Type 0) (n : ℕ) (xs : List X) → Each P xs → Each P (drop n xs)
each_behind P zero xs all = all
each_behind P (suc n) [] all = all
each_behind P (suc n) (x ∷ xs) all = each_behind P n xs all.1

module _ (p : Program) (plans : List Plan) (given : AreGiven p plans) (input : List ℤ) (c : Checkpoint) (fits : Fits p c) where
  -- how many regions come before
  abbrev n : ℕ
  n = c.region - 1

  next_is : suc (c.region - 1) ≡ c.region
  next_is = omega (arith, fits.place.some_region)

  abbrev left : List Plan
  left = drop (c.region - 1) plans

  abbrev run : Run
  run = resumed_run p input c

  many : length plans ≡ length p.regions
  many = as_many p plans given

  many_left : length (drop (c.region - 1) plans) ≡ length p.regions - (c.region - 1)
  many_left = omega (arith, length-drop (c.region - 1) plans, many)

  numbered : map region_of (drop (c.region - 1) plans) ≡ numbers_from (suc (c.region - 1)) (length (drop (c.region - 1) plans))
  numbered =
      let plus : (c.region - 1) + 1 ≡ suc (c.region - 1) = omega arith in
      numbers_behind (c.region - 1) plans 1 (length p.regions) (omega (arith, many, fits.place.region_exists)) given.plans_are.regions
      ∙ ap (λ (k : ℕ). numbers_from k (length p.regions - (c.region - 1))) plus ∙ ap (numbers_from (suc (c.region - 1))) (sym many_left)

  next : AreNext p (c.region - 1) (drop (c.region - 1) plans)
  next = record {
    inlined = given.inlined;
    regions = numbered;
    within = omega (arith, many_left, fits.place.region_exists);
    each = each_behind (IsPlan p) (c.region - 1) plans given.plans_are.each;
  }

  abbrev first : Config
  first = standing p (statements_from c.region p.main) c.cells

  abbrev Start : MachineState → Type 0
  Start m = m ≡ record { program = p; input = input; config = first; steps = c.steps; fuel = c.fuel; current = None; spoiled = false }

  left_regions : regions_left first.to_do ≡ numbers_from (suc (c.region - 1)) (length p.regions - (c.region - 1))
  left_regions =
      let count : 1 + length p.regions - c.region ≡ length p.regions - (c.region - 1) = omega (arith, fits.place.some_region) in
      ap regions_left (standing_to_do p (statements_from c.region p.main) c.cells)
      ∙ left_at p plans given c.region fits.place.some_region fits.place.region_exists
      ∙ ap (numbers_from c.region) count ∙ ap (λ (k : ℕ). numbers_from k (length p.regions - (c.region - 1))) (sym next_is)

  behind_first : Behind p input c.fuel (resumed_run p input c) (c.region - 1)
      (record { program = p; input = input; config = first; steps = c.steps; fuel = c.fuel; current = None; spoiled = false })
  behind_first = record {
    begins = record { from = first; steps = c.fuel - c.steps; stands = region_in_main c.region p c.cells fits.cells.long; within = omega arith; run_is = refl };
    program_is = refl;
    input_is = refl;
    fuel_is = refl;
    passed = passed_none run (suc (c.region - 1));
    left = left_regions;
    between = refl;
    sound = refl;
  }

  -- all regions from the checkpoint's on are ahead
  pub ahead : (m : MachineState) → Start m → Ahead p (drop (c.region - 1) plans) input m.fuel (resumed_run p input c) (c.region - 1) m
  ahead m e = record {
    next = next;
    behind = subst (λ (x : MachineState). Behind p input x.fuel run (c.region - 1) x) (sym e) behind_first;
  }

  prints_at : (m : MachineState) → Start m → to_come m ≡ prints (resumed_run p input c).trace
  prints_at m e = ap to_come e

  -- a front of the prints is one of the text
  pub front_of_run : (m : MachineState) → Start m → (told tells : Option (List ℕ)) → WritesFront (prints_bytes (to_come m)) told tells →
      WritesFront (resumed_bytes p plans input c) told tells
  front_of_run m e told tells w =
      front_more (prints_bytes (prints run.trace)) (resumed_closing p plans input c) told tells
      (subst (λ (zs : List ℤ). WritesFront (prints_bytes zs) told tells) (prints_at m e) w)

  -- The run has ended behind the first of these plans' regions, whose reports are there.
  pub record Finished (m : MachineState) (end : End) (reports : List RegionReport) : Type 0 where
    pub count : ℕ
    pub within : count ≤ length (drop (c.region - 1) plans)
    pub over : Over (resumed_run p input c) ((c.region - 1) + count) m end
    pub reports_are : reports ≡ told_reports false p (take count (drop (c.region - 1) plans)) (resumed_run p input c)

  -- Where it went by all regions it has ended, too.
  pub finished : (last : MachineState) (fuel : ℕ) (o : Option End) (end : End) (told reports : List RegionReport) (before now : ℕ) →
      told ≡ [] → end ≡ ended_by o →
      Went false p (drop (c.region - 1) plans) input fuel (resumed_run p input c) (c.region - 1) last o told reports before now → Finished last end reports
  finished last fuel None end told reports before now none is w =
      let none_left : length p.regions - ((c.region - 1) + w.count) ≡ 0 = let all = w.all refl in omega (arith, many_left, all) in
      record {
        count = w.count;
        within = w.within;
        over = subst (Over run ((c.region - 1) + w.count) last) (sym is) (over_done p input fuel run ((c.region - 1) + w.count) last w.leads.behind
            (finished_next p input fuel run ((c.region - 1) + w.count) last w.leads none_left));
        reports_are = w.counted.reports_are ∙ ap (λ (rs : List RegionReport). rs ++ told_reports false p (take w.count left) run) none;
      }
  finished last fuel (Some how) end told reports before now none is w = record {
    count = w.count;
    within = w.within;
    over = subst (Over run ((c.region - 1) + w.count) last) (sym is) w.leads;
    reports_are = w.counted.reports_are ∙ ap (λ (rs : List RegionReport). rs ++ told_reports false p (take w.count left) run) none;
  }

  -- the region itself is reached at once
  reached : starts (resumed_run p input c) (suc (c.region - 1)) ≡ [] → ⊥
  reached none = starts_there p plans given c.region fits.place.some_region fits.place.region_exists input (c.fuel - c.steps) c.cells
      (sym (ap (starts run) next_is) ∙ none)

  module _ (last : MachineState) (end : End) (told : List RegionReport) (d : Finished last end told) where
    silent : regions_bytes false (region_reports p (drop d.count (drop (c.region - 1) plans)) (resumed_run p input c)) ≡ []
    silent =
        silent_in p run false (d.count + suc (c.region - 1)) (drop d.count left) (λ r h. d.over.unreached r (omega (arith, h))) (length left - d.count)
        (numbers_behind d.count left (suc (c.region - 1)) (length left) d.within numbered)

    -- the reports that are there, with their causes
    abbrev causes : List RegionReport
    causes = region_reports p (take d.count (drop (c.region - 1) plans)) (resumed_run p input c)

    lines_told : regions_bytes false (merged c.reports told) ≡ regions_bytes false (merged c.reports causes)
    lines_told =
        ap (λ (rs : List RegionReport). regions_bytes false (merged c.reports rs)) d.reports_are
        ∙ lines_same (merged c.reports (told_reports false p (take d.count left) run)) (merged c.reports causes)
        (merged_alike p run c.reports (take d.count left))

    -- some of its iterations may be begun, so that it has a report
    lines_case : (count : ℕ) → d.count ≡ count → regions_bytes false (merged c.reports causes) ≡ regions_bytes false
        (merged c.reports (region_reports p (drop (c.region - 1) plans) (resumed_run p input c)))
    lines_case zero none = absurd (reached (d.over.unreached (suc (c.region - 1)) (omega (arith, none))))
    lines_case (suc count) is = lines_by (drop (c.region - 1) plans) refl
      where
        lines_by : (ps : List Plan) → drop (c.region - 1) plans ≡ ps → regions_bytes false (merged c.reports causes) ≡ regions_bytes false
            (merged c.reports (region_reports p (drop (c.region - 1) plans) (resumed_run p input c)))
        lines_by [] e = absurd (let few = d.within in omega (arith, is, few, ap length e))
        lines_by (plan ∷ rest) e =
            let some : 0 < length c.reports = omega (arith, fits.all, fits.place.some_region) in
            let told_is : causes ≡ region_report p plan run ∷ region_reports p (take count rest) run =
            ap (λ (k : ℕ). region_reports p (take k left) run) is ∙ ap (λ (xs : List Plan). region_reports p (take (suc count) xs) run) e in
            let more_is : regions_bytes false (region_reports p (drop count rest) run) ≡ [] =
            sym (ap (λ (k : ℕ). regions_bytes false (region_reports p (drop k left) run)) is
            ∙ ap (λ (xs : List Plan). regions_bytes false (region_reports p (drop (suc count) xs) run)) e) ∙ silent in
            ap (λ (rs : List RegionReport). regions_bytes false (merged c.reports rs)) told_is
            ∙ merged_lines c.reports (region_report p plan run) (region_reports p (take count rest) run) (region_reports p (drop count rest) run) some more_is
            ∙ ap (λ (rs : List RegionReport). regions_bytes false (merged c.reports (region_report p plan run ∷ rs)))
            (sym (reports_append p run (take count rest) (drop count rest)) ∙ ap (λ (xs : List Plan). region_reports p xs run) (take-append-drop count rest))
            ∙ ap (λ (xs : List Plan). regions_bytes false (merged c.reports (region_reports p xs run))) (sym e)

    lines_are : regions_bytes false (merged c.reports told) ≡ regions_bytes false (resumed_reports p (resumed_run p input c) c.reports plans)
    lines_are =
        lines_told
        ∙ lines_case d.count refl
        ∙ sym (lines_same (resumed_reports p run c.reports plans) (merged c.reports (region_reports p left run))
        (resumed_merged p run c.reports plans (c.region - 1) (fits.all ∙ sym next_is) (omega (arith, many, fits.place.some_region, fits.place.region_exists))))

    pub end_is : end ≡ (resumed_run p input c).end
    end_is = sym d.over.end_is

    pub listed : All IsListed (merged c.reports told)
    listed = listed_merged c.reports told (listed_saved c.reports fits.reports.each)
        (subst (All IsListed) (sym d.reports_are) (listed_in p run false (take d.count left)))

    closing_is : end_bytes p last.config.cells (merged c.reports told) end false ≡ resumed_closing p plans input c
    closing_is =
        ap (λ (cells : List ℤ). end_bytes p cells (merged c.reports told) end false) (sym d.over.cells_are)
        ∙ ap (λ (how : End). end_bytes p (final_cells run) (merged c.reports told) how false) end_is
        ∙ ap (λ (t : List ℕ). state_bytes p.vars (final_cells run) ++ t ++ end_line run.end) lines_are

    module _ (m : MachineState) (start_so : Start m) (before mid : Option (List ℕ)) (e : Emits (to_come m) (to_come last) before mid) where
      -- all prints were written
      prints_written : mid ≡ appended (prints_bytes (prints (resumed_run p input c).trace)) before
      prints_written =
          let none : to_come last ≡ [] = ap prints d.over.no_step in
          let all : prints run.trace ≡ e.written = sym (prints_at m start_so) ∙ e.splits ∙ ap (λ (zs : List ℤ). e.written ++ zs) none ∙ append-nil e.written in
          e.sink ∙ ap (λ (zs : List ℤ). appended (prints_bytes zs) before) (sym all)

      -- the prints alone are a front of the text
      pub front_of_prints : WritesFront (resumed_bytes p plans input c) before mid
      front_of_prints = record { front = prints_bytes (prints run.trace); rest = resumed_closing p plans input c; splits = refl; sink = prints_written }

      module _ (cells : List ℤ) (seen : cells ≡ last.config.cells) (reports : List RegionReport) (are : reports ≡ merged c.reports told) where
        closing_seen : end_bytes p cells reports end false ≡ resumed_closing p plans input c
        closing_seen = ap (λ (zs : List ℤ). end_bytes p zs reports end false) seen
            ∙ ap (λ (rs : List RegionReport). end_bytes p last.config.cells rs end false) are ∙ closing_is

        pub front_at_end : (lent : Program) → lent ≡ p → (tells : Option (List ℕ)) → WritesFront (end_bytes lent cells reports end false) mid tells →
            WritesFront (resumed_bytes p plans input c) before tells
        front_at_end lent same tells w =
            front_behind (resumed_bytes p plans input c) (prints_bytes (prints run.trace)) (end_bytes p cells reports end false) before mid tells
            (ap (λ (x : List ℕ). prints_bytes (prints run.trace) ++ x) (sym closing_seen)) prints_written
            (subst (λ (q : Program). WritesFront (end_bytes q cells reports end false) mid tells) same w)

        pub all_written : (lent : Program) → lent ≡ p → (tells : Option (List ℕ)) → tells ≡ appended (end_bytes lent cells reports end false) mid →
            tells ≡ appended (resumed_bytes p plans input c) before
        all_written lent same tells w = w ∙ ap (λ (q : Program). appended (end_bytes q cells reports end false) mid) same
            ∙ ap (appended (end_bytes p cells reports end false)) prints_written ∙ appended-append (prints_bytes (prints run.trace))
            (end_bytes p cells reports end false) before
            ∙ ap (λ (x : List ℕ). appended (prints_bytes (prints run.trace) ++ x) before) closing_seen
