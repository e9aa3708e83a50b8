-- The whole run's text is written, or a front of it.
use Rattle.std.proofs.Common.{◌≡◌, refl, sym, ap, ◌∙◌, subst, ℕ, ◌+◌, ◌-◌, ◌≤◌, Bool, true, false, List, [], ◌++◌, append-nil, length, take, drop, All, ℤ}
use Rattle.std.proofs.Common.{Option, Some, None, arith}
use Rattle.std.proofs.lemmas.Grind.{flat_map-append}
use Rattle.std.proofs.lemmas.List.{take-append-drop}
use Rattle.dp_base.specs.declared.RegionReport.{RegionReport}
use Rattle.dp_base.specs.declared.End.{End}
use Rattle.dp_base.specs.declared.End.TheVariants.{Done}
use Rattle.dp_tree.specs.declared.Program.{Program}
use Rattle.dp_tree.specs.Trace.{Run, run_of, begin, prints}
use Rattle.dp_edge.specs.Sink.{appended}
use Rattle.dp_plan.specs.declared.Plan.{Plan}
use Rattle.dp_meaning.specs.MachineState.{MachineState}
use Rattle.dp_report.specs.PrintsText.{prints_bytes}
use Rattle.dp_report.specs.RegionText.{report_lines, regions_bytes}
use Rattle.dp_report.specs.EndText.{end_bytes}
use Rattle.dp_edge.specs.Writing.{WritesFront}
use Rattle.dp_crew.specs.Output.{Emits}
use Rattle.dp_run.specs.Given.{AreGiven}
use Rattle.dp_run.specs.RunText.{source_run, region_reports, final_cells, closing_text, trace_text, committed_in_all}
use Rattle.dp_run.specs.Stretches.{Ahead, Behind, Counted, Over, Went, ended_by, to_come}
use Rattle.dp_run.proofs.Counting.{all_next, as_many}
use Rattle.dp_run.proofs.Leading.{behind_start, finished_next, over_done}
use Rattle.dp_run.proofs.Ending.{IsListed, IsExplained, listed_in, explained_in, told_bytes, silent_in, none_in, reports_append, in_all_append, numbers_behind}
use Rattle.dp_edge.proofs.FrontLemmas.{appended-append, front_behind, front_more}

-- The run has ended behind the first of the plans' regions, whose reports are there.
pub record Finished (why : Bool) (p : Program) (plans : List Plan) (input : List ℤ) (fuel : ℕ) (m : MachineState) (end : End) (reports : List RegionReport)
    (before now : ℕ) : Type 0 where
  pub count : ℕ
  pub within : count ≤ length plans
  pub over : Over (source_run p input fuel) count m end
  pub counted : Counted why p plans (source_run p input fuel) count [] reports before now

module _ (p : Program) (plans : List Plan) (input : List ℤ) (fuel : ℕ) (why : Bool) (given : AreGiven p plans) where
  abbrev run : Run
  run = source_run p input fuel

  abbrev Start : MachineState → Type 0
  Start m = m ≡ record { program = p; input = input; config = begin p; steps = 0; fuel = fuel; current = None; spoiled = false }

  begins : (m : MachineState) → Start m → Behind p input m.fuel run 0 m
  begins m e = let f : m.fuel ≡ fuel = ap (λ (x : MachineState). x.fuel) e in
      subst (λ (k : ℕ). Behind p input k run 0 m) (sym f) (behind_start p input fuel given.inlined m e)

  -- all regions are ahead
  pub ahead : (m : MachineState) → Start m → Ahead p plans input m.fuel run 0 m
  ahead m e = record { next = all_next p plans given; behind = begins m e }

  -- Where it went by all regions it has ended, too.
  pub finished : (m last : MachineState) → Start m → (o : Option End) (end : End) (told reports : List RegionReport) (before now : ℕ) → told ≡ [] →
      end ≡ ended_by o → Went why p plans input m.fuel run 0 last o told reports before now →
      Finished why p plans input fuel last end reports before now
  finished m last start None end told reports before now none is w =
      let count : 0 + w.count ≡ w.count = omega arith in
      let left : length p.regions - (0 + w.count) ≡ 0 = let many = as_many p plans given in let all = w.all refl in omega (arith, many, all) in
      let over : Over run (0 + w.count) last Done = over_done p input m.fuel run (0 + w.count) last w.leads.behind
      (finished_next p input m.fuel run (0 + w.count) last w.leads left) in
      record {
        count = w.count;
        within = w.within;
        over = subst (λ (k : ℕ). Over run k last end) count (subst (Over run (0 + w.count) last) (sym is) over);
        counted = subst (λ (rs : List RegionReport). Counted why p plans run w.count rs reports before now) none w.counted;
      }
  finished m last start (Some how) end told reports before now none is w =
      let count : 0 + w.count ≡ w.count = omega arith in
      record {
        count = w.count;
        within = w.within;
        over = subst (λ (k : ℕ). Over run k last end) count (subst (Over run (0 + w.count) last) (sym is) w.leads);
        counted = subst (λ (rs : List RegionReport). Counted why p plans run w.count rs reports before now) none w.counted;
      }

  prints_at : (m : MachineState) → Start m → to_come m ≡ prints run.trace
  prints_at m e =
      let none : fuel - 0 ≡ fuel = omega arith in
      ap to_come e ∙ ap (λ (n : ℕ). prints (run_of p input n (begin p)).trace) none

  -- a front of the prints is one of the text
  pub front_of_run : (m : MachineState) → Start m → (told tells : Option (List ℕ)) → WritesFront (prints_bytes (to_come m)) told tells →
      WritesFront (trace_text p plans run why) told tells
  front_of_run m e told tells w =
      front_more (prints_bytes (prints run.trace)) (closing_text p plans run why) told tells
      (subst (λ (zs : List ℤ). WritesFront (prints_bytes zs) told tells) (prints_at m e) w)

  module _ (last : MachineState) (end : End) (reports : List RegionReport) (before now : ℕ)
      (d : Finished why p plans input fuel last end reports before now) where
    split : take d.count plans ++ drop d.count plans ≡ plans
    split = take-append-drop d.count plans

    pub all_listed : All IsListed reports
    all_listed = subst (All IsListed) (sym d.counted.reports_are) (listed_in p run why (take d.count plans))

    pub all_explained : why ≡ true → All IsExplained reports
    all_explained asked = subst (All IsExplained) (sym d.counted.reports_are) (explained_in p run why asked (take d.count plans))

    pub end_is : end ≡ run.end
    end_is = sym d.over.end_is

    regions_are : regions_bytes why reports ≡ regions_bytes why (region_reports p plans run)
    regions_are =
        ap (regions_bytes why) d.counted.reports_are ∙ told_bytes p run why (take d.count plans)
        ∙ sym (append-nil (regions_bytes why (region_reports p (take d.count plans) run)))
        ∙ ap (λ (xs : List ℕ). regions_bytes why (region_reports p (take d.count plans) run) ++ xs)
        (sym (silent_in p run why (d.count + 1) (drop d.count plans) (λ r h. d.over.unreached r (omega (arith, h))) (length p.regions - d.count)
        (numbers_behind d.count plans 1 (length p.regions) d.within given.plans_are.regions)))
        ∙ sym (flat_map-append (report_lines why) (region_reports p (take d.count plans) run) (region_reports p (drop d.count plans) run))
        ∙ ap (regions_bytes why) (sym (reports_append p run (take d.count plans) (drop d.count plans)))
        ∙ ap (λ (xs : List Plan). regions_bytes why (region_reports p xs run)) split

    pub tally_all : now ≡ before + committed_in_all p plans run
    tally_all =
        let rest = none_in p run (d.count + 1) (drop d.count plans) (λ r h. d.over.unreached r (omega (arith, h))) (length p.regions - d.count)
        (numbers_behind d.count plans 1 (length p.regions) d.within given.plans_are.regions) in
        let both = in_all_append p run (take d.count plans) (drop d.count plans) in
        let all = ap (λ (xs : List Plan). committed_in_all p xs run) split in
        omega (arith, d.counted.tally_is, rest, both, all)

    pub closing_is : end_bytes p last.config.cells reports end why ≡ closing_text p plans run why
    closing_is =
        ap (λ (cells : List ℤ). end_bytes p cells reports end why) (sym d.over.cells_are)
        ∙ ap (λ (how : End). end_bytes p (final_cells run) reports how why) end_is
        ∙ with_regions regions_are
      where
        with_regions : regions_bytes why reports ≡ regions_bytes why (region_reports p plans run) →
            end_bytes p (final_cells run) reports run.end why ≡ end_bytes p (final_cells run) (region_reports p plans run) run.end why
        with_regions e = rw e refl

    module _ (m : MachineState) (start : Start m) (told mid : Option (List ℕ)) (e : Emits (to_come m) (to_come last) told mid) (cells : List ℤ)
        (seen : cells ≡ last.config.cells) where
      -- all prints were written
      prints_written : mid ≡ appended (prints_bytes (prints run.trace)) told
      prints_written =
          let none : to_come last ≡ [] = ap prints d.over.no_step in
          let all : prints run.trace ≡ e.written = sym (prints_at m start) ∙ e.splits ∙ ap (λ (zs : List ℤ). e.written ++ zs) none ∙ append-nil e.written in
          e.sink ∙ ap (λ (zs : List ℤ). appended (prints_bytes zs) told) (sym all)

      closing_seen : end_bytes p cells reports end why ≡ closing_text p plans run why
      closing_seen = ap (λ (zs : List ℤ). end_bytes p zs reports end why) seen ∙ closing_is

      pub front_at_end : (tells : Option (List ℕ)) → WritesFront (end_bytes p cells reports end why) mid tells →
          WritesFront (trace_text p plans run why) told tells
      front_at_end tells w = front_behind (trace_text p plans run why) (prints_bytes (prints run.trace)) (end_bytes p cells reports end why) told mid tells
          (ap (λ (x : List ℕ). prints_bytes (prints run.trace) ++ x) (sym closing_seen)) prints_written w

      pub all_written : (tells : Option (List ℕ)) → tells ≡ appended (end_bytes p cells reports end why) mid →
          tells ≡ appended (trace_text p plans run why) told
      all_written tells w = w ∙ ap (appended (end_bytes p cells reports end why)) prints_written ∙ appended-append (prints_bytes (prints run.trace))
          (end_bytes p cells reports end why) told
          ∙ ap (λ (x : List ℕ). appended (prints_bytes (prints run.trace) ++ x) told) closing_seen
