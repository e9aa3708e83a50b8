-- The source's run to its end, from a place behind a region on.
use Rattle.std.proofs.Common.{◌≡◌, refl, sym, ap, ◌∙◌, subst, ℕ, zero, suc, ◌+◌, ◌-◌, ◌≤◌, false, List, [], ◌∷◌, ◌++◌, ℤ, length, map, take, drop, All, Result}
use Rattle.std.proofs.Common.{IfOk, OnErr, Option, Some, None, append-nil, length-drop, arith}
use Rattle.std.proofs.lemmas.List.{map-append}
use Rattle.std.proofs.lemmas.Result.{IfOk-weaker, on_err_weaker}
use Rattle.dp_base.specs.declared.End.{End}
use Rattle.dp_base.specs.declared.RegionReport.{RegionReport}
use Rattle.dp_edge.specs.Sink.{appended}
use Rattle.dp_edge.specs.Writing.{WritesFront}
use Rattle.dp_edge.specs.declared.writing.WriteFail.{WriteFail}
use Rattle.dp_edge.proofs.FrontLemmas.{appended-append, front_behind, front_more}
use Rattle.dp_tree.specs.declared.Program.{Program}
use Rattle.dp_tree.specs.Numbering.{numbers_from}
use Rattle.dp_tree.specs.Trace.{Run, prints}
use Rattle.dp_plan.specs.declared.Plan.{Plan}
use Rattle.dp_plan.specs.GivenPlans.{IsPlan}
use Rattle.dp_meaning.specs.MachineState.{MachineState}
use Rattle.dp_crew.specs.Output.{Emits}
use Rattle.dp_report.specs.EndText.{end_bytes, end_line}
use Rattle.dp_report.specs.PrintsText.{prints_bytes}
use Rattle.dp_report.specs.StateText.{state_bytes}
use Rattle.dp_run.specs.Given.{AreGiven}
use Rattle.dp_run.specs.RunText.{closing_text, committed_in_all, source_run, told_reports}
use Rattle.dp_run.specs.Stretches.{Ahead, Behind, Over, Went, ended_by, to_come}
use Rattle.dp_run.proofs.Counting.{as_many}
use Rattle.dp_run.proofs.Ending.{IsListed, numbers_behind}
use Rattle.dp_run.proofs.Leading.{finished_next, over_done}
use Rattle.dp_run.proofs.Whole as whole
use Rattle.dp_resume.specs.declared.save.SaveEnd.{SaveEnd}
use Rattle.dp_resume.specs.declared.save.SaveEnd.TheVariants.{Ran}
use Rattle.dp_resume.specs.Saved.{uncaused}
use Rattle.dp_resume.specs.steps.Saving.{ending_from}
use Rattle.dp_resume.proofs.TextGoesOn.{lines_uncaused}
use Rattle.dp_resume.proofs.ToldReports.{listed_uncaused, told_again, told_append}
use Rattle.dp_resume.proofs.Whole.{each_behind}

take_more : {X : Type 0} (n m : ℕ) (xs : List X) → n ≤ length xs → take (n + m) xs ≡ take n xs ++ take m (drop n xs)
take_more zero m xs h = let none : 0 + m ≡ m = omega arith in ap (λ (k : ℕ). take k xs) none
take_more (suc n) m [] h = absurd (omega (arith, h))
take_more {X = X} (suc n) m (x ∷ xs) h =
    let up : suc n + m ≡ suc (n + m) = omega arith in ap (λ (k : ℕ). take k (x ∷ xs)) up ∙ ap (λ (ys : List X). x ∷ ys) (take_more n m xs (omega (arith, h)))

module _ (p : Program) (plans : List Plan) (given : AreGiven p plans) (input : List ℤ) (fuel : ℕ) where
  abbrev run : Run
  run = source_run p input fuel

  -- The run has ended behind the first of the regions, whose reports are there, whatever causes they have.
  pub record Ended (m : MachineState) (end : End) (reports : List RegionReport) : Type 0 where
    pub count : ℕ
    pub within : count ≤ length plans
    pub over : Over (source_run p input fuel) count m end
    pub reports_are : map uncaused reports ≡ told_reports false p (take count plans) (source_run p input fuel)

  -- the regions behind the first so many are ahead
  ahead_behind : (region : ℕ) (m : MachineState) → region ≤ length plans → Behind p input fuel (source_run p input fuel) region m →
      Ahead p (drop region plans) input fuel (source_run p input fuel) region m
  ahead_behind region m few b =
      let many = as_many p plans given in
      let left : length (drop region plans) ≡ length p.regions - region = omega (arith, length-drop region plans, many) in
      let plus : region + 1 ≡ suc region = omega arith in
      record {
        next = record {
          inlined = given.inlined;
          regions = numbers_behind region plans 1 (length p.regions) few given.plans_are.regions ∙ ap (λ (k : ℕ). numbers_from k (length p.regions - region))
              plus ∙ ap (numbers_from (suc region)) (sym left);
          within = omega (arith, left, many, few);
          each = each_behind (IsPlan p) region plans given.plans_are.each;
        };
        behind = b;
      }

  -- it went on from there to its end
  ended_behind : (region : ℕ) → region ≤ length plans → (last : MachineState) (o : Option End) (end : End) (told reports : List RegionReport) (before now : ℕ) →
      map uncaused told ≡ told_reports false p (take region plans) (source_run p input fuel) → end ≡ ended_by o →
      Went false p (drop region plans) input fuel (source_run p input fuel) region last o told reports before now → Ended last end reports
  ended_behind region few last o end told reports before now is end_is w = by o end_is w
    where
      many : length plans ≡ length p.regions
      many = as_many p plans given

      left : length (drop region plans) ≡ length plans - region
      left = length-drop region plans

      reports_so : (count : ℕ) → reports ≡ told ++ told_reports false p (take count (drop region plans)) (source_run p input fuel) →
          map uncaused reports ≡ told_reports false p (take (region + count) plans) (source_run p input fuel)
      reports_so count e =
          ap (map uncaused) e ∙ map-append uncaused told (told_reports false p (take count (drop region plans)) run)
          ∙ ap (λ (rs : List RegionReport). rs ++ map uncaused (told_reports false p (take count (drop region plans)) run)) is
          ∙ ap (λ (rs : List RegionReport). told_reports false p (take region plans) run ++ rs) (told_again p run (take count (drop region plans)))
          ∙ sym (told_append p run (take region plans) (take count (drop region plans)))
          ∙ ap (λ (xs : List Plan). told_reports false p xs run) (sym (take_more region count plans few))

      by : (o : Option End) → end ≡ ended_by o → Went false p (drop region plans) input fuel (source_run p input fuel) region last o told reports before now →
          Ended last end reports
      by None e w =
          let none_left : length p.regions - (region + w.count) ≡ 0 = let all = w.all refl in omega (arith, all, left, many) in
          record {
            count = region + w.count;
            within = omega (arith, w.within, left, few);
            over = subst (Over run (region + w.count) last) (sym e) (over_done p input fuel run (region + w.count) last w.leads.behind
                (finished_next p input fuel run (region + w.count) last w.leads none_left));
            reports_are = reports_so w.count w.counted.reports_are;
          }
      by (Some how) e w = record {
        count = region + w.count;
        within = omega (arith, w.within, left, few);
        over = subst (Over run (region + w.count) last) (sym e) w.leads;
        reports_are = reports_so w.count w.counted.reports_are;
      }

  -- .. by a call with the plans that are left
  module _ (region : ℕ) (few : region ≤ length plans) (left : List Plan) (is : left ≡ drop region plans) (m : MachineState)
      (b : Behind p input fuel (source_run p input fuel) region m) where
    pub ahead_called : Ahead m.program left input fuel (source_run p input fuel) region m
    ahead_called =
        subst (λ (q : Program). Ahead q left input fuel (source_run p input fuel) region m) (sym b.program_is)
        (subst (λ (ps : List Plan). Ahead p ps input fuel (source_run p input fuel) region m) (sym is) (ahead_behind region m few b))

    pub ended_called : (last : MachineState) (o : Option End) (end : End) (told reports : List RegionReport) (before now : ℕ) →
        map uncaused told ≡ told_reports false p (take region plans) (source_run p input fuel) → end ≡ ended_by o →
        ((u : Run) (k : ℕ) → Ahead m.program left input fuel u k m → Went false m.program left input fuel u k last o told reports before now) →
        Ended last end reports
    ended_called last o end told reports before now same end_is went =
        ended_behind region few last o end told reports before now same end_is
        (subst (λ (ps : List Plan). Went false p ps input fuel (source_run p input fuel) region last o told reports before now) is
        (subst (λ (q : Program). Went false q left input fuel (source_run p input fuel) region last o told reports before now) b.program_is
        (went (source_run p input fuel) region ahead_called)))

  module _ (last : MachineState) (end : End) (reports : List RegionReport) (d : Ended last end reports) where
    finished : whole.Finished false p plans input fuel last end (map uncaused reports) 0 (0 + committed_in_all p (take d.count plans) (source_run p input fuel))
    finished = record { count = d.count; within = d.within; over = d.over; counted = record { reports_are = d.reports_are; tally_is = refl } }

    pub listed_here : All IsListed reports
    listed_here = listed_uncaused reports (whole.all_listed p plans input fuel false given last end (map uncaused reports) 0
        (0 + committed_in_all p (take d.count plans) run) finished)

    closing_here : end_bytes p last.config.cells reports end false ≡ closing_text p plans (source_run p input fuel) false
    closing_here =
        ap (λ (t : List ℕ). state_bytes p.vars last.config.cells ++ t ++ end_line end) (sym (lines_uncaused reports))
        ∙ whole.closing_is p plans input fuel false given last end (map uncaused reports) 0 (0 + committed_in_all p (take d.count plans) run) finished

    module _ (m : MachineState) (fuel_is : m.fuel ≡ fuel) (told mid : Option (List ℕ)) (e : Emits (to_come m) (to_come last) told mid) where
      prints_written : mid ≡ appended (prints_bytes (to_come m)) told
      prints_written =
          let none : to_come last ≡ [] = ap prints d.over.no_step in
          let all : to_come m ≡ e.written = e.splits ∙ ap (λ (zs : List ℤ). e.written ++ zs) none ∙ append-nil e.written in
          e.sink ∙ ap (λ (zs : List ℤ). appended (prints_bytes zs) told) (sym all)

      text_is : prints_bytes (to_come m) ++ end_bytes p last.config.cells reports end false ≡ ending_from p plans input m
      text_is = ap (λ (t : List ℕ). prints_bytes (to_come m) ++ t) (closing_here
          ∙ ap (λ (f : ℕ). closing_text p plans (source_run p input f) false) (sym fuel_is))

      -- the last text is written, by a call with the program that is lent
      module _ (lent : Program) (same : lent ≡ p) where
        pub ended_ok : (r : Result SaveEnd WriteFail) (tells : Option (List ℕ)) →
            IfOk r (λ ended. (ended ≡ Ran end) × (tells ≡ appended (end_bytes lent last.config.cells reports end false) mid)) →
            IfOk r (λ ended. (ended ≡ Ran (source_run p input m.fuel).end) × (tells ≡ appended (ending_from p plans input m) told))
        ended_ok r tells h =
            IfOk-weaker r (λ ended. (ended ≡ Ran end) × (tells ≡ appended (end_bytes lent last.config.cells reports end false) mid))
            (λ ended. (ended ≡ Ran (source_run p input m.fuel).end) × (tells ≡ appended (ending_from p plans input m) told))
            (λ ended s. (
              s.0 ∙ ap Ran (sym d.over.end_is ∙ ap (λ (f : ℕ). (source_run p input f).end) (sym fuel_is)),
              s.1 ∙ ap (λ (q : Program). appended (end_bytes q last.config.cells reports end false) mid) same
                  ∙ ap (appended (end_bytes p last.config.cells reports end false)) prints_written
                  ∙ appended-append (prints_bytes (to_come m)) (end_bytes p last.config.cells reports end false) told
                  ∙ ap (λ (t : List ℕ). appended t told) text_is,
            )) h

        -- .. or a front of it
        pub ended_err : (r : Result SaveEnd WriteFail) (tells : Option (List ℕ)) →
            OnErr r (WritesFront (end_bytes lent last.config.cells reports end false) mid tells) →
            OnErr r (WritesFront (ending_from p plans input m) told tells)
        ended_err r tells h =
            on_err_weaker r (λ w. front_behind (ending_from p plans input m) (prints_bytes (to_come m)) (end_bytes p last.config.cells reports end false) told
            mid tells (sym text_is) prints_written
            (subst (λ (q : Program). WritesFront (end_bytes q last.config.cells reports end false) mid tells) same w)) h

-- a front of the prints is one of the text
pub front_ending : (p : Program) (plans : List Plan) (input : List ℤ) (m : MachineState) (told tells : Option (List ℕ)) →
    WritesFront (prints_bytes (to_come m)) told tells → WritesFront (ending_from p plans input m) told tells
front_ending p plans input m told tells w = front_more (prints_bytes (to_come m)) (closing_text p plans (source_run p input m.fuel) false) told tells w
