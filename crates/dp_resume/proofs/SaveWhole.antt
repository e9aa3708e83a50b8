-- A run that is to be saved, from its start: the plans before the region, and the text from there on.
use Rattle.std.proofs.Common.{◌≡◌, refl, sym, ap, ◌∙◌, subst, ℕ, zero, suc, ◌+◌, ◌-◌, ◌<◌, ◌≤◌, false, List, [], ◌∷◌, ◌++◌, ℤ, length, map, take, Result, IfOk}
use Rattle.std.proofs.Common.{OnErr, Option, Some, None, slice_get, append_assoc, arith}
use Rattle.std.proofs.lemmas.List.{append_cancel_right, length-take, take-take, take_all}
use Rattle.std.proofs.lemmas.Result.{IfOk-weaker, on_err_weaker}
use Rattle.std.proofs.Math.Seq.{take-append-add}
use Rattle.dp_base.specs.declared.End.{End}
use Rattle.dp_base.specs.declared.RegionReport.{RegionReport}
use Rattle.dp_edge.specs.Sink.{appended}
use Rattle.dp_edge.specs.Writing.{WritesFront}
use Rattle.dp_edge.specs.declared.writing.WriteFail.{WriteFail}
use Rattle.dp_edge.proofs.FrontLemmas.{appended-append, front_behind}
use Rattle.dp_tree.specs.declared.Program.{Program}
use Rattle.dp_tree.specs.Iteration.{start, starts}
use Rattle.dp_tree.specs.Numbering.{numbers_from}
use Rattle.dp_tree.specs.Trace.{Run, begin, prints, run_of}
use Rattle.dp_plan.specs.declared.Plan.{Plan}
use Rattle.dp_plan.specs.GivenPlans.{IsPlan, region_of}
use Rattle.dp_theorem.proofs.Central.{fuel_is}
use Rattle.dp_meaning.specs.MachineState.{MachineState, fuel_left, rest_of_run}
use Rattle.dp_meaning.proofs.MovedLemmas.{prints-append}
use Rattle.dp_crew.specs.Output.{Emits}
use Rattle.dp_crew.proofs.StreamLemmas.{prints-split}
use Rattle.dp_epoch.specs.RegionRun.{beyond}
use Rattle.dp_report.specs.EndText.{end_bytes}
use Rattle.dp_report.specs.PrintsText.{prints_bytes}
use Rattle.dp_run.specs.Given.{AreGiven, AreNext}
use Rattle.dp_run.specs.RunText.{closing_text, source_run, told_reports, trace_text}
use Rattle.dp_run.specs.Stretches.{Ahead, Between, Over, Went, to_come}
use Rattle.dp_run.proofs.Before.{start_mapped}
use Rattle.dp_run.proofs.Counting.{as_many}
use Rattle.dp_run.proofs.Leading.{behind_start}
use Rattle.dp_run.proofs.Passing.{prints_on}
use Rattle.dp_save.specs.WrittenText.{checkpoint_bytes}
use Rattle.dp_resume.specs.declared.save.SaveEnd.{SaveEnd}
use Rattle.dp_resume.specs.declared.save.SaveEnd.TheVariants.{Ran}
use Rattle.dp_resume.specs.Saved.{checkpoint_at, end_from, saved_bytes, saved_end, saved_from, uncaused}
use Rattle.dp_resume.specs.steps.Saving.{ending_from, left_from, made_by}
use Rattle.dp_resume.proofs.Found.{region_within}
use Rattle.dp_resume.proofs.RestLemmas.{Ended, ended_err, ended_ok}
use Rattle.dp_resume.proofs.ToldReports.{told_again}
use Rattle.dp_resume.proofs.Whole.{each_first}

numbers_first : (k first count : ℕ) (plans : List Plan) → map region_of plans ≡ numbers_from first count →
    map region_of (take k plans) ≡ numbers_from first (length (take k plans))
numbers_first zero first count plans e = refl
numbers_first (suc k) first count [] e = refl
numbers_first (suc k) first zero (x ∷ xs) e = absurd (cc e)
numbers_first (suc k) first (suc count) (x ∷ xs) e =
    let number : x.region ≡ first = cc e in let others : map region_of xs ≡ numbers_from (first + 1) count = cc e in
    ap (λ (m : ℕ). m ∷ map region_of (take k xs)) number ∙ ap (λ (ns : List ℕ). first ∷ ns) (numbers_first k (first + 1) count xs others)

module _ (p : Program) (plans : List Plan) (given : AreGiven p plans) (input : List ℤ) (fuel r after : ℕ) where
  abbrev run : Run
  run = source_run p input fuel

  -- ---- a region that isn't there

  no_region : length plans < r → start (source_run p input fuel) r after ≡ None
  no_region high = by (start (source_run p input fuel) r after) refl
    where
      by : (o : Option ℕ) → start (source_run p input fuel) r after ≡ o → start (source_run p input fuel) r after ≡ None
      by None e = e
      by (Some k) e = absurd (let w = region_within p given.inlined input fuel r after k e in omega (arith, w.1, high, as_many p plans given))

  whole_end : length plans < r → Ran (source_run p input fuel).end ≡ saved_end p input fuel r after
  whole_end high = sym (ap (end_from (source_run p input fuel)) (no_region high))

  whole_text : length plans < r → trace_text p plans (source_run p input fuel) false ≡ saved_bytes p plans input fuel r after
  whole_text high = sym (ap (saved_from p plans input fuel r after) (no_region high))

  pub whole_ok : length plans < r → (old now : Option (List ℕ)) (ended : Result SaveEnd WriteFail) →
      IfOk ended (λ how. (how ≡ Ran (source_run p input fuel).end) × (now ≡ appended (trace_text p plans (source_run p input fuel) false) old)) →
      IfOk ended (λ how. (how ≡ saved_end p input fuel r after) × (now ≡ appended (saved_bytes p plans input fuel r after) old))
  whole_ok high old now ended h =
      IfOk-weaker ended (λ how. (how ≡ Ran (source_run p input fuel).end) × (now ≡ appended (trace_text p plans (source_run p input fuel) false) old))
      (λ how. (how ≡ saved_end p input fuel r after) × (now ≡ appended (saved_bytes p plans input fuel r after) old))
      (λ how q. (q.0 ∙ whole_end high, q.1 ∙ ap (λ (t : List ℕ). appended t old) (whole_text high))) h

  pub whole_err : length plans < r → (old now : Option (List ℕ)) (ended : Result SaveEnd WriteFail) →
      OnErr ended (WritesFront (trace_text p plans (source_run p input fuel) false) old now) →
      OnErr ended (WritesFront (saved_bytes p plans input fuel r after) old now)
  whole_err high old now ended h = on_err_weaker ended (λ w. subst (λ (t : List ℕ). WritesFront t old now) (whole_text high) w) h

  -- ---- from the start

  module _ (m : MachineState) (is : m ≡ record { program = p; input = input; config = begin p; steps = 0; fuel = fuel; current = None; spoiled = false }) where
    pub run_here : rest_of_run m ≡ source_run p input fuel
    run_here = ap rest_of_run is ∙ (let all : fuel - 0 ≡ fuel = omega arith in ap (λ (k : ℕ). run_of p input k (begin p)) all)

    pub fuel_here : m.fuel ≡ fuel
    fuel_here = ap (λ (x : MachineState). x.fuel) is

    pub program_here : m.program ≡ p
    program_here = ap (λ (x : MachineState). x.program) is

    prints_here : to_come m ≡ prints (source_run p input fuel).trace
    prints_here = ap (λ (u : Run). prints u.trace) run_here

    pub ending_is : ending_from p plans input m ≡ trace_text p plans (source_run p input fuel) false
    ending_is =
        ap (λ (zs : List ℤ). prints_bytes zs ++ closing_text p plans (source_run p input m.fuel) false) prints_here
        ∙ ap (λ (k : ℕ). prints_bytes (prints (source_run p input fuel).trace) ++ closing_text p plans (source_run p input k) false) fuel_here

    module _ (low : 1 ≤ r) (high : r ≤ length plans) (before : List Plan) (before_is : before ≡ take (r - 1) plans) where
      next : AreNext p 0 (take (r - 1) plans)
      next = record {
        inlined = given.inlined;
        regions = numbers_first (r - 1) 1 (length p.regions) plans given.plans_are.regions;
        within = let long = length-take (r - 1) plans in omega (arith, long, as_many p plans given);
        each = each_first (IsPlan p) (r - 1) plans given.plans_are.each;
      }

      -- the plans before the region come first
      pub ahead_first : Ahead m.program before input m.fuel (source_run p input fuel) 0 m
      ahead_first =
          subst (λ (q : Program). Ahead q before input m.fuel (source_run p input fuel) 0 m) (sym program_here)
          (subst (λ (k : ℕ). Ahead p before input k (source_run p input fuel) 0 m) (sym fuel_here)
          (subst (λ (ps : List Plan). Ahead p ps input fuel (source_run p input fuel) 0 m) (sym before_is)
          (record { next = next; behind = behind_start p input fuel given.inlined m is })))

      pub long : length (take (r - 1) plans) ≡ r - 1
      long = let e = length-take (r - 1) plans in omega (arith, e, high, low)

      module _ (last : MachineState) (told reports : List RegionReport) (none : told ≡ []) (tally now : ℕ) where
        went_so : (o : Option End) → Went false m.program before input m.fuel (source_run p input fuel) 0 last o told reports tally now →
            Went false p (take (r - 1) plans) input fuel (source_run p input fuel) 0 last o [] reports tally now
        went_so o w =
            subst (λ (rs : List RegionReport). Went false p (take (r - 1) plans) input fuel (source_run p input fuel) 0 last o rs reports tally now) none
            (subst (λ (ps : List Plan). Went false p ps input fuel (source_run p input fuel) 0 last o told reports tally now) before_is
            (subst (λ (k : ℕ). Went false p before input k (source_run p input fuel) 0 last o told reports tally now) fuel_here
            (subst (λ (q : Program). Went false q before input m.fuel (source_run p input fuel) 0 last o told reports tally now) program_here w)))

        pub went_some : (end : End) (o : Option End) → o ≡ Some end → Went false m.program before input m.fuel (source_run p input fuel) 0 last o told reports
            tally now → Went false m.program before input m.fuel (source_run p input fuel) 0 last (Some end) told reports tally now
        went_some end o e w = subst (λ (x : Option End). Went false m.program before input m.fuel (source_run p input fuel) 0 last x told reports tally now) e w

        pub went_none : (o : Option End) → o ≡ None → Went false m.program before input m.fuel (source_run p input fuel) 0 last o told reports tally now →
            Went false m.program before input m.fuel (source_run p input fuel) 0 last None told reports tally now
        went_none o e w = subst (λ (x : Option End). Went false m.program before input m.fuel (source_run p input fuel) 0 last x told reports tally now) e w

        -- the run ended before the region
        pub over_before : (end : End) → Went false m.program before input m.fuel (source_run p input fuel) 0 last (Some end) told reports tally now →
            Ended p plans given input fuel last end reports
        over_before end w0 =
            let w = went_so (Some end) w0 in
            record {
              count = w.count;
              within = omega (arith, w.within, long, high);
              over = let none : 0 + w.count ≡ w.count = omega arith in subst (λ (k : ℕ). Over (source_run p input fuel) k last end) none w.leads;
              reports_are =
                  ap (map uncaused) (w.counted.reports_are ∙ ap (λ (xs : List Plan). told_reports false p xs run)
                  (take-take w.count (r - 1) plans (omega (arith, w.within, long))))
                  ∙ told_again p run (take w.count plans);
            }

        unreached_before : (end : End) → Went false m.program before input m.fuel (source_run p input fuel) 0 last (Some end) told reports tally now →
            start (source_run p input fuel) r after ≡ None
        unreached_before end w0 =
            let w = went_so (Some end) w0 in
            ap (λ (ks : List ℕ). slice_get ks after) (w.leads.unreached r (omega (arith, w.within, long, low)))

        -- .. and its text is written
        pub over_ok : (end : End) (w : Went false m.program before input m.fuel (source_run p input fuel) 0 last (Some end) told reports tally now)
            (old mid : Option (List ℕ)) → Emits (to_come m) (to_come last) old mid → (lent : Program) → lent ≡ p →
            (ended : Result SaveEnd WriteFail) (tells : Option (List ℕ)) →
            IfOk ended (λ how. (how ≡ Ran end) × (tells ≡ appended (end_bytes lent last.config.cells reports end false) mid)) →
            IfOk ended (λ how. (how ≡ saved_end p input fuel r after) × (tells ≡ appended (saved_bytes p plans input fuel r after) old))
        over_ok end w old mid e lent same ended tells h =
            IfOk-weaker ended (λ how. (how ≡ Ran (source_run p input m.fuel).end) × (tells ≡ appended (ending_from p plans input m) old))
            (λ how. (how ≡ saved_end p input fuel r after) × (tells ≡ appended (saved_bytes p plans input fuel r after) old))
            (λ how q. (
              q.0 ∙ ap (λ (k : ℕ). Ran (source_run p input k).end) fuel_here ∙ sym (ap (end_from (source_run p input fuel)) (unreached_before end w)),
              q.1 ∙ ap (λ (t : List ℕ). appended t old) (ending_is ∙ sym (ap (saved_from p plans input fuel r after) (unreached_before end w))),
            ))
            (ended_ok p plans given input fuel last end reports (over_before end w) m fuel_here old mid e lent same ended tells h)

        pub over_err : (end : End) (w : Went false m.program before input m.fuel (source_run p input fuel) 0 last (Some end) told reports tally now)
            (old mid : Option (List ℕ)) → Emits (to_come m) (to_come last) old mid → (lent : Program) → lent ≡ p →
            (ended : Result SaveEnd WriteFail) (tells : Option (List ℕ)) →
            OnErr ended (WritesFront (end_bytes lent last.config.cells reports end false) mid tells) →
            OnErr ended (WritesFront (saved_bytes p plans input fuel r after) old tells)
        over_err end w old mid e lent same ended tells h =
            on_err_weaker ended (λ front. subst (λ (t : List ℕ). WritesFront t old tells) (ending_is
            ∙ sym (ap (saved_from p plans input fuel r after) (unreached_before end w))) front)
            (ended_err p plans given input fuel last end reports (over_before end w) m fuel_here old mid e lent same ended tells h)

        -- the region comes next
        pub between_next : Went false m.program before input m.fuel (source_run p input fuel) 0 last None told reports tally now →
            Between p input fuel (source_run p input fuel) (r - 1) last
        between_next w0 =
            let w = went_so None w0 in
            let all : 0 + w.count ≡ r - 1 = let all = w.all refl in omega (arith, all, long) in
            subst (λ (k : ℕ). Between p input fuel (source_run p input fuel) k last) all w.leads

        reports_next : Went false m.program before input m.fuel (source_run p input fuel) 0 last None told reports tally now →
            reports ≡ told_reports false p (take (r - 1) plans) (source_run p input fuel)
        reports_next w0 =
            let w = went_so None w0 in
            w.counted.reports_are ∙ ap (λ (xs : List Plan). told_reports false p xs run) (let all = w.all refl in
            take_all w.count (take (r - 1) plans) (omega (arith, all)))

        pub fuel_there : Went false m.program before input m.fuel (source_run p input fuel) 0 last None told reports tally now → last.fuel ≡ fuel
        fuel_there w = (between_next w).behind.fuel_is

        pub between_there : Went false m.program before input m.fuel (source_run p input fuel) 0 last None told reports tally now →
            Between p input last.fuel (source_run p input last.fuel) (r - 1) last
        between_there w = subst (λ (k : ℕ). Between p input k (source_run p input k) (r - 1) last) (sym (fuel_there w)) (between_next w)

        pub reports_there : Went false m.program before input m.fuel (source_run p input fuel) 0 last None told reports tally now →
            reports ≡ told_reports false p (take (r - 1) plans) (source_run p input last.fuel)
        reports_there w = reports_next w ∙ ap (λ (k : ℕ). told_reports false p (take (r - 1) plans) (source_run p input k)) (sym (fuel_there w))

      -- ---- from the region on

      module _ (last : MachineState) (b : Between p input fuel (source_run p input fuel) (r - 1) last) (old mid : Option (List ℕ))
          (e : Emits (to_come m) (to_come last) old mid) where
        same_fuel : last.fuel ≡ fuel
        same_fuel = b.behind.fuel_is

        made : length b.behind.passed.events ≡ made_by last
        made =
            let all = fuel_is p input fuel (begin p) in let some = b.behind.passed.piece.fuel in
            let rest = fuel_is last.program last.input (fuel_left last) last.config in
            omega (arith, all, some, rest, same_fuel)

        printed : e.written ≡ prints b.behind.passed.events
        printed =
            append_cancel_right e.written (prints b.behind.passed.events) (to_come last)
            (sym e.splits ∙ prints_here ∙ prints_on run (rest_of_run last) b.behind.passed.events b.behind.passed.configs b.behind.passed.piece)

        joined : (o : Option ℕ) → start (source_run p input fuel) r after ≡ o → prints_bytes e.written ++ left_from p plans input r after last o ≡ saved_from p
            plans input fuel r after o
        joined None at =
            sym (append_assoc (prints_bytes e.written) (prints_bytes (to_come last)) (closing_text p plans (source_run p input last.fuel) false))
            ∙ ap (λ (t : List ℕ). t ++ closing_text p plans (source_run p input last.fuel) false) (sym (prints-split e.written (to_come last))
            ∙ ap prints_bytes (sym e.splits ∙ prints_here))
            ∙ ap (λ (k : ℕ). prints_bytes (prints (source_run p input fuel).trace) ++ closing_text p plans (source_run p input k) false) same_fuel
        joined (Some k) at =
            let es = b.behind.passed.events in
            let up : r - 1 < r = omega (arith, low) in
            let reached : slice_get (map (beyond (length b.behind.passed.events)) (starts (rest_of_run last) r)) after ≡ Some k = ap
            (λ (ks : List ℕ). slice_get ks after) (sym (b.behind.passed.ahead r up)) ∙ at in
            let behind = start_mapped (length b.behind.passed.events) (starts (rest_of_run last) r) after k reached in
            let more : k ≡ length b.behind.passed.events + (k - made_by last) = omega (arith, behind.2, made) in
            let taken : take k run.trace ≡ b.behind.passed.events ++ take (k - made_by last) (rest_of_run last).trace =
            ap (take k) b.behind.passed.piece.trace ∙ ap (λ (j : ℕ). take j (b.behind.passed.events ++ (rest_of_run last).trace)) more
            ∙ take-append-add b.behind.passed.events (rest_of_run last).trace (k - made_by last) in
            let all : e.written ++ prints (take (k - made_by last) (rest_of_run last).trace) ≡ prints (take k run.trace) =
            ap (λ (zs : List ℤ). zs ++ prints (take (k - made_by last) (rest_of_run last).trace)) printed
            ∙ sym (prints-append b.behind.passed.events (take (k - made_by last) (rest_of_run last).trace)) ∙ ap prints (sym taken) in
            sym (append_assoc (prints_bytes e.written) (prints_bytes (prints (take (k - made_by last) (rest_of_run last).trace)))
            (checkpoint_bytes (checkpoint_at p plans input last.fuel r after k)))
            ∙ ap (λ (t : List ℕ). t ++ checkpoint_bytes (checkpoint_at p plans input last.fuel r after k))
            (sym (prints-split e.written (prints (take (k - made_by last) (rest_of_run last).trace))) ∙ ap prints_bytes all)
            ∙ ap (λ (f : ℕ). prints_bytes (prints (take k run.trace)) ++ checkpoint_bytes (checkpoint_at p plans input f r after k)) same_fuel

        text_is : prints_bytes e.written ++ left_from p plans input r after last (start (source_run p input last.fuel) r after) ≡ saved_bytes p
            plans input fuel r after
        text_is =
            ap (λ (f : ℕ). prints_bytes e.written ++ left_from p plans input r after last (start (source_run p input f) r after)) same_fuel
            ∙ joined (start (source_run p input fuel) r after) refl

        pub next_ok : (ended : Result SaveEnd WriteFail) (tells : Option (List ℕ)) →
            IfOk ended (λ how. (how ≡ saved_end p input last.fuel r after)
            × (tells ≡ appended (left_from p plans input r after last (start (source_run p input last.fuel) r after)) mid)) →
            IfOk ended (λ how. (how ≡ saved_end p input fuel r after) × (tells ≡ appended (saved_bytes p plans input fuel r after) old))
        next_ok ended tells h =
            IfOk-weaker ended (λ how. (how ≡ saved_end p input last.fuel r after)
            × (tells ≡ appended (left_from p plans input r after last (start (source_run p input last.fuel) r after)) mid))
            (λ how. (how ≡ saved_end p input fuel r after) × (tells ≡ appended (saved_bytes p plans input fuel r after) old))
            (λ how q. (
              q.0 ∙ ap (λ (f : ℕ). saved_end p input f r after) same_fuel,
              q.1 ∙ ap (appended (left_from p plans input r after last (start (source_run p input last.fuel) r after))) e.sink
                  ∙ appended-append (prints_bytes e.written) (left_from p plans input r after last (start (source_run p input last.fuel) r after)) old
                  ∙ ap (λ (t : List ℕ). appended t old) text_is,
            )) h

        pub next_err : (ended : Result SaveEnd WriteFail) (tells : Option (List ℕ)) →
            OnErr ended (WritesFront (left_from p plans input r after last (start (source_run p input last.fuel) r after)) mid tells) →
            OnErr ended (WritesFront (saved_bytes p plans input fuel r after) old tells)
        next_err ended tells h =
            on_err_weaker ended (λ w. front_behind (saved_bytes p plans input fuel r after) (prints_bytes e.written)
            (left_from p plans input r after last (start (source_run p input last.fuel) r after)) old mid tells (sym text_is) e.sink w) h
