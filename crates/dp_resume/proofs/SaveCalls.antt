-- What the calls of a run that is to be saved say of its region: a checkpoint is written, or the source's run goes on.
use Rattle.std.proofs.Common.{◌≡◌, refl, sym, ap, ◌∙◌, subst, ℕ, suc, ◌+◌, ◌-◌, ◌≤◌, false, List, [], ◌∷◌, ◌++◌, ℤ, length, map, take, Result, IfOk, OnErr}
use Rattle.std.proofs.Common.{Option, Some, None, slice_get, append_assoc, append-nil, arith}
use Rattle.std.proofs.lemmas.List.{map-append}
use Rattle.std.proofs.lemmas.Result.{IfOk-weaker, on_err_weaker}
use Rattle.dp_base.specs.declared.RegionReport.{RegionReport}
use Rattle.dp_edge.specs.Sink.{appended}
use Rattle.dp_edge.specs.Writing.{WritesFront}
use Rattle.dp_edge.specs.declared.writing.WriteFail.{WriteFail}
use Rattle.dp_edge.proofs.FrontLemmas.{appended-append, front_behind, front_more}
use Rattle.dp_tree.specs.declared.Program.{Program}
use Rattle.dp_tree.specs.GoesOn.{moved}
use Rattle.dp_tree.specs.Iteration.{start}
use Rattle.dp_tree.specs.Trace.{Run, prints}
use Rattle.dp_plan.specs.declared.Plan.{Plan}
use Rattle.dp_semantics.specs.Reported.{region_report}
use Rattle.dp_meaning.specs.MachineState.{MachineState, rest_of_run}
use Rattle.dp_crew.specs.Output.{Emits}
use Rattle.dp_crew.proofs.StreamLemmas.{emits_stopped, prints-split}
use Rattle.dp_epoch.specs.declared.ends.RegionEnd.{RegionEnd}
use Rattle.dp_epoch.specs.RegionRun.{IsPlanned, RegionStart, region_run}
use Rattle.dp_report.specs.PrintsText.{prints_bytes}
use Rattle.dp_run.specs.Given.{AreGiven}
use Rattle.dp_epoch.specs.Accounts.{told_when}
use Rattle.dp_run.specs.RunText.{closing_text, source_run, told_reports}
use Rattle.dp_run.specs.Stretches.{AfterRegion, Between, to_come}
use Rattle.dp_run.proofs.Counting.{all_next, number_is, planned}
use Rattle.dp_run.proofs.Regions.{region_start}
use Rattle.dp_save.specs.WrittenText.{checkpoint_bytes}
use Rattle.dp_resume.specs.declared.save.SaveEnd.{SaveEnd}
use Rattle.dp_resume.specs.declared.save.SaveEnd.TheVariants.{Ran, Saved}
use Rattle.dp_resume.specs.Saved.{checkpoint_at, end_from, saved_end, uncaused}
use Rattle.dp_resume.specs.steps.Reaching.{EndsBefore, StandsBefore, Stops, prints_until}
use Rattle.dp_resume.specs.steps.Saving.{ending_from, left_from, made_by}
use Rattle.dp_resume.proofs.RestLemmas.{front_ending}
use Rattle.dp_resume.proofs.SaveLemmas.{behind_it, made_is, report_whole, saved_so, started, starts_there, steps, take_next, text_there, unreached}
use Rattle.dp_resume.proofs.SaveLemmas.{written_there}
use Rattle.dp_resume.proofs.ToldReports.{told_again}

-- what a call on the region's own program tells
pub stops_own : (q p : Program) → q ≡ p → (plan : Plan) (first : MachineState) (n : ℕ) (last : MachineState) (report : RegionReport) (o end : Option RegionEnd)
    → o ≡ end → Stops q plan first n last report o → Stops p plan first n last report end
stops_own q p own plan first n last report o end is s =
    subst (λ (x : Option RegionEnd). Stops p plan first n last report x) is (subst (λ (x : Program). Stops x plan first n last report o) own s)

-- the region r is that of the plan at place n
module _ (p : Program) (plans : List Plan) (given : AreGiven p plans) (input : List ℤ) (r n after : ℕ) (up : r ≡ suc n) (plan : Plan)
    (at : slice_get plans n ≡ Some plan) (first : MachineState) (b : Between p input first.fuel (source_run p input first.fuel) n first) where
  abbrev run : Run
  run = source_run p input first.fuel

  number : plan.region ≡ suc n
  number = let is = number_is p 0 plans (all_next p plans given) n plan at in omega (arith, is)

  is_planned : IsPlanned p plan
  is_planned = planned p 0 plans (all_next p plans given) n plan at

  pub begins : (q : Program) → q ≡ p → RegionStart q plan input first
  begins q own = subst (λ (x : Program). RegionStart x plan input first) (sym own) (region_start p plan input first.fuel (source_run p input first.fuel) n first
      is_planned number b)

  here : start (source_run p input first.fuel) r after ≡ start (source_run p input first.fuel) plan.region after
  here = ap (λ (k : ℕ). start run k after) (up ∙ sym number)

  abbrev passed : ℕ
  passed = length b.behind.passed.events + 0

  -- a front of the prints up to the iteration is one of the text
  pub front_left : (old now : Option (List ℕ)) →
      WritesFront (prints_bytes (prints_until (region_run first) (start (region_run first) plan.region after))) old now →
      WritesFront (left_from p plans input r after first (start (source_run p input first.fuel) r after)) old now
  front_left old now w = by (start (region_run first) plan.region after) refl
    where
      by : (o : Option ℕ) → start (region_run first) plan.region after ≡ o →
          WritesFront (left_from p plans input r after first (start (source_run p input first.fuel) r after)) old now
      by None e =
          let none : start (source_run p input first.fuel) r after ≡ None = here ∙ unreached p plan input first.fuel n first is_planned number b after e in
          subst (λ (o : Option ℕ). WritesFront (left_from p plans input r after first o) old now) (sym none)
          (front_ending p plans input first old now (subst (λ (o : Option ℕ). WritesFront (prints_bytes (prints_until (region_run first) o)) old now) e w))
      by (Some k) e =
          let some : start (source_run p input first.fuel) r after ≡ Some (passed + k) = here ∙ started p plan input first.fuel n first is_planned number b
          after ∙ ap (moved passed) e in
          let count : (passed + k) - made_by first ≡ k = omega (arith, made_is p plan input first.fuel n first is_planned number b) in
          subst (λ (o : Option ℕ). WritesFront (left_from p plans input r after first o) old now) (sym some)
          (front_more (prints_bytes (prints (take ((passed + k) - made_by first) (rest_of_run first).trace)))
          (checkpoint_bytes (checkpoint_at p plans input first.fuel r after (passed + k))) old now
          (subst (λ (m : ℕ). WritesFront (prints_bytes (prints (take m (rest_of_run first).trace))) old now) (sym count)
          (subst (λ (o : Option ℕ). WritesFront (prints_bytes (prints_until (region_run first) o)) old now) e w)))

  module _ (last : MachineState) (report : RegionReport) (told reports : List RegionReport)
      (is : told ≡ told_reports false p (take n plans) (source_run p input first.fuel)) (pushed : reports ≡ told ++ report ∷ []) where
    module _ (s : StandsBefore plan first last after report) (old mid : Option (List ℕ)) (e : Emits (to_come first) (to_come last) old mid) where
      abbrev k : ℕ
      k = steps p plan input first.fuel n first is_planned number b after last report s

      some : start (source_run p input first.fuel) r after ≡ Some k
      some = here ∙ starts_there p plan input first.fuel n first is_planned number b after last report s

      ends_saved : saved_end p input first.fuel r after ≡ Saved
      ends_saved = ap (end_from (source_run p input first.fuel)) some

      printed : e.written ≡ prints (take (k - made_by first) (rest_of_run first).trace)
      printed = written_there p plan input first.fuel n first is_planned number b after last report s e.written e.splits

      saved_is : last.steps ≤ last.fuel → checkpoint_bytes (saved_so r after last.steps last.fuel last.config.cells reports) ≡ checkpoint_bytes
          (checkpoint_at p plans input first.fuel r after k)
      saved_is within =
          ap (λ (rs : List RegionReport). checkpoint_bytes (saved_so r after last.steps last.fuel last.config.cells rs)) pushed
          ∙ ap (λ (q : ℕ). checkpoint_bytes (saved_so q after last.steps last.fuel last.config.cells (told ++ report ∷ []))) up
          ∙ text_there p plan input first.fuel n first is_planned number b after last report s plans (length p.regions)
          given.plans_are.regions at told is within
          ∙ ap (λ (q : ℕ). checkpoint_bytes (checkpoint_at p plans input first.fuel q after k)) (sym up)

      text_is : last.steps ≤ last.fuel → prints_bytes e.written ++ checkpoint_bytes (saved_so r after last.steps last.fuel last.config.cells reports)
          ≡ left_from p plans input r after first (start (source_run p input first.fuel) r after)
      text_is within =
          ap (λ (ws : List ℤ). prints_bytes ws ++ checkpoint_bytes (saved_so r after last.steps last.fuel last.config.cells reports)) printed
          ∙ ap (λ (t : List ℕ). prints_bytes (prints (take (k - made_by first) (rest_of_run first).trace)) ++ t) (saved_is within)
          ∙ sym (ap (left_from p plans input r after first) some)

      -- a checkpoint is written
      pub saved_ok : (ended : Result SaveEnd WriteFail) (now : Option (List ℕ)) → last.steps ≤ last.fuel →
          IfOk ended (λ end. (end ≡ Saved) × (now ≡ appended (checkpoint_bytes (saved_so r after last.steps last.fuel last.config.cells reports)) mid)) →
          IfOk ended (λ end. (end ≡ saved_end p input first.fuel r after)
          × (now ≡ appended (left_from p plans input r after first (start (source_run p input first.fuel) r after)) old))
      saved_ok ended now within h =
          IfOk-weaker ended (λ end. (end ≡ Saved) × (now ≡ appended (checkpoint_bytes (saved_so r after last.steps last.fuel last.config.cells reports)) mid))
          (λ end. (end ≡ saved_end p input first.fuel r after)
          × (now ≡ appended (left_from p plans input r after first (start (source_run p input first.fuel) r after)) old))
          (λ end q. (
            q.0 ∙ sym ends_saved,
            q.1 ∙ ap (appended (checkpoint_bytes (saved_so r after last.steps last.fuel last.config.cells reports))) e.sink
                ∙ appended-append (prints_bytes e.written) (checkpoint_bytes (saved_so r after last.steps last.fuel last.config.cells reports)) old
                ∙ ap (λ (t : List ℕ). appended t old) (text_is within),
          )) h

      -- .. or a front of it
      pub saved_err : (ended : Result SaveEnd WriteFail) (now : Option (List ℕ)) → last.steps ≤ last.fuel →
          OnErr ended (WritesFront (checkpoint_bytes (saved_so r after last.steps last.fuel last.config.cells reports)) mid now) →
          OnErr ended (WritesFront (left_from p plans input r after first (start (source_run p input first.fuel) r after)) old now)
      saved_err ended now within h =
          on_err_weaker ended (λ w. front_behind (left_from p plans input r after first (start (source_run p input first.fuel) r after))
          (prints_bytes e.written)
          (checkpoint_bytes (saved_so r after last.steps last.fuel last.config.cells reports)) old mid now (sym (text_is within)) e.sink w) h

    module _ (end : RegionEnd) (s : EndsBefore p plan first last after report end) where
      none : start (source_run p input first.fuel) r after ≡ None
      none = here ∙ unreached p plan input first.fuel n first is_planned number b after s.unreached

      pub fuel_same : last.fuel ≡ first.fuel
      fuel_same = s.ran.made.fuel

      pub after_it : AfterRegion p input last.fuel (source_run p input last.fuel) r last end
      after_it =
          subst (λ (m : ℕ). AfterRegion p input m (source_run p input m) r last end) (sym fuel_same)
          (subst (λ (q : ℕ). AfterRegion p input first.fuel (source_run p input first.fuel) q last end) (sym up)
          (behind_it p plan input first.fuel n first is_planned number b last end after report s))

      pub reports_after : map uncaused reports ≡ told_reports false p (take r plans) (source_run p input last.fuel)
      reports_after =
          ap (map uncaused) (pushed ∙ ap (λ (rs : List RegionReport). rs ++ report ∷ []) is)
          ∙ map-append uncaused (told_reports false p (take n plans) run) (report ∷ [])
          ∙ ap (λ (rs : List RegionReport). rs ++ uncaused report ∷ []) (told_again p run (take n plans))
          ∙ ap (λ (x : RegionReport). told_reports false p (take n plans) run ++ x ∷ []) (s.report_is
          ∙ ap (told_when false) (report_whole p plan input first.fuel n first is_planned number b))
          ∙ sym (map-append (λ (x : Plan). told_when false (region_report p x run)) (take n plans) (plan ∷ []))
          ∙ ap (λ (xs : List Plan). told_reports false p xs run) (sym (take_next plans n plan at))
          ∙ ap (λ (q : ℕ). told_reports false p (take q plans) run) (sym up)
          ∙ ap (λ (m : ℕ). told_reports false p (take r plans) (source_run p input m)) (sym fuel_same)

      module _ (old mid : Option (List ℕ)) (e : Emits (to_come first) (to_come last) old mid) where
        text_on : prints_bytes e.written ++ ending_from p plans input last ≡ left_from p plans input r after first
            (start (source_run p input first.fuel) r after)
        text_on =
            sym (append_assoc (prints_bytes e.written) (prints_bytes (to_come last)) (closing_text p plans (source_run p input last.fuel) false))
            ∙ ap (λ (t : List ℕ). t ++ closing_text p plans (source_run p input last.fuel) false) (sym (prints-split e.written (to_come last))
            ∙ ap prints_bytes (sym e.splits))
            ∙ ap (λ (m : ℕ). prints_bytes (to_come first) ++ closing_text p plans (source_run p input m) false) fuel_same
            ∙ sym (ap (left_from p plans input r after first) none)

        -- the text of the run to its end is written
        pub ran_ok : (ended : Result SaveEnd WriteFail) (now : Option (List ℕ)) →
            IfOk ended (λ how. (how ≡ Ran (source_run p input last.fuel).end) × (now ≡ appended (ending_from p plans input last) mid)) →
            IfOk ended (λ how. (how ≡ saved_end p input first.fuel r after)
            × (now ≡ appended (left_from p plans input r after first (start (source_run p input first.fuel) r after)) old))
        ran_ok ended now h =
            IfOk-weaker ended (λ how. (how ≡ Ran (source_run p input last.fuel).end) × (now ≡ appended (ending_from p plans input last) mid))
            (λ how. (how ≡ saved_end p input first.fuel r after)
            × (now ≡ appended (left_from p plans input r after first (start (source_run p input first.fuel) r after)) old))
            (λ how q. (
              q.0 ∙ ap (λ (m : ℕ). Ran (source_run p input m).end) fuel_same ∙ sym (ap (end_from (source_run p input first.fuel)) none),
              q.1 ∙ ap (appended (ending_from p plans input last)) e.sink ∙ appended-append (prints_bytes e.written) (ending_from p plans input last) old
                  ∙ ap (λ (t : List ℕ). appended t old) text_on,
            )) h

        pub ran_err : (ended : Result SaveEnd WriteFail) (now : Option (List ℕ)) → OnErr ended (WritesFront (ending_from p plans input last) mid now) →
            OnErr ended (WritesFront (left_from p plans input r after first (start (source_run p input first.fuel) r after)) old now)
        ran_err ended now h =
            on_err_weaker ended (λ w. front_behind (left_from p plans input r after first (start (source_run p input first.fuel) r after))
            (prints_bytes e.written) (ending_from p plans input last) old mid now (sym text_on) e.sink w) h

    -- what was written is a front of the text
    pub stopped_here : (end : Option RegionEnd) → Stops p plan first after last report end → (old mid : Option (List ℕ)) →
        Emits (to_come first) (to_come last) old mid →
        WritesFront (left_from p plans input r after first (start (source_run p input first.fuel) r after)) old mid
    stopped_here None s old mid e =
        let k = steps p plan input first.fuel n first is_planned number b after last report s in
        subst (λ (o : Option ℕ). WritesFront (left_from p plans input r after first o) old mid) (sym (some s old mid e))
        (front_more (prints_bytes (prints (take (k - made_by first) (rest_of_run first).trace)))
        (checkpoint_bytes (checkpoint_at p plans input first.fuel r after k)) old mid
        (subst (λ (ws : List ℤ). WritesFront (prints_bytes ws) old mid) (printed s old mid e)
        (record { front = prints_bytes e.written; rest = []; splits = sym (append-nil (prints_bytes e.written)); sink = e.sink })))
    stopped_here (Some end) s old mid e =
        subst (λ (o : Option ℕ). WritesFront (left_from p plans input r after first o) old mid) (sym (none end s))
        (front_ending p plans input first old mid (emits_stopped (to_come first) (to_come last) old mid e))
