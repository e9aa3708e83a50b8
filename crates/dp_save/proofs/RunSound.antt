-- Lines that are read one after the other begin the text of a checkpoint.
use Rattle.std.proofs.Common.{◌≡◌, ℕ, suc, ◌+◌, ◌-◌, ◌<◌, ◌≤◌, ◌==◌, Bool, true, not, ◌&&◌, List, [], ◌∷◌, ◌++◌, map, length, ℤ, Some, refl, sym, ap, subst}
use Rattle.std.proofs.Common.{◌∙◌, rules, arith, tests, eqb-true, length-append}
use Rattle.std.proofs.lemmas.List.{map-append}
use Rattle.dp_base.specs.declared.RegionReport.{RegionReport}
use Rattle.dp_text.specs.Each.{Each}
use Rattle.dp_text.proofs.Tests.{both, taken}
use Rattle.dp_tree.specs.declared.Program.{Program}
use Rattle.dp_tree.specs.declared.RegionInfo.{RegionInfo}
use Rattle.dp_save.specs.declared.line.Place.{Place}
use Rattle.dp_save.specs.declared.reader.Reader.{Reader}
use Rattle.dp_save.specs.declared.reader.Phase.TheVariants as phase
use Rattle.dp_save.specs.CheckpointText.{WriteAll}
use Rattle.dp_save.specs.Fits.{CellsFit, Fits, PlaceFits, ReportsFit}
use Rattle.dp_save.specs.steps.LineWords.{Line, Head, At, Cells, Report, End}
use Rattle.dp_save.specs.steps.Reading.{begun, cells_fit, cells_next, in_phase, is_next, next, next_by, place_fits, report_next, state, stopped, with_report}
use Rattle.dp_save.proofs.FitLemmas.{cells_sound, more_reports, next_sound, place_sound, same_place}
use Rattle.dp_save.proofs.LineLemmas.{LineFits}

-- nothing is said yet of a place
abbrev pub nowhere : Place
nowhere = record { region = 0; after = 0; steps = 0; fuel = 0 }

-- the lines up to the reports
abbrev pub opening : Place → List (List ℕ) → List ℤ → List RegionReport → List Line
opening place written cells reports = Head ∷ At place ∷ Cells written cells ∷ map Report reports

-- .. and all of a text
abbrev pub whole : Place → List (List ℕ) → List ℤ → List RegionReport → List Line
whole place written cells reports = Head ∷ At place ∷ Cells written cells ∷ (map Report reports ++ End ∷ [])

-- the state behind lines that may begin a text
pub data Reads (p : Program) : Reader → List Line → Type 0 where
  at_start : Reads p begun []
  headed : Reads p (state phase.Headed (stopped nowhere [] [])) (Head ∷ [])
  placed_at : (place : Place) → PlaceFits p (stopped place [] []) → Reads p (state phase.Placed (stopped place [] [])) (Head ∷ At place ∷ [])
  holding : (place : Place) (written : List (List ℕ)) (cells : List ℤ) (reports : List RegionReport) → PlaceFits p (stopped place cells reports) →
      WriteAll written cells → CellsFit p cells
      → ReportsFit (stopped place cells reports) → length reports ≤ place.region → Reads p (state phase.Held (stopped place cells reports))
      (opening place written cells reports)
  at_end : (place : Place) (written : List (List ℕ)) (cells : List ℤ) (reports : List RegionReport) → WriteAll written cells →
      Fits p (stopped place cells reports)
      → Reads p (state phase.Over (stopped place cells reports)) (whole place written cells reports)

module _ (p : Program) where
  start_after : (l : Line) (s : Reader) → next p begun l ≡ Some s → Reads p s (l ∷ [])
  unfolding next
  start_after Head s h =
      let t = taken (not (length p.regions == 0)) (state phase.Headed (stopped nowhere [] [])) s h in subst (λ (q : Reader). Reads p q (Head ∷ [])) t.1 headed
  start_after (At place) s h = absurd (cc h)
  start_after (Cells words values) s h = absurd (cc h)
  start_after (Report r) s h = absurd (cc h)
  start_after End s h = absurd (cc h)

  headed_after : (l : Line) (s : Reader) → LineFits l → next p (state phase.Headed (stopped nowhere [] [])) l ≡ Some s → Reads p s (Head ∷ l ∷ [])
  unfolding next
  headed_after Head s fits h = absurd (cc h)
  headed_after (At place) s fits h =
      let t = taken (place_fits p place) (state phase.Placed (stopped place [] [])) s h in
      subst (λ (q : Reader). Reads p q (Head ∷ At place ∷ [])) t.1 (placed_at place (place_sound p place [] [] (omega (arith, fits.0)) fits.1 fits.3 t.0))
  headed_after (Cells words values) s fits h = absurd (cc h)
  headed_after (Report r) s fits h = absurd (cc h)
  headed_after End s fits h = absurd (cc h)

  no_reports : (place : Place) (cells : List ℤ) → ReportsFit (stopped place cells [])
  no_reports place cells = record { regions = refl; each = tt; here = tt }

  placed_after : (place : Place) → PlaceFits p (stopped place [] []) → (l : Line) (s : Reader) → LineFits l →
      next p (state phase.Placed (stopped place [] [])) l ≡ Some s → Reads p s (Head ∷ At place ∷ l ∷ [])
  unfolding next
  placed_after place f Head s fits h = absurd (cc h)
  placed_after place f (At other) s fits h = absurd (cc h)
  placed_after place f (Cells words values) s fits h =
      let t = taken (cells_fit p.vars values) (state phase.Held (stopped place values [])) s h in
      subst (λ (q : Reader). Reads p q (Head ∷ At place ∷ Cells words values ∷ [])) t.1
      (holding place words values [] (same_place p place [] values [] [] f) fits.0 (cells_sound p values fits.1 t.0) (no_reports place values) (omega arith))
  placed_after place f (Report r) s fits h = absurd (cc h)
  placed_after place f End s fits h = absurd (cc h)

  module _ (place : Place) (written : List (List ℕ)) (cells : List ℤ) (reports : List RegionReport)
      (f : PlaceFits p (stopped place cells reports)) (w : WriteAll written cells) (c : CellsFit p cells) (rs : ReportsFit (stopped place cells reports))
      (few : length reports ≤ place.region) where
    report_lines : (r : RegionReport) → opening place written cells (reports ++ r ∷ []) ≡ opening place written cells reports ++ Report r ∷ []
    report_lines r = ap (λ (ls : List Line). Head ∷ At place ∷ Cells written cells ∷ ls) (map-append Report reports (r ∷ []))

    report_after : (r : RegionReport) (s : Reader) → LineFits (Report r) → report_next (state phase.Held (stopped place cells reports)) r ≡ Some s →
        Reads p s (opening place written cells reports ++ Report r ∷ [])
    report_after r s fits h =
        let t = taken (is_next (stopped place cells reports) r) (state phase.Held (stopped place cells (reports ++ r ∷ []))) s h in
        let n = next_sound (stopped place cells reports) r t.0 in
        let longer : length (reports ++ r ∷ []) ≤ place.region = omega (arith, n.within, n.counted, length-append reports (r ∷ [])) in
        subst (λ (q : Reader). Reads p q (opening place written cells reports ++ Report r ∷ [])) t.1
        (subst (λ (ls : List Line). Reads p (state phase.Held (stopped place cells (reports ++ r ∷ []))) ls) (report_lines r)
        (holding place written cells (reports ++ r ∷ []) (same_place p place cells cells reports (reports ++ r ∷ []) f) w c
        (more_reports place cells reports r rs n.counted fits.fits n.here) longer))

    end_after : (s : Reader) → next p (state phase.Held (stopped place cells reports)) End ≡ Some s →
        Reads p s (opening place written cells reports ++ End ∷ [])
    unfolding next
    end_after s h =
        let t = taken (length reports == place.region) (state phase.Over (stopped place cells reports)) s h in
        subst (λ (q : Reader). Reads p q (opening place written cells reports ++ End ∷ [])) t.1
        (at_end place written cells reports w (record { place = f; cells = c; reports = rs; all = eqb-true (length reports) place.region t.0 }))

    held_after : (l : Line) (s : Reader) → LineFits l → next p (state phase.Held (stopped place cells reports)) l ≡ Some s →
        Reads p s (opening place written cells reports ++ l ∷ [])
    unfolding next
    held_after Head s fits h = absurd (cc h)
    held_after (At other) s fits h = absurd (cc h)
    held_after (Cells words values) s fits h = absurd (cc h)
    held_after (Report r) s fits h = report_after r s fits h
    held_after End s fits h = end_after s h

  over_after : (place : Place) (cells : List ℤ) (reports : List RegionReport) (l : Line) (s : Reader) →
      next p (state phase.Over (stopped place cells reports)) l ≡ Some s → ⊥
  unfolding next
  over_after place cells reports Head s h = cc h
  over_after place cells reports (At other) s h = cc h
  over_after place cells reports (Cells words values) s h = cc h
  over_after place cells reports (Report r) s h = cc h
  over_after place cells reports End s h = cc h

  pub reads_next : (o : Reader) (ls : List Line) (l : Line) (s : Reader) → Reads p o ls → LineFits l → next_by p o (Some l) ≡ Some s → Reads p s (ls ++ l ∷ [])
  unfolding next_by
  reads_next _ _ l s at_start fits h = start_after l s h
  reads_next _ _ l s headed fits h = headed_after l s fits h
  reads_next _ _ l s (placed_at place f) fits h = placed_after place f l s fits h
  reads_next _ _ l s (holding place written cells reports f w c rs few) fits h = held_after place written cells reports f w c rs few l s fits h
  reads_next _ _ l s (at_end place written cells reports w f) fits h = absurd (over_after place cells reports l s h)
