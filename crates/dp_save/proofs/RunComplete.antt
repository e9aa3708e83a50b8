-- The lines of a checkpoint that fits are read to their end, and lines that begin a text can be completed to one.
use Rattle.std.proofs.Common.{◌≡◌, ℕ, zero, suc, ◌+◌, ◌-◌, ◌<◌, ◌≤◌, ◌==◌, Bool, true, false, not, List, [], ◌∷◌, ◌++◌, map, length, ℤ, Option, Some, refl, sym}
use Rattle.std.proofs.Common.{ap, subst, ◌∙◌, rules, arith, tests, eqb-true, append_assoc, append-nil, length-append}
use Rattle.std.specs.Prelude.{if◌then◌else◌}
use Rattle.std.specs.Fmt.{signed_decimal}
use Rattle.std.proofs.lemmas.List.{map-append}
use Rattle.dp_base.specs.declared.RegionReport.{RegionReport}
use Rattle.dp_base.specs.declared.limits.TheConstants.{FUEL}
use Rattle.dp_text.specs.Each.{Each}
use Rattle.dp_text.proofs.Runs.{run_by}
use Rattle.dp_tree.specs.declared.Program.{Program}
use Rattle.dp_tree.specs.Numbering.{numbers_from}
use Rattle.dp_tree.proofs.NumberLists.{numbers_from-append}
use Rattle.dp_save.specs.declared.line.Place.{Place}
use Rattle.dp_save.specs.declared.reader.Reader.{Reader}
use Rattle.dp_save.specs.declared.reader.Phase.TheVariants as phase
use Rattle.dp_save.specs.CheckpointText.{WriteAll}
use Rattle.dp_save.specs.Fits.{CellsFit, Fits, PlaceFits, ReportFits, ReportsFit, StopsHere, reported_region}
use Rattle.dp_save.specs.steps.LineWords.{Line, Head, At, Cells, Report, End}
use Rattle.dp_save.specs.steps.Reading.{begun, cells_fit, is_next, next, place_fits, state, stopped}
use Rattle.dp_save.proofs.FitLemmas.{cells_tested, each-lists, next_tested, place_tested, same_place, zeros, zeros_fit}
use Rattle.dp_save.proofs.LineLemmas.{LineFits}
use Rattle.dp_save.proofs.RunSound.{Reads, at_start, headed, placed_at, holding, at_end, nowhere, opening, whole}
use Rattle.dp_save.proofs.ValueLemmas.{write_plainly}

abbrev pub run : Program → Option Reader → List Line → Option Reader
run p = run_by (next p)

-- ---- lines that are read

module _ (p : Program) where
  head_next : 0 < length p.regions → next p begun Head ≡ Some (state phase.Headed (stopped nowhere [] []))
  unfolding next
  head_next some = let t : (length p.regions == 0) ≡ false = search (rules, tests) in rw t refl

  place_next : (place : Place) (cells : List ℤ) (reports : List RegionReport) → PlaceFits p (stopped place cells reports) →
      next p (state phase.Headed (stopped nowhere [] [])) (At place) ≡ Some (state phase.Placed (stopped place [] []))
  unfolding next
  place_next place cells reports f = rw (place_tested p place cells reports f) refl

  cells_read : (place : Place) (written : List (List ℕ)) (cells : List ℤ) → CellsFit p cells → next p (state phase.Placed (stopped place [] []))
      (Cells written cells) ≡ Some (state phase.Held (stopped place cells []))
  unfolding next
  cells_read place written cells f = rw (cells_tested p cells f) refl

  report_read : (place : Place) (cells : List ℤ) (reports : List RegionReport) (r : RegionReport) → r.region ≡ suc (length reports) → r.region ≤ place.region →
      StopsHere (stopped place cells reports) r
      → next p (state phase.Held (stopped place cells reports)) (Report r) ≡ Some (state phase.Held (stopped place cells (reports ++ r ∷ [])))
  unfolding next
  report_read place cells reports r number within here = rw (next_tested (stopped place cells reports) r number within here) refl

  end_read : (place : Place) (cells : List ℤ) (reports : List RegionReport) → length reports ≡ place.region →
      next p (state phase.Held (stopped place cells reports)) End ≡ Some (state phase.Over (stopped place cells reports))
  unfolding next
  end_read place cells reports all = let t : (length reports == place.region) ≡ true = search (rules, tests) in rw t refl

  reports_run : (place : Place) (cells : List ℤ) (done left : List RegionReport) → map reported_region left ≡ numbers_from (1 + length done) (length left) →
      length done + length left ≡ place.region → Each (StopsHere (stopped place cells [])) left
      → run p (Some (state phase.Held (stopped place cells done))) (map Report left ++ End ∷ []) ≡ Some (state phase.Over (stopped place cells (done ++ left)))
  reports_run place cells done [] numbers all here =
      end_read place cells done (omega (arith, all)) ∙ ap (λ (rs : List RegionReport). Some (state phase.Over (stopped place cells rs))) (sym (append-nil done))
  reports_run place cells done (r ∷ left) numbers all here =
      let first : r.region ≡ 1 + length done = cc numbers in
      let others : map reported_region left ≡ numbers_from ((1 + length done) + 1) (length left) = cc numbers in
      let long : length (done ++ r ∷ []) ≡ length done + 1 = length-append done (r ∷ []) in
      let same : (1 + length done) + 1 ≡ 1 + length (done ++ r ∷ []) = omega (arith, long) in
      ap (λ (o : Option Reader). run p o (map Report left ++ End ∷ [])) (report_read place cells done r (omega (arith, first))
      (omega (arith, first, all)) here.0)
      ∙ reports_run place cells (done ++ r ∷ []) left (others ∙ ap (λ (k : ℕ). numbers_from k (length left)) same) (omega (arith, long, all)) here.1
      ∙ ap (λ (rs : List RegionReport). Some (state phase.Over (stopped place cells rs))) (append_assoc done (r ∷ []) left)

  pub lines_run : (place : Place) (written : List (List ℕ)) (cells : List ℤ) (reports : List RegionReport) → Fits p (stopped place cells reports)
      → run p (Some begun) (whole place written cells reports) ≡ Some (state phase.Over (stopped place cells reports))
  lines_run place written cells reports f =
      ap (λ (o : Option Reader). run p o (At place ∷ Cells written cells ∷ (map Report reports ++ End ∷ [])))
      (head_next (omega (arith, f.place.some_region, f.place.region_exists)))
      ∙ ap (λ (o : Option Reader). run p o (Cells written cells ∷ (map Report reports ++ End ∷ []))) (place_next place cells reports f.place)
      ∙ ap (λ (o : Option Reader). run p o (map Report reports ++ End ∷ [])) (cells_read place written cells f.cells)
      ∙ reports_run place cells [] reports f.reports.regions (omega (arith, f.all)) f.reports.here

-- ---- the lines fit

reports_numbered : (from n : ℕ) (reports : List RegionReport) → map reported_region reports ≡ numbers_from from n → from + n ≤ 4294967296 →
    Each ReportFits reports → Each LineFits (map Report reports)
reports_numbered from n [] numbers small each = tt
reports_numbered from zero (r ∷ reports) numbers small each = absurd (cc numbers)
reports_numbered from (suc n) (r ∷ reports) numbers small each =
    let first : r.region ≡ from = cc numbers in let others : map reported_region reports ≡ numbers_from (from + 1) n = cc numbers in
    (record { numbered = omega (arith, first, small); fits = each.0 }, reports_numbered (from + 1) n reports others (omega (arith, small)) each.1)

pub whole_fits : (p : Program) (place : Place) (written : List (List ℕ)) (cells : List ℤ) (reports : List RegionReport) → WriteAll written cells →
    Fits p (stopped place cells reports) → Each LineFits (whole place written cells reports)
whole_fits p place written cells reports w f = (
  tt,
  (
    (omega (arith, f.place.region_numbered), f.place.few_after, omega (arith, f.place.steps_within, f.place.most_fuel), f.place.most_fuel),
    (
      (w, f.cells.wide),
      each-lists LineFits (map Report reports) (End ∷ []) (reports_numbered 1 (length reports) reports f.reports.regions
          (omega (arith, f.all, f.place.region_numbered)) f.reports.each) (tt, tt),
    ),
  ),
)

-- ---- lines that complete a text

abbrev iterations_at : Place → ℕ → ℕ
iterations_at place k = if k == place.region then place.after else 0

-- a report without an iteration that was executed again
abbrev blank : Place → ℕ → RegionReport
blank place k = record { region = k; iterations = iterations_at place k; recovered_count = 0; recovered = []; causes = [] }

abbrev blanks : Place → ℕ → ℕ → List RegionReport
blanks place k zero = []
blanks place k (suc n) = blank place k ∷ blanks place (k + 1) n

few_blank : (is : Bool) (after : ℕ) → after ≤ FUEL → (if is then after else 0) ≤ FUEL
few_blank true after h = h
few_blank false after h = omega arith

here_blank : (place : Place) (k : ℕ) → k ≡ place.region → iterations_at place k ≡ place.after
here_blank place k is = let t : (k == place.region) ≡ true = search (rules, tests) in rw t refl

blanks_numbered : (place : Place) (k n : ℕ) → map reported_region (blanks place k n) ≡ numbers_from k n
blanks_numbered place k zero = refl
blanks_numbered place k (suc n) = ap (λ (ns : List ℕ). k ∷ ns) (blanks_numbered place (k + 1) n)

blanks_many : (place : Place) (k n : ℕ) → length (blanks place k n) ≡ n
blanks_many place k zero = refl
blanks_many place k (suc n) = ap suc (blanks_many place (k + 1) n)

blanks_fit : (place : Place) (k n : ℕ) → place.after ≤ FUEL → Each ReportFits (blanks place k n)
blanks_fit place k zero h = tt
blanks_fit place k (suc n) h = (
  record { few = few_blank (k == place.region) place.after h; again = omega arith; listed = refl; ascend = tt; uncaused = refl },
  blanks_fit place (k + 1) n h,
)

blanks_here : (place : Place) (cells : List ℤ) (reports : List RegionReport) (k n : ℕ) → Each (StopsHere (stopped place cells reports)) (blanks place k n)
blanks_here place cells reports k zero = tt
blanks_here place cells reports k (suc n) = ((λ is. here_blank place k is), blanks_here place cells reports (k + 1) n)

pub record Ends (p : Program) (ls : List Line) : Type 0 where
  pub more : List Line
  pub place : Place
  pub written : List (List ℕ)
  pub cells : List ℤ
  pub reports : List RegionReport
  pub write : WriteAll written cells
  pub fits : Fits p (stopped place cells reports)
  pub are : ls ++ more ≡ whole place written cells reports

module _ (p : Program) (place : Place) (written : List (List ℕ)) (cells : List ℤ) (reports : List RegionReport) (w : WriteAll written cells)
    (f : PlaceFits p (stopped place cells reports)) (c : CellsFit p cells)
    (rs : ReportsFit (stopped place cells reports)) (few : length reports ≤ place.region) where
  abbrev left : ℕ
  left = place.region - length reports

  abbrev added : List RegionReport
  added = blanks place (1 + length reports) left

  all_reports : length (reports ++ added) ≡ place.region
  all_reports = omega (
    arith,
    length-append reports (blanks place (1 + length reports) (place.region - length reports)),
    blanks_many place (1 + length
        reports) (place.region - length reports),
    few,
  )

  held_ends : Ends p (opening place written cells reports)
  held_ends = record {
    more = map Report added ++ End ∷ [];
    place = place;
    written = written;
    cells = cells;
    reports = reports ++ added;
    write = w;
    fits = record {
      place = same_place p place cells cells reports (reports ++ added) f;
      cells = c;
      reports = record {
        regions =
            map-append reported_region reports added
            ∙ ap (λ (ns : List ℕ). ns ++ map reported_region added) rs.regions
            ∙ ap (λ (ns : List ℕ). numbers_from 1 (length reports) ++ ns) (blanks_numbered place (1 + length reports) left)
            ∙ sym (numbers_from-append 1 (length reports) left)
            ∙ ap (numbers_from 1) (sym (length-append reports added ∙ ap (λ (n : ℕ). length reports + n) (blanks_many place (1 + length reports) left)));
        each = each-lists ReportFits reports added rs.each (blanks_fit place (1 + length reports) left f.few_after);
        here = each-lists (StopsHere (stopped place cells reports)) reports added rs.here (blanks_here place cells reports (1 + length reports) left);
      };
      all = all_reports;
    };
    are =
        ap (λ (ls : List Line). Head ∷ At place ∷ Cells written cells ∷ ls)
        (sym (append_assoc (map Report reports) (map Report added) (End ∷ []))
        ∙ ap (λ (ls : List Line). ls ++ End ∷ []) (sym (map-append Report reports added)));
  }

module _ (p : Program) where
  placed_ends : (place : Place) → PlaceFits p (stopped place [] []) → Ends p (Head ∷ At place ∷ [])
  placed_ends place f =
      let e : Ends p (Head ∷ At place ∷ Cells (map signed_decimal (zeros p)) (zeros p) ∷ []) =
      held_ends p place (map signed_decimal (zeros p)) (zeros p) [] (write_plainly (zeros p)) (same_place p place [] (zeros p) [] [] f) (zeros_fit p)
      (record { regions = refl; each = tt; here = tt }) (omega arith) in
      record {
        more = Cells (map signed_decimal (zeros p)) (zeros p) ∷ e.more;
        place = e.place;
        written = e.written;
        cells = e.cells;
        reports = e.reports;
        write = e.write;
        fits = e.fits;
        are = e.are;
      }

  headed_ends : 0 < length p.regions → Ends p (Head ∷ [])
  headed_ends some =
      let e : Ends p (Head ∷ At (record { region = 1; after = 0; steps = 0; fuel = 0 }) ∷ []) =
      placed_ends (record { region = 1; after = 0; steps = 0; fuel = 0 })
      (record {
        some_region = omega arith;
        region_exists = omega (arith, some);
        region_numbered = omega arith;
        few_after = omega arith;
        steps_within = omega arith;
        most_fuel = omega arith;
      }) in
      record {
        more = At (record { region = 1; after = 0; steps = 0; fuel = 0 }) ∷ e.more;
        place = e.place;
        written = e.written;
        cells = e.cells;
        reports = e.reports;
        write = e.write;
        fits = e.fits;
        are = e.are;
      }

  start_ends : 0 < length p.regions → Ends p []
  start_ends some =
      let e : Ends p (Head ∷ []) = headed_ends some in
      record { more = Head ∷ e.more; place = e.place; written = e.written; cells = e.cells; reports = e.reports; write = e.write; fits = e.fits; are = e.are }

  pub reads_end : 0 < length p.regions → (s : Reader) (ls : List Line) → Reads p s ls → Ends p ls
  reads_end some _ _ at_start = start_ends some
  reads_end some _ _ headed = headed_ends some
  reads_end some _ _ (placed_at place f) = placed_ends place f
  reads_end some _ _ (holding place written cells reports f w c rs few) = held_ends p place written cells reports w f c rs few
  reads_end some _ _ (at_end place written cells reports w f) = record {
    more = [];
    place = place;
    written = written;
    cells = cells;
    reports = reports;
    write = w;
    fits = f;
    are = append-nil (whole place written cells reports);
  }
