-- Reports that are gone on with, and their lines.
use Rattle.std.proofs.Common.{◌≡◌, refl, sym, ap, ◌∙◌, ℕ, zero, suc, ◌+◌, ◌<◌, ◌≤◌, ◌^◌, min, Bool, true, false, List, [], ◌∷◌, ◌++◌, length, map, take, drop}
use Rattle.std.proofs.Common.{filter, All, append-nil, length-append, arith}
use Rattle.std.specs.Prelude.{if◌then◌else◌}
use Rattle.std.proofs.lemmas.List.{length-map, length-take}
use Rattle.std.proofs.lemmas.Grind.{flat_map-append}
use Rattle.std.proofs.lemmas.List.Elements.{All-cons, All-head, All-nil, All-tail, All-take}
use Rattle.std.proofs.Math.Nat.{min-le_left, min-le_right}
use Rattle.dp_base.specs.declared.RegionReport.{RegionReport}
use Rattle.dp_base.specs.declared.limits.TheConstants.{LISTED}
use Rattle.dp_tree.specs.declared.Program.{Program}
use Rattle.dp_tree.specs.Trace.{Run}
use Rattle.dp_plan.specs.declared.Plan.{Plan}
use Rattle.dp_semantics.specs.Reported.{region_report}
use Rattle.dp_report.specs.RegionText.{report_lines, regions_bytes}
use Rattle.dp_epoch.specs.Accounts.{told_when}
use Rattle.dp_run.specs.RunText.{region_reports, told_reports}
use Rattle.dp_run.proofs.Ending.{IsListed}
use Rattle.dp_run.proofs.Reporting.{begun_few, few_recovered}
use Rattle.dp_save.specs.Fits.{AscendWithin, ReportFits}
use Rattle.dp_text.specs.Each.{Each}
use Rattle.dp_tree.specs.Iteration.{begun_count}
use Rattle.dp_tree.specs.Numbering.{numbers_from}
use Rattle.dp_semantics.specs.Recovery.{is_recovered, recovered}
use Rattle.dp_resume.specs.Resumed.{resumed_reports}
use Rattle.dp_resume.specs.Saved.{uncaused}
use Rattle.dp_resume.specs.steps.Merging.{IsSmall, first_behind, merged, with_behind}
use Rattle.dp_resume.proofs.ToldReports.{told_alike}

-- ---- the numbers that are listed

take_all : {X : Type 0} (n : ℕ) (xs : List X) → length xs ≤ n → take n xs ≡ xs
take_all zero [] h = refl
take_all (suc n) [] h = refl
take_all zero (x ∷ xs) h = absurd (omega (arith, h))
take_all {X = X} (suc n) (x ∷ xs) h = ap (λ (ys : List X). x ∷ ys) (take_all n xs (omega (arith, h)))

take_front : {X : Type 0} (n : ℕ) (xs ys : List X) → n ≤ length xs → take n (xs ++ ys) ≡ take n xs
take_front zero xs ys h = refl
take_front (suc n) [] ys h = absurd (omega (arith, h))
take_front {X = X} (suc n) (x ∷ xs) ys h = ap (λ (zs : List X). x ∷ zs) (take_front n xs ys (omega (arith, h)))

-- no number more is listed
pub listed_full : (listed more : List ℕ) → length listed ≤ LISTED → LISTED ≤ length listed → listed ≡ take LISTED (listed ++ more)
listed_full listed more high low = sym (take_front LISTED listed more low ∙ take_all LISTED listed high)

-- no number is left
pub listed_all : (before : ℕ) (listed : List ℕ) → length listed ≤ LISTED → listed ≡ take LISTED (listed ++ map (λ k. before + k) [])
listed_all before listed high = sym (ap (take LISTED) (append-nil listed) ∙ take_all LISTED listed high)

-- ---- the last of the saved reports

pub merged_last : (before : List RegionReport) (last : RegionReport) (told : List RegionReport) → merged (before ++ last ∷ []) told ≡ before
    ++ first_behind last told
merged_last [] last told = refl
merged_last (r ∷ []) last told = refl
merged_last (r ∷ next ∷ before) last told = ap (λ (rs : List RegionReport). r ∷ rs) (merged_last (next ∷ before) last told)

-- taken off, gone on with and put back
pub merged_again : (saved before : List RegionReport) (last : RegionReport) (told behind : List RegionReport) → saved ≡ before ++ last ∷ [] →
    behind ≡ first_behind last told → before ++ behind ≡ merged saved told
merged_again saved before last told behind is with =
    ap (λ (rs : List RegionReport). before ++ rs) with ∙ sym (ap (λ (rs : List RegionReport). merged rs told) is ∙ merged_last before last told)

merged_more : (saved : List RegionReport) (first : RegionReport) (told more : List RegionReport) → 0 < length saved →
    merged saved (first ∷ (told ++ more)) ≡ merged saved (first ∷ told) ++ more
merged_more [] first told more some = absurd (omega (arith, some))
merged_more (last ∷ []) first told more some = refl
merged_more (r ∷ next ∷ saved) first told more some = ap (λ (rs : List RegionReport). r ∷ rs) (merged_more (next ∷ saved) first told more (omega arith))

-- ---- what a resumed run reports

pub resumed_merged : (p : Program) (run : Run) (saved : List RegionReport) (plans : List Plan) (n : ℕ) → length saved ≡ suc n → n < length plans →
    map uncaused (resumed_reports p run saved plans) ≡ map uncaused (merged saved (region_reports p (drop n plans) run))
resumed_merged p run [] plans n long more = absurd (cc long)
resumed_merged p run (last ∷ []) [] n long more = absurd (omega (arith, more))
resumed_merged p run (last ∷ []) (plan ∷ plans) zero long more = refl
resumed_merged p run (last ∷ []) (plan ∷ plans) (suc n) long more = absurd (cc long)
resumed_merged p run (r ∷ next ∷ saved) [] n long more = absurd (omega (arith, more))
resumed_merged p run (r ∷ next ∷ saved) (plan ∷ plans) zero long more = absurd (cc long)
resumed_merged p run (r ∷ next ∷ saved) (plan ∷ plans) (suc n) long more =
    let shorter : length (next ∷ saved) ≡ suc n = cc long in
    ap (λ (rs : List RegionReport). uncaused r ∷ rs) (resumed_merged p run (next ∷ saved) plans n shorter (omega (arith, more)))

-- causes of the run's own reports make no difference
pub merged_alike : (p : Program) (run : Run) (saved : List RegionReport) (plans : List Plan) → map uncaused (merged saved (told_reports false p plans run))
    ≡ map uncaused (merged saved (region_reports p plans run))
merged_alike p run [] plans = told_alike p run plans
merged_alike p run (last ∷ []) [] = refl
merged_alike p run (last ∷ []) (plan ∷ plans) =
    ap (λ (rs : List RegionReport). uncaused (with_behind last (region_report p plan run)) ∷ rs) (told_alike p run plans)
merged_alike p run (r ∷ next ∷ saved) plans = ap (λ (rs : List RegionReport). uncaused r ∷ rs) (merged_alike p run (next ∷ saved) plans)

-- where the reports behind the first have no line
pub merged_lines : (saved : List RegionReport) (first : RegionReport) (told more : List RegionReport) → 0 < length saved → regions_bytes false more ≡ [] →
    regions_bytes false (merged saved (first ∷ told)) ≡ regions_bytes false (merged saved (first ∷ (told ++ more)))
merged_lines saved first told more some none =
    sym (ap (regions_bytes false) (merged_more saved first told more some)
    ∙ flat_map-append (report_lines false) (merged saved (first ∷ told)) more
    ∙ ap (λ (t : List ℕ). regions_bytes false (merged saved (first ∷ told)) ++ t) none
    ∙ append-nil (regions_bytes false (merged saved (first ∷ told))))

-- ---- as many are listed as may be

min_sum : (a b c d : ℕ) → c ≡ min a LISTED → d ≡ min b LISTED → min LISTED (c + d) ≡ min (a + b) LISTED
min_sum a b c d e f = omega (arith, e, f)

listed_behind : (saved behind : RegionReport) → IsListed saved → IsListed behind → IsListed (with_behind saved behind)
listed_behind saved behind a b =
    length-take LISTED (saved.recovered ++ map (λ k. saved.iterations + k) behind.recovered)
    ∙ ap (min LISTED) (length-append saved.recovered (map (λ k. saved.iterations + k) behind.recovered)
    ∙ ap (λ (n : ℕ). length saved.recovered + n) (length-map behind.recovered (λ k. saved.iterations + k)))
    ∙ min_sum saved.recovered_count behind.recovered_count (length saved.recovered) (length behind.recovered) a b

pub listed_merged : (saved told : List RegionReport) → All IsListed saved → All IsListed told → All IsListed (merged saved told)
listed_merged [] told a b = b
listed_merged (last ∷ []) [] a b = a
listed_merged (last ∷ []) (first ∷ told) a b =
    All-cons IsListed (with_behind last first) told (listed_behind last first (All-head IsListed last [] a) (All-head IsListed first told b))
    (All-tail IsListed first told b)
listed_merged (r ∷ next ∷ saved) told a b =
    All-cons IsListed r (merged (next ∷ saved) told) (All-head IsListed r (next ∷ saved) a)
    (listed_merged (next ∷ saved) told (All-tail IsListed r (next ∷ saved) a) b)

pub listed_saved : (reports : List RegionReport) → Each ReportFits reports → All IsListed reports
listed_saved [] each = All-nil IsListed
listed_saved (r ∷ reports) each = All-cons IsListed r reports each.0.listed (listed_saved reports each.1)

-- ---- the numbers can be added

numbers_small : (low high : ℕ) (ns : List ℕ) → high ≤ 1000000000 → AscendWithin low high ns → All (λ i. i < 2 ^ 63) ns
numbers_small low high [] top h = All-nil (λ i. i < 2 ^ 63)
numbers_small low high (i ∷ rest) top h =
    All-cons (λ j. j < 2 ^ 63) i rest (let lt : i < high = h.1 in omega (arith, lt, top)) (numbers_small (suc i) high rest top h.2)

report_small : (r : RegionReport) → ReportFits r → IsSmall r
report_small r f = record {
  iterations = omega (arith, f.few);
  count = omega (arith, f.few, f.again);
  numbers = numbers_small 0 r.iterations r.recovered f.few f.ascend;
  listed = let le = min-le_right r.recovered_count LISTED in omega (arith, f.listed, le);
}

-- those that were saved
pub saved_small : (reports : List RegionReport) → Each ReportFits reports → All IsSmall reports
saved_small [] each = All-nil IsSmall
saved_small (r ∷ reports) each = All-cons IsSmall r reports (report_small r each.0) (saved_small reports each.1)

below_filter : (test : ℕ → Bool) (first count : ℕ) → first + count < 2 ^ 63 → All (λ i. i < 2 ^ 63) (filter test (numbers_from first count))
below_filter test first zero h = All-nil (λ i. i < 2 ^ 63)
below_filter test first (suc count) h = by (test first) (below_filter test (first + 1) count (omega (arith, h)))
  where
    by : (b : Bool) → All (λ i. i < 2 ^ 63) (filter test (numbers_from (first + 1) count)) →
        All (λ i. i < 2 ^ 63) (if b then first ∷ filter test (numbers_from (first + 1) count) else filter test (numbers_from (first + 1) count))
    by true more = All-cons (λ j. j < 2 ^ 63) first (filter test (numbers_from (first + 1) count)) (omega (arith, h)) more
    by false more = more

-- .. and those of a run within its fuel
run_small : (p : Program) (run : Run) (plan : Plan) → run.fuel ≤ 1000000000 → IsSmall (told_when false (region_report p plan run))
run_small p run plan few =
    let begun = begun_few run plan.region in let again = few_recovered p plan run in
    record {
      iterations = omega (arith, begun, few);
      count = omega (arith, begun, again, few);
      numbers = All-take (λ i. i < 2 ^ 63) LISTED (recovered p plan run) (below_filter (is_recovered p plan run) 0 (begun_count run plan.region)
          (omega (arith, begun, few)));
      listed = let le = min-le_left LISTED (length (recovered p plan run)) in omega (arith, length-take LISTED (recovered p plan run), le);
    }

pub told_small : (p : Program) (run : Run) (plans : List Plan) → run.fuel ≤ 1000000000 → All IsSmall (told_reports false p plans run)
told_small p run [] few = All-nil IsSmall
told_small p run (plan ∷ plans) few =
    All-cons IsSmall (told_when false (region_report p plan run)) (told_reports false p plans run) (run_small p run plan few) (told_small p run plans few)
