-- The text before a checkpoint and that of the run that goes on from it are the text of one run.
use Rattle.std.proofs.Common.{◌≡◌, ◌⊎◌, refl, sym, ap, ◌∙◌, subst, inl, inr, ℕ, zero, suc, ◌+◌, ◌-◌, ◌<◌, ◌≤◌, ◌==◌, true, false, List, [], ◌∷◌, ◌++◌, ℤ}
use Rattle.std.proofs.Common.{length, map, take, drop, Some, is_some, slice_get, append_assoc, length-append, arith, rules, tests}
use Rattle.std.specs.Prelude.{if◌then◌else◌}
use Rattle.std.proofs.lemmas.Grind.{flat_map-append}
use Rattle.std.proofs.lemmas.List.{length-take-le, take-append-drop}
use Rattle.std.proofs.lemmas.Option.{slice_get_within}
use Rattle.dp_base.specs.declared.End.{End}
use Rattle.dp_base.specs.declared.RegionReport.{RegionReport}
use Rattle.dp_tree.specs.declared.Program.{Program}
use Rattle.dp_tree.specs.Numbering.{numbers_from}
use Rattle.dp_tree.specs.Step.{Config, Event, standing}
use Rattle.dp_tree.specs.Trace.{Run, begin, prints, run_of}
use Rattle.dp_tree.specs.Iteration.{cells_after, cells_in, start}
use Rattle.dp_tree.specs.GoesOn.{GoesOnAs}
use Rattle.dp_tree.proofs.MovedLists.{at_drop}
use Rattle.dp_tree.proofs.RunLaws.{runs_by_step}
use Rattle.dp_plan.specs.declared.Plan.{Plan}
use Rattle.dp_plan.specs.Each.{Each}
use Rattle.dp_plan.specs.GivenPlans.{IsPlan, region_of}
use Rattle.dp_semantics.specs.EpochKey.{statements_from}
use Rattle.dp_semantics.specs.Reported.{gone_on, region_report}
use Rattle.dp_meaning.proofs.MovedLemmas.{prints-append}
use Rattle.dp_report.specs.EndText.{end_bytes, end_line}
use Rattle.dp_report.specs.StateText.{state_bytes}
use Rattle.dp_report.specs.PrintsText.{print_line, prints_bytes}
use Rattle.dp_report.specs.RegionText.{report_lines, regions_bytes}
use Rattle.dp_run.specs.Given.{AreGiven}
use Rattle.dp_run.specs.RunText.{final_cells, region_reports, source_run}
use Rattle.dp_save.specs.declared.Checkpoint.{Checkpoint}
use Rattle.dp_resume.specs.Laws.{GoesOnInText}
use Rattle.dp_resume.specs.Resumed.{report_at, resumed_bytes, resumed_reports, resumed_run, run_bytes_at}
use Rattle.dp_resume.specs.Saved.{checkpoint_at, saved_report, text_before, uncaused}
use Rattle.dp_resume.proofs.Reached.{begins_again, config, config_at, goes_on_here, rest, starts_here}
use Rattle.dp_resume.proofs.Reports.{later_report, own_report}
use Rattle.dp_resume.proofs.Found.{find_plan, region_within}

-- ---- reports without their causes

pub lines_uncaused : (reports : List RegionReport) → regions_bytes false (map uncaused reports) ≡ regions_bytes false reports
lines_uncaused [] = refl
lines_uncaused (r ∷ reports) = ap (λ (t : List ℕ). report_lines false r ++ t) (lines_uncaused reports)

pub lines_same : (a b : List RegionReport) → map uncaused a ≡ map uncaused b → regions_bytes false a ≡ regions_bytes false b
lines_same a b e = sym (lines_uncaused a) ∙ ap (regions_bytes false) e ∙ lines_uncaused b

-- ---- the reports of all plans' regions

pub if_same : {X : Type 0} (a b : ℕ) (x y : X) → a ≡ b → (if a == b then x else y) ≡ x
if_same a b x y e = let t : (a == b) ≡ true = search (rules, tests) in rw t refl

pub if_other : {X : Type 0} (a b : ℕ) (x y : X) → (a < b) ⊎ (b < a) → (if a == b then x else y) ≡ y
if_other a b x y (inl less) = let t : (a == b) ≡ false = search (rules, tests) in rw t refl
if_other a b x y (inr more) = let t : (a == b) ≡ false = search (rules, tests) in rw t refl

module _ (p : Program) (run rest : Run) (r n : ℕ)
    (own : (plan : Plan) → IsPlan p plan → plan.region ≡ r → uncaused (gone_on (saved_report p run r n plan)
    (region_report p plan rest)) ≡ uncaused (report_at p run r n plan))
    (later : (plan : Plan) → IsPlan p plan → r < plan.region → uncaused (region_report p plan rest) ≡ uncaused (region_report p plan run)) where
  later_all : (first count : ℕ) (plans : List Plan) → map region_of plans ≡ numbers_from first count → r < first → Each (IsPlan p) plans →
      map uncaused (region_reports p plans rest) ≡ map uncaused (map (report_at p run r n) plans)
  later_all first count [] numbers less each = refl
  later_all first zero (plan ∷ plans) numbers less each = absurd (cc numbers)
  later_all first (suc count) (plan ∷ plans) numbers less each =
      let number : plan.region ≡ first = cc numbers in let others : map region_of plans ≡ numbers_from (first + 1) count = cc numbers in
      let head : uncaused (region_report p plan rest) ≡ uncaused (report_at p run r n plan) =
      later plan each.0 (omega (arith, number, less))
      ∙ sym (ap uncaused (if_other plan.region r _ (region_report p plan run) (inr (omega (arith, number, less))))) in
      ap (λ (x : RegionReport). x ∷ map uncaused (region_reports p plans rest)) head
      ∙ ap (λ (xs : List RegionReport). uncaused (report_at p run r n plan) ∷ xs) (later_all (first + 1) count plans others (omega (arith, less)) each.1)

  pub reports_same : (j first count : ℕ) (plans : List Plan) → r ≡ first + j → j < count → map region_of plans ≡ numbers_from first count →
      Each (IsPlan p) plans
      → map uncaused (resumed_reports p rest (map (saved_report p run r n) (take (suc j) plans)) plans) ≡ map uncaused (map (report_at p run r n) plans)
  reports_same j first zero plans here more numbers each = absurd (omega (arith, more))
  reports_same j first (suc count) [] here more numbers each = absurd (cc numbers)
  reports_same zero first (suc count) (plan ∷ plans) here more numbers each =
      let number : plan.region ≡ first = cc numbers in let others : map region_of plans ≡ numbers_from (first + 1) count = cc numbers in
      ap (λ (x : RegionReport). x ∷ map uncaused (region_reports p plans rest)) (own plan each.0 (omega (arith, number, here)))
      ∙ ap (λ (xs : List RegionReport). uncaused (report_at p run r n plan) ∷ xs) (later_all (first + 1) count plans others (omega (arith, here)) each.1)
  reports_same (suc j) first (suc zero) (plan ∷ plans) here more numbers each = absurd (omega (arith, more))
  reports_same (suc j) first (suc (suc count)) (plan ∷ []) here more numbers each = absurd (cc numbers)
  reports_same (suc j) first (suc (suc count)) (plan ∷ next ∷ plans) here more numbers each =
      let number : plan.region ≡ first = cc numbers in let others : map region_of (next ∷ plans) ≡ numbers_from (first + 1) (suc count) = cc numbers in
      let head : uncaused (saved_report p run r n plan) ≡ uncaused (report_at p run r n plan) =
      ap uncaused (if_other plan.region r _ (region_report p plan run) (inl (omega (arith, number, here))))
      ∙ sym (ap uncaused (if_other plan.region r _ (region_report p plan run) (inl (omega (arith, number, here))))) in
      ap (λ (x : RegionReport). x ∷ map uncaused (resumed_reports p rest (map (saved_report p run r n) (take (suc j) (next ∷ plans))) (next ∷ plans))) head
      ∙ ap (λ (xs : List RegionReport). uncaused (report_at p run r n plan) ∷ xs) (reports_same j (first + 1) (suc count) (next ∷ plans) (omega (arith, here))
      (omega (arith, more)) others each.1)

-- ---- the prints and the last memory

module _ (run rest : Run) (r m k : ℕ) (goes : GoesOnAs r m k run rest) (within : k ≤ length run.trace) where
  texts_join : text_before run k ++ prints_bytes (prints rest.trace) ≡ prints_bytes (prints run.trace)
  texts_join =
      ap (λ (es : List Event). text_before run k ++ prints_bytes (prints es)) (sym goes.trace)
      ∙ sym (flat_map-append print_line (prints (take k run.trace)) (prints (drop k run.trace)))
      ∙ ap prints_bytes (sym (prints-append (take k run.trace) (drop k run.trace)) ∙ ap prints (take-append-drop k run.trace))

  steps_are : length run.trace ≡ k + length rest.trace
  steps_are =
      let whole : length run.trace ≡ length (take k run.trace) + length (drop k run.trace) = ap length (sym (take-append-drop k run.trace))
      ∙ length-append (take k run.trace) (drop k run.trace) in
      let behind : length (drop k run.trace) ≡ length rest.trace = ap length goes.trace in
      let front : length (take k run.trace) ≡ k = length-take-le k run.trace within in
      omega (arith, whole, behind, front)

  cells_same : final_cells rest ≡ final_cells run
  cells_same =
      ap (λ (cs : List Config). cells_in (slice_get cs (length rest.trace))) (sym goes.configs)
      ∙ ap cells_in (sym (at_drop k (length rest.trace) run.configs))
      ∙ ap (cells_after run) (sym steps_are)

-- ---- the whole text

module _ (p : Program) (plans : List Plan) (given : AreGiven p plans) (input : List ℤ) (fuel r n k : ℕ) (e : start (source_run p input fuel) r n ≡ Some k) where
  abbrev run : Run
  run = source_run p input fuel

  abbrev saved : Checkpoint
  saved = checkpoint_at p plans input fuel r n k

  abbrev on : Run
  on = resumed_run p input saved

  module _ (plan : Plan) (is : IsPlan p plan) (number : plan.region ≡ r) where
    starts_so : start (source_run p input fuel) plan.region n ≡ Some k
    starts_so = ap (λ (q : ℕ). start (source_run p input fuel) q n) number ∙ e

    on_is : resumed_run p input (checkpoint_at p plans input fuel r n k) ≡ rest p given.inlined input fuel plan is n k starts_so
    on_is =
        ap (λ (q : ℕ). run_of p input (fuel - k) (standing p (statements_from q p.main) (cells_after run k))) (sym number)
        ∙ ap (run_of p input (fuel - k)) (begins_again p given.inlined input fuel plan is n k starts_so)

    goes : GoesOnAs plan.region n k (source_run p input fuel) (resumed_run p input (checkpoint_at p plans input fuel r n k))
    goes = subst (λ (u : Run). GoesOnAs plan.region n k run u) (sym on_is) (goes_on_here p given.inlined input fuel plan is n k starts_so)

    reached : is_some (start (resumed_run p input (checkpoint_at p plans input fuel r n k)) plan.region 0) ≡ true
    reached = ap (λ (u : Run). is_some (start u plan.region 0)) on_is ∙ ap is_some (starts_here p given.inlined input fuel plan is n k starts_so)

    own : uncaused (gone_on (saved_report p (source_run p input fuel) r n plan) (region_report p plan on)) ≡ uncaused
        (report_at p (source_run p input fuel) r n plan)
    own =
        ap (λ (x : RegionReport). uncaused (gone_on (uncaused x) (region_report p plan on))) (if_same plan.region r _ (region_report p plan run) number)
        ∙ own_report p plan n k run on goes reached
        ∙ sym (ap uncaused (if_same plan.region r _ (region_report p plan run) number))

    later : (other : Plan) → IsPlan p other → r < other.region →
        uncaused (region_report p other on) ≡ uncaused (region_report p other (source_run p input fuel))
    later other planned less =
        ap (λ (u : Run). uncaused (region_report p other u)) on_is
        ∙ sym (later_report p given.inlined input fuel plan is n k starts_so other planned (omega (arith, less, number)))

    within : k ≤ length (source_run p input fuel).trace
    within =
        let low = slice_get_within run.configs k (config p given.inlined input fuel plan is n k starts_so)
        (config_at p given.inlined input fuel plan is n k starts_so) in
        omega (arith, low, (runs_by_step p input fuel (begin p)).one_more)

    -- all other lines
    lines : ((other : Plan) → IsPlan p other → other.region ≡ r →
        uncaused (gone_on (saved_report p (source_run p input fuel) r n other) (region_report p other on)) ≡ uncaused
        (report_at p (source_run p input fuel) r n other)) → 1 ≤ r → r ≤ length p.regions →
        regions_bytes false (resumed_reports p on (map (saved_report p (source_run p input fuel) r n) (take r plans)) plans) ≡ regions_bytes false
        (map (report_at p (source_run p input fuel) r n) plans)
    lines own_any low high =
        let before : suc (r - 1) ≡ r = omega (arith, low) in
        lines_same (resumed_reports p on (map (saved_report p run r n) (take r plans)) plans) (map (report_at p run r n) plans)
        (ap (λ (m : ℕ). map uncaused (resumed_reports p on (map (saved_report p run r n) (take m plans)) plans)) (sym before)
        ∙ reports_same p run on r n own_any later (r - 1) 1 (length p.regions) plans (omega (arith, low)) (omega (arith, low, high)) given.plans_are.regions
        given.plans_are.each)

    pub text_is : ((other : Plan) → IsPlan p other → other.region ≡ r →
        uncaused (gone_on (saved_report p (source_run p input fuel) r n other) (region_report p other on)) ≡ uncaused
        (report_at p (source_run p input fuel) r n other)) → 1 ≤ r → r ≤ length p.regions → text_before (source_run p input fuel) k
        ++ resumed_bytes p plans input (checkpoint_at p plans input fuel r n k) ≡ run_bytes_at p plans (source_run p input fuel) r n
    text_is own_any low high =
        let closing = end_bytes p (final_cells on) (resumed_reports p on saved.reports plans) on.end false in
        sym (append_assoc (text_before run k) (prints_bytes (prints on.trace)) closing)
        ∙ ap (λ (t : List ℕ). t ++ closing) (texts_join run on plan.region n k goes within)
        ∙ ap (λ (cells : List ℤ). prints_bytes (prints run.trace) ++ end_bytes p cells (resumed_reports p on saved.reports plans) on.end false)
        (cells_same run on plan.region n k goes within)
        ∙ ap (λ (how : End). prints_bytes (prints run.trace) ++ end_bytes p (final_cells run) (resumed_reports p on saved.reports plans) how
        false) (sym goes.end)
        ∙ ap (λ (t : List ℕ). prints_bytes (prints run.trace) ++ (state_bytes p.vars (final_cells run) ++ t ++ end_line run.end)) (lines own_any low high)

pub goes_on_in_text : (p : Program) (plans : List Plan) → GoesOnInText p plans
goes_on_in_text p plans given input fuel r n k e =
    let w = region_within p given.inlined input fuel r n k e in
    let q = find_plan p 1 (length p.regions) plans given.plans_are.regions given.plans_are.each r w.0 (omega (arith, w.1)) in
    text_is p plans given input fuel r n k e q.0 q.1 q.2 (own p plans given input fuel r n k e) w.0 (omega (arith, w.1))
