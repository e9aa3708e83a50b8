-- The lines of plans that fit are read to their end.
use Rattle.std.proofs.Common.{◌≡◌, ℕ, zero, suc, ◌+◌, ◌<◌, ◌≤◌, ◌==◌, Bool, true, false, nat_lt, List, [], ◌∷◌, ◌++◌, map, length, Option, Some, refl, sym, ap}
use Rattle.std.proofs.Common.{◌∙◌, append_assoc, append-nil, length-append, rules, arith, tests}
use Rattle.std.specs.List.{flat_map}
use Rattle.dp_tree.specs.declared.Assume.{Assume}
use Rattle.dp_tree.specs.Numbering.{numbers_from}
use Rattle.dp_plan_text.specs.declared.line.Line.{Line}
use Rattle.dp_plan_text.specs.declared.line.Line.TheVariants as line
use Rattle.dp_plan_text.specs.declared.reader.Reader.{Reader}
use Rattle.dp_plan_text.specs.declared.reader.Phase.TheVariants as phase
use Rattle.dp_plan.specs.declared.WrittenStage.{WrittenStage}
use Rattle.dp_plan.specs.declared.WrittenPlan.{WrittenPlan}
use Rattle.dp_plan.specs.Each.{Each}
use Rattle.dp_plan.specs.PlanFits.{PlanFits}
use Rattle.dp_plan_text.specs.PlanText.{written_region, region_lines, plan_lines}
use Rattle.dp_plan_text.specs.steps.Reading.{begun, is_between, closed, next}
use Rattle.dp_text.proofs.Runs.{run_by}
use Rattle.std.proofs.lemmas.Bool.{or_right}

abbrev pub run : ℕ → Option Reader → List Line → Option Reader
run n = run_by (next n)

abbrev pub part : ℕ → ℕ → List WrittenStage → List Assume → WrittenPlan
part r words stages assumed = record { region = r; words = words; stages = stages; assume = assumed }

abbrev pub inside : Bool → List WrittenPlan → WrittenPlan → Reader
inside v plans w = record { phase = phase.Inside; proved = v; plans = plans; last = w }

abbrev pub over : Bool → List WrittenPlan → Reader
over v plans = record { phase = phase.Over; proved = v; plans = plans; last = part 0 0 [] [] }

pub not_zero : (r : ℕ) → 0 < r → (r == 0) ≡ false
not_zero r h = search (rules, tests)

module _ (v : Bool) (n r words : ℕ) (plans : List WrittenPlan) (some : 0 < r) where
  pub stage_next : (done : List WrittenStage) (stage : WrittenStage) → length done < 8
      → next n (inside v plans (part r words done [])) (line.Stage stage) ≡ Some (inside v plans (part r words (done ++ stage ∷ []) []))
  unfolding next
  stage_next done stage few = let t : nat_lt (length done) 8 ≡ true = search rules in rw (not_zero r some, t) refl

  stages_run : (done stages : List WrittenStage) (more : List Line) → length done + length stages ≤ 8
      → run n (Some (inside v plans (part r words done []))) (map line.Stage stages ++ more) ≡ run n
      (Some (inside v plans (part r words (done ++ stages) []))) more
  stages_run done [] more few = ap (λ d. run n (Some (inside v plans (part r words d []))) more) (sym (append-nil done))
  stages_run done (stage ∷ rest) more few =
      let long : length (done ++ stage ∷ []) ≡ length done + 1 = length-append done (stage ∷ []) in
      ap (λ o. run n o (map line.Stage rest ++ more)) (stage_next done stage (omega (arith, few)))
      ∙ stages_run (done ++ stage ∷ []) rest more (omega (arith, long, few))
      ∙ ap (λ d. run n (Some (inside v plans (part r words d []))) more) (append_assoc done (stage ∷ []) rest)

  assume_next : (stages : List WrittenStage) (done : List Assume) (a : Assume) → 0 < length stages
      → next n (inside v plans (part r words stages done)) (line.Assume a) ≡ Some (inside v plans (part r words stages (done ++ a ∷ [])))
  unfolding next
  assume_next stages done a full = let t : nat_lt 0 (length stages) ≡ true = search rules in rw (not_zero r some, t) refl

  assumes_run : (stages : List WrittenStage) (done assumed : List Assume) (more : List Line) → 0 < length stages
      → run n (Some (inside v plans (part r words stages done))) (map line.Assume assumed ++ more) ≡ run n
      (Some (inside v plans (part r words stages (done ++ assumed)))) more
  assumes_run stages done [] more full = ap (λ d. run n (Some (inside v plans (part r words stages d))) more) (sym (append-nil done))
  assumes_run stages done (a ∷ rest) more full =
      ap (λ o. run n o (map line.Assume rest ++ more)) (assume_next stages done a full)
      ∙ assumes_run stages (done ++ a ∷ []) rest more full
      ∙ ap (λ d. run n (Some (inside v plans (part r words stages d))) more) (append_assoc done (a ∷ []) rest)

region_next : (n : ℕ) (s : Reader) (r words : ℕ) → is_between s ≡ true → s.last.region < n → r ≡ s.last.region + 1
    → next n s (line.Region r words) ≡ Some (inside s.proved (closed s) (part r words [] []))
unfolding next
region_next n s r words between lt same =
    let t : nat_lt s.last.region n ≡ true = search rules in let e : (r == s.last.region + 1) ≡ true = search (rules, tests) in rw (between, t, e) refl

pub region_run : (n : ℕ) (s : Reader) (w : WrittenPlan) (more : List Line) → is_between s ≡ true → s.last.region < n → w.region ≡ s.last.region + 1 → PlanFits w
    → run n (Some s) (region_lines w ++ more) ≡ run n (Some (inside s.proved (closed s) w)) more
region_run n s w more between lt same fits =
    let positive : 0 < w.region = omega (arith, same) in
    let full : 0 < length w.stages = omega (arith, fits.some_stage) in
    ap (λ o. run n o ((map line.Stage w.stages ++ map line.Assume w.assume) ++ more)) (region_next n s w.region w.words between lt same)
    ∙ ap (run n (Some (inside s.proved (closed s) (part w.region w.words [] [])))) (append_assoc (map line.Stage w.stages) (map line.Assume w.assume) more)
    ∙ stages_run s.proved n w.region w.words (closed s) positive [] w.stages (map line.Assume w.assume ++ more) (omega (arith, fits.few_stages))
    ∙ assumes_run s.proved n w.region w.words (closed s) positive w.stages [] w.assume more full

pub between_regions : (v : Bool) (plans : List WrittenPlan) (w : WrittenPlan) → 0 < length w.stages → is_between (inside v plans w) ≡ true
between_regions v plans w full = or_right (w.region == 0) (nat_lt 0 (length w.stages)) (search rules)

pub closed_last : (v : Bool) (plans : List WrittenPlan) (w : WrittenPlan) → 0 < w.region → closed (inside v plans w) ≡ plans ++ w ∷ []
closed_last v plans w h = rw (not_zero w.region h) refl

pub end_next : (n : ℕ) (s : Reader) → is_between s ≡ true → s.last.region ≡ n → next n s line.End ≡ Some (over s.proved (closed s))
unfolding next
end_next n s between same = let e : (s.last.region == n) ≡ true = search (rules, tests) in rw (between, e) refl

pub plans_run : (ws : List WrittenPlan) (n k : ℕ) (s : Reader) → is_between s ≡ true → map written_region ws ≡ numbers_from (s.last.region + 1) k →
    s.last.region + k ≡ n → Each PlanFits ws
    → run n (Some s) (flat_map region_lines ws ++ line.End ∷ []) ≡ Some (over s.proved (closed s ++ ws))
plans_run [] n zero s between numbers count fit =
    end_next n s between (omega (arith, count)) ∙ ap (λ p. Some (over s.proved p)) (sym (append-nil (closed s)))
plans_run (w ∷ ws) n (suc k) s between numbers count fit =
    let first : w.region ≡ s.last.region + 1 = cc numbers in
    let others : map written_region ws ≡ numbers_from ((s.last.region + 1) + 1) k = cc numbers in
    let later : map written_region ws ≡ numbers_from (w.region + 1) k = others ∙ ap (λ r. numbers_from (r + 1) k) (sym first) in
    let positive : 0 < w.region = omega (arith, first) in
    let full : 0 < length w.stages = omega (arith, fit.0.some_stage) in
    ap (run n (Some s)) (append_assoc (region_lines w) (flat_map region_lines ws) (line.End ∷ []))
    ∙ region_run n s w (flat_map region_lines ws ++ line.End ∷ []) between (omega (arith, count)) first fit.0
    ∙ plans_run ws n k (inside s.proved (closed s) w) (between_regions s.proved (closed s) w full) later (omega (arith, first, count)) fit.1
    ∙ ap (λ p. Some (over s.proved (p ++ ws))) (closed_last s.proved (closed s) w positive)
    ∙ ap (λ p. Some (over s.proved p)) (append_assoc (closed s) (w ∷ []) ws)
plans_run _ n _ s between numbers count fit = absurd (cc numbers)

pub head_next : (n : ℕ) (v : Bool) → next n begun (line.Head v) ≡ Some (inside v [] (part 0 0 [] []))
unfolding next
head_next n v = refl

pub lines_run : (n : ℕ) (v : Bool) (ws : List WrittenPlan) → map written_region ws ≡ numbers_from 1 n → Each PlanFits ws →
    run n (Some begun) (plan_lines v ws) ≡ Some (over v ws)
lines_run n v ws numbers fit =
    ap (λ o. run n o (flat_map region_lines ws ++ line.End ∷ [])) (head_next n v)
    ∙ plans_run ws n n (inside v [] (part 0 0 [] [])) refl numbers (omega arith) fit
