-- Lines that may begin a text can be completed to one.
use Rattle.std.proofs.Common.{◌≡◌, ℕ, zero, suc, ◌+◌, ◌-◌, ◌<◌, ◌≤◌, ◌^◌, true, List, [], ◌∷◌, ◌++◌, map, length, Option, Some, None, refl, sym, ap, subst, ◌∙◌}
use Rattle.std.proofs.Common.{append_assoc, append-nil, arith, Bool}
use Rattle.std.specs.List.{flat_map}
use Rattle.dp_tree.specs.declared.Assume.{Assume}
use Rattle.dp_tree.specs.Numbering.{numbers_from}
use Rattle.dp_plan.specs.declared.StageKind.TheVariants.{Seq}
use Rattle.dp_plan_text.specs.declared.line.Line.{Line}
use Rattle.dp_plan_text.specs.declared.line.Line.TheVariants as line
use Rattle.dp_plan_text.specs.declared.reader.Reader.{Reader}
use Rattle.dp_plan_text.specs.declared.reader.Phase.TheVariants as phase
use Rattle.dp_plan.specs.declared.WrittenStage.{WrittenStage}
use Rattle.dp_plan.specs.declared.WrittenPlan.{WrittenPlan}
use Rattle.dp_plan.specs.Each.{Each}
use Rattle.dp_plan.specs.PlanFits.{StageFits, AssumeFits, PlanFits}
use Rattle.dp_plan_text.specs.PlanText.{written_region, region_lines, plan_lines}
use Rattle.dp_plan_text.specs.steps.Reading.{begun, is_between, closed, next, next_by}
use Rattle.dp_plan_text.proofs.LineComplete.{LineFits}
use Rattle.dp_plan_text.proofs.RunComplete.{run, part, inside, over, stage_next, between_regions, plans_run, lines_run}
use Rattle.dp_plan.proofs.EachLemmas.{each-lists, each_made}
use Rattle.dp_plan_text.proofs.RunSound.{Reads, at_start, headed, in_region, at_end, reads_next}

-- ---- the lines of plans fit

pub lines_fit : (ws : List WrittenPlan) (r k : ℕ) → map written_region ws ≡ numbers_from r k → r + k ≤ 2 ^ 32 → Each PlanFits ws →
    Each LineFits (flat_map region_lines ws)
lines_fit [] r k numbers small fit = tt
lines_fit (w ∷ ws) r zero numbers small fit = absurd (cc numbers)
lines_fit (w ∷ ws) r (suc k) numbers small fit =
    let is : w.region ≡ r = cc numbers in let later : map written_region ws ≡ numbers_from (r + 1) k = cc numbers in
    each-lists LineFits (region_lines w) (flat_map region_lines ws) (
      (omega (arith, is, small), fit.0.least_words, fit.0.most_words),
      each-lists LineFits (map line.Stage w.stages) (map line.Assume w.assume)
          (each_made StageFits LineFits line.Stage (λ _ h. h) w.stages fit.0.stages)
          (each_made AssumeFits LineFits line.Assume (λ _ h. h) w.assume fit.0.assume),
    )
    (lines_fit ws (r + 1) k later (omega (arith, small)) fit.1)

pub all_lines_fit : (v : Bool) (ws : List WrittenPlan) (n : ℕ) → map written_region ws ≡ numbers_from 1 n → n < 2 ^ 32 → Each PlanFits ws →
    Each LineFits (plan_lines v ws)
all_lines_fit v ws n numbers small fit =
    (tt, each-lists LineFits (flat_map region_lines ws) (line.End ∷ []) (lines_fit ws 1 n numbers (omega (arith, small)) fit) (tt, tt))

-- ---- plans that can always be written

abbrev filler_stage : WrittenStage
filler_stage = record { kind = Seq; sites = 1 ∷ [] }

filler_stage_fits : StageFits filler_stage
filler_stage_fits = (omega arith, (omega arith, omega arith, tt))

abbrev fillers : ℕ → ℕ → List WrittenPlan
fillers r zero = []
fillers r (suc k) = part r 16 (filler_stage ∷ []) [] ∷ fillers (r + 1) k

filler_numbers : (k r : ℕ) → map written_region (fillers r k) ≡ numbers_from r k
filler_numbers zero r = refl
filler_numbers (suc k) r = ap (λ l. r ∷ l) (filler_numbers k (r + 1))

fillers_fit : (k r : ℕ) → Each PlanFits (fillers r k)
fillers_fit zero r = tt
fillers_fit (suc k) r = (
  record {
    least_words = omega arith;
    most_words = omega arith;
    some_stage = omega arith;
    few_stages = omega arith;
    stages = (filler_stage_fits, tt);
    assume = tt;
  },
  fillers_fit k (r + 1),
)

-- ---- lines that end a text from a state

pub record Ends (n : ℕ) (s : Reader) : Type 0 where
  pub more : List Line
  pub proved : Bool
  pub plans : List WrittenPlan
  pub fit : Each LineFits more
  pub runs : run n (Some s) more ≡ Some (over proved plans)

rest_ends : (n k : ℕ) (s : Reader) → n < 2 ^ 32 → is_between s ≡ true → s.last.region + k ≡ n → Ends n s
rest_ends n k s small between count = record {
  more = flat_map region_lines (fillers (s.last.region + 1) k) ++ line.End ∷ [];
  proved = s.proved;
  plans = closed s ++ fillers (s.last.region + 1) k;
  fit = each-lists LineFits (flat_map region_lines (fillers (s.last.region + 1) k)) (line.End ∷ [])
      (lines_fit (fillers (s.last.region + 1) k) (s.last.region + 1) k (filler_numbers k (s.last.region + 1)) (omega (arith, count, small))
      (fillers_fit k (s.last.region + 1))) (tt, tt);
  runs = plans_run (fillers (s.last.region + 1) k) n k s between (filler_numbers k (s.last.region + 1)) count (fillers_fit k (s.last.region + 1));
}

start_ends : (n : ℕ) → n < 2 ^ 32 → Ends n begun
start_ends n small = record {
  more = plan_lines true (fillers 1 n);
  proved = true;
  plans = fillers 1 n;
  fit = all_lines_fit true (fillers 1 n) n (filler_numbers n 1) small (fillers_fit n 1);
  runs = lines_run n true (fillers 1 n) (filler_numbers n 1) (fillers_fit n 1);
}

one_more : (n : ℕ) (o s : Reader) (l : Line) → LineFits l → next n o l ≡ Some s → Ends n s → Ends n o
one_more n o s l fits is e = record { more = l ∷ e.more; proved = e.proved; plans = e.plans; fit = (fits, e.fit); runs = ap (λ p. run n p e.more) is ∙ e.runs }

region_ends : (v : Bool) (n r words : ℕ) (plans : List WrittenPlan) (stages : List WrittenStage) (assumed : List Assume) → n < 2 ^ 32 → 0 < r → r ≤ n →
    (length stages ≡ 0 → assumed ≡ [])
    → Ends n (inside v plans (part r words stages assumed))
region_ends v n r words plans [] assumed small some upto first =
    let none : assumed ≡ [] = first refl in let full : 0 < length (filler_stage ∷ []) = omega arith in
    rw none (one_more n (inside v plans (part r words [] [])) (inside v plans (part r words (filler_stage ∷ []) [])) (line.Stage filler_stage) filler_stage_fits
    (stage_next v n r words plans some [] filler_stage (omega arith))
    (rest_ends n (n - r) (inside v plans (part r words (filler_stage ∷ []) [])) small (between_regions v plans (part r words (filler_stage ∷ []) []) full)
    (omega (arith, upto))))
region_ends v n r words plans (stage ∷ stages) assumed small some upto first =
    let full : 0 < length (stage ∷ stages) = omega arith in
    rest_ends n (n - r) (inside v plans (part r words (stage ∷ stages) assumed)) small (between_regions v plans (part r words (stage ∷ stages) assumed) full)
    (omega (arith, upto))

pub reads_end : (n : ℕ) (s : Reader) (ls : List Line) → n < 2 ^ 32 → Reads n s ls → Ends n s
reads_end n _ _ small at_start = start_ends n small
reads_end n _ _ small (headed v) = rest_ends n n (inside v [] (part 0 0 [] [])) small refl (omega arith)
reads_end n _ _ small (in_region v plans w some upto numbers fit last) =
    region_ends v n w.region w.words plans w.stages w.assume small some upto last.first_stages
reads_end n _ _ small (at_end v plans numbers fit) = record { more = []; proved = v; plans = plans; fit = tt; runs = refl }

-- ---- a state behind more lines

run-none : (n : ℕ) (ls : List Line) → run n None ls ≡ None
run-none n [] = refl
run-none n (l ∷ ls) = run-none n ls

more_case : (n : ℕ) (o : Reader) (ls : List Line) (l : Line) (rest : List Line) (s : Reader) (p : Option Reader) → next n o l ≡ p → Reads n o ls → LineFits l →
    run n p rest ≡ Some s
    → ((q : Reader) → Reads n q (ls ++ l ∷ []) → run n (Some q) rest ≡ Some s → Reads n s ((ls ++ l ∷ []) ++ rest)) → Reads n s ((ls ++ l ∷ []) ++ rest)
unfolding next_by
more_case n o ls l rest s None e reads fits h more = absurd (cc (sym (run-none n rest) ∙ h))
more_case n o ls l rest s (Some q) e reads fits h more = more q (reads_next n o ls l q reads fits e) h

pub reads_more : (n : ℕ) (more : List Line) (o s : Reader) (ls : List Line) → Reads n o ls → Each LineFits more → run n (Some o) more ≡ Some s →
    Reads n s (ls ++ more)
reads_more n [] o s ls reads fit h =
    let same : o ≡ s = cc h in subst (λ (q : Reader). Reads n q (ls ++ [])) same (subst (λ (l : List Line). Reads n o l) (sym (append-nil ls)) reads)
reads_more n (l ∷ rest) o s ls reads fit h =
    subst (λ (t : List Line). Reads n s t) (append_assoc ls (l ∷ []) rest)
    (more_case n o ls l rest s (next n o l) refl reads fit.0 h (λ q r e. reads_more n rest q s (ls ++ l ∷ []) r fit.1 e))

pub record IsText (n : ℕ) (v : Bool) (plans : List WrittenPlan) (ls : List Line) : Type 0 where
  pub are : ls ≡ plan_lines v plans
  pub numbers : map written_region plans ≡ numbers_from 1 n
  pub fit : Each PlanFits plans

pub reads_over : (n : ℕ) (s : Reader) (ls : List Line) → Reads n s ls → s.phase ≡ phase.Over → IsText n s.proved s.plans ls
reads_over n _ _ (at_end v plans numbers fit) h = record { are = refl; numbers = numbers; fit = fit }
reads_over n _ _ _ h = absurd (cc h)
