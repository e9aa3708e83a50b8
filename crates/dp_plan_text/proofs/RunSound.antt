-- Lines that are read one after the other are the lines of plans that fit.
use Rattle.std.proofs.Common.{◌≡◌, ℕ, zero, suc, ◌+◌, ◌<◌, ◌≤◌, ◌==◌, Bool, true, nat_lt, List, [], ◌∷◌, ◌++◌, map, length, Some, refl, sym, ap, subst, ◌∙◌}
use Rattle.std.proofs.Common.{append_assoc, append-nil, length-append, rules, arith, tests}
use Rattle.std.specs.List.{flat_map}
use Rattle.std.proofs.lemmas.List.{map-append, nil_from_length}
use Rattle.std.proofs.lemmas.Grind.{flat_map-append}
use Rattle.dp_plan.proofs.EachLemmas.{each-append}
use Rattle.dp_text.proofs.Tests.{both, taken}
use Rattle.dp_tree.specs.declared.Assume.{Assume}
use Rattle.dp_tree.specs.Numbering.{numbers_from}
use Rattle.dp_plan_text.specs.declared.line.Line.{Line}
use Rattle.dp_plan_text.specs.declared.line.Line.TheVariants as line
use Rattle.dp_plan_text.specs.declared.reader.Reader.{Reader}
use Rattle.dp_plan.specs.declared.WrittenStage.{WrittenStage}
use Rattle.dp_plan.specs.declared.WrittenPlan.{WrittenPlan}
use Rattle.dp_plan.specs.Each.{Each}
use Rattle.dp_plan.specs.PlanFits.{StageFits, AssumeFits, PlanFits}
use Rattle.dp_plan_text.specs.PlanText.{written_region, region_lines, plan_lines}
use Rattle.dp_plan_text.specs.steps.Reading.{begun, is_between, closed, next, next_by}
use Rattle.dp_plan_text.proofs.LineComplete.{LineFits}
use Rattle.dp_plan_text.proofs.RunComplete.{part, inside, over, not_zero, closed_last}

-- the last region's plan, which may lack lines
pub record LastFits (w : WrittenPlan) : Type 0 where
  pub least_words : 16 ≤ w.words
  pub most_words : w.words ≤ 4096
  pub few_stages : length w.stages ≤ 8
  pub stages : Each StageFits w.stages
  pub assume : Each AssumeFits w.assume
  pub first_stages : length w.stages ≡ 0 → w.assume ≡ []

-- the state behind lines that may begin a text for n regions
pub data Reads (n : ℕ) : Reader → List Line → Type 0 where
  at_start : Reads n begun []
  headed : (v : Bool) → Reads n (inside v [] (part 0 0 [] [])) (line.Head v ∷ [])
  in_region : (v : Bool) (plans : List WrittenPlan) (w : WrittenPlan) → 0 < w.region → w.region ≤ n →
      map written_region (plans ++ w ∷ []) ≡ numbers_from 1 w.region
      → Each PlanFits plans → LastFits w → Reads n (inside v plans w) (line.Head v ∷ flat_map region_lines (plans ++ w ∷ []))
  at_end : (v : Bool) (plans : List WrittenPlan) → map written_region plans ≡ numbers_from 1 n → Each PlanFits plans →
      Reads n (over v plans) (plan_lines v plans)

-- ---- lists

flat_map-last : {A B : Type 0} (f : A → List B) (xs : List A) (x : A) → flat_map f (xs ++ x ∷ []) ≡ flat_map f xs ++ f x
flat_map-last f xs x = flat_map-append f xs (x ∷ []) ∙ ap (λ r. flat_map f xs ++ r) (append-nil (f x))

numbers-next : (k first : ℕ) → numbers_from first k ++ (first + k) ∷ [] ≡ numbers_from first (suc k)
numbers-next zero first = ap (λ m. m ∷ []) (omega arith)
numbers-next (suc k) first =
    let same : first + suc k ≡ (first + 1) + k = omega arith in
    ap (λ r. first ∷ r) (ap (λ m. numbers_from (first + 1) k ++ m ∷ []) same ∙ numbers-next k (first + 1))

-- ---- the plan of the last region

with_region : (words : ℕ) (r : ℕ) → 16 ≤ words → words ≤ 4096 → LastFits (part r words [] [])
with_region words r low high = record { least_words = low; most_words = high; few_stages = omega arith; stages = tt; assume = tt; first_stages = λ _. refl }

pub whole : (w : WrittenPlan) → LastFits w → 0 < length w.stages → PlanFits w
whole w l full = record {
  least_words = l.least_words;
  most_words = l.most_words;
  some_stage = omega (arith, full);
  few_stages = l.few_stages;
  stages = l.stages;
  assume = l.assume;
}

abbrev more_stage : WrittenPlan → WrittenStage → WrittenPlan
more_stage w stage = part w.region w.words (w.stages ++ stage ∷ []) w.assume

abbrev more_assume : WrittenPlan → Assume → WrittenPlan
more_assume w a = part w.region w.words w.stages (w.assume ++ a ∷ [])

stage_lines : (w : WrittenPlan) (stage : WrittenStage) → w.assume ≡ [] → region_lines (more_stage w stage) ≡ region_lines w ++ line.Stage stage ∷ []
stage_lines w stage none =
    rw none (ap (λ r. line.Region w.region w.words ∷ r)
    (append-nil (map line.Stage (w.stages ++ stage ∷ [])) ∙ map-append line.Stage w.stages (stage ∷ [])
    ∙ ap (λ r. r ++ line.Stage stage ∷ []) (sym (append-nil (map line.Stage w.stages)))))

assume_lines : (w : WrittenPlan) (a : Assume) → region_lines (more_assume w a) ≡ region_lines w ++ line.Assume a ∷ []
assume_lines w a =
    ap (λ r. line.Region w.region w.words ∷ r)
    (ap (λ r. map line.Stage w.stages ++ r) (map-append line.Assume w.assume (a ∷ []))
    ∙ sym (append_assoc (map line.Stage w.stages) (map line.Assume w.assume) (line.Assume a ∷ [])))

-- the lines where the last plan has one line more
last_line : (plans : List WrittenPlan) (w v : WrittenPlan) (l : Line) → region_lines v ≡ region_lines w ++ l ∷ []
    → flat_map region_lines (plans ++ v ∷ []) ≡ flat_map region_lines (plans ++ w ∷ []) ++ l ∷ []
last_line plans w v l e =
    flat_map-last region_lines plans v ∙ ap (λ r. flat_map region_lines plans ++ r) e
    ∙ sym (append_assoc (flat_map region_lines plans) (region_lines w) (l ∷ []))
    ∙ ap (λ r. r ++ l ∷ []) (sym (flat_map-last region_lines plans w))

last_numbers : (plans : List WrittenPlan) (w v : WrittenPlan) → v.region ≡ w.region → map written_region (plans ++ w ∷ []) ≡ numbers_from 1 w.region →
    map written_region (plans ++ v ∷ []) ≡ numbers_from 1 v.region
last_numbers plans w v e h =
    map-append written_region plans (v ∷ []) ∙ ap (λ r. map written_region plans ++ r ∷ []) e ∙ sym (map-append written_region plans (w ∷ [])) ∙ h
    ∙ ap (numbers_from 1) (sym e)

module _ (n : ℕ) (v : Bool) (plans : List WrittenPlan) (w : WrittenPlan) (some : 0 < w.region) (upto : w.region ≤ n)
    (numbers : map written_region (plans ++ w ∷ []) ≡ numbers_from 1 w.region) (fit : Each PlanFits plans) (last : LastFits w) where
  abbrev so_far : List Line
  so_far = line.Head v ∷ flat_map region_lines (plans ++ w ∷ [])

  head_after : (other : Bool) (s : Reader) → next n (inside v plans w) (line.Head other) ≡ Some s → Reads n s (so_far ++ line.Head other ∷ [])
  unfolding next
  head_after other s h = absurd (cc h)

  between : is_between (inside v plans w) ≡ true → 0 < length w.stages
  between h = let t : nat_lt 0 (length w.stages) ≡ true = rw (not_zero w.region some) at h in search rules

  region_after : (r words : ℕ) (s : Reader) → LineFits (line.Region r words) → next n (inside v plans w) (line.Region r words) ≡ Some s →
      Reads n s (so_far ++ line.Region r words ∷ [])
  unfolding next
  region_after r words s fits h =
      let t = taken _ _ s h in let b = both _ _ t.0 in let c = both _ _ b.second in
      let below : w.region < n = let lt : nat_lt w.region n ≡ true = c.first in search rules in
      let is : r ≡ w.region + 1 = let e : (r == w.region + 1) ≡ true = c.second in search (rules, tests) in
      let full : 0 < length w.stages = between b.first in
      let now : inside v (closed (inside v plans w)) (part r words [] []) ≡ inside v (plans ++ w ∷ []) (part r words [] []) = ap
      (λ p. inside v p (part r words [] [])) (closed_last v plans w some) in
      let next_one : r ≡ 1 + w.region = omega (arith, is) in let last_one : suc w.region ≡ r = omega (arith, is) in
      let count : map written_region ((plans ++ w ∷ []) ++ part r words [] [] ∷ []) ≡ numbers_from 1 r =
      map-append written_region (plans ++ w ∷ []) (part r words [] [] ∷ []) ∙ ap (λ l. l ++ r ∷ []) numbers
      ∙ ap (λ m. numbers_from 1 w.region ++ m ∷ []) next_one ∙ numbers-next w.region 1 ∙ ap (numbers_from 1) last_one in
      let lines : line.Head v ∷ flat_map region_lines ((plans ++ w ∷ []) ++ part r words [] [] ∷ []) ≡ so_far ++ line.Region r words ∷ [] =
      ap (λ l. line.Head v ∷ l) (flat_map-last region_lines (plans ++ w ∷ []) (part r words [] [])) in
      let reads : Reads n (inside v (plans ++ w ∷ []) (part r words [] []))
      (line.Head v ∷ flat_map region_lines ((plans ++ w ∷ []) ++ part r words [] [] ∷ [])) =
      in_region v (plans ++ w ∷ []) (part r words [] []) (omega (arith, is)) (omega (arith, is, below)) count
      (each-append PlanFits plans w fit (whole w last full)) (with_region words r fits.1 fits.2) in
      subst (λ (q : Reader). Reads n q (so_far ++ line.Region r words ∷ [])) (sym now ∙ t.1)
      (subst (λ (ls : List Line). Reads n (inside v (plans ++ w ∷ []) (part r words [] [])) ls) lines reads)

  stage_after : (stage : WrittenStage) (s : Reader) → StageFits stage → next n (inside v plans w) (line.Stage stage) ≡ Some s →
      Reads n s (so_far ++ line.Stage stage ∷ [])
  unfolding next
  stage_after stage s fits h =
      let t = taken _ _ s h in let b = both _ _ t.0 in let c = both _ _ b.second in
      let few : length w.stages < 8 = let lt : nat_lt (length w.stages) 8 ≡ true = c.first in search rules in
      let none : w.assume ≡ [] = nil_from_length w.assume (let e : (length w.assume == 0) ≡ true = c.second in search (rules, tests)) in
      let more = more_stage w stage in
      let lines : line.Head v ∷ flat_map region_lines (plans ++ more ∷ []) ≡ so_far ++ line.Stage stage ∷ [] = ap (λ l. line.Head v ∷ l)
      (last_line plans w more (line.Stage stage) (stage_lines w stage none)) in
      let fits_more : LastFits more = record {
        least_words = last.least_words;
        most_words = last.most_words;
        few_stages = omega (arith, few, length-append w.stages (stage ∷ []));
        stages = each-append StageFits w.stages stage last.stages fits;
        assume = last.assume;
        first_stages = λ none. absurd (omega (arith, none, length-append w.stages (stage ∷ [])));
      } in
      subst (λ (q : Reader). Reads n q (so_far ++ line.Stage stage ∷ [])) t.1
      (subst (λ (ls : List Line). Reads n (inside v plans more) ls) lines
      (in_region v plans more some upto (last_numbers plans w more refl numbers) fit fits_more))

  assume_after : (a : Assume) (s : Reader) → AssumeFits a → next n (inside v plans w) (line.Assume a) ≡ Some s → Reads n s (so_far ++ line.Assume a ∷ [])
  unfolding next
  assume_after a s fits h =
      let t = taken _ _ s h in let b = both _ _ t.0 in
      let full : 0 < length w.stages = let lt : nat_lt 0 (length w.stages) ≡ true = b.second in search rules in
      let more = more_assume w a in
      let lines : line.Head v ∷ flat_map region_lines (plans ++ more ∷ []) ≡ so_far ++ line.Assume a ∷ [] = ap (λ l. line.Head v ∷ l)
      (last_line plans w more (line.Assume a) (assume_lines w a)) in
      let fits_more : LastFits more = record {
        least_words = last.least_words;
        most_words = last.most_words;
        few_stages = last.few_stages;
        stages = last.stages;
        assume = each-append AssumeFits w.assume a last.assume fits;
        first_stages = λ none. absurd (omega (arith, none, full));
      } in
      subst (λ (q : Reader). Reads n q (so_far ++ line.Assume a ∷ [])) t.1
      (subst (λ (ls : List Line). Reads n (inside v plans more) ls) lines
      (in_region v plans more some upto (last_numbers plans w more refl numbers) fit fits_more))

  end_after : (s : Reader) → next n (inside v plans w) line.End ≡ Some s → Reads n s (so_far ++ line.End ∷ [])
  unfolding next
  end_after s h =
      let t = taken _ _ s h in let b = both _ _ t.0 in
      let is : w.region ≡ n = let e : (w.region == n) ≡ true = b.second in search (rules, tests) in
      let full : 0 < length w.stages = between b.first in
      let now : over v (closed (inside v plans w)) ≡ over v (plans ++ w ∷ []) = ap (over v) (closed_last v plans w some) in
      subst (λ (q : Reader). Reads n q (so_far ++ line.End ∷ [])) (sym now ∙ t.1)
      (at_end v (plans ++ w ∷ []) (numbers ∙ ap (numbers_from 1) is) (each-append PlanFits plans w fit (whole w last full)))

-- ---- one line more

start_after : (n : ℕ) (l : Line) (s : Reader) → next n begun l ≡ Some s → Reads n s (l ∷ [])
unfolding next
start_after n (line.Head v) s h = let is : inside v [] (part 0 0 [] []) ≡ s = cc h in rw (← is) (headed v)
start_after n _ s h = absurd (cc h)

first_region : (v : Bool) (n r words : ℕ) (s : Reader) → LineFits (line.Region r words) → next n (inside v [] (part 0 0 [] [])) (line.Region r words) ≡ Some s →
    Reads n s (line.Head v ∷ line.Region r words ∷ [])
unfolding next
first_region v n r words s fits h =
    let t = taken _ _ s h in let c = both _ _ t.0 in
    let below : 0 < n = let lt : nat_lt 0 n ≡ true = c.first in search rules in
    let is : r ≡ 1 = let e : (r == 0 + 1) ≡ true = c.second in search (rules, tests) in
    let count : r ∷ [] ≡ numbers_from 1 r = rw is refl in
    subst (λ (q : Reader). Reads n q (line.Head v ∷ line.Region r words ∷ [])) t.1
    (in_region v [] (part r words [] []) (omega (arith, is)) (omega (arith, is, below)) count tt (with_region words r fits.1 fits.2))

no_region : (v : Bool) (n : ℕ) (s : Reader) → next n (inside v [] (part 0 0 [] [])) line.End ≡ Some s → Reads n s (line.Head v ∷ line.End ∷ [])
unfolding next
no_region v n s h =
    let t = taken _ _ s h in let is : 0 ≡ n = let e : (0 == n) ≡ true = t.0 in search (rules, tests) in
    subst (λ (q : Reader). Reads n q (line.Head v ∷ line.End ∷ [])) t.1 (at_end v [] (ap (numbers_from 1) is) tt)

headed_after : (v : Bool) (n : ℕ) (l : Line) (s : Reader) → LineFits l → next n (inside v [] (part 0 0 [] [])) l ≡ Some s → Reads n s (line.Head v ∷ l ∷ [])
unfolding next
headed_after v n (line.Region r w) s fits h = first_region v n r w s fits h
headed_after v n line.End s fits h = no_region v n s h
headed_after v n _ s fits h = absurd (cc h)

over_after : (n : ℕ) (v : Bool) (plans : List WrittenPlan) (l : Line) (s : Reader) → next n (over v plans) l ≡ Some s → ⊥
unfolding next
over_after n v plans (line.Head other) s h = cc h
over_after n v plans _ s h = cc h

pub reads_next : (n : ℕ) (o : Reader) (ls : List Line) (l : Line) (s : Reader) → Reads n o ls → LineFits l → next_by n o (Some l) ≡ Some s →
    Reads n s (ls ++ l ∷ [])
unfolding next_by
reads_next n _ _ l s at_start fits h = start_after n l s h
reads_next n _ _ l s (headed v) fits h = headed_after v n l s fits h
reads_next n _ _ (line.Head other) s (in_region v plans w some upto numbers fit last) fits h = head_after n v plans w some upto numbers fit last other s h
reads_next n _ _ (line.Region r words) s (in_region v plans w some upto numbers fit last) fits h =
    region_after n v plans w some upto numbers fit last r words s fits h
reads_next n _ _ (line.Stage stage) s (in_region v plans w some upto numbers fit last) fits h =
    stage_after n v plans w some upto numbers fit last stage s fits h
reads_next n _ _ (line.Assume a) s (in_region v plans w some upto numbers fit last) fits h = assume_after n v plans w some upto numbers fit last a s fits h
reads_next n _ _ line.End s (in_region v plans w some upto numbers fit last) fits h = end_after n v plans w some upto numbers fit last s h
reads_next n _ _ l s (at_end v plans numbers fit) fits h = absurd (over_after n v plans l s h)
