-- An iteration is clean where it has ended and no event of it is a cause of re-execution.
use Rattle.dp_semantics.proofs.Names.{◌≡◌, inl, inr, refl, sym, ap, ◌∙◌, subst, ℕ, ◌+◌, ◌<◌, ◌≤◌, Bool, true, false, not, ◌&&◌, ◌||◌, if◌then◌else◌, List, []}
use Rattle.dp_semantics.proofs.Names.{◌∷◌, ℤ, length, nat_le, Option, Some, None, arith, cases_eq, ne_eqb, leb-true, le-leb, list_all, and_parts, and_from}
use Rattle.dp_semantics.proofs.Names.{sum_by-cons, Program, Plan, Config, StandsInMain, Load, Event, Run, start, iteration, has_ended, memory_after, stage_of}
use Rattle.dp_semantics.proofs.Names.{is_checked, Past, seen, int_eq, loads_agree, event_agrees, all_agree, event_as_assumed, events_since, event_words}
use Rattle.dp_semantics.proofs.Names.{words_at, word_count, fits_words, is_clean}
use Rattle.std.proofs.Common.{ap₂, is_none}
use Rattle.std.specs.Option.{option_or}
use Rattle.dp_semantics.specs.Cause.{Cause, by_load, load_cause, checked_load_cause, assumption_cause, words_cause, event_cause, first_cause}
use Rattle.dp_semantics.specs.Laws.{CleanWithoutCause}
use Rattle.dp_semantics.proofs.Setting.{Accepted, Sound, Each, each_map}
use Rattle.dp_theorem.proofs.Whole.{turn_well, turn_sound}
use Rattle.dp_theorem.proofs.Paths.{events_at}
use Rattle.dp_semantics.proofs.Counts.{all_count, count_all}
use Rattle.dp_theorem.proofs.Iterations.{run, iteration_is}

quiet_or : (a b : Option Cause) → is_none (option_or a b) ≡ (is_none a && is_none b)
quiet_or (Some cause) b = refl
quiet_or None b = refl

quiet_if : (b : Bool) (cause : Cause) → is_none (if b then None else Some cause) ≡ b
quiet_if true cause = refl
quiet_if false cause = refl

-- tests in another order
reorder : (a b c d e f : Bool) → ((a && (b && c)) && (d && (e && f))) ≡ ((a && d) && ((b && e) && (c && f)))
reorder true false c true e f = refl
reorder true true false true true f = refl
reorder true true true true true f = refl
reorder _ _ _ _ _ _ = refl

regroup : (h a t f : Bool) → (h && a && t && f) ≡ (h && (a && (t && f)))
regroup false a t f = refl
regroup true false t f = refl
regroup true true t f = refl

same_truth : (a b : Bool) → (a ≡ true → b ≡ true) → (b ≡ true → a ≡ true) → a ≡ b
same_truth true b f g = sym (f refl)
same_truth false true f g = g refl
same_truth false false f g = refl

module _ (p : Program) (plan : Plan) (base : List ℤ) (i : ℕ) where
  quiet_loads : (earlier : List Past) (site : ℕ) (loads : List Load) → is_none (load_cause p plan base i earlier site loads) ≡ loads_agree p plan base i earlier
      (stage_of p plan site) loads
  quiet_loads earlier site [] = refl
  quiet_loads earlier site (l ∷ rest) =
      quiet_or (by_load site l (seen p plan base (stage_of p plan site) i earlier l.cell)) (load_cause p plan base i earlier site rest)
      ∙ ap₂ (λ (a b : Bool). a && b) (quiet_if (int_eq (seen p plan base (stage_of p plan site) i earlier l.cell) l.value) _) (quiet_loads earlier site rest)

  quiet_checked : (earlier : List Past) (event : Event) → is_none (checked_load_cause p plan base i earlier event) ≡ event_agrees p plan base i earlier event
  quiet_checked earlier event = by (is_checked p plan event.site) (quiet_loads earlier event.site event.loads)
    where
      by : (b : Bool) → is_none (load_cause p plan base i earlier event.site event.loads) ≡ loads_agree p plan base i earlier
          (stage_of p plan event.site) event.loads →
          is_none (if b then load_cause p plan base i earlier event.site event.loads else None) ≡ (not b || loads_agree p plan base i earlier
          (stage_of p plan event.site) event.loads)
      by true h = h
      by false h = refl

  -- each event's stage has room for its words so far
  abbrev words_fit : List Event → List Event → Bool
  words_fit done [] = true
  words_fit done (event ∷ rest) = nat_le (word_count p plan (event ∷ done) (stage_of p plan event.site)) plan.words && words_fit (event ∷ done) rest

  quiet_first : (earlier : List Past) (done events : List Event) →
      is_none (first_cause p plan base i earlier done events)
      ≡ (all_agree p plan base i earlier events && (list_all (event_as_assumed p plan) events && words_fit done events))
  quiet_first earlier done [] = refl
  quiet_first earlier done (event ∷ rest) =
      let now = record { iteration = i; event = event } ∷ earlier in
      let one : is_none (event_cause p plan base i earlier done event) ≡ (event_agrees p plan base i earlier event && (event_as_assumed p plan event && nat_le
      (word_count p plan (event ∷ done) (stage_of p plan event.site)) plan.words)) =
      quiet_or (checked_load_cause p plan base i earlier event) (option_or (assumption_cause p plan event) (words_cause p plan done event))
      ∙ ap₂ (λ (a b : Bool). a && b) (quiet_checked earlier event)
      (quiet_or (assumption_cause p plan event) (words_cause p plan done event) ∙ ap₂ (λ (a b : Bool). a && b) (quiet_if (event_as_assumed p plan event) _)
      (quiet_if (nat_le (word_count p plan (event ∷ done) (stage_of p plan event.site)) plan.words) _)) in
      quiet_or (event_cause p plan base i earlier done event) (first_cause p plan base i (record { iteration = i; event = event } ∷ earlier)
      (event ∷ done) rest)
      ∙ ap₂ (λ (a b : Bool). a && b) one (quiet_first (record { iteration = i; event = event } ∷ earlier) (event ∷ done) rest)
      ∙ reorder (event_agrees p plan base i earlier event) (event_as_assumed p plan event)
      (nat_le (word_count p plan (event ∷ done) (stage_of p plan event.site)) plan.words)
      (all_agree p plan base i (record { iteration = i; event = event } ∷ earlier) rest) (list_all (event_as_assumed p plan) rest)
      (words_fit (event ∷ done) rest)

  abbrev Staged : Event → Type 0
  Staged event = (0 < stage_of p plan event.site) × (stage_of p plan event.site ≤ length plan.stages)

  -- the counts of all stages fit
  abbrev Fit : List Event → List Event → Type 0
  Fit done events = (s : ℕ) → 0 < s → s ≤ length plan.stages → word_count p plan done s + word_count p plan events s ≤ plan.words

  count_more : (event : Event) (events : List Event) (s : ℕ) → word_count p plan (event ∷ events) s ≡ words_at p plan s event + word_count p plan events s
  count_more event events s = sum_by-cons (words_at p plan s) event events

  fit_counts : (done events : List Event) → Each Staged events → ((s : ℕ) → 0 < s → s ≤ length plan.stages → word_count p plan done s ≤ plan.words) →
      words_fit done events ≡ true → Fit done events
  fit_counts done [] staged before e s low high = omega (arith, before s low high)
  fit_counts done (event ∷ rest) staged before e s low high =
      let both = and_parts (nat_le (word_count p plan (event ∷ done) (stage_of p plan event.site)) plan.words) (words_fit (event ∷ done) rest) e in
      let fits = leb-true (word_count p plan (event ∷ done) (stage_of p plan event.site)) plan.words both.0 in
      let later = fit_counts (event ∷ done) rest staged.1 (with_one fits) both.1 s low high in
      omega (arith, later, count_more event done s, count_more event rest s)
    where
      with_one : word_count p plan (event ∷ done) (stage_of p plan event.site) ≤ plan.words → (t : ℕ) → 0 < t → t ≤ length plan.stages →
          word_count p plan (event ∷ done) t ≤ plan.words
      with_one fits t l h = elim (cases_eq (stage_of p plan event.site) t) [
        | inl same ↦ subst (λ (n : ℕ). word_count p plan (event ∷ done) n ≤ plan.words) same fits
        | inr other ↦
            let none : words_at p plan t event ≡ 0 = ap (λ (b : Bool). if b then event_words p plan event else 0)
            (ne_eqb (stage_of p plan event.site) t other) in
            omega (arith, count_more event done t, none, before t l h)
      ]

  counts_fit : (done events : List Event) → Each Staged events → Fit done events → words_fit done events ≡ true
  counts_fit done [] staged fits = refl
  counts_fit done (event ∷ rest) staged fits =
      let now = fits (stage_of p plan event.site) staged.0.0 staged.0.1 in
      and_from _ _ (le-leb (word_count p plan (event ∷ done) (stage_of p plan event.site)) plan.words
      (omega (arith, now, count_more event done (stage_of p plan event.site), count_more event rest (stage_of p plan event.site))))
      (counts_fit (event ∷ done) rest staged.1 (λ s low high. omega (arith, fits s low high, count_more event done s, count_more event rest s)))

  words_same : (events : List Event) → Each Staged events → words_fit [] events ≡ fits_words p plan events
  words_same events staged = same_truth (words_fit [] events) (fits_words p plan events)
      (λ e. count_all (λ s. nat_le (word_count p plan events s) plan.words) (length plan.stages) 1 (λ s low high. le-leb (word_count p plan events s) plan.words
      (omega (arith, fit_counts [] events staged (λ t l h. omega arith) e s low (omega (arith, high))))))
      (λ e. counts_fit [] events staged (λ s low high. let h = leb-true (word_count p plan events s) plan.words
      (all_count (λ t. nat_le (word_count p plan events t) plan.words) (length plan.stages) 1 s e low (omega (arith, high))) in omega (arith, h)))

module _ {p : Program} {plan : Plan} (a : Accepted p plan) (input : List ℤ) (fuel : ℕ) (begins : Config) (stands : StandsInMain p begins) where
  abbrev source : Run
  source = run a input fuel begins stands

  staged_events : (i k : ℕ) → start source plan.region i ≡ Some k → Each (Staged p plan [] i) (iteration source plan.region i)
  staged_events i k e =
      let q = iteration_is a input fuel begins stands i k e in
      each_map _ (Staged p plan [] i) (λ event found. (
        subst (λ (n : ℕ). 0 < stage_of p plan n) found.1 found.2.staged,
        (let high = found.2.early in
            let same = ap (stage_of p plan) found.1 in omega (arith, high, same)),
      ))
      (iteration source plan.region i) (events_at p plan (Sound p plan) q.path (turn_well a) (turn_sound a))

  -- An iteration that starts is clean exactly where it has ended and none of its events is a cause.
  pub clean_without_cause : (e i k : ℕ) → start source plan.region i ≡ Some k →
      is_clean p plan source e i ≡ (has_ended source plan.region i && is_none (first_cause p plan (memory_after source plan.region e) i
      (events_since source plan.region e i) [] (iteration source plan.region i)))
  clean_without_cause e i k here =
      regroup (has_ended source plan.region i) (all_agree p plan (memory_after source plan.region e) i (events_since source plan.region e i)
      (iteration source plan.region i)) (list_all (event_as_assumed p plan) (iteration source plan.region i))
      (fits_words p plan (iteration source plan.region i))
      ∙ ap (λ (b : Bool). has_ended source plan.region i && b)
      (sym (quiet_first p plan (memory_after source plan.region e) i (events_since source plan.region e i) [] (iteration source plan.region i)
      ∙ ap (λ (b : Bool). all_agree p plan (memory_after source plan.region e) i (events_since source plan.region e i) (iteration source plan.region i)
      && (list_all (event_as_assumed p plan) (iteration source plan.region i) && b))
      (words_same p plan (memory_after source plan.region e) i (iteration source plan.region i) (staged_events i k here))))

pub uncaused : {p : Program} {plan : Plan} → Accepted p plan → CleanWithoutCause p plan
uncaused a input fuel c stands e i k here = clean_without_cause a input fuel c stands e i k here
