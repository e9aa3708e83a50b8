-- The number of words of a stage is the number that the plan counts.
use Rattle.dp_semantics.proofs.Names.{◌≡◌, inl, inr, refl, ap, ℕ, ◌<◌, ◌≤◌, ◌==◌, true, List, [], ◌∷◌, ◌++◌, length, length-append, nat_le, arith, leb-true}
use Rattle.dp_semantics.proofs.Names.{le-leb, sum_by-cons, Program, Plan, Event, stage_of, words_at, word_count, fits_words, words_of, last, words_at_stage}
use Rattle.dp_semantics.proofs.Names.{cases_Bool}
use Rattle.dp_semantics.proofs.Counts.{all_count, count_all, event_words-length}
use Rattle.dp_theorem.proofs.Stepping.{words_for}
use Rattle.dp_theorem.proofs.Whole.{words_through}

module _ (p : Program) (plan : Plan) where
  words_for-length : (s : ℕ) (event : Event) → length (words_for p plan s event) ≡ words_at p plan s event
  words_for-length s event = elim (cases_Bool (stage_of p plan event.site == s)) [ inl e ↦ rw e (event_words-length p plan event) | inr e ↦ rw e ]

  words_through-length : (s : ℕ) (events : List Event) → length (words_through p plan s events) ≡ word_count p plan events s
  words_through-length s [] = refl
  words_through-length s (event ∷ rest) =
      omega (
        arith,
        length-append (words_for p plan s event) (words_through p plan s rest),
        words_for-length s event,
        words_through-length s rest,
        sum_by-cons (words_at p plan s) event rest,
      )

  pub fits_each : (events : List Event) → fits_words p plan events ≡ true → (s : ℕ) → 0 < s → s < last plan →
      length (words_through p plan s events) ≤ plan.words
  fits_each events e s low high =
      let h = leb-true (word_count p plan events s) plan.words (all_count (λ u. nat_le (word_count p plan events u) plan.words) (length plan.stages) 1 s e low
      (omega (arith, high))) in
      omega (arith, h, words_through-length s events)

  pub each_fits : (events : List Event) → ((s : ℕ) → 0 < s → s < last plan → length (words_through p plan s events) ≤ plan.words) →
      fits_words p plan events ≡ true
  each_fits events h =
      count_all (λ u. nat_le (word_count p plan events u) plan.words) (length plan.stages) 1
      (λ s low high. le-leb (word_count p plan events s) plan.words (omega (arith, h s low (omega (arith, high)), words_through-length s events)))

  -- the words for a stage are those of the events at its sites
  pub words_are : (t : ℕ) (events : List Event) → words_through p plan t events ≡ words_at_stage p plan events t
  words_are t [] = refl
  words_are t (event ∷ rest) = elim (cases_Bool (stage_of p plan event.site == t)) [
    | inl e ↦
        rw e (ap (λ ws. words_of p plan event ++ ws) (words_are t rest))
    | inr e ↦ rw e (words_are t rest)
  ]
