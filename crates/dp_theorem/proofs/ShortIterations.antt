-- A clean iteration has at most as many events as all stages together may have words.
use Rattle.dp_semantics.proofs.Names.{◌≡◌, inl, inr, refl, sym, ap, ◌∙◌, subst, ℕ, zero, suc, ◌+◌, ◌<◌, ◌≤◌, Bool, true, false, if◌then◌else◌, List, [], ◌∷◌}
use Rattle.dp_semantics.proofs.Names.{length, nat_le, arith, leb-true, eq-eqb, cases_eq, cases_Bool, sum_by-cons, flat_map, Program, Plan, Stmt, Event, run_of}
use Rattle.dp_semantics.proofs.Names.{iteration, is_region, Access, accesses, stage_of, is_checked, region_accesses, is_clean, event_words, words_at}
use Rattle.dp_semantics.proofs.Names.{word_count, fits_words, and_parts}
use Rattle.std.specs.Prelude.{◌*◌}
use Rattle.std.proofs.Math.Nat.{suc-mul}
use Rattle.dp_semantics.specs.Laws.{LongIsUnclean}
use Rattle.dp_semantics.proofs.Counts.{all_count}
use Rattle.dp_semantics.proofs.Setting.{Accepted, Sound, Each, each_map, each_split}
use Rattle.dp_theorem.proofs.Alone.{Lone, AtSite}
use Rattle.dp_theorem.proofs.RegionSites.{iteration_sites}

-- the sum of what n numbers from k on count
abbrev total : (ℕ → ℕ) → ℕ → ℕ → ℕ
total count k zero = 0
total count k (suc n) = count k + total count (k + 1) n

total_most : (count : ℕ → ℕ) (most n k : ℕ) → ((s : ℕ) → k ≤ s → s < k + n → count s ≤ most) → total count k n ≤ n * most
total_most count most zero k h = omega arith
total_most count most (suc n) k h =
    omega (
      arith,
      suc-mul n most,
      h k (omega arith) (omega arith),
      total_most count most n (k + 1) (λ s low high. h s (omega (arith, low))
          (omega (arith, high))),
    )

total_add : (f g h : ℕ → ℕ) → ((s : ℕ) → h s ≡ f s + g s) → (n k : ℕ) → total h k n ≡ total f k n + total g k n
total_add f g h e zero k = refl
total_add f g h e (suc n) k = omega (arith, e k, total_add f g h e n (k + 1))

total_one : (f : ℕ → ℕ) (s : ℕ) → 1 ≤ f s → (n k : ℕ) → k ≤ s → s < k + n → 1 ≤ total f k n
total_one f s one zero k low high = absurd (omega (arith, low, high))
total_one f s one (suc n) k low high = elim (cases_eq k s) [
  | inl e ↦ let here : f k ≡ f s = ap f e in omega (arith, one, here)
  | inr e ↦ let later = total_one f s one n (k + 1) (omega (arith, low, e)) (omega (arith, high)) in omega (arith, later)
]

module _ (p : Program) (plan : Plan) where
  -- the event's stage is one of the plan's
  abbrev IsStaged : Event → Type 0
  IsStaged event = (1 ≤ stage_of p plan event.site) × (stage_of p plan event.site < 1 + length plan.stages)

  some_word : (event : Event) → 1 ≤ words_at p plan (stage_of p plan event.site) event
  some_word event = subst (λ (b : Bool). 1 ≤ (if b then event_words p plan event else 0))
      (sym (eq-eqb (stage_of p plan event.site) (stage_of p plan event.site) refl)) (by (is_checked p plan event.site))
    where
      by : (b : Bool) → 1 ≤ (if b then length event.loads + 1 else 1)
      by true = omega arith
      by false = omega arith

  counted : (events : List Event) → Each IsStaged events → length events ≤ total (word_count p plan events) 1 (length plan.stages)
  counted [] staged = omega arith
  counted (event ∷ rest) staged =
      let more = counted rest staged.1 in
      let one = total_one (λ s. words_at p plan s event) (stage_of p plan event.site) (some_word event) (length plan.stages) 1 staged.0.0 staged.0.1 in
      let all = total_add (λ s. words_at p plan s event) (word_count p plan rest) (word_count p plan (event ∷ rest))
      (λ s. sum_by-cons (words_at p plan s) event rest) (length plan.stages) 1 in
      omega (arith, more, one, all)

  fitting_count : (events : List Event) → fits_words p plan events ≡ true → total (word_count p plan events) 1 (length plan.stages) ≤ length
      plan.stages * plan.words
  fitting_count events fits = total_most (word_count p plan events) plan.words (length plan.stages) 1
      (λ s low high. leb-true (word_count p plan events s) plan.words (all_count (λ u. nat_le (word_count p plan events u) plan.words)
      (length plan.stages) 1 s fits low high))

module _ {p : Program} {plan : Plan} (a : Accepted p plan) where
  -- the access's stage is one of the plan's
  abbrev Staged : Access → Type 0
  Staged u = (1 ≤ stage_of p plan u.site) × (stage_of p plan u.site < 1 + length plan.stages)

  sites : Each Staged (region_accesses p plan)
  sites = each_map (Sound p plan) Staged (λ u h. (omega (arith, h.staged), omega (arith, h.early))) (region_accesses p plan) a.sound

  lone : Lone p plan.region Staged
  lone = record {
    statement = a.statement;
    front = a.front;
    tail = a.tail;
    at = ap (is_region plan.region) a.is ∙ eq-eqb plan.region plan.region refl;
    main = a.main_is;
    front_free = a.front_free;
    tail_free = a.tail_free;
    sites = (each_split Staged (accesses a.statement) [] (subst (λ (xs : List Stmt). Each Staged (flat_map accesses xs)) a.region sites)).0;
  }

  pub long_is_unclean : LongIsUnclean p plan
  long_is_unclean input fuel c begun e i long = elim (cases_Bool (is_clean p plan (run_of p input fuel c) e i)) [
    | inl clean ↦
        let events : List Event = iteration (run_of p input fuel c) plan.region i in
        let staged = each_map (AtSite Staged) (IsStaged p plan) (λ event found. subst (λ (s : ℕ). (1 ≤ stage_of p plan s)
        × (stage_of p plan s < 1 + length plan.stages)) found.1 found.2) events (iteration_sites lone input fuel c begun i) in
        let fits = (and_parts _ (fits_words p plan events) clean).1 in
        absurd (omega (arith, long, counted p plan events staged, fitting_count p plan events fits))
    | inr other ↦ other
  ]
