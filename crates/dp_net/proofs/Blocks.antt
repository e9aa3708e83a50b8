-- What a quiet block's own stage makes of it, what a later stage does with its words, and what the judgement does.
use Rattle.dp_semantics.proofs.Names.{◌≡◌, refl, sym, ap, ◌∙◌, subst, ℕ, zero, suc, ◌-◌, ◌<◌, ◌≤◌, Bool, true, false, List, [], ◌∷◌, ◌++◌, ℤ, length, map, Ok}
use Rattle.dp_semantics.proofs.Names.{Err, arith, le-leb, lt-leb, eq-eqb, ne_eqb, slice_set, get_or, and_parts, or-false, FaultKind, Stmt, out-Stmt, Stmt-F}
use Rattle.dp_semantics.proofs.Names.{Program, Plan, Word, Evaluated, evaluated, WithLoads, Event, Effect, site_of, value_of, stored, followed, followed-append}
use Rattle.dp_semantics.proofs.Names.{stage_of, done_word, word_list, Full, taken_from, Turn, turned, loads_hold}
unfoldable use Rattle.dp_semantics.proofs.Names.{judge_from}
unfoldable use Rattle.dp_net.proofs.Strict.{strict_from}
use Rattle.dp_semantics.specs.Words.{Faults}
use Rattle.dp_semantics.proofs.Evaluation.{Form}
use Rattle.dp_semantics.proofs.Ways.{Goes, stays, goes, event_of}
use Rattle.dp_semantics.proofs.Taking.{effect_of_word, taken_event, event_passes}
use Rattle.dp_semantics.proofs.Followed.{followed_has, all_joins}
use Rattle.dp_tree.specs.Step.{line_of}
use Rattle.dp_net.specs.Quiet.{is_quiet, BlockOutcome, Through, Broke, with_event, quiet_by}
unfoldable use Rattle.dp_net.specs.Quiet.{quiet_from}
use Rattle.dp_net.proofs.Silent.{all_quiet, AllQuiet, quiet_out, QuietHead, known_quiet, form_is, closes_not, words_are, goes_assumed}

-- the words of quiet events
abbrev pub said : List Event → List Word
said [] = []
said (event ∷ rest) = done_word event.site event.effect ∷ said rest

pub said_length : (events : List Event) → length (said events) ≡ length events
said_length [] = refl
said_length (event ∷ rest) = ap suc (said_length rest)

abbrev pub effects_of : List Event → List Effect
effects_of events = map (λ (e : Event). e.effect) events

abbrev pub sites_of : List Event → List ℕ
sites_of events = map (λ (e : Event). e.site) events

-- a turn by its parts
abbrev pub at_turn : List Stmt → List ℤ → List (List Word) → List Word → Bool → Turn
at_turn to_do cells lists own closing = record { to_do = to_do; cells = cells; lists = lists; own = own; closing = closing }

module _ (p : Program) (plan : Plan) (t : ℕ) where
  pub head_of : (x : Stmt) (rest : List Stmt) → AllQuiet p plan t (x ∷ rest) → QuietHead p plan t (out-Stmt x)
  head_of x rest q = known_quiet p plan t (out-Stmt x) (sym (quiet_out p plan t x) ∙ (and_parts (is_quiet p plan t x) (all_quiet p plan t rest) q).0)

  -- what follows a quiet head is quiet
  pub onward : (x : Stmt) (rest : List Stmt) (z : ℤ) → AllQuiet p plan t (x ∷ rest) → AllQuiet p plan t (followed x rest (out-Stmt x) z)
  onward x rest z q = followed_has (AllQuiet p plan t)
      (all_joins (is_quiet p plan t)) x rest (out-Stmt x) z q (and_parts (is_quiet p plan t x) (all_quiet p plan t rest) q).1 (head_of x rest q).parts

  module _ (input : List ℤ) where
    -- The steps of the block are the source's.
    pub through : (n : ℕ) (to_do : List Stmt) (cells : List ℤ) (events : List Event) (after : List ℤ) →
        quiet_from p input n to_do cells ≡ Through events after → Goes p input to_do cells events [] after × (length events ≤ n)
    unfolding quiet_from
    through zero [] cells events after e = by events after e
      where
        by : (events : List Event) (after : List ℤ) → Through [] cells ≡ Through events after → Goes p input [] cells events [] after × (length events ≤ 0)
        by [] after e = let same : cells ≡ after = cc e in (subst (λ (m : List ℤ). Goes p input [] cells [] [] m) same stays, omega arith)
        by (event ∷ rest) after e = absurd (cc e)
    through zero (x ∷ rest) cells events after e = absurd (cc e)
    through (suc n) [] cells events after e = by events after e
      where
        by : (events : List Event) (after : List ℤ) → Through [] cells ≡ Through events after → Goes p input [] cells events [] after × (length events ≤ suc n)
        by [] after e = let same : cells ≡ after = cc e in (subst (λ (m : List ℤ). Goes p input [] cells [] [] m) same stays, omega arith)
        by (event ∷ rest) after e = absurd (cc e)
    through (suc n) (x ∷ rest) cells events after e =
        by (evaluated p input cells (out-Stmt x)) refl e (λ v more last r. through n (followed x rest (out-Stmt x) (value_of v.value))
        (stored v.value cells) more last r)
      where
        by : (u : Evaluated Effect) → evaluated p input cells (out-Stmt x) ≡ u →
            quiet_by (quiet_from p input n) x rest cells (out-Stmt x) u ≡ Through events after →
            ((v : WithLoads Effect) (more : List Event) (last : List ℤ) →
            quiet_from p input n (followed x rest (out-Stmt x) (value_of v.value)) (stored v.value cells) ≡ Through more last →
            Goes p input (followed x rest (out-Stmt x) (value_of v.value)) (stored v.value cells) more [] last × (length more ≤ n)) →
            Goes p input (x ∷ rest) cells events [] after × (length events ≤ suc n)
        by (Err kind) gave e go = absurd (cc e)
        by (Ok v) gave e go = later (quiet_from p input n (followed x rest (out-Stmt x) (value_of v.value)) (stored v.value cells)) refl e
          where
            later : (o : BlockOutcome) → quiet_from p input n (followed x rest (out-Stmt x) (value_of v.value)) (stored v.value cells) ≡ o →
                with_event (event_of (out-Stmt x) v) o ≡ Through events after →
                Goes p input (x ∷ rest) cells events [] after × (length events ≤ suc n)
            later Broke is e = absurd (cc e)
            later (Through more last) is e =
                let r = go v more last is in
                let one : event_of (out-Stmt x) v ∷ more ≡ events = cc e in
                let two : last ≡ after = cc e in
                let path : Goes p input (x ∷ rest) cells (event_of (out-Stmt x) v ∷ more) [] last = goes gave r.0 in
                let less : length (event_of (out-Stmt x) v ∷ more) ≤ suc n = omega (arith, r.1) in
                subst (λ (es : List Event). Goes p input (x ∷ rest) cells es [] after × (length es ≤ suc n)) one
                (subst (λ (m : List ℤ). Goes p input (x ∷ rest) cells (event_of (out-Stmt x) v ∷ more) [] m
                × (length (event_of (out-Stmt x) v ∷ more) ≤ suc n)) two (path, less))

    module _ (x : Stmt) (rest behind : List Stmt) (quiet : AllQuiet p plan t (x ∷ rest)) (lists : List (List Word)) (own : List Word) (closing : Bool) where
      abbrev h : Stmt-F Stmt
      h = out-Stmt x

      q : QuietHead p plan t h
      q = head_of x rest quiet

      abbrev next_to : Effect → List Stmt
      next_to effect = followed x rest h (value_of effect)

      -- what follows the head's effect
      turned_is : (mem : List ℤ) (effect : Effect) → Form p h effect → (own' : List Word) (lists' : List (List Word)) →
          turned p plan (at_turn (x ∷ (rest ++ behind)) mem lists own closing) x (rest ++ behind) h effect own' lists' ≡ at_turn (next_to effect ++ behind)
          (stored effect mem) lists' own' closing
      turned_is mem effect f own' lists' =
          rw (closes_not p plan t h q effect f, or-false closing, followed-append x rest behind h (value_of effect) (q.onward (value_of effect)))

      module _ (cells : List ℤ) where
        -- the block's own stage: an evaluation that faults
        pub own_fault : (n : ℕ) (kind : FaultKind) → evaluated p input cells h ≡ Err kind →
            strict_from p plan input t (suc n) (at_turn (x ∷ (rest ++ behind)) cells lists own closing) ≡ Err
            (Faults (record { kind = kind; line = line_of p (site_of h) }))
        unfolding strict_from
        own_fault n kind e = rw (eq-eqb (stage_of p plan (site_of h).0) t q.stage, e)

        module _ (v : WithLoads Effect) (gave : evaluated p input cells h ≡ Ok v) where
          form : Form p h v.value
          form = form_is p plan t h q input cells v gave

          abbrev w : Word
          w = done_word (site_of h).0 v.value

          -- .. one that fits
          pub own_fits : (n : ℕ) → length (own ++ w ∷ []) ≤ plan.words →
              strict_from p plan input t (suc n) (at_turn (x ∷ (rest ++ behind)) cells lists own closing) ≡ strict_from p plan input t n
              (at_turn (next_to v.value ++ behind) (stored v.value cells) lists (own ++ w ∷ []) closing)
          unfolding strict_from
          own_fits n fits = rw (
            eq-eqb (stage_of p plan (site_of h).0) t q.stage,
            gave,
            goes_assumed p plan t h q v.value form,
            words_are p plan t h q v.loads v.value,
            le-leb _ _ fits,
            turned_is cells v.value form (own ++ w ∷ []) lists,
          )

          -- .. and one that doesn't
          pub own_full : (n : ℕ) → plan.words < length (own ++ w ∷ []) →
              strict_from p plan input t (suc n) (at_turn (x ∷ (rest ++ behind)) cells lists own closing) ≡ Err Full
          unfolding strict_from
          own_full n less = rw (
            eq-eqb (stage_of p plan (site_of h).0) t q.stage,
            gave,
            goes_assumed p plan t h q v.value form,
            words_are p plan t h q v.loads v.value,
            lt-leb _ _ less,
          )

      -- a later stage takes the word of it
      module _ (mem : List ℤ) (loads : List Rattle.dp_tree.specs.Eval.Load) (effect : Effect) (f : Form p h effect) (more : List Word)
          (front : word_list lists t ≡ done_word (site_of h).0 effect ∷ more) where
        abbrev event : Event
        event = record { site = (site_of h).0; loads = loads; effect = effect }

        taken_is : taken_from p h (word_list lists (stage_of p plan (site_of h).0)) ≡ Ok (record { effect = effect; rest = more })
        taken_is =
            ap (λ (u : ℕ). taken_from p h (word_list lists u)) q.stage ∙ ap (taken_from p h) front
            ∙ ap (λ (ws : List Word). taken_from p h (ws ++ more)) (sym (words_are p plan t h q loads effect))
            ∙ taken_event p plan event more h refl (effect_of_word p h (site_of h).0 effect f)

        pub taken_step : (s : ℕ) → (t ≡ s → ⊥) → (n : ℕ) → strict_from p plan input s (suc n) (at_turn (x ∷ (rest ++ behind)) mem lists own closing)
            ≡ strict_from p plan input s n (at_turn (next_to effect ++ behind) (stored effect mem) (slice_set lists (t - 1) more) own closing)
        unfolding strict_from
        taken_step s other n =
            rw (
              ne_eqb (stage_of p plan (site_of h).0) s (λ e. other (sym q.stage ∙ e)),
              taken_is,
              q.stage,
              turned_is mem effect f own (slice_set
                  lists (t - 1) more),
            )

        -- .. and so does the judgement
        held_is : loads_hold (site_of h).0 mem (word_list lists (stage_of p plan (site_of h).0)) ≡ true
        held_is =
            ap (λ (u : ℕ). loads_hold (site_of h).0 mem (word_list lists u)) q.stage ∙ ap (loads_hold (site_of h).0 mem) front
            ∙ ap (λ (ws : List Word). loads_hold (site_of h).0 mem (ws ++ more)) (sym (words_are p plan t h q loads effect))
            ∙ event_passes p plan event more mem (λ c. absurd (both c q.unchecked))
          where
            both : {b : Bool} → b ≡ true → b ≡ false → ⊥
            both c d = absurd (cc (c, d))

        pub judged_step : (n : ℕ) (effects : List Effect) (sites : List ℕ) →
            judge_from p plan (suc n) (record { turn = at_turn (x ∷ (rest ++ behind)) mem lists own closing; effects = effects; sites = sites })
            ≡ judge_from p plan n (record {
              turn = at_turn (next_to effect ++ behind) (stored effect mem)
                  (slice_set lists (t - 1) more) own closing;
              effects = effects ++ effect ∷ [];
              sites = sites ++ (site_of h).0 ∷ [];
            })
        unfolding judge_from
        judged_step n effects sites =
            rw (held_is, taken_is, goes_assumed p plan t h q effect f, q.stage, turned_is mem effect f own (slice_set lists (t - 1) more))

-- a list with an element replaced by itself
pub set_self : {X : Type 0} (l : List X) (i : ℕ) (d : X) → slice_set l i (get_or l i d) ≡ l
set_self [] zero d = refl
set_self [] (suc i) d = refl
set_self (x ∷ l) zero d = refl
set_self (x ∷ l) (suc i) d = ap (λ (ys : List _). x ∷ ys) (set_self l i d)
