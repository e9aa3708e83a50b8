-- The central theorem: the judgement on an epoch's packet is Clean exactly where the iteration is clean.
use Rattle.dp_semantics.proofs.Names.{stop_from, word_list, ◌&&◌, ◌≡◌, inl, inr, refl, sym, ap, ◌∙◌, subst, ℕ, zero, suc, ◌+◌, ◌-◌, ◌<◌, ◌≤◌, Bool, true, false}
use Rattle.dp_semantics.proofs.Names.{◌||◌, List, [], ◌++◌, ℤ, length, length-append, get_or, map, Option, Some, is_some, arith, le-leb, append-nil}
use Rattle.dp_semantics.proofs.Names.{slice_get_within, slice_get-get_or, both_ways, lt-leb, list_all, Stmt, Program, Plan, Config, Event, Step, Finished}
use Rattle.dp_semantics.proofs.Names.{Faulted, Stepped, clear_locals, step, Run, run_of, run_by, standing, StandsInMain, cells_in, cells_after, memory_from}
use Rattle.dp_semantics.proofs.Names.{drop, slice_get, None, memory_of, to_do_after, starts, start, iteration, is_closing, has_ended, memory_after, Past}
use Rattle.dp_semantics.proofs.Names.{all_agree, event_as_assumed, fits_words, events_since, is_clean, Epoch, passed, Agreed, Clean, judge, effect_in, site_in}
use Rattle.dp_semantics.proofs.Names.{epoch_at, status_when, CleanSince, Judged, Closes, Follows, or-true, and_from, and_parts}
use Rattle.dp_theorem.proofs.Paths as paths
use Rattle.dp_semantics.proofs.Setting.{Accepted}
use Rattle.dp_theorem.proofs.KeptApart.{never_met}
use Rattle.dp_theorem.proofs.Placed.{behind}
use Rattle.dp_theorem.proofs.Whole.{turn_of, sound_parts, MadeWithin, Goes, closing_after}
use Rattle.dp_semantics.proofs.PacketFacts.{status_for}
use Rattle.dp_theorem.proofs.Epochs.{History, numbered, past_at, MakesAt, GoneBy, Gone}
use Rattle.dp_theorem.proofs.Verdicts.{WellJudged, clean_is_judged, judged_is_clean}
use Rattle.dp_theorem.proofs.Iterations.{run, Ending, goes_on, closes, breaks, IterationIs, iteration_is}
use Rattle.dp_theorem.proofs.WordCounts.{fits_each, each_fits, words_are}
use Rattle.dp_theorem.proofs.Paths.{closing_first, goes_applied, first_of, no_more}

pub numbered_is : (e n : ℕ) → numbered e n ≡ e + n
numbered_is e zero = omega arith
numbered_is e (suc n) = omega (arith, numbered_is e n)

-- the events since the epoch's start
since_start : (run : Run) (r e : ℕ) → events_since run r e e ≡ []
since_start run r zero = refl
since_start run r (suc e) = rw (lt-leb (suc e) e (omega arith))

pub since_is : (run : Run) (r e n : ℕ) → events_since run r e (numbered e n) ≡ past_at e (λ m. iteration run r (numbered e m)) n
since_is run r e zero = since_start run r e
since_is run r e (suc n) = rw (le-leb e (numbered e n) (omega (arith, numbered_is e n)), since_is run r e n)

-- what starts later has earlier starts
pub earlier_start : (ks : List ℕ) (i j k : ℕ) → slice_get ks i ≡ Some k → j ≤ i → (m : ℕ) × (slice_get ks j ≡ Some m)
earlier_start ks i j k e h = let within = slice_get_within ks i k e in (get_or ks j 0, slice_get-get_or ks j 0 (omega (arith, within, h)))

pub fuel_is : (p : Program) (input : List ℤ) (n : ℕ) (c : Config) → (run_of p input n c).fuel ≡ n
unfolding run_of
fuel_is p input zero c = refl
fuel_is p input (suc n) c = elim (step p input c) as (λ (s : Step). (run_by (run_of p input n) (suc n) c s).fuel ≡ suc n) [
  | Finished ↦ refl
  | Faulted fault ↦
      refl
  | Stepped event next ↦ refl
]

last_status : (s : ℕ) (closing : Bool) → 0 < s → status_for s closing ≡ status_when closing
last_status zero closing h = absurd (omega (arith, h))
last_status (suc s) closing h = refl

module _ {p : Program} {plan : Plan} (a : Accepted p plan) (input : List ℤ) (fuel : ℕ) (begins : Config) (within_main : StandsInMain p begins) where
  abbrev r : ℕ
  r = plan.region

  abbrev source : Run
  source = run a input fuel begins within_main

  module _ (e first : ℕ) (reached : start source r e ≡ Some first) where
    abbrev pub key : Epoch
    key = epoch_at p plan input source e

    abbrev pub history : History key
    history = record {
      ok = record { accepted = a; met = never_met a input };
      clean_base = (iteration_is a input fuel begins within_main e first reached).cleared;
      base_size = (iteration_is a input fuel begins within_main e first reached).size_is;
      first = e;
      memory = λ n. memory_after source r (numbered e n);
      events = λ n. iteration source r (numbered e n);
      starts = refl;
    }

    -- what a clean iteration is
    abbrev agrees : ℕ → Bool
    agrees n = all_agree p plan key.base (numbered e n) (events_since source r e (numbered e n)) (iteration source r (numbered e n))

    abbrev told : ℕ → Bool
    told n = list_all (event_as_assumed p plan) (iteration source r (numbered e n))

    pub parts : (n : ℕ) → is_clean p plan source e (numbered e n) ≡ true →
        (has_ended source r (numbered e n) ≡ true) × (agrees n ≡ true) × (told n ≡ true) × (fits_words p plan (iteration source r (numbered e n)) ≡ true)
    parts n c =
        let one = and_parts (has_ended source r (numbered e n) && agrees n && told n) (fits_words p plan (iteration source r (numbered e n))) c in
        let two = and_parts (has_ended source r (numbered e n) && agrees n) (told n) one.0 in
        let three = and_parts (has_ended source r (numbered e n)) (agrees n) two.0 in (three.0, three.1, two.1, one.1)

    makes_of : (n k : ℕ) (q : IterationIs a input fuel begins within_main (numbered e n) k) → q.after ≡ [] →
        is_clean p plan source e (numbered e n) ≡ true → MakesAt history n
    makes_of n k q end c = record {
      then_cells = q.then_cells;
      path = subst (λ (after : List Stmt). Goes p input (turn_of a) (memory_after source r (numbered e n)) (iteration source r (numbered e n)) after
          q.then_cells) end q.path;
      agree = ap (λ (earlier : List Past). all_agree p plan key.base (numbered e n) earlier (iteration source r (numbered e n)))
          (sym (since_is source r e n)) ∙ (parts n c).1;
      told = (parts n c).2;
      fits = fits_each p plan (iteration source r (numbered e n)) (parts n c).3;
    }

    gone_by : (n k next : ℕ) → start source r (numbered e n) ≡ Some k → start source r (numbered e (suc n)) ≡ Some next →
        is_clean p plan source e (numbered e n) ≡ true → GoneBy history n
    unfolding makes_of
    gone_by n k next s t c = let q = iteration_is a input fuel begins within_main (numbered e n) k s in by q q.ending
      where
        by : (q : IterationIs a input fuel begins within_main (numbered e n) k) → Ending a input fuel begins within_main (numbered e n) k q.left q.after
            q.then_cells → GoneBy history n
        by q (goes_on end there memory config going within) = record { makes = makes_of n k q end c; onward = memory; going = going }
        by q (closes end none closing stop config within) = let clash = sym t ∙ none in absurd (cc clash)
        by q (breaks x rest after unended why ends) = absurd (both_ways (has_ended source r (numbered e n)) unended (parts n c).0)

    module _ (n k : ℕ) (here : start source r (numbered e n) ≡ Some k) (clean_before : (m : ℕ) → m < n → is_clean p plan source e (numbered e m) ≡ true) where
      pub gone : Gone history n
      gone m h =
          let this = earlier_start (starts source r) (numbered e n) (numbered e m) k here (omega (arith, numbered_is e n, numbered_is e m)) in
          let that = earlier_start (starts source r) (numbered e n) (numbered e (suc m)) k here (omega (arith, numbered_is e n, numbered_is e m)) in
          gone_by m this.0 that.0 this.1 that.1 (clean_before m h)

      abbrev pub q : IterationIs a input fuel begins within_main (numbered e n) k
      q = iteration_is a input fuel begins within_main (numbered e n) k here

      -- The packet of a clean iteration has the words of the source's events, and it is judged Clean with the source's effects ..
      judged_so : is_clean p plan source e (numbered e n) ≡ true → WellJudged history n (fuel - k)
      judged_so c = elim q.ending [
        | goes_on end there memory config onward within ↦ clean_is_judged history n (fuel - k) gone (makes_of n k q end c) (omega (arith, within, q.steps_are))
        | closes end none closing stop config within ↦ clean_is_judged history n (fuel - k) gone (makes_of n k q end c) (omega (arith, within, q.steps_are))
        | breaks x rest after unended why ends ↦ absurd (both_ways (has_ended source r (numbered e n)) unended (parts n c).0)
      ]

      -- .. and where the packet is judged Clean, the iteration is clean.
      clean_so : (v : Agreed) → judge p plan (fuel - k) (memory_after source r (numbered e n)) (passed key (length plan.stages) n).packet ≡ Clean v →
          is_clean p plan source e (numbered e n) ≡ true
      clean_so v judged = by q.ending
        where
          made : MadeWithin history.ok (numbered e n) (past_at e history.events n) (memory_after source r (numbered e n)) (fuel - k)
          made = judged_is_clean history n (fuel - k) gone v judged

          on : paths.GoesOn p input made.events (iteration source r (numbered e n)) q.after q.then_cells made.makes.then_cells
          on = paths.goes_on q.path made.events made.makes.then_cells made.makes.path

          known : q.after ≡ [] → has_ended source r (numbered e n) ≡ true → is_clean p plan source e (numbered e n) ≡ true
          known end ended =
              let same : made.events ≡ iteration source r (numbered e n) = on.is ∙ ap (λ (es : List Event). iteration source r (numbered e n) ++ es)
              (no_more on.path end) ∙ append-nil (iteration source r (numbered e n)) in
              and_from _ _ (and_from _ _ (and_from _ _ ended
              (ap (λ (earlier : List Past). all_agree p plan key.base (numbered e n) earlier (iteration source r (numbered e n))) (since_is source r e n)
              ∙ ap (λ (es : List Event). all_agree p plan key.base (numbered e n) (past_at e history.events n) es) (sym same) ∙ made.makes.agree))
              (ap (λ (es : List Event). list_all (event_as_assumed p plan) es) (sym same) ∙ made.makes.told))
              (ap (λ (es : List Event). fits_words p plan es) (sym same) ∙ each_fits p plan made.events made.makes.fits)

          by : Ending a input fuel begins within_main (numbered e n) k q.left q.after q.then_cells → is_clean p plan source e (numbered e n) ≡ true
          by (goes_on end there memory config going within) = known end (ap (λ (t : Option ℕ). is_some t || is_closing source r (numbered e n)) there)
          by (closes end none closing stop config within) = known end (rw closing (or-true (is_some (start source r (suc (numbered e n))))))
          by (breaks x rest after unended (inl spent) ends) =
              let one = first_of on.path x rest after refl in
              absurd (omega (
                arith,
                spent,
                made.within,
                q.steps_are,
                ap length on.is,
                length-append (iteration source r
                    (numbered e n)) on.more,
                ap length one.events_are,
              ))
          by (breaks x rest after unended (inr (kind, fault)) ends) =
              let one = first_of on.path x rest after refl in let clash = sym one.gave ∙ fault in absurd (cc clash)

    -- by the place in the epoch
    by_place : (n k : ℕ) → start source r (numbered e n) ≡ Some k → CleanSince p plan source e (numbered e n) → numbered e n - e ≡ n →
        Judged p plan input source e (numbered e n) k
    by_place n k here clean place = record {
      sent = λ c. let w = judged_so n k here before c in record {
        status = ap (λ (m : ℕ). (passed key (length plan.stages) m).packet.status) place ∙ w.sent.status ∙ ap (status_for (length plan.stages)) closing
            ∙ last_status (length plan.stages) _ some_stage;
        words = λ t low high. ap (λ (m : ℕ). word_list (passed key (length plan.stages) m).packet.lists t) place ∙ w.sent.words t low (omega (arith, high))
            ∙ words_are p plan t _;
        judged = rejudged ∙ w.judged
            ∙ ap (λ (b : Bool). Clean
            (record { effects = map effect_in (iteration source r (numbered e n)); sites = map site_in (iteration source r (numbered e n)); closing = b }))
            closing;
      };
      back = λ v j. clean_so n k here before v (sym rejudged ∙ j);
    }
      where
        before : (m : ℕ) → m < n → is_clean p plan source e (numbered e m) ≡ true
        before m h = clean (numbered e m) (omega (arith, numbered_is e m)) (omega (arith, numbered_is e m, numbered_is e n, h))

        some_stage : 0 < length plan.stages
        some_stage = let head = (sound_parts a).0 in omega (arith, head.staged, head.early)

        closing : closing_after p plan false (iteration source r (numbered e n)) ≡ is_closing source r (numbered e n)
        closing = closing_first a input (iteration_is a input fuel begins within_main (numbered e n) k here).path refl

        rejudged : judge p plan (source.fuel - k) (memory_after source r (numbered e n)) (passed key (length plan.stages) (numbered e n - e)).packet ≡ judge p
            plan (fuel - k) (memory_after source r (numbered e n)) (passed key (length plan.stages) n).packet
        rejudged = rw (place, fuel_is p input fuel begins)

  pub judges_rightly : (e i k : ℕ) → e ≤ i → start source r i ≡ Some k → CleanSince p plan source e i → Judged p plan input source e i k
  judges_rightly e i k low here clean =
      let is : numbered e (i - e) ≡ i = omega (arith, numbered_is e (i - e), low) in
      let place : numbered e (i - e) - e ≡ i - e = omega (arith, numbered_is e (i - e)) in
      let first = earlier_start (starts source r) i e k here low in
      subst (λ (j : ℕ). start source r j ≡ Some k → CleanSince p plan source e j → Judged p plan input source e j k) is
      (λ s c. by_place e first.0 first.1 (i - e) k s c place) here clean

  -- The stores of an iteration lead from the memory before it to the memory after it.
  pub stores_lead : (i k : ℕ) → start source r i ≡ Some k → has_ended source r i ≡ true → is_closing source r i ≡ false → Follows p r source i k
  stores_lead i k here ended going =
      let q = iteration_is a input fuel begins within_main i k here in
      elim q.ending [
        | goes_on end there memory config onward within ↦ record {
          next_start = there;
          memory = memory ∙ ap (clear_locals r p.vars) (goes_applied q.path);
          config = config ∙ ap (λ (cells : List ℤ). Some (standing p (behind a) cells)) (goes_applied q.path)
              ∙ ap (λ (to_do : List Stmt). Some (standing p to_do (memory_of source r i))) (sym q.to_do_is);
        }
        | closes end none closing stop config within ↦ absurd (both_ways (is_closing source r i) going closing)
        | breaks x rest after unended why ends ↦ absurd (both_ways (has_ended source r i) unended ended)
      ]

  -- The closing iteration leaves its stores, and the run goes on behind the region.
  pub closing_leaves : (i k : ℕ) → start source r i ≡ Some k → is_closing source r i ≡ true → Closes p r source i k
  closing_leaves i k here closing =
      let q = iteration_is a input fuel begins within_main i k here in
      elim q.ending [
        | goes_on end there memory config going within ↦ absurd (both_ways (is_closing source r i) going closing)
        | closes end none also stop config within ↦
            let behind_it : a.tail ≡ drop 1 (to_do_after source k) = ap (λ (ys : List Stmt). drop 1 ys) (sym q.to_do_is) in
            let there : slice_get source.configs (k + length (iteration source r i)) ≡ Some
            (standing p (drop 1 (to_do_after source k)) (clear_locals r p.vars (memory_of source r i))) =
            config ∙ ap (λ (cells : List ℤ). Some (standing p a.tail (clear_locals r p.vars cells))) (goes_applied q.path)
            ∙ ap (λ (to_do : List Stmt). Some (standing p to_do (clear_locals r p.vars (memory_of source r i)))) behind_it in
            record { unreached = none; memory = last_memory i k here none ∙ ap (cells_after source) stop ∙ ap cells_in there; config = there }
        | breaks x rest after unended why ends ↦ absurd (both_ways (has_ended source r i) unended (rw closing (or-true (is_some (start source r (suc i))))))
      ]
    where
      last_memory : (i k : ℕ) → start source r i ≡ Some k → start source r (suc i) ≡ None → memory_after source r (suc i) ≡ cells_after source
          (stop_from source k None)
      last_memory i k e none =
          let before : suc i - 1 ≡ i = omega arith in
          ap (λ (o : Option ℕ). memory_from source o (start source r (suc i - 1))) none ∙ ap (λ (j : ℕ). memory_from source None (start source r j)) before
          ∙ ap (λ (o : Option ℕ). memory_from source None o) e
