-- At an iteration whose epoch's earlier iterations are clean, the walk finds the cause.
use Rattle.dp_semantics.proofs.Names.{◌≡◌, ◌⊎◌, inl, inr, refl, sym, ap, ◌∙◌, subst, ℕ, zero, suc, ◌+◌, ◌-◌, ◌<◌, ◌≤◌, Bool, true, false, ◌&&◌, ◌||◌, List, []}
use Rattle.dp_semantics.proofs.Names.{◌∷◌, ℤ, length, Option, Some, None, Err, is_some, arith, both_ways, and_parts, or-true, FaultKind, Stmt, out-Stmt}
use Rattle.dp_semantics.proofs.Names.{Program, Plan, Config, Run, StandsInMain, evaluated, site_of, starts, start, iteration, is_closing, has_ended}
use Rattle.dp_semantics.proofs.Names.{memory_after, Past, events_since, is_clean, CleanSince}
use Rattle.std.proofs.Common.{is_none}
use Rattle.dp_base.specs.declared.End.{End}
use Rattle.dp_base.specs.declared.End.TheVariants as run_end
use Rattle.std.specs.Option.{option_or}
use Rattle.dp_tree.specs.Step.{line_of}
use Rattle.dp_semantics.specs.Cause.{Cause, ByFault, ByFuel, first_cause, cause_or_end, end_cause, cause_since}
use Rattle.dp_semantics.specs.CauseWalk.{Watch, watched_all, next_watch, look_by}
unfoldable use Rattle.dp_semantics.specs.CauseWalk.{cause_walk}
use Rattle.dp_semantics.specs.FindsCauses.{turn_by, turn_in, turn_text, watch_before, walk_at, FoundAt, FindsCauses}
use Rattle.dp_semantics.proofs.Setting.{Accepted}
use Rattle.dp_theorem.proofs.Placed.{StopsSo}
use Rattle.dp_theorem.proofs.Whole.{turn_of}
use Rattle.dp_theorem.proofs.Epochs.{History, Gone, numbered}
use Rattle.dp_theorem.proofs.Iterations.{run, Ending, goes_on, closes, breaks, IterationIs, iteration_is}
use Rattle.dp_theorem.proofs.Central.{numbered_is, since_is, earlier_start, fuel_is, history, gone}
use Rattle.dp_theorem.proofs.Causes.{clean_without_cause}
use Rattle.dp_theorem.proofs.WatchInEpoch.{watch_at, cause_is}

none_at_end : (p : Program) (plan : Plan) (input : List ℤ) (m : ℕ) (w : Watch) (cells : List ℤ) → cause_walk p plan input m w [] cells ≡ None
unfolding cause_walk
none_at_end p plan input zero w cells = refl
none_at_end p plan input (suc m) w cells = refl

some_when_spent : (p : Program) (plan : Plan) (input : List ℤ) (w : Watch) (x : Stmt) (rest : List Stmt) (cells : List ℤ) →
    cause_walk p plan input 0 w (x ∷ rest) cells ≡ Some ByFuel
unfolding cause_walk
some_when_spent p plan input w x rest cells = refl

some_at_fault : (p : Program) (plan : Plan) (input : List ℤ) (m : ℕ) (w : Watch) (x : Stmt) (rest : List Stmt) (cells : List ℤ) (kind : FaultKind) →
    evaluated p input cells (out-Stmt x) ≡ Err kind →
    cause_walk p plan input (suc m) w (x ∷ rest) cells ≡ Some (ByFault (record { kind = kind; line = line_of p (site_of (out-Stmt x)) }))
unfolding cause_walk
some_at_fault p plan input m w x rest cells kind f = ap (look_by p plan (cause_walk p plan input m) w x rest cells (out-Stmt x)) f

or_none : (o : Option Cause) → option_or o None ≡ o
or_none None = refl
or_none (Some c) = refl

or_end : (o : Option Cause) (t : End) → option_or o (Some (end_cause t)) ≡ Some (cause_or_end o t)
or_end None t = refl
or_end (Some c) t = refl

none_is : (o : Option Cause) → is_none o ≡ true → o ≡ None
none_is None e = refl
none_is (Some c) e = absurd (cc)

-- where there is a cause, it is told whatever the end is
some_is : (o : Option Cause) (t : End) → is_none o ≡ false → o ≡ Some (cause_or_end o t)
some_is None t e = absurd (cc)
some_is (Some c) t e = refl

module _ {p : Program} {plan : Plan} (a : Accepted p plan) (input : List ℤ) (fuel : ℕ) (begins : Config) (stands : StandsInMain p begins) where
  abbrev source : Run
  source = run a input fuel begins stands

  text_is : turn_text p plan ≡ turn_of a
  text_is = ap turn_in a.region ∙ ap turn_by a.is

  module _ (e first : ℕ) (reached : start source plan.region e ≡ Some first) (n k : ℕ) (here : start source plan.region (numbered e n) ≡ Some k)
      (clean_before : (m : ℕ) → m < n → is_clean p plan source e (numbered e m) ≡ true) where
    abbrev i : ℕ
    i = numbered e n

    abbrev h : History (Rattle.dp_theorem.proofs.Central.key a input fuel begins stands e first reached)
    h = history a input fuel begins stands e first reached

    abbrev it : IterationIs a input fuel begins stands i k
    it = iteration_is a input fuel begins stands i k here

    gone_by : Gone h n
    gone_by = gone a input fuel begins stands e first reached n k here clean_before

    -- the first of the iteration's events that fails
    abbrev first_failure : Option Cause
    first_failure = first_cause p plan (memory_after source plan.region e) i (events_since source plan.region e i) [] (iteration source plan.region i)

    -- the walk from the iteration's start, within the steps that are left
    abbrev found : Option Cause
    found = cause_walk p plan input (fuel - k) (watch_at h n) (turn_of a) (memory_after source plan.region i)

    abbrev then_watch : Watch
    then_watch = watched_all p plan (iteration source plan.region i) (watch_at h n)

    -- it goes through the iteration's events, and on from where they end
    found_from : (m : ℕ) → it.left ≡ length (iteration source plan.region i) + m →
        found ≡ option_or first_failure (cause_walk p plan input m then_watch it.after it.then_cells)
    found_from m are =
        let steps : fuel - k ≡ length (iteration source plan.region i) + m = omega (arith, it.steps_are, are) in
        ap (λ (u : ℕ). cause_walk p plan input u (watch_at h n) (turn_of a) (memory_after source plan.region i)) steps
        ∙ cause_is h n m (iteration source plan.region i) it.after it.then_cells gone_by it.path
        ∙ ap (λ (earlier : List Past). option_or (first_cause p plan (memory_after source plan.region e) i earlier [] (iteration source plan.region i))
        (cause_walk p plan input m then_watch it.after it.then_cells)) (sym (since_is source plan.region e n))

    -- Where the iteration has ended, its first event that fails is found ..
    when_ended : length (iteration source plan.region i) ≤ it.left → it.after ≡ [] → found ≡ first_failure
    when_ended within end =
        let m = it.left - length (iteration source plan.region i) in
        found_from m (omega (arith, within))
        ∙ ap (λ (after : List Stmt). option_or first_failure (cause_walk p plan input m then_watch after it.then_cells)) end
        ∙ ap (λ (o : Option Cause). option_or first_failure o) (none_at_end p plan input m then_watch it.then_cells) ∙ or_none first_failure

    -- .. and else that event, or the run's end.
    when_broken : (x : Stmt) (rest : List Stmt) → it.after ≡ x ∷ rest →
        (why : (it.left ≡ length (iteration source plan.region i)) ⊎ ((kind : FaultKind) × (evaluated p input it.then_cells (out-Stmt x) ≡ Err kind))) →
        StopsSo p input x it.then_cells (length (iteration source plan.region i) < it.left) source.end why →
        found ≡ Some (cause_or_end first_failure source.end)
    when_broken x rest after (inl spent) ends =
        found_from 0 (omega (arith, spent))
        ∙ ap (λ (xs : List Stmt). option_or first_failure (cause_walk p plan input 0 then_watch xs it.then_cells)) after
        ∙ ap (λ (o : Option Cause). option_or first_failure o) (some_when_spent p plan input then_watch x rest it.then_cells)
        ∙ or_end first_failure run_end.Fuel ∙ ap (λ (t : End). Some (cause_or_end first_failure t)) (sym ends)
    when_broken x rest after (inr (kind, fails)) ends =
        let m = it.left - length (iteration source plan.region i) - 1 in
        let more = ends.0 in
        found_from (suc m) (omega (arith, more))
        ∙ ap (λ (xs : List Stmt). option_or first_failure (cause_walk p plan input (suc m) then_watch xs it.then_cells)) after
        ∙ ap (λ (o : Option Cause). option_or first_failure o) (some_at_fault p plan input m then_watch x rest it.then_cells kind fails)
        ∙ or_end first_failure (run_end.Fault (record { kind = kind; line = line_of p (site_of (out-Stmt x)) }))
        ∙ ap (λ (t : End). Some (cause_or_end first_failure t)) (sym ends.1)

    clean_is : is_clean p plan source e i ≡ (has_ended source plan.region i && is_none first_failure)
    clean_is = clean_without_cause a input fuel begins stands e i k here

    pub clean_has_none : is_clean p plan source e i ≡ true → found ≡ None
    clean_has_none c = by it.ending
      where
        both : (has_ended source plan.region i ≡ true) × (is_none first_failure ≡ true)
        both = and_parts (has_ended source plan.region i) (is_none first_failure) (sym clean_is ∙ c)

        by : Ending a input fuel begins stands i k it.left it.after it.then_cells → found ≡ None
        by (goes_on end there memory config going within) = when_ended within end ∙ none_is first_failure both.1
        by (closes end none closing stop config within) = when_ended within end ∙ none_is first_failure both.1
        by (breaks x rest after unended why ends) = absurd (both_ways (has_ended source plan.region i) unended both.0)

    pub cause_found : is_clean p plan source e i ≡ false → found ≡ Some (cause_since p plan source e i)
    cause_found unclean = by it.ending
      where
        failed : has_ended source plan.region i ≡ true → is_none first_failure ≡ false
        failed ended = ap (λ (b : Bool). b && is_none first_failure) (sym ended) ∙ sym clean_is ∙ unclean

        by : Ending a input fuel begins stands i k it.left it.after it.then_cells → found ≡ Some (cause_or_end first_failure source.end)
        by (goes_on end there memory config going within) =
            when_ended within end ∙ some_is first_failure source.end (failed (ap (λ (t : Option ℕ). is_some t || is_closing source plan.region i) there))
        by (closes end none closing stop config within) =
            when_ended within end ∙ some_is first_failure source.end (failed (rw closing (or-true (is_some (start source plan.region (suc i))))))
        by (breaks x rest after unended why ends) = when_broken x rest after why ends

  watch_is : (e first n : ℕ) (reached : start source plan.region e ≡ Some first) →
      watch_before p plan source e n ≡ watch_at (history a input fuel begins stands e first reached) n
  watch_is e first zero reached = refl
  watch_is e first (suc n) reached =
      ap (λ (w : Watch). next_watch p plan (watched_all p plan (iteration source plan.region (e + n)) w)) (watch_is e first n reached)
      ∙ ap (λ (i : ℕ). next_watch p plan (watched_all p plan (iteration source plan.region i) (watch_at (history a input fuel begins stands e first reached)
      n))) (sym (numbered_is e n))

  by_place : (e first n k : ℕ) (reached : start source plan.region e ≡ Some first) → start source plan.region (numbered e n) ≡ Some k →
      ((m : ℕ) → m < n → is_clean p plan source e (numbered e m) ≡ true) → numbered e n - e ≡ n →
      FoundAt p plan input source e (numbered e n) k
  by_place e first n k reached here clean place = record {
    none = λ c. same ∙ clean_has_none e first reached n k here clean c;
    some = λ c. same ∙ cause_found e first reached n k here clean c;
  }
    where
      same : walk_at p plan input source e (numbered e n) k ≡ cause_walk p plan input (fuel - k) (watch_at (history a input fuel begins stands e first reached)
          n) (turn_of a) (memory_after source plan.region (numbered e n))
      same =
          ap (λ (f : ℕ). cause_walk p plan input (f - k) (watch_before p plan source e (numbered e n - e)) (turn_text p plan)
          (memory_after source plan.region (numbered e n))) (fuel_is p input fuel begins)
          ∙ ap (λ (m : ℕ). cause_walk p plan input (fuel - k) (watch_before p plan source e m) (turn_text p plan)
          (memory_after source plan.region (numbered e n))) place
          ∙ ap (λ (w : Watch). cause_walk p plan input (fuel - k) w (turn_text p plan) (memory_after source plan.region (numbered e n)))
          (watch_is e first n reached)
          ∙ ap (λ (xs : List Stmt). cause_walk p plan input (fuel - k) (watch_at (history a input fuel begins stands e first reached) n) xs
          (memory_after source plan.region (numbered e n))) text_is

  found_at : (e i k : ℕ) → e ≤ i → start source plan.region i ≡ Some k → CleanSince p plan source e i → FoundAt p plan input source e i k
  found_at e i k low here clean =
      let n = i - e in
      let is : numbered e n ≡ i = omega (arith, numbered_is e n, low) in
      let place : numbered e n - e ≡ n = omega (arith, numbered_is e n) in
      let first = earlier_start (starts source plan.region) i e k here low in
      subst (λ (j : ℕ). start source plan.region j ≡ Some k → CleanSince p plan source e j → FoundAt p plan input source e j k) is
      (λ s c. by_place e first.0 n k first.1 s (λ m h. c (numbered e m) (omega (arith, numbered_is e m))
      (omega (arith, numbered_is e m, numbered_is e n, h))) place) here clean

-- The walk finds the causes.
pub finds_causes : {p : Program} {plan : Plan} → Accepted p plan → FindsCauses p plan
finds_causes a input fuel c stands e i k low here clean = found_at a input fuel c stands e i k low here clean
