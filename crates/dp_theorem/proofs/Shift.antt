-- What is said of iterations of a run is said of the run from one of them on.
use Rattle.dp_semantics.proofs.Names.{◌≡◌, inl, inr, refl, sym, ap, ◌∙◌, ℕ, zero, suc, ◌+◌, ◌-◌, ◌≤◌, ◌==◌, Bool, true, false, not, ◌&&◌, ◌||◌, if◌then◌else◌}
use Rattle.dp_semantics.proofs.Names.{List, [], ◌∷◌, ◌++◌, ℤ, length, map, filter, Option, Some, None, is_some, unwrap_or, nat_lt, nat_le, arith, eq-eqb}
use Rattle.dp_semantics.proofs.Names.{ne_eqb, cases_eq, cases_lt, lt-leb, le-leb, list_all, Program, Plan, Load, Event, Run, run_of, start, iteration}
use Rattle.dp_semantics.proofs.Names.{begun_count, has_ended, memory_after, stage_of, is_checked, is_local_at, is_replicated, Past, is_covered, stored_in, seen}
use Rattle.dp_semantics.proofs.Names.{int_eq, loads_agree, event_agrees, all_agree, pushed, events_since, event_as_assumed, fits_words, is_clean, numbers_from}
use Rattle.dp_semantics.proofs.Names.{epoch, is_recovered, passed, judge}
use Rattle.std.proofs.Common.{ap₂}
use Rattle.dp_tree.specs.GoesOn.{GoesOnAs}
use Rattle.dp_tree.proofs.GoesOn.{goes_on_from}
use Rattle.dp_semantics.specs.Recovery.{next_epoch, epoch_with, is_recovered_with, recovered_first_with, recovered_with, recovered, nowhere}
use Rattle.dp_semantics.specs.Cause.{Cause, by_load, load_cause, checked_load_cause, assumption_cause, words_cause, first_cause, cause_or_end, cause_since}
use Rattle.dp_semantics.specs.Cause.{cause_with, cause}
use Rattle.dp_semantics.specs.Verdict.{packet_at, judgement_at}
use Rattle.dp_semantics.specs.Shift.{from_there, SameVerdicts, SameEpochs, VerdictsShift, EpochsShift, RegionRunsAlone}
use Rattle.std.proofs.lemmas.List.Elements.{filter-append}
use Rattle.std.specs.Option.{option_or}
use Rattle.dp_tree.proofs.NumberLists.{numbers_from-append}

eq_moved : (m j i : ℕ) → (m + j == m + i) ≡ (j == i)
eq_moved m j i = elim (cases_eq j i) [
  | inl e ↦ let same : m + j ≡ m + i = omega (arith, e) in eq-eqb (m + j) (m + i) same ∙ sym (eq-eqb j i e)
  | inr e ↦ let other : m + j ≡ m + i → ⊥ = λ s. let back : j ≡ i = omega (arith, s) in e back in ne_eqb (m + j) (m + i) other ∙ sym (ne_eqb j i e)
]

le_moved : (m j i : ℕ) → nat_le (m + j) (m + i) ≡ nat_le j i
le_moved m j i = elim (cases_lt i j) [
  | inl h ↦ lt-leb (m + j) (m + i) (omega (arith, h)) ∙ sym (lt-leb j i h)
  | inr h ↦ le-leb (m + j) (m + i) (omega (arith, h)) ∙ sym (le-leb j i h)
]

-- a number that is m more, at an event of the past
abbrev later : ℕ → Past → Past
later m past = record { iteration = m + past.iteration; event = past.event }

module _ (p : Program) (plan : Plan) (m : ℕ) where
  covered_moved : (s i t j c : ℕ) → is_covered p plan s (m + i) t (m + j) c ≡ is_covered p plan s i t j c
  covered_moved s i t j c =
      ap (λ (b : Bool). (nat_lt t s || ((t == s) && (not (is_replicated plan s) || b))) && (not (is_local_at p plan c) || b)) (eq_moved m j i)

  seen_moved : (base : List ℤ) (s i : ℕ) (earlier : List Past) (c : ℕ) → seen p plan base s (m + i) (map (later m) earlier) c ≡ seen p plan base s i earlier c
  seen_moved base s i [] c = refl
  seen_moved base s i (past ∷ earlier) c =
      ap₂ (λ (o : Option ℤ) (z : ℤ). unwrap_or o z) (ap (λ (b : Bool). stored_in b c past.event.effect)
      (covered_moved s i (stage_of p plan past.event.site) past.iteration c)) (seen_moved base s i earlier c)

  loads_moved : (base : List ℤ) (i : ℕ) (earlier : List Past) (s : ℕ) (loads : List Load) → loads_agree p plan base (m + i) (map (later m) earlier) s loads
      ≡ loads_agree p plan base i earlier s loads
  loads_moved base i earlier s [] = refl
  loads_moved base i earlier s (l ∷ rest) =
      ap₂ (λ (a b : Bool). a && b) (ap (λ (z : ℤ). int_eq z l.value) (seen_moved base s i earlier l.cell)) (loads_moved base i earlier s rest)

  event_moved : (base : List ℤ) (i : ℕ) (earlier : List Past) (event : Event) → event_agrees p plan base (m + i) (map (later m) earlier) event ≡ event_agrees p
      plan base i earlier event
  event_moved base i earlier event =
      ap (λ (b : Bool). not (is_checked p plan event.site) || b) (loads_moved base i earlier (stage_of p plan event.site) event.loads)

  agree_moved : (base : List ℤ) (i : ℕ) (earlier : List Past) (events : List Event) → all_agree p plan base (m + i) (map (later m) earlier) events ≡ all_agree p
      plan base i earlier events
  agree_moved base i earlier [] = refl
  agree_moved base i earlier (event ∷ rest) =
      ap₂ (λ (a b : Bool). a && b) (event_moved base i earlier event) (agree_moved base i (record { iteration = i; event = event } ∷ earlier) rest)

  pushed_moved : (i : ℕ) (events : List Event) (earlier : List Past) → pushed (m + i) events (map (later m) earlier) ≡ map (later m) (pushed i events earlier)
  pushed_moved i [] earlier = refl
  pushed_moved i (event ∷ rest) earlier = pushed_moved i rest (record { iteration = i; event = event } ∷ earlier)

  -- the first cause
  load_cause_moved : (base : List ℤ) (i : ℕ) (earlier : List Past) (site : ℕ) (loads : List Load) → load_cause p plan base (m + i) (map (later m) earlier) site
      loads ≡ load_cause p plan base i earlier site loads
  load_cause_moved base i earlier site [] = refl
  load_cause_moved base i earlier site (l ∷ rest) =
      ap₂ option_or (ap (by_load site l) (seen_moved base (stage_of p plan site) i earlier l.cell)) (load_cause_moved base i earlier site rest)

  checked_moved : (base : List ℤ) (i : ℕ) (earlier : List Past) (event : Event) → checked_load_cause p plan base (m + i) (map (later m) earlier) event
      ≡ checked_load_cause p plan base i earlier event
  checked_moved base i earlier event =
      ap (λ (o : Option Cause). if is_checked p plan event.site then o else None) (load_cause_moved base i earlier event.site event.loads)

  first_moved : (base : List ℤ) (i : ℕ) (earlier : List Past) (done events : List Event) → first_cause p plan base (m + i) (map (later m) earlier) done events
      ≡ first_cause p plan base i earlier done events
  first_moved base i earlier done [] = refl
  first_moved base i earlier done (event ∷ rest) =
      ap₂ option_or (ap (λ (o : Option Cause). option_or o (option_or (assumption_cause p plan event) (words_cause p plan done event)))
      (checked_moved base i earlier event))
      (first_moved base i (record { iteration = i; event = event } ∷ earlier) (event ∷ done) rest)

none_since : (run : Run) (r e i : ℕ) → i ≤ e → events_since run r e i ≡ []
none_since run r e zero h = refl
none_since run r e (suc i) h = ap (λ (b : Bool). if b then pushed i (iteration run r i) (events_since run r e i) else []) (lt-leb e i (omega (arith, h)))

module _ (p : Program) (plan : Plan) (m k : ℕ) (run rest : Run) (g : GoesOnAs plan.region m k run rest)
    (reached : is_some (start rest plan.region 0) ≡ true) where
  abbrev r : ℕ
  r = plan.region

  since_moved : (e i : ℕ) → events_since run r (m + e) (m + i) ≡ map (later m) (events_since rest r e i)
  since_moved e zero = none_since run r (m + e) (m + 0) (omega arith)
  since_moved e (suc i) =
      let next : m + suc i ≡ suc (m + i) = omega arith in
      ap (events_since run r (m + e)) next
      ∙ ap (λ (b : Bool). if b then pushed (m + i) (iteration run r (m + i)) (events_since run r (m + e) (m + i)) else []) (le_moved m e i)
      ∙ ap₂ (λ (es : List Event) (past : List Past). if nat_le e i then pushed (m + i) es past else []) (g.iterations i) (since_moved e i) ∙ by (nat_le e i)
    where
      by : (b : Bool) → (if b then pushed (m + i) (iteration rest r i) (map (later m) (events_since rest r e i)) else []) ≡ map (later m)
          (if b then pushed i (iteration rest r i) (events_since rest r e i) else [])
      by true = pushed_moved p plan m i (iteration rest r i) (events_since rest r e i)
      by false = refl

  memory : (i : ℕ) → memory_after run r (m + i) ≡ memory_after rest r i
  memory i = g.memory reached i

  agrees : (e i : ℕ) → all_agree p plan (memory_after run r (m + e)) (m + i) (events_since run r (m + e) (m + i)) (iteration run r (m + i)) ≡ all_agree p plan
      (memory_after rest r e) i (events_since rest r e i) (iteration rest r i)
  agrees e i =
      ap (λ (base : List ℤ). all_agree p plan base (m + i) (events_since run r (m + e) (m + i)) (iteration run r (m + i))) (memory e)
      ∙ ap₂ (λ (past : List Past) (es : List Event). all_agree p plan (memory_after rest r e) (m + i) past es) (since_moved e i) (g.iterations i)
      ∙ agree_moved p plan m (memory_after rest r e) i (events_since rest r e i) (iteration rest r i)

  clean : (e i : ℕ) → is_clean p plan run (m + e) (m + i) ≡ is_clean p plan rest e i
  clean e i =
      ap₂ (λ (a b : Bool). a && b && list_all (event_as_assumed p plan) (iteration run r (m + i)) && fits_words p plan (iteration run r (m + i)))
      (g.ended i) (agrees e i)
      ∙ ap (λ (es : List Event). has_ended rest r i && all_agree p plan (memory_after rest r e) i (events_since rest r e i) (iteration rest r i) && list_all
      (event_as_assumed p plan) es && fits_words p plan es) (g.iterations i)

  packets : (input : List ℤ) (e i : ℕ) → packet_at p plan input run (m + e) (m + i) ≡ packet_at p plan input rest e i
  packets input e i =
      let apart : (m + i) - (m + e) ≡ i - e = omega arith in
      ap₂ (λ (base : List ℤ) (n : ℕ). (passed (record { program = p; plan = plan; input = input; base = base }) (length plan.stages) n).packet) (memory e) apart

  judgements : (input : List ℤ) (e i j : ℕ) → judgement_at p plan input run (m + e) (m + i) (k + j) ≡ judgement_at p plan input rest e i j
  judgements input e i j =
      let left : run.fuel - (k + j) ≡ rest.fuel - j = omega (arith, g.fuel) in
      ap (λ (n : ℕ). judge p plan n (memory_after run r (m + i)) (packet_at p plan input run (m + e) (m + i))) left
      ∙ ap₂ (λ (cells : List ℤ) packet. judge p plan (rest.fuel - j) cells packet) (memory i) (packets input e i)

  causes : (e i : ℕ) → cause_since p plan run (m + e) (m + i) ≡ cause_since p plan rest e i
  causes e i =
      ap₂ cause_or_end
      (ap (λ (base : List ℤ). first_cause p plan base (m + i) (events_since run r (m + e) (m + i)) [] (iteration run r (m + i))) (memory e)
      ∙ ap₂ (λ (past : List Past) (es : List Event). first_cause p plan (memory_after rest r e) (m + i) past [] es) (since_moved e i) (g.iterations i)
      ∙ first_moved p plan m (memory_after rest r e) i (events_since rest r e i) [] (iteration rest r i))
      g.end

  pub same_verdicts : SameVerdicts p plan m k run rest
  same_verdicts = record { clean = clean; packets = packets; judgements = judgements; causes = causes }

  module _ (begins : ℕ → Bool) (fresh : epoch_with begins p plan run m ≡ m) where
    -- which of the rest's iterations begin an epoch in any case
    abbrev there : ℕ → Bool
    there = from_there m begins

    -- the epoch of the rest's iteration i
    abbrev own : ℕ → ℕ
    own = epoch_with there p plan rest

    epochs : (i : ℕ) → epoch_with begins p plan run (m + i) ≡ m + own i
    epochs zero = let same : m + 0 ≡ m = omega arith in ap (epoch_with begins p plan run) same ∙ fresh ∙ sym same
    epochs (suc i) =
        let next : m + suc i ≡ suc (m + i) = omega arith in
        ap (epoch_with begins p plan run) next
        ∙ ap (λ (b : Bool). if b then suc (m + i) else next_epoch p plan run (m + i) (epoch_with begins p plan run (m + i))) (ap begins (sym next))
        ∙ ap (λ (e : ℕ). if there (suc i) then suc (m + i) else next_epoch p plan run (m + i) e) (epochs i)
        ∙ ap (λ (b : Bool). if there (suc i) then suc (m + i) else (if b then m + own i else suc (m + i))) (clean (own i) i)
        ∙ by (there (suc i)) (is_clean p plan rest (own i) i)
      where
        by : (f b : Bool) → (if f then suc (m + i) else (if b then m + own i else suc (m + i))) ≡ m + (if f then suc i else (if b then own i else suc i))
        by true b = omega arith
        by false true = refl
        by false false = omega arith

    again : (i : ℕ) → is_recovered_with begins p plan run (m + i) ≡ is_recovered_with there p plan rest i
    again i = ap (λ (e : ℕ). not (is_clean p plan run e (m + i))) (epochs i) ∙ ap not (clean (own i) i)

    own_cause : (i : ℕ) → cause_with begins p plan run (m + i) ≡ cause_with there p plan rest i
    own_cause i = ap (λ (e : ℕ). cause_since p plan run e (m + i)) (epochs i) ∙ causes (own i) i

    -- numbers from m + a on that pass
    filter_moved : (n a : ℕ) → filter (is_recovered_with begins p plan run) (numbers_from (m + a) n) ≡ map (λ i. m + i)
        (filter (is_recovered_with there p plan rest) (numbers_from a n))
    filter_moved zero a = refl
    filter_moved (suc n) a =
        let next : m + a + 1 ≡ m + (a + 1) = omega arith in
        let rest_is : filter (is_recovered_with begins p plan run) (numbers_from (m + a + 1) n) ≡ map (λ i. m + i)
        (filter (is_recovered_with there p plan rest) (numbers_from (a + 1) n)) =
        ap (λ (b : ℕ). filter (is_recovered_with begins p plan run) (numbers_from b n)) next ∙ filter_moved n (a + 1) in
        ap (λ (b : Bool). if b then (m + a) ∷ filter (is_recovered_with begins p plan run) (numbers_from (m + a + 1) n)
        else filter (is_recovered_with begins p plan run) (numbers_from (m + a + 1) n)) (again a)
        ∙ ap (λ (ns : List ℕ). if is_recovered_with there p plan rest a then (m + a) ∷ ns else ns) rest_is ∙ by (is_recovered_with there p plan rest a)
      where
        by : (b : Bool) → (if b then (m + a) ∷ map (λ i. m + i) (filter (is_recovered_with there p plan rest) (numbers_from (a + 1) n))
            else map (λ i. m + i) (filter (is_recovered_with there p plan rest) (numbers_from (a + 1) n)))
            ≡ map (λ i. m + i) (if b then a ∷ filter (is_recovered_with there p plan rest) (numbers_from (a + 1) n)
            else filter (is_recovered_with there p plan rest) (numbers_from (a + 1) n))
        by true = refl
        by false = refl

    listed_first : (n : ℕ) → recovered_first_with begins p plan run (m + n) ≡ recovered_first_with begins p plan run m
        ++ map (λ i. m + i) (recovered_first_with there p plan rest n)
    listed_first n =
        let from : 0 + m ≡ m + 0 = omega arith in
        ap (filter (is_recovered_with begins p plan run)) (numbers_from-append 0 m n) ∙ filter-append (is_recovered_with begins p plan run) (numbers_from 0 m)
        (numbers_from (0 + m) n)
        ∙ ap (λ (a : ℕ). recovered_first_with begins p plan run m ++ filter (is_recovered_with begins p plan run) (numbers_from a n)) from
        ∙ ap (λ (ns : List ℕ). recovered_first_with begins p plan run m ++ ns) (filter_moved n 0)

    listed : recovered_with begins p plan run ≡ recovered_first_with begins p plan run m ++ map (λ i. m + i) (recovered_with there p plan rest)
    listed = ap (recovered_first_with begins p plan run) g.begun_in_all ∙ listed_first (begun_count rest r)

    pub same_epochs : SameEpochs begins p plan m run rest
    same_epochs = record { epochs = epochs; again = again; cause = own_cause; listed_first = listed_first; listed = listed }

pub verdicts_shift : (p : Program) (plan : Plan) → VerdictsShift p plan
verdicts_shift p plan = same_verdicts p plan

pub epochs_shift : (p : Program) (plan : Plan) → EpochsShift p plan
epochs_shift p plan = same_epochs p plan

-- nothing more
zero_more : (ns : List ℕ) → map (λ i. 0 + i) ns ≡ ns
zero_more [] = refl
zero_more (n ∷ ns) = let e : 0 + n ≡ n = omega arith in ap (λ (i : ℕ). i ∷ map (λ i. 0 + i) ns) e ∙ ap (λ (is : List ℕ). n ∷ is) (zero_more ns)

none_more : (i : ℕ) → i ≡ 0 + i
none_more i = omega arith

pub region_runs_alone : (p : Program) (plan : Plan) → RegionRunsAlone p plan
region_runs_alone p plan input fuel k c d at s = record {
  fuel = g.fuel;
  trace = g.trace;
  configs = g.configs;
  end = g.end;
  started = λ i. ap (start run plan.region) (none_more i) ∙ g.started i;
  begun = λ i. ap (Rattle.dp_tree.specs.Iteration.is_begun run plan.region) (none_more i) ∙ g.begun i;
  begun_in_all = g.begun_in_all ∙ sym (none_more (begun_count own plan.region));
  iterations = λ i. ap (iteration run plan.region) (none_more i) ∙ g.iterations i;
  closing = λ i. ap (Rattle.dp_tree.specs.Iteration.is_closing run plan.region) (none_more i) ∙ g.closing i;
  ended = λ i. ap (has_ended run plan.region) (none_more i) ∙ g.ended i;
  memory = λ i. ap (memory_after run plan.region) (none_more i) ∙ g.memory reached i;
  clean = λ e i. ap₂ (is_clean p plan run) (none_more e) (none_more i) ∙ v.clean e i;
  packets = λ input e i. ap₂ (packet_at p plan input run) (none_more e) (none_more i) ∙ v.packets input e i;
  judgements = λ input e i j. ap₂ (λ (a b : ℕ). judgement_at p plan input run a b (k + j)) (none_more e) (none_more i) ∙ v.judgements input e i j;
  epochs = λ i. ap (epoch p plan run) (none_more i) ∙ w.epochs i ∙ sym (none_more (epoch p plan own i));
  again = λ i. ap (is_recovered p plan run) (none_more i) ∙ w.again i;
  recovered_list = w.listed ∙ zero_more (recovered p plan own);
  cause = λ i. ap (cause p plan run) (none_more i) ∙ w.cause i;
}
  where
    run : Run
    run = run_of p input fuel c

    own : Run
    own = run_of p input (fuel - k) d

    both : GoesOnAs plan.region 0 k (run_of p input fuel c) (run_of p input (fuel - k) d) × (start (run_of p input (fuel - k) d) plan.region 0 ≡ Some 0)
    both = goes_on_from p input fuel k plan.region 0 c d at s

    g : GoesOnAs plan.region 0 k (run_of p input fuel c) (run_of p input (fuel - k) d)
    g = both.0

    reached : is_some (start (run_of p input (fuel - k) d) plan.region 0) ≡ true
    reached = ap is_some both.1

    v : SameVerdicts p plan 0 k (run_of p input fuel c) (run_of p input (fuel - k) d)
    v = same_verdicts p plan 0 k (run_of p input fuel c) (run_of p input (fuel - k) d) both.0 (ap is_some both.1)

    w : SameEpochs nowhere p plan 0 (run_of p input fuel c) (run_of p input (fuel - k) d)
    w = same_epochs p plan 0 k (run_of p input fuel c) (run_of p input (fuel - k) d) both.0 (ap is_some both.1) nowhere refl
