-- What is kept of a run's iterations tells which of them are clean.
use Rattle.dp_semantics.proofs.Names.{◌≡◌, inl, inr, refl, sym, ap, ◌∙◌, subst, arith, ℕ, zero, suc, ◌+◌, ◌-◌, ◌<◌, ◌&&◌, if◌then◌else◌, Bool, true, false}
use Rattle.dp_semantics.proofs.Names.{List, [], ◌∷◌, ℤ, pos, length, map, Option, Some, None, cases_eq, Stmt, out-Stmt, Program, Plan, Config, StandsInMain}
use Rattle.dp_semantics.proofs.Names.{Event, stored, Run, starts, start, iteration, has_ended, is_closing, memory_after, clear_locals, Past, events_since}
use Rattle.dp_semantics.proofs.Names.{is_clean, stage_of, memory_of, Follows, applied, effect_in, last, Epoch, is_checked, sum_by-cons, words_at, word_count}
use Rattle.dp_semantics.proofs.Names.{get_or}
use Rattle.std.proofs.Common.{is_none}
use Rattle.std.specs.Option.{option_map, option_or}
use Rattle.dp_base.specs.declared.Cause.{Cause}
use Rattle.dp_base.specs.declared.End.{End}
use Rattle.dp_semantics.specs.Cause.{Cause as Failure, by_load, load_cause, checked_load_cause, assumption_cause, words_cause, event_cause, first_cause}
use Rattle.dp_semantics.specs.Cause.{cause_or_end, cause_since}
use Rattle.dp_semantics.specs.CauseWalk.{Watch, load_cause_in, checked_cause_in, words_cause_in, cause_in, counted_from, count_of, view_of, watched}
use Rattle.dp_semantics.specs.CauseWalk.{watched_all, next_watch, first_watch}
use Rattle.dp_semantics.specs.FindsCauses.{watch_before}
use Rattle.dp_semantics.specs.Recovery.{epoch}
use Rattle.dp_semantics.specs.Reported.{reported}
use Rattle.dp_semantics.specs.Seen.{seen}
use Rattle.dp_semantics.proofs.Setting.{Accepted, Fit}
use Rattle.dp_theorem.proofs.Source.{Stands, stands_next, own_site}
use Rattle.dp_theorem.proofs.Seeing.{Sees}
use Rattle.dp_theorem.proofs.Lockstep.{Goes, stays, goes}
use Rattle.dp_theorem.proofs.Epochs.{History, Gone, numbered, ready}
use Rattle.dp_theorem.proofs.Iterations.{run, iteration_is}
use Rattle.dp_theorem.proofs.Central.{numbered_is, since_is, earlier_start, history, gone, stores_lead}
use Rattle.dp_theorem.proofs.Causes.{clean_without_cause}
use Rattle.dp_theorem.proofs.Watching.{Watches, walk_is}
use Rattle.dp_theorem.proofs.WatchInEpoch.{watch_at, watches_at}
use Rattle.dp_view.specs.Viewed.{Viewed, noticed, after_event, after_all, settled, next_in_epoch, anew}
use Rattle.dp_view.specs.Following.{KeptBefore, TellsClean, ViewsTell, found_or_end}

-- ---- the first failure of several events, by what is watched

module _ (p : Program) (plan : Plan) where
  abbrev pub found_in : Watch → List Event → Option Failure
  found_in w [] = None
  found_in w (event ∷ rest) = option_or (cause_in p plan w event) (found_in (watched p plan event w) rest)

module _ {k : Epoch} (ok : Fit k) (i : ℕ) where
  open k use {program, plan, input, base}

  counted_at : (event : Event) (a j : ℕ) (counts : List ℕ) → j < length counts → get_or (counted_from program plan event a counts) j 0 ≡ words_at program plan
      (a + j) event + get_or counts j 0
  counted_at event a j [] h = absurd (omega (arith, h))
  counted_at event a zero (n ∷ rest) h = let e : a + 0 ≡ a = omega arith in ap (λ (m : ℕ). words_at program plan m event + n) (sym e)
  counted_at event a (suc j) (n ∷ rest) h =
      let e : suc a + j ≡ a + suc j = omega arith in
      counted_at event (suc a) j rest (omega (arith, h)) ∙ ap (λ (m : ℕ). words_at program plan m event + get_or rest j 0) e

  count_counted : (event : Event) (s : ℕ) (counts : List ℕ) → 0 < s → s < suc (length counts) → count_of (counted_from program plan event 1 counts) s ≡ words_at
      program plan s event + count_of counts s
  count_counted event zero counts real h = absurd (omega (arith, real))
  count_counted event (suc s) counts real h =
      let e : 1 + s ≡ suc s = omega arith in
      counted_at event 1 s counts (omega (arith, h)) ∙ ap (λ (m : ℕ). words_at program plan m event + get_or counts s 0) e

  loads_same : (earlier : List Past) (s site : ℕ) (view : List ℤ) → Sees k s i earlier view → s ≡ stage_of program plan site → (loads : List _) →
      load_cause program plan base i earlier site loads ≡ load_cause_in view site loads
  loads_same earlier s site view sees e [] = refl
  loads_same earlier s site view sees e (l ∷ rest) =
      let same : seen program plan base (stage_of program plan site) i earlier l.cell ≡ get_or view l.cell (pos 0) = ap
      (λ (t : ℕ). seen program plan base t i earlier l.cell) (sym e) ∙ sym (sees l.cell) in
      ap (λ (z : ℤ). option_or (by_load site l z) (load_cause program plan base i earlier site rest)) same
      ∙ ap (λ (o : Option Failure). option_or (by_load site l (get_or view l.cell (pos 0))) o) (loads_same earlier s site view sees e rest)

  -- an event fails as by what the stages see
  cause_same : (earlier : List Past) (done : List Event) (w : Watch) (event : Event) → Watches ok i earlier done w → 0 < stage_of program plan event.site →
      stage_of program plan event.site < last plan →
      event_cause program plan base i earlier done event ≡ cause_in program plan w event
  cause_same earlier done w event b real early =
      let s = stage_of program plan event.site in
      let loads : checked_load_cause program plan base i earlier event ≡ checked_cause_in program plan (view_of w.views s) event =
      ap (λ (o : Option Failure). if is_checked program plan event.site then o else None) (loads_same earlier s event.site (view_of w.views s)
      (b.sees s real early) refl event.loads) in
      let count : word_count program plan (event ∷ done) s ≡ count_of (watched program plan event w).counts s =
      sum_by-cons (words_at program plan s) event done ∙ ap (λ (n : ℕ). words_at program plan s event + n) (sym (b.counts s real early))
      ∙ sym (count_counted event s w.counts real (omega (arith, b.counts_are, early))) in
      ap (λ (o : Option Failure). option_or o (option_or (assumption_cause program plan event) (words_cause program plan done event))) loads
      ∙ ap (λ (n : ℕ). option_or (checked_cause_in program plan (view_of w.views s) event) (option_or (assumption_cause program plan event)
      (words_cause_in program plan n event))) count

  -- The first of the source's events that fails is found by what is watched.
  pub found_same : {to_do : List Stmt} {earlier : List Past} {cells : List ℤ} {events : List Event} {after : List Stmt} {then_cells : List ℤ}
      (done : List Event) (w : Watch) →
      Stands k i to_do earlier cells → Goes program input to_do cells events after then_cells → Watches ok i earlier done w →
      first_cause program plan base i earlier done events ≡ found_in program plan w events
  found_same done w at stays b = refl
  found_same {earlier = earlier} done w at (goes {x = x} {rest = rest} {v = v} {events = more} e path) b =
      let event : Event = Rattle.dp_theorem.proofs.Source.event_of (out-Stmt x) v in
      let site = own_site ok at in
      let walked = walk_is ok i 0 done w at (goes e stays) b in
      ap (λ (o : Option Failure). option_or o (first_cause program plan base i (record { iteration = i; event = event } ∷ earlier) (event ∷ done) more))
      (cause_same earlier done w event b site.staged site.early)
      ∙ ap (option_or (cause_in program plan w event)) (found_same (event ∷ done) (watched program plan event w) (stands_next ok at v e) path walked.watches)

-- ---- what is kept behind several events

noticed_source : (o : Option Cause) (event : Event) (v : Viewed) → (noticed o event v).source ≡ stored event.effect v.source
noticed_source (Some cause) event v = refl
noticed_source None event v = refl

noticed_still : {X : Type 0} (f : Viewed → X) → ((v w : Viewed) → v.program ≡ w.program → v.plan ≡ w.plan → v.before ≡ w.before → f v ≡ f w) →
    (o : Option Cause) (event : Event) (v : Viewed) → f (noticed o event v) ≡ f v
noticed_still f same (Some cause) event v = same _ v refl refl refl
noticed_still f same None event v = same _ v refl refl refl

pub all_still : {X : Type 0} (f : Viewed → X) → ((v w : Viewed) → v.program ≡ w.program → v.plan ≡ w.plan → v.before ≡ w.before → f v ≡ f w) →
    (events : List Event) (v : Viewed) → f (after_all events v) ≡ f v
all_still f same [] v = refl
all_still f same (event ∷ rest) v = all_still f same rest (after_event event v) ∙ noticed_still f same v.found event v

pub all_source : (events : List Event) (v : Viewed) → (after_all events v).source ≡ applied (map effect_in events) v.source
all_source [] v = refl
all_source (event ∷ rest) v = all_source rest (after_event event v) ∙ ap (applied (map effect_in rest)) (noticed_source v.found event v)

found_stays : (cause : Cause) (events : List Event) (v : Viewed) → v.found ≡ Some cause → (after_all events v).found ≡ Some cause
found_stays cause [] v e = e
found_stays cause (event ∷ rest) v e = found_stays cause rest (after_event event v) (ap (λ (o : Option Cause). (noticed o event v).found) e ∙ e)

-- The first failure is kept, and as long as there is none what is watched.
pub record Found (events : List Event) (v : Viewed) : Type 0 where
  pub found : (after_all events v).found ≡ option_map reported (found_in v.program v.plan v.watch events)
  pub watch : found_in v.program v.plan v.watch events ≡ None → (after_all events v).watch ≡ watched_all v.program v.plan events v.watch

pub all_found : (events : List Event) (v : Viewed) → v.found ≡ None → Found events v
all_found [] v e = record { found = e; watch = λ none. refl }
all_found (event ∷ rest) v e = by (cause_in v.program v.plan v.watch event) refl (all_found rest (noticed None event v))
  where
    next : after_event event v ≡ noticed None event v
    next = ap (λ (o : Option Cause). noticed o event v) e

    by : (o : Option Failure) → cause_in v.program v.plan v.watch event ≡ o → ((noticed None event v).found ≡ None → Found rest (noticed None event v)) →
        Found (event ∷ rest) v
    by (Some cause) q go = record {
      found = ap (λ (w : Viewed). (after_all rest w).found) next ∙ found_stays (reported cause) rest (noticed None event v) (ap (option_map reported) q)
          ∙ sym (ap (λ (o : Option Failure). option_map reported (option_or o (found_in v.program v.plan (watched v.program v.plan event v.watch) rest))) q);
      watch = λ none. let clash : Some cause ≡ None = sym
          (ap (λ (o : Option Failure). option_or o (found_in v.program v.plan (watched v.program v.plan event v.watch) rest)) q) ∙ none in absurd (cc clash);
    }
    by None q go =
        let later = go (ap (option_map reported) q) in
        let skip : found_in v.program v.plan v.watch (event ∷ rest) ≡ found_in v.program v.plan (watched v.program v.plan event v.watch) rest = ap
        (λ (o : Option Failure). option_or o (found_in v.program v.plan (watched v.program v.plan event v.watch) rest)) q in
        record {
          found = ap (λ (w : Viewed). (after_all rest w).found) next ∙ later.found ∙ sym (ap (option_map reported) skip);
          watch = λ none. ap (λ (w : Viewed). (after_all rest w).watch) next ∙ later.watch (sym skip ∙ none);
        }

pub none_told : (o : Option Failure) → is_none (option_map reported o) ≡ is_none o
none_told (Some cause) = refl
none_told None = refl

pub none_is : (o : Option Failure) → is_none o ≡ true → o ≡ None
none_is None e = refl
none_is (Some cause) e = absurd (cc)

-- what is told of it is the cause
told_or_end : (o : Option Failure) (end : End) → found_or_end (option_map reported o) end ≡ reported (cause_or_end o end)
told_or_end (Some cause) end = refl
told_or_end None end = refl

-- ---- from iteration to iteration

module _ {p : Program} {plan : Plan} (a : Accepted p plan) (input : List ℤ) (fuel : ℕ) (begins : Config) (stands : StandsInMain p begins) where
  abbrev source : Run
  source = run a input fuel begins stands

  abbrev r : ℕ
  r = plan.region

  watch_is : (e first n : ℕ) (reached : start source plan.region e ≡ Some first) →
      watch_before p plan source e n ≡ watch_at (history a input fuel begins stands e first reached) n
  watch_is e first zero reached = refl
  watch_is e first (suc n) reached =
      ap (λ (w : Watch). next_watch p plan (watched_all p plan (iteration source plan.region (e + n)) w)) (watch_is e first n reached)
      ∙ ap (λ (i : ℕ). next_watch p plan (watched_all p plan (iteration source plan.region i) (watch_at (history a input fuel begins stands e first reached)
      n))) (sym (numbered_is e n))

  module _ (e first : ℕ) (reached : start source plan.region e ≡ Some first) (n k : ℕ) (here : start source plan.region (numbered e n) ≡ Some k) (v : Viewed)
      (kept : KeptBefore p plan source e (numbered e n) v) where
    abbrev i : ℕ
    i = numbered e n

    abbrev events : List Event
    events = iteration source plan.region (numbered e n)

    abbrev w : Viewed
    w = after_all (iteration source plan.region (numbered e n)) v

    abbrev h : History (Rattle.dp_theorem.proofs.Central.key a input fuel begins stands e first reached)
    h = history a input fuel begins stands e first reached

    place : numbered e n - e ≡ n
    place = omega (arith, numbered_is e n)

    clean_before : (m : ℕ) → m < n → is_clean p plan source e (numbered e m) ≡ true
    clean_before m l = kept.clean (numbered e m) (omega (arith, numbered_is e m)) (omega (arith, numbered_is e m, numbered_is e n, l))

    gone_by : Gone h n
    gone_by = gone a input fuel begins stands e first reached n k here clean_before

    watch_here : v.watch ≡ watch_at h n
    watch_here = kept.watch ∙ ap (watch_before p plan source e) place ∙ watch_is e first n reached

    first_is : first_cause p plan (memory_after source r e) i (events_since source r e i) [] events ≡ found_in p plan (watch_at h n) events
    first_is =
        ap (λ (earlier : List Past). first_cause p plan (memory_after source r e) i earlier [] events) (since_is source r e n)
        ∙ found_same h.ok i [] (watch_at h n) (ready h n gone_by).at (iteration_is a input fuel begins stands i k here).path (watches_at h n gone_by)

    told : Found events v
    told = all_found events v kept.found

    abbrev failure : Option Failure
    failure = found_in p plan (watch_at h n) events

    same_failure : found_in v.program v.plan v.watch events ≡ failure
    same_failure = (λ j. found_in (kept.program j) (kept.plan_is j) (watch_here j) events)

    clean_is : is_clean p plan source e i ≡ (has_ended source r i && is_none w.found)
    clean_is =
        clean_without_cause a input fuel begins stands e i k here ∙ ap (λ (o : Option Failure). has_ended source r i && is_none o) (first_is ∙ sym same_failure)
        ∙ ap (λ (b : Bool). has_ended source r i && b) (sym (none_told (found_in v.program v.plan v.watch events)) ∙ ap is_none (sym told.found))

    cause_is : found_or_end w.found source.end ≡ reported (cause_since p plan source e i)
    cause_is =
        ap (λ (o : Option Cause). found_or_end o source.end) told.found ∙ told_or_end (found_in v.program v.plan v.watch events) source.end
        ∙ ap (λ (o : Option Failure). reported (cause_or_end o source.end)) (same_failure ∙ sym first_is)

    program_is : w.program ≡ p
    program_is = all_still (λ (x : Viewed). x.program) (λ x y one two three. one) events v ∙ kept.program

    plan_is : w.plan ≡ plan
    plan_is = all_still (λ (x : Viewed). x.plan) (λ x y one two three. two) events v ∙ kept.plan_is

    before_is : w.before ≡ memory_after source r i
    before_is = all_still (λ (x : Viewed). x.before) (λ x y one two three. three) events v ∙ kept.before

    source_is : w.source ≡ memory_of source r i
    source_is = all_source events v ∙ ap (applied (map effect_in events)) kept.source

    module _ (ended : has_ended source r i ≡ true) (going : is_closing source r i ≡ false) where
      follows : Follows p r source i k
      follows = stores_lead a input fuel begins stands i k here ended going

      settled_is : (settled w).source ≡ memory_after source r (suc i)
      settled_is = (λ j. clear_locals (plan_is j).region (program_is j).vars (source_is j)) ∙ sym follows.memory

      epoch_next : epoch p plan source (suc i) ≡ (if is_clean p plan source e i then e else suc i)
      epoch_next = ap (λ (d : ℕ). if is_clean p plan source d i then d else suc i) kept.epoch

      ended_clean : (b : Bool) → is_none w.found ≡ b → is_clean p plan source e i ≡ b
      ended_clean b q = clean_is ∙ ap (λ (t : Bool). t && is_none w.found) ended ∙ q

      next_by : (b : Bool) → is_none w.found ≡ b → KeptBefore p plan source (if b then e else suc i) (suc i) (if b then next_in_epoch (settled w)
          else anew (settled w))
      next_by true q = record {
        program = program_is;
        plan_is = plan_is;
        watch =
            let none : found_in v.program v.plan v.watch events ≡ None = none_is (found_in v.program v.plan v.watch events)
            (sym (none_told (found_in v.program v.plan v.watch events)) ∙ ap is_none (sym told.found) ∙ q) in
            let step : suc i - e ≡ suc n = omega (arith, numbered_is e n) in
            let behind : w.watch ≡ watched_all p plan events (watch_before p plan source e n) = told.watch none
            ∙ (λ j. watched_all (kept.program j) (kept.plan_is j) events ((kept.watch ∙ ap (watch_before p plan source e) place) j)) in
            (λ j. next_watch (program_is j) (plan_is j) (behind j))
            ∙ ap (λ (m : ℕ). next_watch p plan (watched_all p plan (iteration source r m) (watch_before p plan source e n))) (numbered_is e n)
            ∙ ap (watch_before p plan source e) (sym step);
        source = settled_is;
        before = settled_is;
        found = refl;
        since = omega (arith, numbered_is e n);
        epoch = epoch_next ∙ ap (λ (b : Bool). if b then e else suc i) (ended_clean true q);
        clean = λ m low high. elim (cases_eq m i) [
          | inl same ↦ ap (is_clean p plan source e) same ∙ ended_clean true q
          | inr other ↦ kept.clean m low (omega (arith, other, high))
        ];
      }
      next_by false q = record {
        program = program_is;
        plan_is = plan_is;
        watch =
            let step : suc i - suc i ≡ 0 = omega arith in
            (λ j. first_watch (plan_is j) (settled_is j)) ∙ ap (watch_before p plan source (suc i)) (sym step);
        source = settled_is;
        before = settled_is;
        found = refl;
        since = omega arith;
        epoch = epoch_next ∙ ap (λ (b : Bool). if b then e else suc i) (ended_clean false q);
        clean = λ m low high. absurd (omega (arith, low, high));
      }

    tells_there : TellsClean p plan source e i w
    tells_there = record {
      clean = clean_is;
      cause = cause_is;
      source = source_is;
      before = before_is;
      next = λ ended going. next_by ended going (is_none w.found) refl;
    }

  pub tells : (e i k : ℕ) → start source plan.region i ≡ Some k → (v : Viewed) → KeptBefore p plan source e i v →
      TellsClean p plan source e i (after_all (iteration source plan.region i) v)
  tells e i k here v kept =
      let is : numbered e (i - e) ≡ i = omega (arith, numbered_is e (i - e), kept.since) in
      let first = earlier_start (starts source plan.region) i e k here kept.since in
      subst (λ (j : ℕ). start source plan.region j ≡ Some k → KeptBefore p plan source e j v →
      TellsClean p plan source e j (after_all (iteration source plan.region j) v)) is
      (λ s kb. tells_there e first.0 first.1 (i - e) k s v kb) here kept

pub views_tell : {p : Program} {plan : Plan} → Accepted p plan → ViewsTell p plan
views_tell a input fuel c stands e i k here v kept = tells a input fuel c stands e i k here v kept
