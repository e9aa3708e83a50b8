-- The walk with one memory a stage finds the first cause.
use Rattle.dp_semantics.proofs.Names.{◌≡◌, ◌⊎◌, refl, sym, ap, ◌∙◌, subst, arith, ℕ, zero, suc, ◌+◌, ◌<◌, ◌≤◌, if◌then◌else◌, Bool, true, false, List, [], ◌∷◌}
use Rattle.dp_semantics.proofs.Names.{length, ℤ, pos, Option, Some, None, Ok, get_or, nat_le, le-leb, lt-leb, sum_by-cons, cases_lt, inl, inr, Stmt, out-Stmt}
use Rattle.dp_semantics.proofs.Names.{Program, Plan, Load, WithLoads, Event, Effect, Stored, value_of, stored, evaluated, followed, stage_of, is_checked, last}
use Rattle.dp_semantics.proofs.Names.{Past, seen, Epoch, word_count, words_at, pushed}
use Rattle.std.specs.Option.{option_or}
use Rattle.dp_semantics.specs.Cause.{Cause, load_cause, checked_load_cause, assumption_cause, words_cause, event_cause, first_cause, by_load}
use Rattle.dp_semantics.proofs.Setting.{Fit, size}
use Rattle.dp_theorem.proofs.Source.{Stands, stands_next, own_site, form_of, store_within, event_of, past_of}
use Rattle.dp_theorem.proofs.Seeing.{Sees, sees_later, sees_stored, stored-length}
use Rattle.dp_theorem.proofs.Lockstep.{Goes, stays, goes}
use Rattle.dp_semantics.specs.CauseWalk.{Watch, view_of, count_of, shown_from, counted_from, watched, watched_all, load_cause_in, checked_cause_in}
use Rattle.dp_semantics.specs.CauseWalk.{words_cause_in, cause_in, look_by}
unfoldable use Rattle.dp_semantics.specs.CauseWalk.{cause_walk}

-- ---- one entry of the tables

shown_at : (p : Program) (plan : Plan) (event : Event) (a j : ℕ) (views : List (List ℤ)) → j < length views →
    get_or (shown_from p plan event a views) j [] ≡ (if nat_le (stage_of p plan event.site) (a + j) then stored event.effect (get_or views j [])
    else get_or views j [])
shown_at p plan event a j [] h = absurd (omega (arith, h))
shown_at p plan event a zero (view ∷ rest) h =
    let e : a + 0 ≡ a = omega arith in ap (λ (n : ℕ). if nat_le (stage_of p plan event.site) n then stored event.effect view else view) (sym e)
shown_at p plan event a (suc j) (view ∷ rest) h =
    let e : suc a + j ≡ a + suc j = omega arith in
    shown_at p plan event (suc a) j rest (omega (arith, h))
    ∙ ap (λ (n : ℕ). if nat_le (stage_of p plan event.site) n then stored event.effect (get_or rest j []) else get_or rest j []) e

shown-length : (p : Program) (plan : Plan) (event : Event) (a : ℕ) (views : List (List ℤ)) → length (shown_from p plan event a views) ≡ length views
shown-length p plan event a [] = refl
shown-length p plan event a (view ∷ rest) = ap (λ (n : ℕ). suc n) (shown-length p plan event (suc a) rest)

counted_at : (p : Program) (plan : Plan) (event : Event) (a j : ℕ) (counts : List ℕ) → j < length counts →
    get_or (counted_from p plan event a counts) j 0 ≡ words_at p plan (a + j) event + get_or counts j 0
counted_at p plan event a j [] h = absurd (omega (arith, h))
counted_at p plan event a zero (n ∷ rest) h = let e : a + 0 ≡ a = omega arith in ap (λ (m : ℕ). words_at p plan m event + n) (sym e)
counted_at p plan event a (suc j) (n ∷ rest) h =
    let e : suc a + j ≡ a + suc j = omega arith in
    counted_at p plan event (suc a) j rest (omega (arith, h)) ∙ ap (λ (m : ℕ). words_at p plan m event + get_or rest j 0) e

pub counted-length : (p : Program) (plan : Plan) (event : Event) (a : ℕ) (counts : List ℕ) → length (counted_from p plan event a counts) ≡ length counts
counted-length p plan event a [] = refl
counted-length p plan event a (n ∷ rest) = ap (λ (m : ℕ). suc m) (counted-length p plan event (suc a) rest)

view_shown : (p : Program) (plan : Plan) (event : Event) (s : ℕ) (views : List (List ℤ)) → 0 < s → s < suc (length views) →
    view_of (shown_from p plan event 1 views) s ≡ (if nat_le (stage_of p plan event.site) s then stored event.effect (view_of views s) else view_of views s)
view_shown p plan event zero views real h = absurd (omega (arith, real))
view_shown p plan event (suc s) views real h =
    let e : 1 + s ≡ suc s = omega arith in
    shown_at p plan event 1 s views (omega (arith, h)) ∙ ap (λ (n : ℕ). if nat_le (stage_of p plan event.site) n then stored event.effect (get_or views s [])
    else get_or views s []) e

count_counted : (p : Program) (plan : Plan) (event : Event) (s : ℕ) (counts : List ℕ) → 0 < s → s < suc (length counts) →
    count_of (counted_from p plan event 1 counts) s ≡ words_at p plan s event + count_of counts s
count_counted p plan event zero counts real h = absurd (omega (arith, real))
count_counted p plan event (suc s) counts real h =
    let e : 1 + s ≡ suc s = omega arith in
    counted_at p plan event 1 s counts (omega (arith, h)) ∙ ap (λ (m : ℕ). words_at p plan m event + get_or counts s 0) e

module _ {k : Epoch} (ok : Fit k) (i : ℕ) where
  open k use {program, plan, input, base}

  -- each stage's memory is what it sees after these events, and its words are counted
  pub record Watches (earlier : List Past) (done : List Event) (w : Watch) : Type 0 where
    pub views_are : length w.views ≡ length plan.stages
    pub counts_are : length w.counts ≡ length plan.stages
    pub sees : (s : ℕ) → 0 < s → s < last plan → Sees k s i earlier (view_of w.views s)
    pub sizes : (s : ℕ) → 0 < s → s < last plan → length (view_of w.views s) ≡ size program
    pub counts : (s : ℕ) → 0 < s → s < last plan → count_of w.counts s ≡ word_count program plan done s

  -- the loads are compared with what the stage sees
  loads_same : (earlier : List Past) (s site : ℕ) (view : List ℤ) → Sees k s i earlier view → s ≡ stage_of program plan site → (loads : List Load) →
      load_cause program plan base i earlier site loads ≡ load_cause_in view site loads
  loads_same earlier s site view sees e [] = refl
  loads_same earlier s site view sees e (l ∷ rest) =
      let same : seen program plan base (stage_of program plan site) i earlier l.cell ≡ get_or view l.cell (pos 0) = ap
      (λ (t : ℕ). seen program plan base t i earlier l.cell) (sym e) ∙ sym (sees l.cell) in
      ap (λ (z : ℤ). option_or (by_load site l z) (load_cause program plan base i earlier site rest)) same
      ∙ ap (λ (o : Option Cause). option_or (by_load site l (get_or view l.cell (pos 0))) o) (loads_same earlier s site view sees e rest)

  cause_same : (earlier : List Past) (done : List Event) (w : Watch) (event : Event) → Watches earlier done w → 0 < stage_of program plan event.site →
      stage_of program plan event.site < last plan →
      event_cause program plan base i earlier done event ≡ cause_in program plan w event
  cause_same earlier done w event b real early =
      let s = stage_of program plan event.site in
      let loads : checked_load_cause program plan base i earlier event ≡ checked_cause_in program plan (view_of w.views s) event =
      ap (λ (o : Option Cause). if is_checked program plan event.site then o else None) (loads_same earlier s event.site (view_of w.views s)
      (b.sees s real early) refl event.loads) in
      let count : word_count program plan (event ∷ done) s ≡ count_of (watched program plan event w).counts s =
      sum_by-cons (words_at program plan s) event done ∙ ap (λ (n : ℕ). words_at program plan s event + n) (sym (b.counts s real early))
      ∙ sym (count_counted program plan event s w.counts real (omega (arith, b.counts_are, early))) in
      ap (λ (o : Option Cause). option_or o (option_or (assumption_cause program plan event) (words_cause program plan done event))) loads
      ∙ ap (λ (n : ℕ). option_or (checked_cause_in program plan (view_of w.views s) event) (option_or (assumption_cause program plan event)
      (words_cause_in program plan n event))) count

  watches_next : (earlier : List Past) (done : List Event) (w : Watch) (event : Event) → Watches earlier done w →
      ((c : ℕ) (value : ℤ) → event.effect ≡ Stored c value → c < size program) → Watches (record { iteration = i; event = event } ∷ earlier) (event ∷ done)
      (watched program plan event w)
  watches_next earlier done w event b within = record {
    views_are = shown-length program plan event 1 w.views ∙ b.views_are;
    counts_are = counted-length program plan event 1 w.counts ∙ b.counts_are;
    sees = λ s real early. subst (λ (view : List ℤ). Sees k s i (record { iteration = i; event = event } ∷ earlier) view) (sym (shown s real early))
        (seen_by s real early (cases_lt s (stage_of program plan event.site)));
    sizes = λ s real early. ap length (shown s real early) ∙ size_by s real early (nat_le (stage_of program plan event.site) s);
    counts = λ s real early. count_counted program plan event s w.counts real (omega (arith, b.counts_are, early))
        ∙ ap (λ (n : ℕ). words_at program plan s event + n) (b.counts s real early) ∙ sym (sum_by-cons (words_at program plan s) event done);
  }
    where
      shown : (s : ℕ) → 0 < s → s < last plan → view_of (watched program plan event w).views s ≡ (if nat_le (stage_of program plan event.site) s
          then stored event.effect (view_of w.views s) else view_of w.views s)
      shown s real early = view_shown program plan event s w.views real (omega (arith, b.views_are, early))

      size_by : (s : ℕ) → 0 < s → s < last plan → (t : Bool) → length (if t then stored event.effect (view_of w.views s) else view_of w.views s) ≡ size program
      size_by s real early true = stored-length event.effect (view_of w.views s) ∙ b.sizes s real early
      size_by s real early false = b.sizes s real early

      seen_by : (s : ℕ) → 0 < s → s < last plan → (s < stage_of program plan event.site) ⊎ (stage_of program plan event.site ≤ s) →
          Sees k s i (record { iteration = i; event = event } ∷ earlier) (if nat_le (stage_of program plan event.site) s then stored event.effect
          (view_of w.views s) else view_of w.views s)
      seen_by s real early (inl later) =
          rw (lt-leb (stage_of program plan event.site) s later) (sees_later k s i earlier (view_of w.views s) event later (b.sees s real early))
      seen_by s real early (inr upto) = rw (le-leb (stage_of program plan event.site) s upto)
          (sees_stored k s i earlier (view_of w.views s) event (omega (arith, upto)) (λ c value e. let size_is = b.sizes s real early in
          let low = within c value e in omega (arith, size_is, low)) (b.sees s real early))

  option_or-assoc : (a b c : Option Cause) → option_or (option_or a b) c ≡ option_or a (option_or b c)
  option_or-assoc (Some x) b c = refl
  option_or-assoc None b c = refl

  walk_step : (u : ℕ) (w : Watch) (x : Stmt) (rest : List Stmt) (cells : List ℤ) (v : WithLoads Effect) → evaluated program input cells (out-Stmt x) ≡ Ok v →
      cause_walk program plan input (suc u) w (x ∷ rest) cells ≡ option_or (cause_in program plan w (event_of (out-Stmt x) v))
      (cause_walk program plan input u (watched program plan (event_of (out-Stmt x) v) w) (followed x rest (out-Stmt x) (value_of v.value))
      (stored v.value cells))
  unfolding cause_walk
  walk_step u w x rest cells v e = ap (look_by program plan (cause_walk program plan input u) w x rest cells (out-Stmt x)) e

  -- the events done, the latest first
  abbrev pub done_after : List Event → List Event → List Event
  done_after [] done = done
  done_after (event ∷ rest) done = done_after rest (event ∷ done)

  -- after these events the walk goes on from there
  pub record Walked (n : ℕ) (earlier : List Past) (done events : List Event) (w : Watch) (to_do after : List Stmt) (cells then_cells : List ℤ) : Type 0 where
    pub watches : Watches (pushed i events earlier) (done_after events done) (watched_all program plan events w)
    pub is : cause_walk program plan input (length events + n) w to_do cells ≡
        option_or (first_cause program plan base i earlier done events) (cause_walk program plan input n (watched_all program plan events w) after then_cells)

  -- The walk finds the first of the events that fails, and else what follows them.
  pub walk_is : (n : ℕ) {to_do : List Stmt} {earlier : List Past} {cells : List ℤ} {events : List Event} {after : List Stmt} {then_cells : List ℤ}
      (done : List Event) (w : Watch) →
      Stands k i to_do earlier cells → Goes program input to_do cells events after then_cells → Watches earlier done w →
      Walked n earlier done events w to_do after cells then_cells
  walk_is n done w at stays b = record { watches = b; is = let e : 0 + n ≡ n = omega arith in ap (λ (m : ℕ). cause_walk program plan input m w _ _) e }
  walk_is n {earlier = earlier} {cells = cells} {after = after} {then_cells = then_cells} done w at
      (goes {x = x} {rest = rest} {v = v} {events = more} e path) b =
      let head = out-Stmt x in
      let event : Event = event_of head v in
      let site = own_site ok at in
      let b' = watches_next earlier done w event b (λ c value q. store_within ok at v (form_of ok at cells v e) c value q) in
      let r = walk_is n (event ∷ done) (watched program plan event w) (stands_next ok at v e) path b' in
      let last_watch = watched_all program plan more (watched program plan event w) in
      let m : suc (length more) + n ≡ suc (length more + n) = omega arith in
      record {
        watches = r.watches;
        is = ap (λ (u : ℕ). cause_walk program plan input u w (x ∷ rest) cells) m ∙ walk_step (length more + n) w x rest cells v e
            ∙ ap (λ (o : Option Cause). option_or (cause_in program plan w event) o) r.is
            ∙ ap (λ (o : Option Cause). option_or o (option_or (first_cause program plan base i (past_of i x v ∷ earlier) (event ∷ done) more)
            (cause_walk program plan input n last_watch after then_cells))) (sym (cause_same earlier done w event b site.staged site.early))
            ∙ sym (option_or-assoc (event_cause program plan base i earlier done event) (first_cause program plan base i (past_of i x v ∷ earlier)
            (event ∷ done) more) (cause_walk program plan input n last_watch after then_cells));
      }
