-- Lockstep: a stage over any piece of an iteration that agrees with the plan.
use Rattle.dp_semantics.proofs.Names.{closes_at, ◌≡◌, refl, sym, ap, ◌∙◌, subst, append_assoc, ℕ, ◌+◌, ◌<◌, ◌≤◌, Bool, true, ◌||◌, List, [], ◌∷◌, ◌++◌, ℤ}
use Rattle.dp_semantics.proofs.Names.{length, length-append, sum_by, arith, append-nil, list_all, Word, Stmt, out-Stmt, Program, Plan, Event, followed}
use Rattle.dp_semantics.proofs.Names.{value_of, stage_of, first_site, Past, all_agree, event_agrees, event_as_assumed, pushed, words_of, word_list, Turn}
use Rattle.dp_semantics.proofs.Names.{turn_from, Epoch, and_parts, append_cancel_left}
pub use Rattle.dp_semantics.proofs.Ways.{Goes, stays, goes}
use Rattle.dp_semantics.proofs.Setting.{Fit}
use Rattle.dp_theorem.proofs.Stepping.{stage_for, InStep, Moved, Advanced, advance, words_for, words_here, event_of, past_of, Stands, stands_next, own_site}
use Rattle.dp_theorem.proofs.Stepping.{form_of, stage_does}

-- the words of these events for stage t
abbrev pub words_through : Program → Plan → ℕ → List Event → List Word
words_through p plan t [] = []
words_through p plan t (event ∷ rest) = words_for p plan t event ++ words_through p plan t rest

-- whether the region's condition was 0 or a break was taken
abbrev pub closing_after : Program → Plan → Bool → List Event → Bool
closing_after p plan closing [] = closing
closing_after p plan closing (event ∷ rest) = closing_after p plan (closing || closes_at (first_site p plan) event.site event.effect) rest

-- A stage after these events: its words are theirs, and each of its steps added a word or took one.
pub record Through (k : Epoch) (i s : ℕ) (to_do : List Stmt) (earlier : List Past) (events : List Event) (c : Turn) : Type 0 where
  pub turn : Turn
  pub steps : ℕ
  pub runs : (m n : ℕ) → m ≡ steps + n → turn_from k.program k.plan k.input s m c ≡ turn_from k.program k.plan k.input s n turn
  pub in_step : InStep k i s to_do (pushed i events earlier) turn
  pub own : turn.own ≡ c.own ++ words_through k.program k.plan s events
  pub closing : turn.closing ≡ closing_after k.program k.plan c.closing events
  pub paid : steps + length c.own + sum_by length turn.lists ≤ length turn.own + sum_by length c.lists

-- the words of the events stand at the front of the lists of the stages before s
abbrev pub Has : Epoch → ℕ → List Event → (ℕ → List Word) → Turn → Type 0
Has k s events left c = (t : ℕ) → 0 < t → t < s → word_list c.lists t ≡ words_through k.program k.plan t events ++ left t

-- the words of the first event, which is of stage t, and those of the others after its step
pub front_of : (k : Epoch) (s t : ℕ) (event : Event) (more : List Event) (left : ℕ → List Word) (c : Turn) → Has k s (event ∷ more) left c →
    stage_of k.program k.plan event.site ≡ t → 0 < t → t < s →
    word_list c.lists t ≡ words_of k.program k.plan event ++ (words_through k.program k.plan t more ++ left t)
front_of k s t event more left c has here low high =
    has t low high ∙ append_assoc (words_for k.program k.plan t event) (words_through k.program k.plan t more) (left t)
    ∙ ap (λ ws. ws ++ (words_through k.program k.plan t more ++ left t)) (words_here k.program k.plan t event here)

pub has_next : (k : Epoch) (s steps : ℕ) (event : Event) (more : List Event) (left : ℕ → List Word) (c d : Turn) → Has k s (event ∷ more) left c →
    Moved k s steps event c d → Has k s more left d
has_next k s steps event more left c d has moved t low high =
    append_cancel_left (words_for k.program k.plan t event) (word_list d.lists t) (words_through k.program k.plan t more ++ left t)
    (sym (moved.lists t low high) ∙ has t low high ∙ append_assoc (words_for k.program k.plan t event) (words_through k.program k.plan t more) (left t))

module _ {k : Epoch} (ok : Fit k) {i : ℕ} where
  open k use {program, plan, input, base}

  -- the source stands after these events
  pub stands_after : {to_do : List Stmt} {earlier : List Past} {cells : List ℤ} {events : List Event} {after : List Stmt} {then_cells : List ℤ} →
      Stands k i to_do earlier cells → Goes program input to_do cells events after then_cells →
      Stands k i after (pushed i events earlier) then_cells
  stands_after at stays = at
  stands_after at (goes {v = v} e path) = stands_after (stands_next ok at v e) path

  -- A stage in step with the source stays so through events that agree with the plan.
  pub lockstep : (s : ℕ) → 0 < s → {to_do : List Stmt} {earlier : List Past} {cells : List ℤ} {events : List Event} {after : List Stmt} {then_cells : List ℤ} →
      Stands k i to_do earlier cells → Goes program input to_do cells events after then_cells →
      all_agree program plan base i earlier events ≡ true → list_all (event_as_assumed program plan) events ≡ true → (left : ℕ → List Word) (c : Turn) →
      length (c.own ++ words_through program plan s events) ≤ plan.words →
      InStep k i s to_do earlier c → Has k s events left c → Through k i s after earlier events c
  lockstep s real at stays agree told left c fits b has = record {
    turn = c;
    steps = 0;
    runs = λ m n e. let same : m ≡ n = omega (arith, e) in ap (λ (u : ℕ). turn_from program plan input s u c) same;
    in_step = b;
    own = sym (append-nil c.own);
    closing = refl;
    paid = omega arith;
  }
  lockstep s real {earlier = earlier} at (goes {x = x} {rest = rest} {v = v} {events = more} e path) agree told left c fits b has =
      let event : Event = event_of (out-Stmt x) v in
      let agrees = and_parts (event_agrees program plan base i earlier event) (all_agree program plan base i (past_of i x v ∷ earlier) more) agree in
      let goes_so = and_parts (event_as_assumed program plan event) (list_all (event_as_assumed program plan) more) told in
      let size_all : length (c.own ++ (words_for program plan s event ++ words_through program plan s more)) ≤ plan.words = fits in
      let both = ap length (append_assoc c.own (words_for program plan s event) (words_through program plan s more)) in
      let one : length (c.own ++ words_for program plan s event) ≤ plan.words = omega
      (arith, size_all, both, length-append (c.own ++ words_for program plan s event) (words_through program plan s more)) in
      let a : Advanced k i s (followed x rest (out-Stmt x) (value_of v.value)) (past_of i x v ∷ earlier) event c = advance ok at s c b v real
      (form_of ok at _ v e) goes_so.0
      (λ here. subst (λ (u : ℕ). (other : List ℤ) → Rattle.dp_theorem.proofs.Seeing.Sees k u i earlier other →
      Rattle.dp_theorem.proofs.Source.Gives k other x v) here (λ other sees. stage_does ok at other sees v e agrees.0) c.cells b.sees)
      one _ (λ before. front_of k s (stage_for k x) event more left c has refl (own_site ok at).staged before) in
      let joined : a.turn.own ++ words_through program plan s more ≡ c.own ++ (words_for program plan s event ++ words_through program plan s more) =
      ap (λ ws. ws ++ words_through program plan s more) a.moved.own ∙ append_assoc c.own (words_for program plan s event)
      (words_through program plan s more) in
      let r = lockstep s real (stands_next ok at v e) path agrees.1 goes_so.1 left a.turn (omega (arith, size_all, ap length joined)) a.in_step
      (has_next k s a.steps event more left c a.turn has a.moved) in
      record {
        turn = r.turn;
        steps = a.steps + r.steps;
        runs = λ m n q. a.runs m (r.steps + n) (omega (arith, q)) ∙ r.runs (r.steps + n) n refl;
        in_step = r.in_step;
        own = r.own ∙ joined;
        closing = r.closing ∙ ap (λ (u : Bool). closing_after program plan u more) a.moved.closing;
        paid = omega (arith, r.paid, a.moved.paid);
      }
