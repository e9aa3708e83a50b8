-- The judgement stands where the source does, and of an iteration that agrees with the plan it is Clean.
use Rattle.dp_semantics.proofs.Names.{◌≡◌, refl, sym, ap, ◌∙◌, append_assoc, ℕ, zero, suc, ◌+◌, ◌<◌, Bool, true, ◌&&◌, if◌then◌else◌, List, [], ◌∷◌, ◌++◌, ℤ}
use Rattle.dp_semantics.proofs.Names.{length, map, Option, Some, None, arith, append-nil, list_all, SiteId, Word, Stmt, out-Stmt, out-roll-Stmt, Program, Plan}
use Rattle.dp_semantics.proofs.Names.{Load, WithLoads, Event, Effect, followed, site_of, value_of, Past, event_as_assumed, pushed, words_of, word_list, Epoch}
use Rattle.dp_semantics.proofs.Names.{Judging, Clean, loads_hold, judged, judge_step, judge_by, judge_at, judge_spent, judge_from, last, effect_in, site_in}
use Rattle.dp_semantics.proofs.Names.{and_parts, and_from}
use Rattle.dp_semantics.proofs.Setting.{Fit, each_map, Form, Holds, IsHeld}
use Rattle.dp_theorem.proofs.Stepping.{InStep, Moved, here, staying, onward, site_proj, head_is, left_is, taken_is, consumed_stands, consumed_moved}
use Rattle.dp_theorem.proofs.Stepping.{event_passes, event_of, past_of, stage_for, Stands, own_site, form_of, own_loads, stands_next}
use Rattle.dp_theorem.proofs.Lockstep.{Goes, stays, goes, closing_after, Has, front_of, has_next}

module _ {k : Epoch} (ok : Fit k) {i : ℕ} {x : Stmt} {rest : List Stmt} {earlier : List Past} {cells : List ℤ} (at : Stands k i (x ∷ rest) earlier cells)
    (j : Judging) (b : InStep k i (last k.plan) (x ∷ rest) earlier j.turn) (v : WithLoads Effect)
    (form : Form k.program (out-Stmt x) v.value) (more : List Word)
    (front : word_list j.turn.lists (stage_for k x) ≡ words_of k.program k.plan (event_of (out-Stmt x) v) ++ more) where
  open k use {program, plan, input}

  -- the event's words are taken, its loads are compared, and its assumption is tested
  abbrev pub judged_next : Judging
  judged_next = judged program plan j (staying ok at (last plan)) (onward ok at (last plan)) (here ok at (last plan)) (record { effect = v.value; rest = more })

  abbrev pub held : Bool
  held = loads_hold (site_of (out-Stmt x)).0 j.turn.cells (words_of program plan (event_of (out-Stmt x) v) ++ more)

  abbrev next_if : Bool → Option Judging
  next_if t = if t then Some judged_next else None

  early : stage_for k x < last plan
  early = (own_site ok at).early

  step_is : judge_step program plan j (staying ok at (last plan)) (onward ok at (last plan)) (here ok at (last plan)) ≡ next_if
      (held && event_as_assumed program plan (event_of (out-Stmt x) v))
  step_is = rw (
    taken_is ok at (last plan) j.turn b v early form more front,
    left_is ok at (last plan) j.turn b v early form more front,
    site_proj program plan (last plan) (out-Stmt x),
  )

  pub judge_turn : (n : ℕ) → judge_from program plan (suc n) j ≡ judge_by (judge_from program plan n)
      (next_if (held && event_as_assumed program plan (event_of (out-Stmt x) v)))
  unfolding judge_from
  judge_turn n = rw (head_is ok at (last plan) j.turn b (omega (arith, early)), out-roll-Stmt (here ok at (last plan)), step_is)

  pub next_stands : InStep k i (last plan) (followed x rest (out-Stmt x) (value_of v.value)) (past_of i x v ∷ earlier) judged_next.turn
  next_stands = consumed_stands ok at (last plan) j.turn b v early form more front

  pub next_moved : Moved k (last plan) 1 (event_of (out-Stmt x) v) j.turn judged_next.turn
  next_moved = consumed_moved ok at (last plan) j.turn b v early form more front

  -- the judgement's memory is the source's
  pub held_there : (loads : List Load) → Holds cells loads → Holds j.turn.cells loads
  held_there loads h = each_map (IsHeld cells) (IsHeld j.turn.cells) (λ l q. b.sees l.cell ∙ sym (at.sees l.cell) ∙ q) loads h

  pub held_here : (loads : List Load) → Holds j.turn.cells loads → Holds cells loads
  held_here loads h = each_map (IsHeld j.turn.cells) (IsHeld cells) (λ l q. at.sees l.cell ∙ sym (b.sees l.cell) ∙ q) loads h

-- at the end of the iteration's text the judgement is Clean, whatever steps are left
pub judge_ends : (p : Program) (plan : Plan) (n : ℕ) (j : Judging) → j.turn.to_do ≡ [] →
    judge_from p plan n j ≡ Clean (record { effects = j.effects; sites = j.sites; closing = j.turn.closing })
unfolding judge_from
judge_ends p plan zero j e = ap (judge_spent j) e
judge_ends p plan (suc n) j e = ap (judge_at p plan (judge_from p plan n) j) e

-- the judgement after these events
pub record JudgedThrough (k : Epoch) (i : ℕ) (to_do : List Stmt) (earlier : List Past) (events : List Event) (j : Judging) : Type 0 where
  pub judging : Judging
  pub runs : (m n : ℕ) → m ≡ length events + n → judge_from k.program k.plan m j ≡ judge_from k.program k.plan n judging
  pub in_step : InStep k i (last k.plan) to_do (pushed i events earlier) judging.turn
  pub effects : judging.effects ≡ j.effects ++ map effect_in events
  pub sites : judging.sites ≡ j.sites ++ map site_in events
  pub closing : judging.turn.closing ≡ closing_after k.program k.plan j.turn.closing events

module _ {k : Epoch} (ok : Fit k) {i : ℕ} where
  open k use {program, plan, input}

  pub judge_lockstep : {to_do : List Stmt} {earlier : List Past} {cells : List ℤ} {events : List Event} {after : List Stmt} {then_cells : List ℤ} →
      Stands k i to_do earlier cells → Goes program input to_do cells events after then_cells →
      list_all (event_as_assumed program plan) events ≡ true → (left : ℕ → List Word) (j : Judging) → InStep k i (last plan) to_do earlier j.turn →
      Has k (last plan) events left j.turn → JudgedThrough k i after earlier events j
  judge_lockstep at stays told left j b has = record {
    judging = j;
    runs = λ m n e. let same : m ≡ n = omega (arith, e) in ap (λ (u : ℕ). judge_from program plan u j) same;
    in_step = b;
    effects = sym (append-nil j.effects);
    sites = sym (append-nil j.sites);
    closing = refl;
  }
  judge_lockstep {earlier = earlier} at (goes {x = x} {rest = rest} {cells = cells} {v = v} {events = more} e path) told left j b has =
      let event : Event = event_of (out-Stmt x) v in
      let goes_so = and_parts (event_as_assumed program plan event) (list_all (event_as_assumed program plan) more) told in
      let form = form_of ok at cells v e in
      let front = front_of k (last plan) (stage_for k x) event more left j.turn has refl (own_site ok at).staged (own_site ok at).early in
      let passes = and_from _ _ (event_passes program plan event _ j.turn.cells (λ checked. held_there ok at j b v form _ front v.loads
      (own_loads ok at cells v e))) goes_so.0 in
      let next : Judging = judged_next ok at j b v form _ front in
      let step = λ (n : ℕ). judge_turn ok at j b v form _ front n
      ∙ ap (λ (t : Bool). judge_by (judge_from program plan n) (if t then Some next else None)) passes in
      let moved = next_moved ok at j b v form _ front in
      let r = judge_lockstep (stands_next ok at v e) path goes_so.1 left next (next_stands ok at j b v form _ front)
      (has_next k (last plan) 1 event more left j.turn next.turn has moved) in
      record {
        judging = r.judging;
        runs = λ m n q. let one : m ≡ suc (length more + n) = omega (arith, q) in ap (λ (u : ℕ). judge_from program plan u j) one ∙ step (length more + n)
            ∙ r.runs (length more + n) n refl;
        in_step = r.in_step;
        effects = r.effects ∙ append_assoc j.effects (v.value ∷ []) (map effect_in more);
        sites = r.sites ∙ ap (λ (site : SiteId). (j.sites ++ site.0 ∷ []) ++ map site_in more) (site_proj program plan (last plan) (out-Stmt x))
            ∙ append_assoc j.sites ((site_of (out-Stmt x)).0 ∷ []) (map site_in more);
        closing = r.closing ∙ ap (λ (u : Bool). closing_after program plan u more) moved.closing;
      }
