-- A run that begins with an iteration: the region's condition stands at its front, and not again before the rest.
use Rattle.std.proofs.Common.{◌≡◌, refl, sym, ap, ◌∙◌, ℕ, ◌+◌, ◌-◌, ◌≤◌, Bool, true, false, List, ◌∷◌, ◌++◌, length, take, drop, Option, Some, None, slice_get}
use Rattle.std.proofs.Common.{slice_range, arith}
use Rattle.std.specs.List.{list_all}
use Rattle.dp_tree.specs.Step.{Config, Event}
use Rattle.dp_tree.specs.Trace.{Run}
use Rattle.dp_tree.specs.Iteration.{stands_at_head, places, starts, start, stop_from, events_from, iteration, is_closing, last_events, closes}
use Rattle.dp_meaning.specs.Continues.{Continues}
use Rattle.dp_commit.proofs.Lists.{places_behind, places_from, range_front, range_past}
use Rattle.dp_tree.proofs.Leaving.{closes_more}
use Rattle.dp_commit.proofs.Parts.{is_off}
use Rattle.dp_meaning.proofs.NextLemmas.{last_front}

module _ (r : ℕ) (run rest : Run) (events : List Event) (first : Config) (inner : List Config) (c : Continues run events (first ∷ inner) rest)
    (on : stands_at_head r first ≡ true) (off : list_all (is_off r) inner ≡ true) where
  pub starts_are : starts run r ≡ 0 ∷ places (stands_at_head r) (length events) rest.configs
  starts_are =
      let e : 1 + length inner ≡ length events = omega (arith, c.paired) in
      ap (places (stands_at_head r) 0) c.configs ∙ (rw on)
      ∙ ap (λ (ks : List ℕ). 0 ∷ ks) (places_behind (stands_at_head r) 1 inner rest.configs off ∙ ap (λ (k : ℕ). places (stands_at_head r) k rest.configs) e)

  start_is : start run r 0 ≡ Some 0
  start_is = ap (λ (ks : List ℕ). slice_get ks 0) starts_are

  pub start_next : start run r 1 ≡ slice_get (places (stands_at_head r) (length events) rest.configs) 0
  start_next = ap (λ (ks : List ℕ). slice_get ks 1) starts_are

  pub iteration_is : iteration run r 0 ≡ slice_range (events ++ rest.trace) 0 (stop_from run 0 (start run r 1))
  iteration_is = ap (λ (k : Option ℕ). events_from run k (start run r 1)) start_is
      ∙ ap (λ (es : List Event). slice_range es 0 (stop_from run 0 (start run r 1))) c.trace

  -- the region's condition stands there again
  pub start_there : (d : Config) (more : List Config) → rest.configs ≡ d ∷ more → stands_at_head r d ≡ true → start run r 1 ≡ Some (length events)
  start_there d more is there = start_next ∙ ap (λ (cs : List Config). slice_get (places (stands_at_head r) (length events) cs) 0) is ∙ (rw there)

  pub next_is : (d : Config) (more : List Config) → rest.configs ≡ d ∷ more → stands_at_head r d ≡ true → iteration run r 0 ≡ events
  next_is d more is there =
      iteration_is ∙ ap (λ (k : Option ℕ). slice_range (events ++ rest.trace) 0 (stop_from run 0 k)) (start_there d more is there)
      ∙ range_front events rest.trace

  -- or the region was left
  module _ (closed : closes events ≡ true) (last : last_events events ≡ events) where
    stop_last : stop_from run 0 None ≡ length events
    stop_last =
        ap (λ (es : List Event). 0 + length (last_events (drop 0 es))) c.trace
        ∙ ap (λ (es : List Event). 0 + length es) (last_front events rest.trace closed ∙ last)
        ∙ (let e : 0 + length events ≡ length events = omega arith in e)

    stops_past : (o : Option ℕ) → start run r 1 ≡ o → length events ≤ stop_from run 0 o
    stops_past None e = omega (arith, stop_last)
    stops_past (Some n) e = places_from (stands_at_head r) (length events) 0 n rest.configs (sym start_next ∙ e)

    pub closing_is : is_closing run r 0 ≡ true
    closing_is =
        ap closes (iteration_is ∙ range_past events rest.trace (stop_from run 0 (start run r 1)) (stops_past (start run r 1) refl))
        ∙ closes_more events (take (stop_from run 0 (start run r 1) - length events) rest.trace) closed

    pub last_is : start run r 1 ≡ None → iteration run r 0 ≡ events
    last_is none =
        iteration_is ∙ ap (λ (k : Option ℕ). slice_range (events ++ rest.trace) 0 (stop_from run 0 k)) none
        ∙ ap (slice_range (events ++ rest.trace) 0) stop_last ∙ range_front events rest.trace

    -- no condition of the region stands behind it
    pub left_is : (d : Config) (more : List Config) → rest.configs ≡ d ∷ more → start run r 1 ≡ None → stands_at_head r d ≡ false
    left_is d more is none = by (stands_at_head r d) refl
      where
        by : (t : Bool) → stands_at_head r d ≡ t → t ≡ false
        by false e = refl
        by true e = let clash : Some (length events) ≡ None = sym (start_there d more is e) ∙ none in absurd (cc clash)
