-- What the items of an own site's event put into the columns, and how many words and steps they are.
use Rattle.dp_semantics.proofs.Names.{◌≡◌, refl, ap, ◌∙◌, arith, ℕ, ◌+◌, ◌-◌, Bool, true, false, if◌then◌else◌, List, [], ◌∷◌, ◌++◌, length, sum_by}
use Rattle.dp_semantics.proofs.Names.{sum_by-cons, Program, Plan, Word, Load, Event, value_of, first_site, is_checked, load_words, done_word, words_of}
use Rattle.std.proofs.lemmas.List.Sums.{sum_by-append}
use Rattle.dp_semantics.specs.Words.{cell_of}
use Rattle.dp_net.specs.NetItems.{Item, Said, weight, weights, said_all}
use Rattle.dp_lean.specs.Queues.{Told, Did, steps_in}
use Rattle.dp_columns.specs.Columned.{Columned, with_told, with_load, loads_ended, with_loads}
use Rattle.dp_columns.specs.Telling.{put_items}
use Rattle.dp_columns.specs.declared.ColumnKind.{ColumnKind}
use Rattle.dp_lean_turn.specs.Notes.{kind_at}
use Rattle.dp_lean_turn.specs.Told.{keeps_something, event_put, put_own}

pub said_join : (a b : List Word) → said_all (a ++ b) ≡ said_all a ++ said_all b
said_join [] b = refl
said_join (w ∷ a) b = ap (λ (is : List Item). Said w ∷ is) (said_join a b)

weights_said : (ws : List Word) → weights (said_all ws) ≡ length ws
weights_said [] = refl
weights_said (w ∷ ws) = let h = weights_said ws in let s = sum_by-cons weight (Said w) (said_all ws) in omega (arith, h, s)

-- an event's words more
pub weights_more : (own : List Item) (ws : List Word) → weights (own ++ said_all ws) ≡ weights own + length ws
weights_more own ws = sum_by-append weight own (said_all ws) ∙ ap (λ (n : ℕ). weights own + n) (weights_said ws)

steps_of_loads : (site : ℕ) (loads : List Load) → sum_by steps_in (said_all (load_words site loads)) ≡ 0
steps_of_loads site [] = refl
steps_of_loads site (l ∷ loads) = steps_of_loads site loads

module _ (first : ℕ) (is_kept is_compared : ℕ → Bool) where
  pub puts_then : (a b : List Item) (k : Columned) → put_items first is_kept is_compared (a ++ b) k ≡ put_items first is_kept is_compared b
      (put_items first is_kept is_compared a k)
  puts_then [] b k = refl
  puts_then (i ∷ a) b k = puts_then a b _

  puts_loads : (site : ℕ) (loads : List Load) (k : Columned) → is_compared site ≡ true → put_items first is_kept is_compared (said_all (load_words site loads))
      k ≡ with_loads (site - first) loads k
  puts_loads site [] k e = refl
  puts_loads site (l ∷ loads) k e =
      ap (λ (b : Bool). put_items first is_kept is_compared (said_all (load_words site loads)) (if b then with_load (site - first) l k else k)) e
      ∙ puts_loads site loads (with_load (site - first) l k) e

told_behind_loads : (place : ℕ) (loads : List Load) (t : Told) (k : Columned) → with_told place t (with_loads place loads k) ≡ with_loads place loads
    (with_told place t k)
told_behind_loads place [] t k = refl
told_behind_loads place (l ∷ loads) t k = told_behind_loads place loads t (with_load place l k)

module _ (p : Program) (plan : Plan) (own : List ColumnKind) where
  abbrev place : ℕ → ℕ
  place site = site - first_site p plan

  abbrev kind : ℕ → ColumnKind
  kind site = kind_at own (place site)

  -- the words as items
  items_are : (event : Event) (checked : Bool) → is_checked p plan event.site ≡ checked →
      said_all (words_of p plan event) ≡ said_all (if checked then load_words event.site event.loads else []) ++ Said (done_word event.site event.effect) ∷ []
  items_are event checked e =
      ap (λ (b : Bool). said_all ((if b then load_words event.site event.loads else []) ++ done_word event.site event.effect ∷ [])) e
      ∙ said_join (if checked then load_words event.site event.loads else []) (done_word event.site event.effect ∷ [])

  pub puts_event : (event : Event) (k : Columned) (checked : Bool) → is_checked p plan event.site ≡ checked →
      put_own p plan own (said_all (words_of p plan event)) k ≡ event_put checked (kind event.site) (place event.site) event.loads (cell_of event.effect)
      (value_of event.effect) k
  puts_event event k true e =
      ap (λ (is : List Item). put_own p plan own is k) (items_are event true e)
      ∙ puts_then (first_site p plan) (λ y. keeps_something (kind y)) (is_checked p plan) (said_all (load_words event.site event.loads))
      (Said (done_word event.site event.effect) ∷ []) k
      ∙ ap (λ (n : Columned). put_own p plan own (Said (done_word event.site event.effect) ∷ []) n)
      (puts_loads (first_site p plan) (λ y. keeps_something (kind y)) (is_checked p plan) event.site event.loads k e)
      ∙ rw e (ap (loads_ended (place event.site)) (by (keeps_something (kind event.site))))
    where
      by : (b : Bool) → (if b then with_told (place event.site) (Did (cell_of event.effect) (value_of event.effect))
          (with_loads (place event.site) event.loads k) else with_loads (place event.site) event.loads k)
          ≡ with_loads (place event.site) event.loads (if b then with_told (place event.site) (Did (cell_of event.effect) (value_of event.effect)) k else k)
      by true = told_behind_loads (place event.site) event.loads (Did (cell_of event.effect) (value_of event.effect)) k
      by false = refl
  puts_event event k false e = ap (λ (is : List Item). put_own p plan own is k) (items_are event false e) ∙ rw e refl

  -- .. counted
  pub words_count : (event : Event) (checked : Bool) → is_checked p plan event.site ≡ checked →
      length (words_of p plan event) ≡ (if checked then length event.loads else 0) + 1
  words_count event true e =
      ap (λ (b : Bool). length ((if b then load_words event.site event.loads else []) ++ done_word event.site event.effect ∷ [])) e ∙ by event.loads
    where
      by : (loads : List Load) → length (load_words event.site loads ++ done_word event.site event.effect ∷ []) ≡ length loads + 1
      by [] = refl
      by (l ∷ loads) = let more = by loads in omega (arith, more)
  words_count event false e = ap (λ (b : Bool). length ((if b then load_words event.site event.loads else []) ++ done_word event.site event.effect ∷ [])) e

  pub steps_more : (event : Event) (items : List Item) → sum_by steps_in (items ++ said_all (words_of p plan event)) ≡ sum_by steps_in items + 1
  steps_more event items =
      sum_by-append steps_in items (said_all (words_of p plan event)) ∙ ap (λ (n : ℕ). sum_by steps_in items + n) (one (is_checked p plan event.site) refl)
    where
      one : (b : Bool) → is_checked p plan event.site ≡ b → sum_by steps_in (said_all (words_of p plan event)) ≡ 1
      one true e = ap (sum_by steps_in) (items_are event true e) ∙ sum_by-append steps_in (said_all (load_words event.site event.loads))
          (Said (done_word event.site event.effect) ∷ [])
          ∙ ap (λ (n : ℕ). n + 1) (steps_of_loads event.site event.loads)
      one false e = ap (sum_by steps_in) (items_are event false e)
