-- What an own site's event adds, outside of blocks and in one.
use Rattle.dp_semantics.proofs.Names.{◌≡◌, refl, sym, ap, ◌∙◌, subst, arith, ℕ, ◌+◌, ◌-◌, Bool, true, false, ◌&&◌, if◌then◌else◌, List, ◌++◌, length, map, ℤ}
use Rattle.dp_semantics.proofs.Names.{Option, Some, None, nat_le, inl, inr, cases_Bool, Program, Plan, Load, Event, value_of, first_site, stage_of, is_checked}
use Rattle.dp_semantics.proofs.Names.{event_as_assumed, words_of}
use Rattle.std.proofs.lemmas.List.{length-map}
use Rattle.dp_semantics.specs.Words.{cell_of}
use Rattle.dp_net.specs.NetItems.{Marks, weights, said_all, told_after}
use Rattle.dp_lean.specs.LeanTurn.{BrokenOff}
use Rattle.dp_lean_code.specs.LeanHeld.{Silent, Held, Ends}
use Rattle.dp_lean_code.specs.LeanMade.{held_after, next_at, made_with, one_more}
use Rattle.dp_columns.specs.Columned.{Columned}
use Rattle.dp_columns.specs.Paired.{pair_load, pair_store}
use Rattle.dp_lean_turn.specs.declared.Answer.TheVariants as answer
use Rattle.dp_lean_turn.specs.declared.Frame.{Frame}
use Rattle.dp_lean_turn.specs.declared.Note.{Note}
use Rattle.dp_lean_turn.specs.declared.Teller.{Teller}
use Rattle.dp_lean_turn.specs.Notes.{kind_at}
use Rattle.dp_lean_turn.specs.Told.{event_put, put_own}
use Rattle.dp_lean_turn.specs.Logged.{AreLogged, steps_of}
use Rattle.dp_lean_turn.specs.Adding.{IsOwnEvent, IsEventPut, Adds}
use Rattle.dp_lean_turn.proofs.Added.{puts_then, puts_event, weights_more, words_count, steps_more}

module _ (f : Frame) (m : Marks) (before : Columned) (old : Teller) (n : Note) (h : Held) (cell : ℕ) (value : ℤ) (event : Event)
    (is : IsOwnEvent f m before old n h cell value event) where
  abbrev p : Program
  p = f.program.now

  abbrev plan : Plan
  plan = f.plan.now

  -- ---- outside of blocks

  checked_is : n.checked ≡ is_checked p plan event.site
  checked_is = is.own.checked

  place_is : n.place ≡ event.site - first_site p plan
  place_is = is.own.at.place

  -- what is put is what the event's items put
  put_is : old.loads.wanting ≡ false → (k : Columned) →
      event_put n.checked n.kind n.place (map pair_load old.loads.entries) cell value k ≡ put_own p plan f.kinds.own.now (said_all (words_of p plan event)) k
  put_is there k = elim (cases_Bool n.checked) [
    | inl q ↦
        ap (λ (b : Bool). event_put b n.kind n.place (map pair_load old.loads.entries) cell value k) q
        ∙ ap (λ (ls : List Load). event_put true n.kind n.place ls cell value k) (is.noted there q)
        ∙ rest true ∙ sym (puts_event p plan f.kinds.own.now event k true (sym checked_is ∙ q))
    | inr q ↦
        ap (λ (b : Bool). event_put b n.kind n.place (map pair_load old.loads.entries) cell value k) q ∙ rest false
        ∙ sym (puts_event p plan f.kinds.own.now event k false (sym checked_is ∙ q))
  ]
    where
      rest : (b : Bool) → event_put b n.kind n.place event.loads cell value k
          ≡ event_put b (kind_at f.kinds.own.now (event.site - first_site p plan)) (event.site - first_site p plan) event.loads (cell_of event.effect)
          (value_of event.effect) k
      rest b =
          ap (λ kind. event_put b kind n.place event.loads cell value k) is.own.kind
          ∙ ap (λ (at : ℕ). event_put b (kind_at f.kinds.own.now at) at event.loads cell value k) place_is
          ∙ ap (λ (c : ℕ). event_put b (kind_at f.kinds.own.now (event.site - first_site p plan)) (event.site - first_site p plan) event.loads c
          value k) (sym is.cell)
          ∙ ap (λ (z : ℤ). event_put b (kind_at f.kinds.own.now (event.site - first_site p plan)) (event.site - first_site p plan) event.loads
          (cell_of event.effect) z k) (sym is.value)

  module _ (words : ℕ) (words_is : words ≡ (if n.checked then length old.loads.entries else 0)) where
    words_are : old.loads.wanting ≡ false → words + 1 ≡ length (words_of p plan event)
    words_are there = ap (λ (k : ℕ). k + 1) words_is ∙ elim (cases_Bool n.checked) [
      | inl q ↦
          ap (λ (b : Bool). (if b then length old.loads.entries else 0) + 1) q ∙ ap (λ (k : ℕ). k + 1) (sym (length-map old.loads.entries pair_load)
          ∙ ap length (is.noted there q))
          ∙ sym (words_count p plan f.kinds.own.now event true (sym checked_is ∙ q))
      | inr q ↦ ap (λ (b : Bool). (if b then length old.loads.entries else 0) + 1) q ∙ sym (words_count p plan f.kinds.own.now event false (sym checked_is ∙ q))
    ]

    module _ (none : h.block ≡ None) where
      no_steps : steps_of h.block ≡ 0
      no_steps = ap steps_of none

      fits_as : old.loads.wanting ≡ false → (b : Bool) → nat_le (old.used + (words + 1)) plan.words ≡ b →
          nat_le (weights h.own + length (words_of p plan event)) plan.words ≡ b
      fits_as there b e =
          let all : weights h.own + length (words_of p plan event) ≡ old.used + (words + 1) = omega (arith, is.tells.used, no_steps, words_are there) in
          ap (λ (k : ℕ). nat_le k plan.words) all ∙ e

      pub tells_none : (there : old.loads.wanting ≡ false) → nat_le (old.used + (words + 1)) plan.words ≡ false → (w : Teller) →
          Adds f m before h event w answer.Broken
      tells_none there e w below next = ap (made_with p plan m h below next event) none ∙ by (event_as_assumed p plan event)
        where
          by : (b : Bool) → (if b && nat_le (weights h.own + length (words_of p plan event)) plan.words then next_at p plan m next below
              (held_after p plan m h event.site event.effect (h.own ++ said_all (words_of p plan event)) None) else Ends BrokenOff) ≡ Ends BrokenOff
          by true = rw (fits_as there false e) refl
          by false = refl

      pub tells_event : (there : old.loads.wanting ≡ false) → event_as_assumed p plan event ≡ true → nat_le (old.used + (words + 1)) plan.words ≡ true →
          (mid new : Teller) → mid ≡ record old { used = old.used + (words + 1); steps = old.steps + 1 } →
          IsEventPut n cell value mid new → Adds f m before h event new answer.Goes
      tells_event there assumed fits mid new counted put_in = (
        h.own ++ said_all (words_of p plan event),
        None,
        record {
          columns = ap (λ (w : Teller). w.own) whole ∙ put_is there old.own
              ∙ ap (put_own p plan f.kinds.own.now (said_all (words_of p plan event))) is.tells.columns
              ∙ sym (puts_then (first_site p plan) _ (is_checked p plan) h.own (said_all (words_of p plan event)) before);
          used = ap (λ (w : Teller). w.used) whole ∙ omega (arith, is.tells.used, no_steps, words_are there, weights_more h.own (words_of p plan event));
          steps = ap (λ (w : Teller). w.steps) whole ∙ omega (arith, is.tells.steps, no_steps, steps_more p plan f.kinds.own.now event h.own);
          log = ap (λ (w : Teller). w.log.running) whole ∙ not_running;
          settled = is.tells.settled;
          hidden = is.tells.hidden;
        },
        λ below next. ap (made_with p plan m h below next event) none ∙ rw (assumed, fits_as there true fits) refl,
      )
        where
          whole : new ≡ record old {
            own = event_put n.checked n.kind n.place (map pair_load old.loads.entries) cell value old.own;
            used = old.used + (words
                + 1);
            steps = old.steps + 1;
          }
          whole = put_in ∙ ap (λ (w : Teller). record w { own = event_put n.checked n.kind n.place (map pair_load w.loads.entries) cell value w.own }) counted

          not_running : old.log.running ≡ false
          not_running = by h.block none is.tells.log
            where
              by : (o : Option Silent) → o ≡ None → AreLogged f m old.log o → old.log.running ≡ false
              by None e l = l
              by (Some b) e l = absurd (cc e)

  -- ---- in a block

  module _ (b : Silent) (some : h.block ≡ Some b) where
    in_block : AreLogged f m old.log (Some b)
    in_block = subst (AreLogged f m old.log) some is.tells.log

    steps_are : steps_of h.block ≡ b.count
    steps_are = ap steps_of some

    block_fits : (t : Bool) → nat_le (old.used + (0 + 1)) plan.words ≡ t → nat_le (weights h.own + (b.count + 1)) plan.words ≡ t
    block_fits t e =
        let all : weights h.own + (b.count + 1) ≡ old.used + (0 + 1) = omega (arith, is.tells.used, steps_are) in
        ap (λ (k : ℕ). nat_le k plan.words) all ∙ e

    pub block_none : nat_le (old.used + (0 + 1)) plan.words ≡ false → (w : Teller) → Adds f m before h event w answer.Broken
    block_none e w below next = ap (made_with p plan m h below next event) some ∙ rw (block_fits false e) refl

    -- one step more, with these net stores
    pub block_event : nat_le (old.used + (0 + 1)) plan.words ≡ true → (mid new : Teller) → mid ≡ record old { used = old.used + (0 + 1); steps = old.steps + 1 }
        → new ≡ record mid { log = record mid.log { stores = new.log.stores } } →
        map pair_store new.log.stores ≡ told_after (m.hides (stage_of p plan b.site)) b.told event.effect → Adds f m before h event new answer.Goes
    block_event fits mid new counted stays stores = (
      h.own,
      Some (one_more p plan m b event.effect),
      record {
        columns = ap (λ (w : Teller). w.own) whole ∙ is.tells.columns;
        used = ap (λ (w : Teller). w.used) whole ∙ omega (arith, is.tells.used, steps_are);
        steps = ap (λ (w : Teller). w.steps) whole ∙ omega (arith, is.tells.steps, steps_are);
        log = (
          ap (λ (w : Teller). w.log.running) whole ∙ in_block.0,
          record {
            stores = stores;
            place = ap (λ (w : Teller). w.log.place) whole ∙ in_block.1.place;
            hides = in_block.1.hides;
          },
        );
        settled = is.tells.settled;
        hidden = is.tells.hidden;
      },
      λ below next. ap (made_with p plan m h below next event) some ∙ rw (block_fits true fits) refl,
    )
      where
        whole : new ≡ record old { used = old.used + (0 + 1); steps = old.steps + 1; log = record old.log { stores = new.log.stores } }
        whole = stays ∙ ap (λ (w : Teller). record w { log = record w.log { stores = new.log.stores } }) counted
