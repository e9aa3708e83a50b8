-- An own block that is told.
use Rattle.dp_semantics.proofs.Names.{◌≡◌, refl, sym, ap, ◌∙◌, subst, arith, ℕ, ◌+◌, Bool, true, false, if◌then◌else◌}
use Rattle.dp_semantics.proofs.Names.{List, [], ◌∷◌, ◌++◌, map, Option, Some, None, slice_get, sum_by, sum_by-cons, ℤ, Word, Effect, first_site}
use Rattle.dp_semantics.proofs.Names.{is_checked}
use Rattle.std.proofs.lemmas.List.Sums.{sum_by-append}
use Rattle.dp_semantics.specs.Words.{is_load}
use Rattle.dp_net.specs.NetItems.{Marks, Item, Said, Net, weight}
use Rattle.dp_lean.specs.Queues.{DidBlock, steps_in}
use Rattle.dp_lean_code.specs.LeanHeld.{Silent, Flat}
use Rattle.dp_lean_code.specs.LeanMade.{finished}
use Rattle.dp_columns.specs.Columned.{Columned, with_told, block_ended, added_at, with_block_stores}
use Rattle.dp_columns.specs.Telling.{put_items, put_load_word, put_done_word, end_word}
use Rattle.dp_columns.specs.declared.ColumnKind.{ColumnKind}
use Rattle.dp_columns.specs.declared.ColumnKind.TheVariants.{Nothing}
use Rattle.dp_columns.proofs.Behind.{block_behind}
use Rattle.dp_columns.proofs.Places.{set_again, at_map}
use Rattle.dp_columns.specs.Paired.{pair_store}
use Rattle.dp_lean_turn.specs.declared.Answer.TheVariants as answer
use Rattle.dp_lean_turn.specs.declared.Frame.{Frame}
use Rattle.dp_lean_turn.specs.declared.Note.{Note}
use Rattle.dp_lean_turn.specs.declared.Teller.{Teller}
use Rattle.dp_lean_turn.specs.declared.Turn.{Turn}
use Rattle.dp_lean_turn.specs.Notes.{kind_at}
use Rattle.dp_lean_turn.specs.Told.{keeps_something, put_own}
use Rattle.dp_lean_turn.specs.Standing.{IsSettled, TellsOwn, Stands}
use Rattle.dp_lean_turn.specs.Adding.{IsBlockPut}
use Rattle.dp_lean_turn.specs.Doing.{Does}
use Rattle.dp_lean_turn.proofs.Puts.{kind_found}
use Rattle.dp_lean_turn.proofs.Added.{puts_then}

-- ---- the stores of a block

-- a block is told whole where none waited for its end
pub block_whole : (k : Columned) (kind : ColumnKind) (place : ℕ) (ss : List Effect) → IsSettled k → slice_get k.kinds place ≡ Some kind →
    block_ended place (with_block_stores place ss k) ≡ with_told place (DidBlock ss) k
block_whole k kind place ss settled there =
    let none : slice_get k.stores place ≡ Some [] = ap (λ qs. slice_get qs place) settled
    ∙ at_map {A = ColumnKind} {B = List Effect} (λ _. []) k.kinds place kind there in
    block_behind place ss k [] none ∙ (λ i. record k { told = added_at place (DidBlock ss) k.told; stores = set_again k.stores place [] none i })

-- ---- what items leave as it is

record Stays (old new : Columned) : Type 0 where
  kinds : new.kinds ≡ old.kinds
  stores : new.stores ≡ old.stores

module _ (first : ℕ) (is_kept is_compared : ℕ → Bool) where
  when_stays : (b : Bool) (yes_k k : Columned) → Stays k yes_k → Stays k (if b then yes_k else k)
  when_stays true yes_k k s = s
  when_stays false yes_k k s = record { kinds = refl; stores = refl }

  then_stays : (a b c : Columned) → Stays a b → Stays b c → Stays a c
  then_stays a b c s t = record { kinds = t.kinds ∙ s.kinds; stores = t.stores ∙ s.stores }

  word_stays : (b : Bool) (w : Word) (k : Columned) → Stays k (if b then put_load_word first is_kept is_compared w k else end_word first is_kept is_compared w
      (put_done_word first is_kept is_compared w k))
  word_stays true w k = when_stays (is_compared w.site.0) _ k (record { kinds = refl; stores = refl })
  word_stays false w k =
      then_stays k (put_done_word first is_kept is_compared w k) _ (when_stays (is_kept w.site.0) _ k (record { kinds = refl; stores = refl }))
      (when_stays (is_compared w.site.0) _ (put_done_word first is_kept is_compared w k) (record { kinds = refl; stores = refl }))

  items_stay : (items : List Item) (k : Columned) → Stays k (put_items first is_kept is_compared items k)
  items_stay [] k = record { kinds = refl; stores = refl }
  items_stay (Said w ∷ rest) k = then_stays k _ _ (word_stays (is_load w.kind) w k) (items_stay rest _)
  items_stay (Net f count stores ∷ rest) k = then_stays k _ _ (when_stays (is_kept f) _ k (record { kinds = refl; stores = refl })) (items_stay rest _)

-- ---- the finish of a block

module _ (f : Frame) (m : Marks) (before : Columned) (old : Teller) (own : List Item) (b : Silent) (tells : TellsOwn f m before old own (Some b))
    (kind : ColumnKind) (is_kind : kind ≡ kind_at old.own.kinds old.log.place) where
  abbrev items : List Item
  items = Net b.site b.count b.told ∷ []

  settled : IsSettled old.own
  settled =
      let stays = items_stay (first_site f.program.now f.plan.now) _ (is_checked f.program.now f.plan.now) own before in
      let all = subst (Stays before) (sym tells.columns) stays in
      all.stores ∙ tells.settled ∙ ap (λ (kinds : List ColumnKind). map {A = ColumnKind} {B = List Effect} (λ _. []) kinds) (sym all.kinds)

  kept_is : (t : Bool) → keeps_something kind ≡ t →
      (if t then block_ended old.log.place (with_block_stores old.log.place (map pair_store old.log.stores) old.own) else old.own)
      ≡ (if t then with_told old.log.place (DidBlock b.told) old.own else old.own)
  kept_is true e =
      let some : Nothing ≡ kind → ⊥ = λ same. let clash : false ≡ true = ap keeps_something same ∙ e in cc clash in
      block_whole old.own kind old.log.place (map pair_store old.log.stores) settled (kind_found kind some old.own.kinds old.log.place (sym is_kind))
      ∙ ap (λ ss. with_told old.log.place (DidBlock ss) old.own) tells.log.1.stores
  kept_is false e = refl

  -- what is put is what the block's item puts
  pub item_put : kind ≡ kind_at f.kinds.own.now old.log.place → (w : Teller) → IsBlockPut kind old w → w.own ≡ put_own f.program.now f.plan.now f.kinds.own.now
      (own ++ items) before
  item_put own_kind w put =
      ap (λ (x : Teller). x.own) put ∙ kept_is (keeps_something kind) refl
      ∙ ap (λ k. if keeps_something k then with_told old.log.place (DidBlock b.told) old.own else old.own) own_kind
      ∙ ap (λ (at : ℕ). if keeps_something (kind_at f.kinds.own.now at) then with_told at (DidBlock b.told) old.own else old.own) tells.log.1.place
      ∙ ap (put_own f.program.now f.plan.now f.kinds.own.now items) tells.columns
      ∙ sym (puts_then (first_site f.program.now f.plan.now) _ (is_checked f.program.now f.plan.now) own items before)

-- the op that finishes it
module _ {M : Type 0} (cells : M → List ℤ) (f : Frame) (m : Marks) (before : Columned) (t : Turn M) (c : Flat) (stands : Stands f m before cells t c) (n : Note)
    (runs : t.teller.log.running ≡ true)
    (kind_is : n.kind ≡ kind_at t.teller.own.kinds t.teller.log.place) (own_kind : n.kind ≡ kind_at f.kinds.own.now t.teller.log.place) (w : Teller)
    (put : IsBlockPut n.kind t.teller w) (next : ℕ) (behind : next ≡ t.place + 1) where
  by_block : (o : Option Silent) → TellsOwn f m before t.teller c.held.own o → Does f m before cells (finished f.program.now f.plan.now m c o)
      (record t { teller = w; place = next }) answer.Goes
  by_block None tells = let clash : false ≡ true = sym tells.log ∙ runs in absurd (cc clash)
  by_block (Some b) tells = (
    _,
    refl,
    record {
      place = ap (λ (k : ℕ). k + 1) stands.place ∙ sym behind;
      stack = stands.stack;
      loads = stands.loads;
      held = record {
        memory = stands.held.memory;
        queues = stands.held.queues;
        closing = stands.held.closing;
        own = record {
          columns = item_put f m before t.teller c.held.own b tells n.kind kind_is own_kind w put;
          used =
              let all = sum_by-append weight c.held.own (Net b.site b.count b.told ∷ []) in
              ap (λ (x : Teller). x.used) put ∙ omega (arith, tells.used, all, one_weight b);
          steps =
              let all = sum_by-append steps_in c.held.own (Net b.site b.count b.told ∷ []) in
              ap (λ (x : Teller). x.steps) put ∙ omega (arith, tells.steps, all, one_step b);
          log = ap (λ (x : Teller). x.log.running) put;
          settled = tells.settled;
          hidden = tells.hidden;
        };
      };
    },
  )
    where
      one_weight : (b : Silent) → sum_by weight (Net b.site b.count b.told ∷ []) ≡ b.count
      one_weight b = omega (arith, sum_by-cons weight (Net b.site b.count b.told) [])

      one_step : (b : Silent) → sum_by steps_in (Net b.site b.count b.told ∷ []) ≡ b.count
      one_step b = omega (arith, sum_by-cons steps_in (Net b.site b.count b.told) [])

  pub finishes : Does f m before cells (finished f.program.now f.plan.now m c c.held.block) (record t { teller = w; place = next }) answer.Goes
  finishes = by_block c.held.block stands.held.own
