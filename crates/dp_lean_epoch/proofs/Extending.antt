-- A batch from stage to stage.
use Rattle.dp_semantics.proofs.Names.{◌≡◌, ◌⊎◌, inl, inr, refl, sym, ap, ◌∙◌, subst, arith, cases_lt, ℕ, zero, suc, ◌+◌, ◌<◌, ◌≤◌, true, false, not}
use Rattle.dp_semantics.proofs.Names.{if◌then◌else◌, List, [], ◌∷◌, ◌++◌, ℤ, length, length-append, map, slice_get, Option, Some}
use Rattle.dp_tree.specs.Numbering.{numbers_from}
use Rattle.dp_semantics.specs.EpochKey.{EpochKey, epoch_of}
use Rattle.dp_semantics.proofs.Setting.{Accepted}
use Rattle.dp_net.specs.NetItems.{Marks}
use Rattle.dp_net.specs.NetPackets.{NetStatus, NetGoing, NetClosing, NetVoid}
use Rattle.dp_net.specs.Batches.{batch_begin, batch_size, batch_at, ends_batch, is_onward}
use Rattle.dp_net.specs.Follows.{is_void}
use Rattle.dp_net.proofs.NetSent.{ends_stay}
use Rattle.dp_columns.specs.declared.ColumnKind.{ColumnKind}
use Rattle.dp_lean_epoch.specs.Own.{at_stage, own_steps}
use Rattle.dp_lean_epoch.specs.Holding.{Kept, StageColumns, HoldsTold, HavePlaces, columns_filled}
use Rattle.dp_lean_epoch.specs.LeanBatch.{Stood, stood_in, LeanItem, IsLeanBatch, IterationsStand}
use Rattle.dp_lean_epoch.specs.Laws.{FreshBatch, BatchesExtend, BatchesAre, with_columns, fresh_item}
use Rattle.dp_lean_epoch.proofs.Arriving.{came_alive}
use Rattle.dp_lean_epoch.proofs.Standing.{alive_at, batch_stands}
use Rattle.dp_lean_epoch.proofs.Filling.{holds_front, columns_fill}

module _ (m : Marks) (key : EpochKey) where
  -- what goes on came so
  came_going : (s n : ℕ) → (at_stage m key (suc s) n).packet.status ≡ NetGoing → (at_stage m key s n).packet.status ≡ NetGoing
  came_going s n e = by (at_stage m key s n).packet.status refl
    where
      off : ends_batch (at_stage m key s n).packet ≡ true → (at_stage m key s n).packet.status ≡ NetGoing
      off q =
          let still = ends_stay m (epoch_of key) s n q in
          let clash : false ≡ true = sym (ap (λ (status : NetStatus). not (is_onward status)) e) ∙ still in absurd (cc clash)

      by : (status : NetStatus) → (at_stage m key s n).packet.status ≡ status → (at_stage m key s n).packet.status ≡ NetGoing
      by NetGoing is = is
      by NetClosing is = off (ap (λ (status : NetStatus). not (is_onward status)) is)
      by NetVoid is = off (ap (λ (status : NetStatus). not (is_onward status)) is)

  -- A later stage's batch has no more iterations that came to their end.
  pub no_more : (s k r : ℕ) (x y : Stood) → IterationsStand m key s k r x → IterationsStand m key (suc s) k r y → y.iterations ≤ x.iterations
  no_more s k r x y sx sy = elim (cases_lt x.iterations y.iterations) [ inl past ↦ absurd (by x.ends refl past) | inr within ↦ within ]
    where
      by : (e : NetStatus) → x.ends ≡ e → x.iterations < y.iterations → ⊥
      by NetGoing e past = let all = sx.whole e in let within = sy.within in absurd (omega (arith, all, within, past))
      by NetVoid e past =
          let v = sx.void e in
          let alive = came_alive m key s (k + x.iterations) (alive_at m key (suc s) k r y sy x.iterations past) in
          let clash : true ≡ false = sym (ap is_void v.1) ∙ alive in absurd (cc clash)
      by NetClosing e past = closing x.iterations refl (sx.closing e)
        where
          closing : (n : ℕ) → x.iterations ≡ n → 0 < x.iterations → ⊥
          closing zero is some = absurd (omega (arith, is, some))
          closing (suc i) is some =
              let here = sx.at_end i (sym is) in
              let there = came_going s (k + i) (sy.going i (omega (arith, is, past))) in
              let clash : NetGoing ≡ NetClosing = sym there ∙ here ∙ ap (λ (f : NetStatus). if is_void f then NetGoing else f) e in absurd (cc clash)

found_in : {X : Type 0} (xs : List X) (y : X) (t : ℕ) (x : X) → slice_get (xs ++ y ∷ []) t ≡ Some x → (slice_get xs t ≡ Some x) ⊎ ((t ≡ length xs) × (y ≡ x))
found_in [] y zero x e = inr (refl, cc e)
found_in [] y (suc t) x e = absurd (cc e)
found_in (z ∷ xs) y zero x e = inl e
found_in (z ∷ xs) y (suc t) x e = elim (found_in xs y t x e) [ inl f ↦ inl f | inr f ↦ inr (ap suc f.0, f.1) ]

module _ (m : Marks) (key : EpochKey) (kept : Kept) where
  open key use {program, plan}

  pub fresh_batch : Accepted program plan → FreshBatch m key kept
  fresh_batch ok cap b =
      let stands = batch_stands m key cap 0 b in
      record {
        size = refl;
        stood = stands.only (record { iterations = batch_size key cap b; ends = NetGoing }) (record {
          within = omega arith;
          going = λ i low. refl;
          at_end = λ i same. refl;
          whole = λ q. refl;
          closing = λ q. let clash : NetGoing ≡ NetClosing = q in absurd (cc clash);
          void = λ q. let clash : NetGoing ≡ NetVoid = q in absurd (cc clash);
        });
        holds = λ t c at. none t c at;
        version = λ workers. let clash : true ≡ false = sym workers ∙ ok.sequential in absurd (cc clash);
      }
    where
      none : {T : Type 0} (t : ℕ) (c : StageColumns) → slice_get [] t ≡ Some c → T
      none t c at = absurd (cc at)

  pub batches_extend : BatchesExtend m key kept
  batches_extend cap s b item is c x version stands holds begun = record {
    size = let size = is.size in let more = length-append item.stages (c ∷ []) in omega (arith, size, more);
    stood = (batch_stands m key cap (suc s) b).only x stands;
    holds = λ t d at. by t d (found_in item.stages c t d at);
    version = begun;
  }
    where
      came : IterationsStand m key s (batch_begin key cap b) (batch_size key cap b) item.stood
      came = subst (IterationsStand m key s (batch_begin key cap b) (batch_size key cap b)) (sym is.stood) (batch_stands m key cap s b).each

      by : (t : ℕ) (d : StageColumns) → (slice_get item.stages t ≡ Some d) ⊎ ((t ≡ length item.stages) × (c ≡ d)) →
          HoldsTold m key kept (suc t) (batch_begin key cap b) x.iterations d
      by t d (inl at) = holds_front m key kept (suc t) (batch_begin key cap b) x.iterations item.stood.iterations
          (no_more m key s (batch_begin key cap b) (batch_size key cap b) item.stood x came stands) d (is.holds t d at)
      by t d (inr at) = subst (λ (u : ℕ). HoldsTold m key kept (suc u) (batch_begin key cap b) x.iterations d) (sym (at.0 ∙ is.size))
          (subst (HoldsTold m key kept (suc s) (batch_begin key cap b) x.iterations) at.1 holds)

  -- what a stage sends by the definition
  batch_next : (kinds : List ColumnKind) → HavePlaces m key kept kinds → (cap s b : ℕ) (item : LeanItem) → IsLeanBatch m key kept cap s b item →
      (next : LeanItem) × IsLeanBatch m key kept cap (suc s) b next
  batch_next kinds places cap s b item is =
      let stands = batch_stands m key cap (suc s) b in
      let fill = columns_fill m key kept kinds places in
      let x : Stood = stood_in (batch_at m key cap (suc s) b) in
      let c : StageColumns = record {
        columns = columns_filled m key kept kinds (suc s) (batch_begin key cap b) x.iterations;
        steps = map (own_steps m key (suc s)) (numbers_from (batch_begin key cap b) x.iterations);
      } in
      let version : Option (List ℤ) = Some (at_stage m key (suc (suc s)) (batch_begin key cap b)).before in (
        with_columns item c x version,
        batches_extend cap s b item is c x version stands.each (fill.holds (suc s) (batch_begin key cap b) x.iterations (omega arith))
            (λ workers. record { size = refl; same = λ y cell wants inside. refl }),
      )

  pub batches_are : Accepted program plan → (kinds : List ColumnKind) → BatchesAre m key kept kinds
  batches_are ok kinds places cap zero b = (fresh_item (batch_size key cap b), fresh_batch ok cap b)
  batches_are ok kinds places cap (suc s) b = let came = batches_are ok kinds places cap s b in batch_next kinds places cap s b came.0 came.1
