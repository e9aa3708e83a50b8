-- What a stage sends of a batch, by what came.
use Rattle.dp_semantics.proofs.Names.{◌≡◌, sym, ap, ◌∙◌, subst, arith, ℕ, suc, ◌-◌, ◌<◌, ◌≤◌, true, List, [], ◌∷◌, ◌++◌, ℤ, length, map, map-append, take}
use Rattle.dp_semantics.proofs.Names.{Option, get_or, slice_set, stage_of, is_replicated}
use Rattle.dp_net.specs.NetPackets.{NetStatus, NetGoing, NetClosing, NetVoid}
use Rattle.dp_lean.specs.Queues.{Told}
use Rattle.dp_lean_turn.specs.Notes.{kinds_of, kind_at}
use Rattle.dp_lean_turn.specs.Told.{keeps_something}
use Rattle.dp_lean_turn.specs.Left.{AreLeft}
use Rattle.dp_lean_epoch.specs.Holding as holding
use Rattle.dp_lean_epoch.specs.Holding.{column_place, HoldsTold}
use Rattle.dp_lean_epoch.specs.LeanBatch.{Stood, LeanItem, IsLeanBatch, IsVersion, no_columns, queue_among, stood_in}
use Rattle.dp_lean_epoch.specs.LeanBatch as batch
use Rattle.dp_lean_epoch.specs.Coming.{LeanStands}
use Rattle.dp_lean_epoch.specs.Steps.{keeps_memory}
use Rattle.dp_lean_region.specs.LeanEpoch.{LeanEpoch, IsLeanEpoch, epoch_marks, kept_in, begin_in, size_in}
use Rattle.dp_lean_machine.specs.Held.{held_in}
use Rattle.dp_lean_region.specs.Line.{IsLineOf}
use Rattle.dp_lean_machine.specs.Sent.{Unless, AsStatus, item_sent, IsSent}
use Rattle.dp_lean_machine.specs.Within.{kept_own, read_of, IsHeld, IsCame, ComesWithColumns, IsDone}
use Rattle.dp_lean_machine.specs.declared.batch.BatchStatus.{BatchStatus}
use Rattle.dp_lean_machine.specs.declared.batch.BatchStatus.TheVariants as status
use Rattle.dp_lean_machine.specs.declared.batch.StageColumns.{StageColumns}
use Rattle.dp_lean_machine.specs.declared.batch.LeanBatch.{LeanBatch}
use Rattle.dp_lean_machine.specs.declared.turning.Ran.{Ran}
use Rattle.dp_lean_machine.proofs.Exchanged.{read_all, take_put}

module _ (e : LeanEpoch) (is : IsLeanEpoch e) (s b : ℕ) (within : suc s ≤ length e.key.plan.stages) where
  -- the same, of the columns of all stages
  kept_as : (y : ℕ) → stage_of e.key.program e.key.plan y ≡ suc s → (kept_in e).told y ≡ (kept_own e s b).told y
  kept_as y here = ap (λ (t : ℕ). keeps_something (kind_at (kinds_of e.kinds t) (column_place e.key y))) here

  holds_in : (k j : ℕ) (c : holding.StageColumns) → HoldsTold (epoch_marks e) e.key (kept_own e s b) (suc s) k j c →
      HoldsTold (epoch_marks e) e.key (kept_in e) (suc s) k j c
  holds_in k j c h = record {
    told = λ y here kept. h.told y here (sym (kept_as y here) ∙ kept);
    loads = λ y here kept. h.loads y here kept;
    steps = h.steps;
  }

  abbrev item : List StageColumns → Stood → Option (List ℤ) → LeanItem
  item stages stood version = record { stages = map held_in stages; stood = stood; version = version }

  module _ (earlier : List StageColumns) (stood : Stood) (version : Option (List ℤ))
      (came : IsLeanBatch (epoch_marks e) e.key (kept_in e) e.cap s b (item earlier stood version)) where
    pub comes_so : IsCame e s b stood
    comes_so = record {
      epoch = is;
      within = within;
      stands = subst (batch.IterationsStand (epoch_marks e) e.key s (begin_in e b) (size_in e b)) (sym came.stood) (is.laws.stand s b).each;
    }

    pub comes_with : ComesWithColumns e s b stood.iterations earlier
    comes_with =
        let q = is.laws.come is.enough e.cap s b (item earlier stood version) came in
        record {
          queues = queue_among e.key (map held_in earlier);
          more = q.told.0;
          left = left;
          coming = q.told.1;
        }
      where
        left : AreLeft e.key.program e.key.plan (map read_of earlier) (queue_among e.key (map held_in earlier))
        left y t reader here found =
            let place : stage_of e.key.program e.key.plan y - 1 ≡ t = omega (arith, here) in
            ap (λ (u : ℕ). get_or (get_or (map held_in earlier) u no_columns).columns.told (column_place e.key y) []) place
            ∙ ap (λ (told : List (List Told)). get_or told (column_place e.key y) []) (read_all earlier t reader found)

    -- with the stage's columns behind them
    pub sent_with : (own : StageColumns) (x : Stood) (along : Option (List ℤ)) → IsHeld e s b own.columns own.steps x →
        (is_replicated e.key.plan (suc (suc s)) ≡ true → IsVersion (epoch_marks e) e.key (suc (suc s)) (begin_in e b) along) → (stages : List StageColumns) →
        stages ≡ earlier ++ own ∷ [] → IsLeanBatch (epoch_marks e) e.key (kept_in e) e.cap (suc s) b (item stages x along)
    sent_with own x along ended version_is stages same =
        subst (λ (cs : List holding.StageColumns). IsLeanBatch (epoch_marks e) e.key (kept_in e) e.cap (suc s) b
        (record { stages = cs; stood = x; version = along }))
        (sym (ap (map held_in) same ∙ map-append held_in earlier (own ∷ [])))
        (is.laws.extend e.cap s b (item earlier stood version) came (held_in own) x along ended.stands
        (holds_in (begin_in e b) x.iterations (held_in own) ended.holds) version_is)

-- A batch that came, and what is sent of it.
module _ (e : LeanEpoch) (is : IsLeanEpoch e) (s b : ℕ) (within : suc s ≤ length e.key.plan.stages) (came : LeanBatch) (taken : Option (List ℤ))
    (sent : IsSent e s b (record came { version = taken })) where
  -- how its last iteration stands
  pub stands_so : (x : BatchStatus) →
      Unless x (λ (ends : NetStatus). IsLeanBatch (epoch_marks e) e.key (kept_in e) e.cap s b (item_sent s ends (record came { version = taken }))) →
      (ends : NetStatus) → AsStatus x ends → IsLeanBatch (epoch_marks e) e.key (kept_in e) e.cap s b (item_sent s ends (record came { version = taken }))
  stands_so status.Going u ends q =
      subst (λ (o : NetStatus). IsLeanBatch (epoch_marks e) e.key (kept_in e) e.cap s b (item_sent s o (record came { version = taken }))) (sym q) u
  stands_so status.Closing u ends q =
      subst (λ (o : NetStatus). IsLeanBatch (epoch_marks e) e.key (kept_in e) e.cap s b (item_sent s o (record came { version = taken }))) (sym q) u
  stands_so status.Void u ends q =
      subst (λ (o : NetStatus). IsLeanBatch (epoch_marks e) e.key (kept_in e) e.cap s b (item_sent s o (record came { version = taken }))) (sym q) u
  stands_so status.NoMemory u ends q = absurd q

  -- what is sent, by what came of the iterations
  pub passes_on : {M : Type 0} (cells : M → List ℤ) (ends : NetStatus) → AsStatus came.status ends →
      (h own : StageColumns) (out : LeanBatch) (after : M) (ran : Ran) →
      s < length came.stages → out.line ≡ came.line → out.first ≡ came.first → out.stages ≡ slice_set (slice_set came.stages s h) s own →
      out.iterations ≡ ran.iterations → out.status ≡ ran.status →
      (is_replicated e.key.plan (suc (suc s)) ≡ true → IsVersion (epoch_marks e) e.key (suc (suc s)) (begin_in e b) out.version) →
      IsDone e s b cells ran own after →
      IsSent e (suc s) b out
      × (out.status ≡ status.Going → keeps_memory e.key.program e.key.plan (suc s) ≡ true →
      LeanStands (epoch_marks e) e.key (suc s) (begin_in e (suc b)) (cells after))
  passes_on cells ends like h own out after ran low line first stages many how version_is done = (
    record {
      line = subst (IsLineOf e) (sym line) sent.line;
      first = first ∙ sent.first;
      item = by ran.status out.status how done.0;
    },
    λ goes kept. done.1 (sym how ∙ goes) kept,
  )
    where
      came_item : IsLeanBatch (epoch_marks e) e.key (kept_in e) e.cap s b (item_sent s ends (record came { version = taken }))
      came_item = stands_so came.status sent.item ends like

      put_in : out.stages ≡ slice_set (slice_set came.stages s h) s own → take (suc s) out.stages ≡ take s came.stages ++ own ∷ []
      put_in q = ap (take (suc s)) q ∙ take_put came.stages s h own low

      item_is : (o : NetStatus) → IsHeld e s b own.columns own.steps (record { iterations = ran.iterations; ends = o }) →
          IsLeanBatch (epoch_marks e) e.key (kept_in e) e.cap (suc s) b (item_sent (suc s) o out)
      item_is o ended = subst (λ (i : ℕ). IsLeanBatch (epoch_marks e) e.key (kept_in e) e.cap (suc s) b
          (record { stages = map held_in (take (suc s) out.stages); stood = record { iterations = i; ends = o }; version = out.version })) (sym many)
          (sent_with e is s b within (take s came.stages) (record { iterations = came.iterations; ends = ends }) taken came_item own
          (record { iterations = ran.iterations; ends = o }) out.version ended version_is
          (take (suc s) out.stages) (put_in stages))

      by : (x y : BatchStatus) → y ≡ x → Unless x (λ (o : NetStatus). IsHeld e s b own.columns own.steps (record { iterations = ran.iterations; ends = o })) →
          Unless y (λ (o : NetStatus). IsLeanBatch (epoch_marks e) e.key (kept_in e) e.cap (suc s) b (item_sent (suc s) o out))
      by x y q u = subst (λ (z : BatchStatus). Unless z (λ (o : NetStatus). IsLeanBatch (epoch_marks e) e.key (kept_in e) e.cap (suc s) b
          (item_sent (suc s) o out))) (sym q) (each x u)
        where
          each : (x : BatchStatus) → Unless x (λ (o : NetStatus). IsHeld e s b own.columns own.steps (record { iterations = ran.iterations; ends = o })) →
              Unless x (λ (o : NetStatus). IsLeanBatch (epoch_marks e) e.key (kept_in e) e.cap (suc s) b (item_sent (suc s) o out))
          each status.Going u = item_is NetGoing u
          each status.Closing u = item_is NetClosing u
          each status.Void u = item_is NetVoid u
          each status.NoMemory u = tt
