-- All iterations of a batch at a stage.
use Rattle.dp_semantics.proofs.Names.{◌≡◌, inl, inr, append-nil, sym, ap, ◌∙◌, subst, arith, ℕ, suc, ◌+◌, ◌<◌, ◌≤◌, ◌⊎◌, cases_lt, true, List, [], ◌++◌, ℤ}
use Rattle.dp_semantics.proofs.Names.{length, map, get_or_past, append_assoc, slice_get, Some}
use Rattle.dp_columns.specs.declared.ColumnKind.{ColumnKind}
use Rattle.dp_columns.specs.declared.ColumnKind.TheVariants.{Nothing}
use Rattle.dp_columns.specs.Columned.{Columned}
use Rattle.dp_lean_turn.specs.declared.Turn.{Turn}
use Rattle.dp_lean_turn.specs.declared.Frame.{Frame}
use Rattle.dp_lean_turn.specs.declared.Ready.{Ready}
use Rattle.dp_lean_turn.specs.Notes.{kind_at}
use Rattle.dp_lean_turn.specs.Told.{keeps_something, GrownLists}
use Rattle.dp_lean_turn.specs.Left.{all_kinds}
use Rattle.dp_lean_turn.specs.Standing.{Keeps}
use Rattle.dp_lean_turn.specs.Ending.{CanTurn}
use Rattle.dp_net.specs.NetPackets.{NetStatus}
use Rattle.dp_tree.specs.Numbering.{numbers_from}
use Rattle.dp_lean_epoch.specs.Own.{own_steps}
use Rattle.dp_lean_epoch.specs.Coming.{LeanStands}
use Rattle.dp_lean_epoch.specs.Holding.{column_place, HoldsTold, StageColumns, columns_filled}
use Rattle.dp_lean_epoch.specs.LeanBatch.{Stood}
use Rattle.dp_lean_epoch.specs.Laws.{ColumnsFill}
use Rattle.dp_lean_epoch.specs.Steps.{keeps_memory}
use Rattle.dp_lean_region.specs.LeanEpoch.{LeanEpoch, epoch_marks, begin_in, size_in}
use Rattle.dp_lean_machine.specs.Sent.{AsStatus, Unless}
use Rattle.dp_lean_machine.specs.Within.{own_kinds, kept_own, Within, IsHeld, IsRan, IsCame}
use Rattle.dp_lean_machine.specs.declared.turning.Ran.{Ran}
use Rattle.dp_lean_machine.specs.declared.batch.BatchStatus.{BatchStatus}
use Rattle.dp_lean_machine.specs.declared.batch.BatchStatus.TheVariants as status
use Rattle.dp_lean_machine.proofs.Statuses.{alike}

-- a kept site has a place
kept_place : (kinds : List ColumnKind) (place : ℕ) → keeps_something (kind_at kinds place) ≡ true → place < length kinds
kept_place kinds place kept = by (cases_lt place (length kinds))
  where
    by : (place < length kinds) ⊎ (length kinds ≤ place) → place < length kinds
    by (inl low) = low
    by (inr high) = absurd (cc (sym (ap keeps_something (get_or_past kinds place Nothing high)) ∙ kept))

-- the own columns fill as the law says
pub own_fill : (e : LeanEpoch) (s b : ℕ) (came : Stood) → IsCame e s b came → ColumnsFill (epoch_marks e) e.key (kept_own e s b) (own_kinds e s b)
own_fill e s b came is =
    is.epoch.laws.fill (kept_own e s b) (own_kinds e s b) (λ y kept. kept_place (own_kinds e s b) (column_place e.key y) kept, is.epoch.places s is.within)

grown_lists : {X : Type 0} (a b c : List (List X)) → GrownLists a b → GrownLists b c → GrownLists a c
grown_lists a b c first then_on place queue is =
    let f = first place queue is in
    let g = then_on place (queue ++ f.0) f.1 in
    (f.0 ++ g.0, g.1 ∙ ap Some (append_assoc queue f.0 g.0))

pub keeps_same : {M : Type 0} (t u : Turn M) → u.readers ≡ t.readers → u.teller.own ≡ t.teller.own → Keeps t u
keeps_same t u readers own = record {
  own = record {
    kinds = ap (λ (c : Columned). c.kinds) own;
    told = λ place queue is. ([], ap (λ (c : Columned). slice_get c.told place) own ∙ is ∙ ap Some (sym (append-nil queue)));
    loads = λ place queue is. ([], ap (λ (c : Columned). slice_get c.loads place) own ∙ is ∙ ap Some (sym (append-nil queue)));
  };
  read = ap all_kinds readers;
}

pub keeps_on : {M : Type 0} (t u v : Turn M) → Keeps t u → Keeps u v → Keeps t v
keeps_on t u v a b = record {
  own = record {
    kinds = b.own.kinds ∙ a.own.kinds;
    told = grown_lists t.teller.own.told u.teller.own.told v.teller.own.told a.own.told b.own.told;
    loads = grown_lists t.teller.own.loads u.teller.own.loads v.teller.own.loads a.own.loads b.own.loads;
  };
  read = b.read ∙ a.read;
}

-- the turn can be run again
pub can_still : {M : Type 0} (f : Frame) (r : Ready) (t u : Turn M) → CanTurn f r t → Keeps t u → CanTurn f r u
can_still f r t u can kept = record {
  first = can.first;
  ready = can.ready;
  kinds = record { own = kept.own.kinds ∙ can.kinds.own; read = kept.read ∙ can.kinds.read };
}

-- all iterations that came were run, and none stopped
pub all_ran : {M : Type 0} (cells : M → List ℤ) (e : LeanEpoch) (s b : ℕ) (came : Ran) (ends : NetStatus) → AsStatus came.status ends →
    IsCame e s b (record { iterations = came.iterations; ends = ends }) → (t : Turn M) (counts : List ℕ) →
    Within e s b cells came.iterations came.iterations t counts →
    IsRan e s b cells t counts came
all_ran cells e s b came ends like is t counts at = (by came.status like, onward)
  where
    stood : NetStatus → Stood
    stood x = record { iterations = came.iterations; ends = x }

    fill : ColumnsFill (epoch_marks e) e.key (kept_own e s b) (own_kinds e s b)
    fill = own_fill e s b (stood ends) is

    ended : IsHeld e s b t.teller.own counts (stood ends)
    ended = record {
      stands = alike (epoch_marks e) e.key s (begin_in e b) (size_in e b) (stood ends) is.stands is.epoch.laws.voids at.same;
      holds = subst (HoldsTold (epoch_marks e) e.key (kept_own e s b) (suc s) (begin_in e b) came.iterations)
          all (fill.holds (suc s) (begin_in e b) came.iterations (omega arith));
    }
      where
        held : Columned → List ℕ → StageColumns
        held columns steps = record { columns = columns; steps = steps }

        told : List ℕ
        told = map (own_steps (epoch_marks e) e.key (suc s)) (numbers_from (begin_in e b) came.iterations)

        all : held (columns_filled (epoch_marks e) e.key (kept_own e s b) (own_kinds e s b) (suc s) (begin_in e b) came.iterations) told
            ≡ held t.teller.own counts
        all = ap (λ (c : Columned). held c told) (sym at.own) ∙ ap (held t.teller.own) (sym at.counts)

    by : (x : BatchStatus) → AsStatus x ends → Unless x (λ (o : NetStatus). IsHeld e s b t.teller.own counts (stood o))
    by status.Going q = subst (λ (o : NetStatus). IsHeld e s b t.teller.own counts (stood o)) q ended
    by status.Closing q = subst (λ (o : NetStatus). IsHeld e s b t.teller.own counts (stood o)) q ended
    by status.Void q = subst (λ (o : NetStatus). IsHeld e s b t.teller.own counts (stood o)) q ended
    by status.NoMemory q = tt

    onward : came.status ≡ status.Going → keeps_memory e.key.program e.key.plan (suc s) ≡ true →
        LeanStands (epoch_marks e) e.key (suc s) (begin_in e b + size_in e b) (cells t.memory)
    onward goes kept =
        subst (λ (i : ℕ). LeanStands (epoch_marks e) e.key (suc s) (begin_in e b + i) (cells t.memory))
        (is.stands.whole (subst (λ (x : BatchStatus). AsStatus x ends) goes like)) (at.memory (inl kept))
