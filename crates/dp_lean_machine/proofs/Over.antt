-- Where a stage begins a batch.
use Rattle.dp_semantics.proofs.Names.{◌≡◌, refl, sym, ap, ◌∙◌, subst, arith, ℕ, suc, ◌+◌, ◌-◌, List, [], ◌∷◌, ℤ, map, take, Some, slice_get, slice_set, get_or}
use Rattle.dp_columns.specs.declared.ColumnKind.{ColumnKind}
use Rattle.dp_columns.specs.Columned.{Columned, nothing_kept}
use Rattle.dp_columns.specs.Left.{Left}
use Rattle.dp_lean_turn.specs.declared.Turn.{Turn}
use Rattle.dp_lean_turn.specs.Ending.{CanTurn}
use Rattle.dp_lean_turn.specs.Left.{AreLeft, all_kinds}
use Rattle.dp_lean_epoch.specs.Coming.{QueuesBring, LeanStands}
use Rattle.dp_lean_region.specs.LeanEpoch.{LeanEpoch, epoch_marks, begin_in}
use Rattle.dp_lean_region.specs.Line.{RunsIn}
use Rattle.dp_lean_machine.specs.Held.{kinds_in}
use Rattle.dp_lean_region.specs.Ready.{CanRead, IsStageReady}
use Rattle.dp_lean_machine.specs.Within.{read_of, Within, ComesWithColumns, IsDone, IsRan}
use Rattle.dp_lean_machine.specs.declared.turning.Ran.{Ran}
use Rattle.dp_lean_region.specs.declared.ReadyStage.{ReadyStage}
use Rattle.dp_lean_machine.specs.declared.batch.StageColumns.{StageColumns}
use Rattle.dp_lean_machine.proofs.Exchanged.{take_before, kinds_get, kinds_taken}

kinds_read : (cs : List StageColumns) → all_kinds (map read_of cs) ≡ map kinds_in cs
kinds_read [] = refl
kinds_read (c ∷ cs) = ap (λ (ks : List (List ColumnKind)). kinds_in c ∷ ks) (kinds_read cs)

-- the first turn can be run
pub can_over : {M : Type 0} (r : ReadyStage) (own : List ColumnKind) (earlier : List StageColumns) → CanRead r own (map kinds_in earlier) → (t : Turn M) →
    t.teller.own ≡ nothing_kept own → t.readers ≡ map read_of earlier → CanTurn r.frame r.ready t
can_over r own earlier can t empty readers = record {
  first = can.first;
  ready = can.ready;
  kinds = record {
    own = ap (λ (c : Columned). c.kinds) empty ∙ can.own_is;
    read = ap all_kinds readers ∙ kinds_read earlier ∙ can.read_is;
  };
}

-- .. where the stage stands in front of all that came
pub begins : {M : Type 0} (cells : M → List ℤ) (e : LeanEpoch) (s b n : ℕ) (r : ReadyStage) → RunsIn e s r → (own : List ColumnKind) →
    own ≡ r.frame.kinds.own.now →
    (earlier : List StageColumns) → ComesWithColumns e s b n earlier → (t : Turn M) → LeanStands (epoch_marks e) e.key (suc s) (begin_in e b) (cells t.memory) →
    t.teller.own ≡ nothing_kept own → t.readers ≡ map read_of earlier → (counts : List ℕ) → counts ≡ [] → Within e s b cells n 0 t counts
begins cells e s b n r runs own own_is earlier comes t stands empty readers counts none = record {
  memory = λ q. (let same : begin_in e b ≡ begin_in e b + 0 = omega arith in
      subst (λ (i : ℕ). LeanStands (epoch_marks e) e.key (suc s) i (cells t.memory)) same stands);
  queues = (
    comes.queues,
    comes.more,
    subst (λ (rs : List Left). AreLeft e.key.program e.key.plan rs comes.queues) (sym readers) comes.left,
    coming,
  );
  own = empty ∙ ap nothing_kept (own_is ∙ runs.kinds);
  counts = none;
  same = λ i low. absurd (omega (arith, low));
}
  where
    coming : QueuesBring (epoch_marks e) e.key s (begin_in e b + 0) (n - 0) comes.queues comes.more
    coming =
        let first : begin_in e b ≡ begin_in e b + 0 = omega arith in
        let all : n ≡ n - 0 = omega arith in
        subst (λ (i : ℕ). QueuesBring (epoch_marks e) e.key s i (n - 0) comes.queues comes.more) first
        (subst (λ (j : ℕ). QueuesBring (epoch_marks e) e.key s (begin_in e b) j comes.queues comes.more) all comes.coming)

-- what the turns leave is what came of them
pub left_so : {M : Type 0} (cells : M → List ℤ) (e : LeanEpoch) (s b : ℕ) (t : Turn M) (steps : List ℕ) (ran result : Ran) (own : StageColumns) (memory : M) →
    result ≡ ran → memory ≡ t.memory → own ≡ record { columns = t.teller.own; steps = steps } → IsRan e s b cells t steps ran →
    IsDone e s b cells result own memory
left_so {M} cells e s b t steps ran result own memory same memory_is own_is done =
    subst (λ (x : Ran). IsDone e s b cells x own memory) (sym same)
    (subst (λ (c : StageColumns). IsDone e s b cells ran c memory) (sym own_is)
    (subst (λ (m : M). IsDone e s b cells ran (record { columns = t.teller.own; steps = steps }) m) (sym memory_is) done))

-- what it reads is of the kinds for which it is ready
pub can_read : (kinds : List (List ColumnKind)) (s : ℕ) (r : ReadyStage) → IsStageReady kinds s r → (xs : List StageColumns) → map kinds_in xs ≡ kinds →
    (was h : StageColumns) →
    slice_get xs s ≡ Some was → CanRead r (kinds_in was) (map kinds_in (take s (slice_set xs s h)))
can_read kinds s r ready xs same was h is = record {
  first = ready.first;
  ready = ready.ready;
  own_is = kinds_get xs s was is ∙ ap (λ (ks : List (List ColumnKind)). get_or ks s []) same ∙ sym ready.own;
  read_is = ap (map kinds_in) (take_before xs s h) ∙ kinds_taken xs s ∙ ap (take s) same ∙ sym ready.read;
}
