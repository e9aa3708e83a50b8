-- Where the judging begins a batch.
use Rattle.dp_semantics.proofs.Names.{◌≡◌, refl, sym, ap, ◌∙◌, subst, arith, ℕ, zero, suc, ◌+◌, ◌-◌, ◌<◌, Bool, List, [], ◌∷◌, ℤ, length, length-map, map, take}
use Rattle.dp_semantics.proofs.Names.{get_or, Program, Plan, Stmt, Load}
use Rattle.dp_tree.specs.Numbering.{numbers_from}
use Rattle.dp_plan.specs.Access.{first_site, stage_of}
use Rattle.dp_semantics.specs.Judge.{last}
use Rattle.dp_net.specs.Hidden.{marks_of}
use Rattle.dp_net.specs.NetPackets.{NetStatus, NetGoing, NetVoid}
use Rattle.dp_net.specs.NetVerdicts.{GoesOnTo}
use Rattle.dp_lean_judge.specs.Locals.{local_cells}
use Rattle.dp_judge.specs.declared.verdict.Verdict.{Verdict}
use Rattle.dp_lean.specs.Queues.{Told}
use Rattle.dp_lean_code.specs.LeanCode.{lean_code}
use Rattle.dp_lean_code.specs.Known.{paying_marks}
use Rattle.dp_columns.specs.declared.ColumnKind.{ColumnKind}
use Rattle.dp_columns.specs.Left.{Left}
use Rattle.dp_lean_turn.specs.Left.{all_kinds}
use Rattle.dp_lean_judge.specs.Shown.{reader_at}
use Rattle.dp_lean_judge.specs.Ready.{AllKept, JudgeIsReady}
use Rattle.dp_lean_epoch.specs.LeanBatch.{Stood, IsLeanBatch, no_columns, queue_among, loads_among, steps_among}
use Rattle.dp_lean_epoch.specs.LeanBatch as batch
use Rattle.dp_lean_epoch.specs.Coming.{QueuesBring, LoadsComing}
use Rattle.dp_lean_epoch.specs.Laws.{QueuesCome}
use Rattle.dp_lean_region.specs.LeanEpoch.{LeanEpoch, epoch_marks, kept_in, begin_in, size_in}
use Rattle.dp_lean_kinds.specs.ColumnKinds.{region_kinds}
use Rattle.dp_lean_region.specs.Judging.{IsJudging}
use Rattle.dp_lean_region.specs.Line.{IsLineOf, line_kinds, line_program, line_plan}
use Rattle.dp_lean_region.specs.declared.line.JudgeTables.{JudgeTables}
use Rattle.dp_lean_region.specs.declared.line.Line.{Line}
use Rattle.dp_lean_machine.specs.Held.{held_in, kinds_in}
use Rattle.dp_lean_machine.specs.Within.{read_of}
use Rattle.dp_lean_machine.specs.Sent.{IsSent, Unless, AsStatus, item_sent}
use Rattle.dp_lean_machine.specs.declared.batch.BatchStatus.{BatchStatus}
use Rattle.dp_lean_machine.specs.declared.batch.BatchStatus.TheVariants as status
use Rattle.dp_lean_machine.specs.declared.batch.StageColumns.{StageColumns}
use Rattle.dp_lean_machine.specs.declared.batch.LeanBatch.{LeanBatch}
use Rattle.dp_judge.specs.Judging.{Judges}
use Rattle.dp_judge.specs.Verdicts.{JudgingStands}
use Rattle.dp_judge.specs.steps.Within.{JudgesBy, CameIn, CameTo, CleanTo, Within}
use Rattle.dp_judge.specs.declared.court.LeanCourt.{LeanCourt}
use Rattle.dp_judge.specs.declared.judging.Decision.{Decision}
use Rattle.dp_judge.proofs.Telling.{told_none}
use Rattle.dp_judge.proofs.Concluding.{AsLeft}

pub kinds_read : (cs : List StageColumns) → all_kinds (map read_of cs) ≡ map kinds_in cs
kinds_read [] = refl
kinds_read (c ∷ cs) = ap (λ (ks : List (List ColumnKind)). kinds_in c ∷ ks) (kinds_read cs)

-- the readers are of the kinds for which the judge's code is ready
pub kept_there : (line : Line) (tables : JudgeTables) → IsJudging (line_program line) (line_plan line) tables → (cs : List StageColumns) →
    map kinds_in cs ≡ line_kinds line →
    (readers : List Left) → readers ≡ map read_of cs → AllKept readers tables.ready.now.entries
kept_there line tables judging cs kinds readers are = judging.kept readers (ap all_kinds are ∙ kinds_read cs ∙ kinds)

told_shown : (cs : List StageColumns) (k : ℕ) → (get_or (map held_in cs) k no_columns).columns.told ≡ (reader_at (map read_of cs) k).told
told_shown [] k = refl
told_shown (c ∷ cs) zero = refl
told_shown (c ∷ cs) (suc k) = told_shown cs k

loads_shown : (cs : List StageColumns) (k : ℕ) → (get_or (map held_in cs) k no_columns).columns.loads ≡ (reader_at (map read_of cs) k).loads
loads_shown [] k = refl
loads_shown (c ∷ cs) zero = refl
loads_shown (c ∷ cs) (suc k) = loads_shown cs k

take_whole : {X : Type 0} (xs : List X) (n : ℕ) → length xs ≡ n → take n xs ≡ xs
take_whole [] zero is = refl
take_whole [] (suc n) is = absurd (cc is)
take_whole (x ∷ xs) zero is = absurd (cc is)
take_whole (x ∷ xs) (suc n) is = ap (λ ys. x ∷ ys) (take_whole xs n (let whole = is in omega (arith, whole)))

numbers_many : (k n : ℕ) → length (numbers_from k n) ≡ n
numbers_many k zero = refl
numbers_many k (suc n) = ap suc (numbers_many (k + 1) n)

-- the judge's tables are those of the epoch
pub judges_by : (e : LeanEpoch) (line : Line) → IsLineOf e line → (tables : JudgeTables) →
    IsJudging (line_program line) (line_plan line) tables → JudgesBy e tables
judges_by e line of tables judging = record {
  ready =
      subst (λ (pays : List Stmt → Bool). JudgeIsReady e.key.program e.key.plan (lean_code e.key.program e.key.plan (last e.key.plan)
      (marks_of e.key.program e.key.plan pays)) tables.ready.now) (sym of.pays)
      (subst (λ (plan : Plan). JudgeIsReady e.key.program plan (lean_code e.key.program plan (last plan) (paying_marks e.key.program plan))
      tables.ready.now) of.plan
      (subst (λ (p : Program). JudgeIsReady p (line_plan line) (lean_code p (line_plan line) (last (line_plan line)) (paying_marks p (line_plan line)))
      tables.ready.now) of.program judging.ready));
  locals = judging.locals ∙ (λ i. local_cells (of.plan i).region (of.program i).vars);
}

module _ (e : LeanEpoch) (b : ℕ) (court : LeanCourt) (at : Judges court e b) where
  -- no iteration is decided yet
  pub clean_begins : CleanTo e b 0 court.bench.left court.bench.cells []
  clean_begins =
      let first : begin_in e b ≡ begin_in e b + 0 = omega arith in
      record {
        few = omega arith;
        goes = subst (GoesOnTo e.key) first at.goes;
        stands = subst (λ (i : ℕ). JudgingStands e i court.bench.left court.bench.cells) first at.stands;
        told = told_none e b;
        onward = λ i v is. absurd (cc is);
        count = refl;
      }

  module _ (x : LeanBatch) (sent : IsSent e (length e.key.plan.stages) b x) where
    abbrev all : ℕ
    all = length e.key.plan.stages

    abbrev Item : NetStatus → Type 0
    Item ends = IsLeanBatch (epoch_marks e) e.key (kept_in e) e.cap all b (item_sent all ends x)

    stands_so : (ends : NetStatus) → Item ends → batch.IterationsStand (epoch_marks e) e.key all (begin_in e b) (size_in e b)
        (record { iterations = x.iterations; ends = ends })
    stands_so ends item = subst (batch.IterationsStand (epoch_marks e) e.key all (begin_in e b) (size_in e b)) (sym item.stood) (at.epoch.laws.stand all b).each

    -- how the last iteration stands says what follows
    left_so : (s : BatchStatus) → Unless s Item → AsLeft e b x.iterations s
    left_so status.Going item = (stands_so NetGoing item).whole refl
    left_so status.Closing item = tt
    left_so status.Void item = λ goes. (_, sym (at.laws.voids (begin_in e b + x.iterations) goes ((stands_so NetVoid item).void refl).1))
    left_so status.NoMemory item = tt

    pub as_left : AsLeft e b x.iterations x.status
    as_left = left_so x.status sent.item

    item_by : (s : BatchStatus) (ends : NetStatus) → AsStatus s ends → Unless s Item → Item ends
    item_by status.Going ends like item = subst Item (sym like) item
    item_by status.Closing ends like item = subst Item (sym like) item
    item_by status.Void ends like item = subst Item (sym like) item
    item_by status.NoMemory ends like item = absurd like

    stages_many : length x.stages ≡ all
    stages_many =
        sym (length-map x.stages kinds_in) ∙ ap length x.kinds
        ∙ length-map (numbers_from 1 (length (line_plan x.line).stages)) (region_kinds (line_program x.line) (line_plan x.line)
        (paying_marks (line_program x.line) (line_plan x.line)))
        ∙ numbers_many 1 (length (line_plan x.line).stages) ∙ ap (λ (plan : Plan). length plan.stages) sent.line.plan

    stages_whole : take all x.stages ≡ x.stages
    stages_whole = take_whole x.stages all stages_many

    module _ (ends : NetStatus) (like : AsStatus x.status ends) where
      item : Item ends
      item = item_by x.status ends like sent.item

      come : QueuesCome (epoch_marks e) e.key (kept_in e) e.cap all b (item_sent all ends x)
      come = at.epoch.laws.come at.epoch.enough e.cap all b (item_sent all ends x) item

      pub came_in : CameIn e b x.iterations x.stages
      came_in = record {
        epoch = at.epoch;
        laws = at.laws;
        few = (stands_so ends item).within;
        arrive = λ i low. (at.epoch.laws.stand all b).arrive i (subst (λ (s : Stood). i < s.iterations) item.stood low);
        steps = λ i low. ap (λ (xs : List StageColumns). steps_among (map held_in xs) i) (sym stages_whole) ∙ come.steps refl i low;
      }

      pub within_begins : Within e b x.iterations 0 court.bench.left court.bench.cells (map read_of x.stages) []
      within_begins =
          let first : begin_in e b ≡ begin_in e b + 0 = omega arith in
          let rest : x.iterations ≡ x.iterations - 0 = omega arith in
          record {
            clean = clean_begins;
            coming = record {
              queues = queue_among e.key (map held_in x.stages);
              more = come.told.0;
              loads = loads_among e.key (map held_in x.stages);
              more_loads = (come.loads refl).0;
              shows = record {
                told = λ y low. ap (λ (lists : List (List Told)). get_or lists (y - first_site e.key.program e.key.plan) [])
                    (told_shown x.stages (stage_of e.key.program e.key.plan y - 1));
                loaded = λ y low. ap (λ (lists : List (List (List Load))). get_or lists (y - first_site e.key.program e.key.plan) [])
                    (loads_shown x.stages (stage_of e.key.program e.key.plan y - 1));
              };
              told =
                  subst (λ (k : ℕ). QueuesBring (epoch_marks e) e.key all k (x.iterations - 0) (queue_among e.key (map held_in x.stages)) come.told.0) first
                  (subst (λ (j : ℕ). QueuesBring (epoch_marks e) e.key all (begin_in e b) j (queue_among e.key (map held_in x.stages)) come.told.0) rest
                  (subst (λ (xs : List StageColumns). QueuesBring (epoch_marks e) e.key all (begin_in e b) x.iterations (queue_among e.key (map held_in xs))
                  come.told.0) stages_whole come.told.1));
              loaded =
                  subst (λ (k : ℕ). LoadsComing (epoch_marks e) e.key k (x.iterations - 0) (loads_among e.key (map held_in x.stages)) (come.loads refl).0) first
                  (subst (λ (j : ℕ). LoadsComing (epoch_marks e) e.key (begin_in e b) j (loads_among e.key (map held_in x.stages)) (come.loads refl).0) rest
                  (subst (λ (xs : List StageColumns). LoadsComing (epoch_marks e) e.key (begin_in e b) x.iterations (loads_among e.key (map held_in xs))
                  (come.loads refl).0) stages_whole (come.loads refl).1));
            };
          }

      -- so many iterations are decided over readers of all that the stages told
      pub decided_so : (n : ℕ) → n ≡ x.iterations → (stages : List StageColumns) → stages ≡ x.stages → (readers : List Left) → readers ≡ map read_of stages →
          (told : List Verdict) → told ≡ [] → (d : Decision) (left : ℕ) (cells : List ℤ) (told_new : List Verdict) →
          (CameIn e b n stages → Within e b n 0 court.bench.left court.bench.cells readers told → CameTo e b n d left cells told_new) →
          CameTo e b x.iterations d left cells told_new
      decided_so n many stages are readers read told none d left cells told_new gives =
          subst (λ (k : ℕ). CameTo e b k d left cells told_new) many
          (gives (subst (λ (k : ℕ). CameIn e b k stages) (sym many) (subst (CameIn e b x.iterations) (sym are) came_in))
          (subst (λ (k : ℕ). Within e b k 0 court.bench.left court.bench.cells readers told) (sym many)
          (subst (λ (rs : List Left). Within e b x.iterations 0 court.bench.left court.bench.cells rs told) (sym (read ∙ ap (map read_of) are))
          (subst (Within e b x.iterations 0 court.bench.left court.bench.cells (map read_of x.stages)) (sym none) within_begins))))
