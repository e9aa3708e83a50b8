-- What a region's tables hold is right for what they lend.
use Rattle.std.proofs.Common.{◌≡◌, refl, sym, ap, subst, ◌∙◌, arith, ℕ, zero, suc, ◌≤◌, List, [], ◌∷◌, ◌++◌, ℤ, length, take, get_or, Some, None, slice_get}
use Rattle.std.proofs.lemmas.List.{length-map}
use Rattle.std.proofs.lemmas.Option.{slice_get_within}
use Rattle.dp_base.specs.declared.CellId.{CellId}
use Rattle.dp_tree.specs.declared.Program.{Program}
use Rattle.dp_tree.specs.Numbering.{numbers_from}
use Rattle.dp_plan.specs.declared.Plan.{Plan}
use Rattle.dp_plan.specs.Access.{first_site}
use Rattle.dp_semantics.specs.Judge.{last}
use Rattle.dp_lean_judge.specs.Locals.{local_cells}
use Rattle.dp_net.specs.NetItems.{Marks}
use Rattle.dp_net.specs.Hidden.{marks_of, pays_off}
use Rattle.dp_columns.specs.declared.ColumnKind.{ColumnKind}
use Rattle.dp_lean_code.specs.Known.{paying_marks}
use Rattle.dp_lean_code.specs.LeanCode.{lean_code}
use Rattle.dp_lean_turn.specs.Standing.{AreHidden}
use Rattle.dp_lean_kinds.specs.ColumnKinds.{region_kinds}
use Rattle.dp_lean_region.specs.LeanEpoch.{LeanEpoch, epoch_marks}
use Rattle.dp_lean_judge.specs.declared.ready.Ready.{Ready}
use Rattle.dp_lean_judge.specs.Ready.{AllKept, JudgeIsReady}
use Rattle.dp_lean_region.specs.Region.{LeanRegion, plan_kinds}
use Rattle.dp_lean_region.specs.Ready.{IsStageReady}
use Rattle.dp_lean_region.specs.Judging.{IsJudging}
use Rattle.dp_lean_region.specs.Line.{IsEpochOf, RunsIn}
use Rattle.dp_lean_region.specs.declared.line.ReadyStage.{ReadyStage}
use Rattle.dp_lean_region.specs.declared.line.JudgeTables.{JudgeTables}
use Rattle.dp_lean_region.specs.declared.stages.StageTables.{StageTables}
use Rattle.dp_lean_region.specs.declared.judging.JudgeMade.{JudgeMade}
use Rattle.dp_lean_region.specs.steps.Tables.{IsStage, AreStages, IsRegion, IsStaged}

-- ---- lists of a stage each

numbers_count : (first n : ℕ) → length (numbers_from first n) ≡ n
numbers_count first zero = refl
numbers_count first (suc n) = ap (λ (k : ℕ). suc k) (numbers_count (Prim.Native.Nat.◌+◌ first 1) n)

pub kinds_length : (p : Program) (plan : Plan) → length (plan_kinds p plan) ≡ length plan.stages
kinds_length p plan = length-map (numbers_from 1 (length plan.stages)) (region_kinds p plan (paying_marks p plan)) ∙ numbers_count 1 (length plan.stages)

-- what holds of each item at its place, with one more item
each_more : {X : Type 0} (P : ℕ → X → Type 0) (xs : List X) (x : X) → ((i : ℕ) (y : X) → slice_get xs i ≡ Some y → P i y) → P (length xs) x →
    (i : ℕ) (y : X) → slice_get (xs ++ x ∷ []) i ≡ Some y → P i y
each_more P [] x h k zero y e = subst (P 0) (cc e) k
each_more P [] x h k (suc i) y e = absurd (cc e)
each_more P (z ∷ xs) x h k zero y e = h zero y e
each_more P (z ∷ xs) x h k (suc i) y e = each_more (λ j. P (suc j)) xs x (λ j w f. h (suc j) w f) k i y e

pub stage_more : (p : Program) (plan : Plan) (kinds : List (List ColumnKind)) (xs : List StageTables) (x : StageTables) → AreStages p plan kinds xs →
    IsStage p plan kinds (length xs) x → AreStages p plan kinds (xs ++ x ∷ [])
stage_more p plan kinds xs x h k = each_more (λ i y. IsStage p plan kinds i y) xs x h k

pub no_stage : (p : Program) (plan : Plan) (kinds : List (List ColumnKind)) → AreStages p plan kinds []
no_stage p plan kinds at t e = absurd (cc e)

-- where no item stands the list has ended
ended : {X : Type 0} (xs : List X) (i : ℕ) → slice_get xs i ≡ None → length xs ≤ i
ended [] i none = omega arith
ended (x ∷ xs) zero none = absurd (cc none)
ended (x ∷ xs) (suc i) none = let past = ended xs i none in omega (arith, past)

-- ---- what is lent of them

module _ {p : Program} {plan : Plan} {first : ℕ} {kinds : List (List ColumnKind)} {stages : List StageTables} {locals : List CellId} {j : JudgeMade}
    (r : IsRegion p plan first kinds stages locals j) where
  module _ (q : Program) (other : Plan) (program_is : q ≡ p) (plan_is : other ≡ plan) where
    pub first_there : first ≡ first_site q other
    first_there = r.condition ∙ (λ i. first_site (sym program_is i) (sym plan_is i))

    pub locals_there : locals ≡ local_cells other.region q.vars
    locals_there = r.body ∙ (λ i. local_cells (sym plan_is i).region (sym program_is i).vars)

    pub columns_there : kinds ≡ plan_kinds q other
    columns_there = r.columns ∙ (λ i. plan_kinds (sym program_is i) (sym plan_is i))

    pub stage_there : (all : List (List ColumnKind)) → all ≡ kinds → (at : ℕ) (t : StageTables) → slice_get stages at ≡ Some t → IsStage q other all at t
    stage_there all all_is at t here =
        subst (λ (o : Program). IsStage o other all at t) (sym program_is)
        (subst (λ (o : Plan). IsStage p o all at t) (sym plan_is)
        (subst (λ (k : List (List ColumnKind)). IsStage p plan k at t) (sym all_is) (r.all.each at t here)))

  pub within_kinds : (all : List (List ColumnKind)) → all ≡ kinds → (at : ℕ) (t : StageTables) → slice_get stages at ≡ Some t → at ≤ length all
  within_kinds all all_is at t here =
      let inside = slice_get_within stages at t here in
      let count = ap length all_is ∙ ap length r.columns ∙ kinds_length p plan in
      omega (arith, inside, count, r.all.count)

  pub judging_there : (v : LeanRegion) → record { program = p; plan = plan; cap = j.cap } ≡ v → (t : JudgeTables) → t.ready.now ≡ j.ready →
      t.locals.now ≡ locals →
      IsJudging v.program v.plan t
  judging_there v view t ready_is locals_is = subst (λ (w : LeanRegion). IsJudging w.program w.plan t) view (record {
    ready = subst (λ (ready : Ready). JudgeIsReady p plan (lean_code p plan (last plan) (paying_marks p plan)) ready) (sym ready_is) r.judge.ready;
    kept = λ readers same. subst (λ (ready : Ready). AllKept readers ready.entries) (sym ready_is) (r.judge.kept readers same);
    locals = locals_is ∙ r.body;
  })

  pub none_there : (at : ℕ) → slice_get stages at ≡ None → length plan.stages ≤ at
  none_there at none = let past = ended stages at none in omega (arith, past, r.all.count)

-- ---- a stage that is ready

module _ {p : Program} {plan : Plan} {kinds : List (List ColumnKind)} {at : ℕ} {input : List ℤ} {locals : List CellId} {r : ReadyStage}
    (s : IsStaged p plan kinds at input locals r) where
  pub stage_ready : (all : List (List ColumnKind)) → kinds ≡ all → locals ≡ local_cells plan.region p.vars → IsStageReady all at r
  stage_ready all columns body = record {
    first = s.first ∙ (λ i. first_site (sym s.program i) (sym s.under i));
    ready = s.ready;
    own = s.own ∙ ap (λ (k : List (List ColumnKind)). get_or k at []) columns;
    read = s.read ∙ ap (λ (k : List (List ColumnKind)). take at k) columns;
    locals = s.body ∙ body ∙ (λ i. local_cells (sym s.under i).region (sym s.program i).vars);
  }

  pub stage_runs : kinds ≡ plan_kinds p plan → (e : LeanEpoch) → IsEpochOf e p plan input → RunsIn e at r
  stage_runs columns e of =
      let marks : paying_marks p plan ≡ epoch_marks e =
      (λ i. marks_of (of.program i) (of.plan i) (pays_off (of.program i) (of.plan i))) ∙ ap (marks_of e.key.program e.key.plan) (sym of.pays) in
      record {
        program = s.program ∙ of.program;
        plan = s.under ∙ of.plan;
        input = s.words ∙ of.input;
        code = s.code ∙ (λ i. lean_code (of.program i) (of.plan i) (suc at) (marks i));
        kinds = s.own ∙ ap (λ (k : List (List ColumnKind)). get_or k at []) (columns ∙ (λ i. plan_kinds (of.program i) (of.plan i)) ∙ sym of.kinds);
        hidden = subst (λ (m : Marks). AreHidden r.frame m) marks s.hidden;
      }
