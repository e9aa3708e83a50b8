-- The laws hold in each epoch of a region.
use Rattle.dp_semantics.proofs.Names.{◌≡◌, refl, sym, ap, ◌∙◌, subst, arith, both_ways, ℕ, suc, ◌≤◌, Bool, true, false, List, Stmt, Program, Plan}
use Rattle.dp_semantics.proofs.Names.{is_replicated, fits_plan}
use Rattle.dp_tree.specs.Inlined.{IsInlined}
use Rattle.dp_semantics.specs.EpochKey.{EpochKey}
use Rattle.dp_semantics.proofs.StageKinds.{fitting_kinds}
use Rattle.dp_lean_judge.specs.Stages.{HasStages}
use Rattle.dp_theorem.proofs.Fitting.{accepted}
use Rattle.dp_net.specs.Hidden.{pays_off}
use Rattle.dp_lean_code.specs.Known.{paying_marks}
use Rattle.dp_lean_judge.proofs.JudgeCodes.{judge_code_is_right}
use Rattle.dp_lean_epoch.specs.Steps.{keeps_memory}
use Rattle.dp_lean_epoch.specs.Holding.{KeepsEnough}
use Rattle.dp_lean_epoch.proofs.Arriving.{void_stays}
use Rattle.dp_lean_epoch.proofs.Stepping.{stage_steps, workers_begin}
use Rattle.dp_lean_epoch.proofs.WorkersOn.{workers_go_on}
use Rattle.dp_lean_epoch.proofs.Standing.{batch_stands, batch_ends}
use Rattle.dp_lean_epoch.proofs.Queueing.{batches_come, come_one_by_one}
use Rattle.dp_lean_epoch.proofs.Extending.{fresh_batch, batches_extend}
use Rattle.dp_lean_epoch.proofs.Filling.{columns_fill}
use Rattle.dp_lean_epoch.proofs.Midways.{midway_steps}
use Rattle.dp_lean_epoch.proofs.JudgeMidways.{judge_midway_steps}
use Rattle.dp_lean_epoch.proofs.JudgeStepping.{judge_steps, voids_recover}
use Rattle.dp_lean_epoch.proofs.Memories.{epoch_begins}
use Rattle.dp_lean_epoch.proofs.Caps.{batches_kept}
use Rattle.dp_lean_kinds.proofs.KeptEnough.{needed_behind}
use Rattle.dp_lean_kinds.proofs.Sizes.{read_there}
use Rattle.dp_lean_region.specs.LeanEpoch.{LeanEpoch, epoch_marks, kept_in, HasLaws, HasJudgeLaws, IsLeanEpoch}
use Rattle.dp_lean_region.specs.Region.{lean_epoch}
use Rattle.dp_lean_region.specs.Laws.{AreLawful}
use Rattle.dp_lean_region.proofs.SiteKinds.{kept_there, placed, checked_there}

module _ (key : EpochKey) (cap : ℕ) (inlined : IsInlined key.program) (fits : fits_plan key.program key.plan ≡ true) where
  abbrev e : LeanEpoch
  e = lean_epoch key cap

  abbrev pays : List Stmt → Bool
  pays = pays_off key.program key.plan

  has_laws : HasLaws e
  has_laws = record {
    steps = stage_steps key inlined fits pays (workers_go_on key inlined fits pays);
    workers = workers_begin key inlined fits pays;
    voids = void_stays (epoch_marks e) key;
    stand = λ s b. batch_stands (epoch_marks e) key cap s b;
    ends = λ s k r. batch_ends (epoch_marks e) key s k r;
    few = batches_kept (epoch_marks e) key;
    fresh = fresh_batch (epoch_marks e) key (kept_in e) (accepted key.program key.plan fits);
    extend = batches_extend (epoch_marks e) key (kept_in e);
    come = batches_come (epoch_marks e) key (kept_in e);
    one_by_one = λ s k j. come_one_by_one (epoch_marks e) key s k j;
    fill = λ kept kinds. columns_fill (epoch_marks e) key kept kinds;
    midway = λ kept kinds. midway_steps key inlined fits pays kept kinds;
  }

  has_judge_laws : HasStages key.program key.plan → HasJudgeLaws e
  has_judge_laws stages = record {
    steps = judge_steps key inlined fits pays;
    voids = voids_recover key inlined fits pays;
    midway = judge_midway_steps key inlined fits pays;
    code = judge_code_is_right key.program key.plan inlined fits stages pays;
  }

  -- what is read behind its own stage is kept
  keeps_enough : KeepsEnough (epoch_marks e) key (kept_in e)
  keeps_enough = record {
    told = λ s y read later.
        kept_there key.program key.plan inlined fits y (read_there key.program key.plan (paying_marks key.program key.plan) s y read)
        (needed_behind key.program key.plan inlined fits s y read later);
    loads = λ y read checked. checked;
  }

-- no two neighbours are replicated
pub neighbours : (p : Program) (plan : Plan) → fits_plan p plan ≡ true → (s : ℕ) → is_replicated plan s ≡ true → is_replicated plan (suc s) ≡ false
neighbours p plan fits s par = by (is_replicated plan (suc s)) refl
  where
    by : (next : Bool) → is_replicated plan (suc s) ≡ next → next ≡ false
    by false e = refl
    by true e = absurd (both_ways (is_replicated plan s) ((fitting_kinds p plan fits).apart s e) par)

is_lean : (key : EpochKey) (cap : ℕ) → IsInlined key.program → fits_plan key.program key.plan ≡ true →
    ((s : ℕ) → keeps_memory key.program key.plan s ≡ false → cap ≤ 1) → IsLeanEpoch (lean_epoch key cap)
is_lean key cap inlined fits single = record {
  laws = has_laws key cap inlined fits;
  enough = keeps_enough key cap inlined fits;
  places = λ s upto y checked. placed key.program key.plan inlined fits s y upto (checked_there key.program key.plan y checked);
  single = single;
  apart = neighbours key.program key.plan fits;
}

pub epochs_lawful : (p : Program) (plan : Plan) (most : ℕ) → IsInlined p → fits_plan p plan ≡ true → HasStages p plan →
    ((s : ℕ) → keeps_memory p plan s ≡ false → most ≤ 1) → AreLawful p plan most
epochs_lawful p plan most inlined fits stages single key cap same_program same_plan low =
    let inlined' = subst IsInlined (sym same_program) inlined in
    let fits' : fits_plan key.program key.plan ≡ true = rw (same_program, same_plan) fits in
    let stages' : HasStages key.program key.plan = subst (λ (q : Plan). HasStages key.program q) (sym same_plan)
    (subst (λ (q : Program). HasStages q plan) (sym same_program) stages) in
    record {
      lean = is_lean key cap inlined' fits' (λ s loses. let h = single s (ap (λ (q : Program). keeps_memory q plan s) (sym same_program)
          ∙ ap (λ (r : Plan). keeps_memory key.program r s) (sym same_plan) ∙ loses) in omega (arith, h, low));
      judge = has_judge_laws key cap inlined' fits' stages';
      begins = epoch_begins (paying_marks key.program key.plan) key;
    }
