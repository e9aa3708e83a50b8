use Rattle.std.proofs.Common.{◌∙◌, ap, refl, Some}
use Rattle.dp_words.specs.Words.{ToAudit, ToBatch, ToExplain, ToList, ToLog, ToPlan, ToProfile, ToResume, ToSave, ToTree}
use Rattle.dp_refusal.specs.declared.refusal.Refusal.TheVariants.{Words}
use Rattle.dp_drive.proofs.AnswerLemmas.{carry_not_taken}
use Rattle.dp_drive.proofs.ListingLemmas.{lists_explained, lists_plans, lists_sites, lists_tree}
use Rattle.dp_drive.proofs.CountLemmas.{no_run_counts, refused_counts}
use Rattle.dp_drive.proofs.definite.AsksOnce.{no_run}
use Rattle.dp_drive.proofs.answer.answer.Goals as goal

pub returns-in-None-clause-carried : goal.returns-in-None-clause-carried
returns-in-None-clause-carried g c = carry_not_taken _ _ _ _ _ _ _ _ _ (rw c.in-None.is at c.in_ok-run.ensures.none) refl refl c.refuse.ensures.finishes

pub returns-in-Some-Run-clause-carried : goal.returns-in-Some-Run-clause-carried
returns-in-Some-Run-clause-carried g c = c.answer_run.ensures.carried _ (rw (c.in-Some-Run.is ∙ ap Some c.in-Some-Run.field-0-is) at c.in_ok-run.ensures.some)

pub returns-in-Some-Plan-clause-carried : goal.returns-in-Some-Plan-clause-carried
returns-in-Some-Plan-clause-carried g c =
    c.answer_plan.ensures.carried _ _ (lists_plans _) (rw (c.in-Some-Plan.is ∙ ap Some c.in-Some-Plan.field-0-is) at c.in_ok-run.ensures.some)

pub returns-in-Some-Check-clause-carried : goal.returns-in-Some-Check-clause-carried
returns-in-Some-Check-clause-carried g c =
    c.answer_program.ensures.carried _ _ (lists_sites _) (rw (c.in-Some-Check.is ∙ ap Some c.in-Some-Check.field-0-is) at c.in_ok-run.ensures.some)

pub returns-in-None-clause-counted : goal.returns-in-None-clause-counted
returns-in-None-clause-counted g c = refused_counts _ _ _ _ _ _ _ Words c.refuse.ensures.finishes

pub returns-in-Some-Run-clause-counted : goal.returns-in-Some-Run-clause-counted
returns-in-Some-Run-clause-counted g c = c.answer_run.ensures.counted _ (rw (c.in-Some-Run.is ∙ ap Some c.in-Some-Run.field-0-is) at c.in_ok-run.ensures.some)

pub returns-in-Some-Plan-clause-counted : goal.returns-in-Some-Plan-clause-counted
returns-in-Some-Plan-clause-counted g c =
    no_run_counts _ _ _ _ _ (no_run _ (ToPlan _) refl (rw (c.in-Some-Plan.is ∙ ap Some c.in-Some-Plan.field-0-is) at c.in_ok-run.ensures.some))

pub returns-in-Some-Check-clause-counted : goal.returns-in-Some-Check-clause-counted
returns-in-Some-Check-clause-counted g c =
    no_run_counts _ _ _ _ _ (no_run _ (ToList _) refl (rw (c.in-Some-Check.is ∙ ap Some c.in-Some-Check.field-0-is) at c.in_ok-run.ensures.some))

pub returns-in-Some-Gen-clause-carried : goal.returns-in-Some-Gen-clause-carried
returns-in-Some-Gen-clause-carried g c =
    c.answer_gen.ensures.carried _ _ _ _ (rw (c.in-Some-Gen.is ∙ ap Some c.in-Some-Gen.field-0-is) at c.in_ok-run.ensures.some)

pub returns-in-Some-Gen-clause-counted : goal.returns-in-Some-Gen-clause-counted
returns-in-Some-Gen-clause-counted g c = c.answer_gen.ensures.counted _ _ (rw (c.in-Some-Gen.is ∙ ap Some c.in-Some-Gen.field-0-is) at c.in_ok-run.ensures.some)

pub returns-in-Some-Profile-clause-carried : goal.returns-in-Some-Profile-clause-carried
returns-in-Some-Profile-clause-carried g c =
    c.answer_profile.ensures.carried _ (rw (c.in-Some-Profile.is ∙ ap Some c.in-Some-Profile.field-0-is) at c.in_ok-run.ensures.some)

pub returns-in-Some-Profile-clause-counted : goal.returns-in-Some-Profile-clause-counted
returns-in-Some-Profile-clause-counted g c =
    no_run_counts _ _ _ _ _ (no_run _ (ToProfile _) refl (rw (c.in-Some-Profile.is ∙ ap Some c.in-Some-Profile.field-0-is) at c.in_ok-run.ensures.some))

pub returns-in-Some-Log-clause-carried : goal.returns-in-Some-Log-clause-carried
returns-in-Some-Log-clause-carried g c = c.answer_log.ensures.carried _ (rw (c.in-Some-Log.is ∙ ap Some c.in-Some-Log.field-0-is) at c.in_ok-run.ensures.some)

pub returns-in-Some-Log-clause-counted : goal.returns-in-Some-Log-clause-counted
returns-in-Some-Log-clause-counted g c =
    no_run_counts _ _ _ _ _ (no_run _ (ToLog _) refl (rw (c.in-Some-Log.is ∙ ap Some c.in-Some-Log.field-0-is) at c.in_ok-run.ensures.some))

pub returns-in-Some-Audit-clause-carried : goal.returns-in-Some-Audit-clause-carried
returns-in-Some-Audit-clause-carried g c =
    c.answer_audit.ensures.carried _ (rw (c.in-Some-Audit.is ∙ ap Some c.in-Some-Audit.field-0-is) at c.in_ok-run.ensures.some)

pub returns-in-Some-Audit-clause-counted : goal.returns-in-Some-Audit-clause-counted
returns-in-Some-Audit-clause-counted g c =
    no_run_counts _ _ _ _ _ (no_run _ (ToAudit _ _) refl (rw (c.in-Some-Audit.is ∙ ap Some c.in-Some-Audit.field-0-is) at c.in_ok-run.ensures.some))

pub returns-in-Some-Save-clause-carried : goal.returns-in-Some-Save-clause-carried
returns-in-Some-Save-clause-carried g c =
    c.answer_save.ensures.carried _ (rw (c.in-Some-Save.is ∙ ap Some c.in-Some-Save.field-0-is) at c.in_ok-run.ensures.some)

pub returns-in-Some-Save-clause-counted : goal.returns-in-Some-Save-clause-counted
returns-in-Some-Save-clause-counted g c =
    no_run_counts _ _ _ _ _ (no_run _ (ToSave _ _) refl (rw (c.in-Some-Save.is ∙ ap Some c.in-Some-Save.field-0-is) at c.in_ok-run.ensures.some))

pub returns-in-Some-Resume-clause-carried : goal.returns-in-Some-Resume-clause-carried
returns-in-Some-Resume-clause-carried g c =
    c.answer_resume.ensures.carried _ (rw (c.in-Some-Resume.is ∙ ap Some c.in-Some-Resume.field-0-is) at c.in_ok-run.ensures.some)

pub returns-in-Some-Resume-clause-counted : goal.returns-in-Some-Resume-clause-counted
returns-in-Some-Resume-clause-counted g c =
    no_run_counts _ _ _ _ _ (no_run _ (ToResume _ _) refl (rw (c.in-Some-Resume.is ∙ ap Some c.in-Some-Resume.field-0-is) at c.in_ok-run.ensures.some))

pub returns-in-Some-Batch-clause-carried : goal.returns-in-Some-Batch-clause-carried
returns-in-Some-Batch-clause-carried g c =
    c.answer_batch.ensures.carried _ (rw (c.in-Some-Batch.is ∙ ap Some c.in-Some-Batch.field-0-is) at c.in_ok-run.ensures.some)

pub returns-in-Some-Batch-clause-counted : goal.returns-in-Some-Batch-clause-counted
returns-in-Some-Batch-clause-counted g c =
    no_run_counts _ _ _ _ _ (no_run _ (ToBatch _ _) refl (rw (c.in-Some-Batch.is ∙ ap Some c.in-Some-Batch.field-0-is) at c.in_ok-run.ensures.some))

pub returns-in-Some-Explain-clause-carried : goal.returns-in-Some-Explain-clause-carried
returns-in-Some-Explain-clause-carried g c = c.answer_plan-in-Some-Explain.ensures.carried _ _ (lists_explained _)
    (rw (c.in-Some-Explain.is ∙ ap Some c.in-Some-Explain.field-0-is) at c.in_ok-run.ensures.some)

pub returns-in-Some-Explain-clause-counted : goal.returns-in-Some-Explain-clause-counted
returns-in-Some-Explain-clause-counted g c =
    no_run_counts _ _ _ _ _ (no_run _ (ToExplain _) refl (rw (c.in-Some-Explain.is ∙ ap Some c.in-Some-Explain.field-0-is) at c.in_ok-run.ensures.some))

pub returns-in-Some-Tree-clause-carried : goal.returns-in-Some-Tree-clause-carried
returns-in-Some-Tree-clause-carried g c =
    c.answer_program-in-Some-Tree.ensures.carried _ _ (lists_tree _) (rw (c.in-Some-Tree.is ∙ ap Some c.in-Some-Tree.field-0-is) at c.in_ok-run.ensures.some)

pub returns-in-Some-Tree-clause-counted : goal.returns-in-Some-Tree-clause-counted
returns-in-Some-Tree-clause-counted g c =
    no_run_counts _ _ _ _ _ (no_run _ (ToTree _) refl (rw (c.in-Some-Tree.is ∙ ap Some c.in-Some-Tree.field-0-is) at c.in_ok-run.ensures.some))
