-- A text is that of one list of plans, so what is written of plans is read back as these and nothing else.
use Rattle.std.proofs.Common.{◌≡◌, inl, inr, refl, sym, ap, ◌∙◌, ℕ, ◌<◌, ◌^◌, Bool, List, map, length, Ok, Err}
use Rattle.dp_tree.specs.declared.Program.{Program}
use Rattle.dp_tree.specs.Inlined.{IsInlined}
use Rattle.dp_plan.specs.declared.Plan.{Plan}
use Rattle.dp_plan_text.specs.declared.PlanFail.TheVariants.{Refused, Invalid, NoMemory}
use Rattle.dp_plan_text.specs.declared.reader.Reader.{Reader}
use Rattle.dp_plan.specs.Written.{plan_of}
use Rattle.dp_plan.specs.declared.WrittenPlan.{WrittenPlan}
use Rattle.dp_plan.specs.Valid.{first_fault}
use Rattle.dp_plan_text.specs.PlanText.{PlanText}
use Rattle.dp_text.specs.Lines.{lines_of}
use Rattle.dp_plan_text.specs.Refused.{IsPlanText, ReadsOnlyPlans, StandsFor}
use Rattle.dp_plan_text.specs.WrittenText.{plans_text}
use Rattle.dp_plan.specs.GivenPlans.{ArePlans}
use Rattle.dp_plan_text.proofs.ReadBack.{read_back}
use Rattle.dp_plan.proofs.RegionFacts.{few_regions}
use Rattle.dp_plan_text.proofs.RunComplete.{over}
use Rattle.dp_text.proofs.RefusedOnce.{unrefused}
use Rattle.dp_plan_text.proofs.TextLemmas.{text_runs}

module _ (p : Program) (small : length p.regions < 2 ^ 32) (bytes : List ℕ) where
  -- a text has one version and one list of plans
  one_end : (v w : Bool) (plans others : List WrittenPlan) → PlanText p bytes v plans → PlanText p bytes w others → over v plans ≡ over w others
  one_end v w plans others s t = cc (sym (text_runs p small (lines_of bytes) v plans s) ∙ text_runs p small (lines_of bytes) w others t)

  one_version : (v w : Bool) (plans others : List WrittenPlan) → PlanText p bytes v plans → PlanText p bytes w others → v ≡ w
  one_version v w plans others s t = ap (λ (r : Reader). r.proved) (one_end v w plans others s t)

  pub one_list : (v w : Bool) (plans others : List WrittenPlan) → PlanText p bytes v plans → PlanText p bytes w others → plans ≡ others
  one_list v w plans others s t = ap (λ (r : Reader). r.plans) (one_end v w plans others s t)

  pub one_meaning : (plans others : List Plan) → StandsFor p bytes plans → StandsFor p bytes others → others ≡ plans
  one_meaning plans others s t =
      t.4 ∙ sym (ap (λ (v : Bool). map (plan_of p v) t.1) (one_version s.0 t.0 s.1 t.1 s.2 t.2))
      ∙ sym (ap (λ (ws : List WrittenPlan). map (plan_of p s.0) ws) (one_list s.0 t.0 s.1 t.1 s.2 t.2)) ∙ sym s.4

  pub read_only : (plans : List Plan) → StandsFor p bytes plans → ReadsOnlyPlans p bytes plans
  read_only plans s (Ok others) t = inl (ap (λ (qs : List Plan). Ok qs) (one_meaning plans others s t))
  read_only plans s (Err (Refused line)) t = absurd (unrefused (IsPlanText p) (lines_of bytes) line (s.0, s.1, s.2) t)
  read_only plans s (Err (Invalid rule site)) t = absurd (cc (sym s.3 ∙ ap (first_fault p) (one_list s.0 t.0 s.1 t.1 s.2 t.2) ∙ t.3))
  read_only plans s (Err NoMemory) t = inr refl

pub read_back_only : (p : Program) → IsInlined p → (plans : List Plan) → ArePlans p plans → ReadsOnlyPlans p (plans_text p plans) plans
read_back_only p inlined plans are = read_only p (few_regions p inlined) (plans_text p plans) plans (read_back p inlined plans are)
