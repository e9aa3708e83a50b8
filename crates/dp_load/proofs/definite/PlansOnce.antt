-- A text of plans is read in one way only: as one list of plans, or with one refusal.
use Rattle.std.proofs.Common.{◌≡◌, refl, sym, ap, ◌∙◌, ℕ, ◌≤◌, ◌<◌, ◌^◌, Bool, List, length, Option, Some, None, Result, Ok, Err, arith}
use Rattle.dp_base.specs.declared.Quantity.TheVariants.{PlanBytes}
use Rattle.dp_tree.specs.declared.Program.{Program}
use Rattle.dp_plan.specs.declared.Plan.{Plan}
use Rattle.dp_plan.specs.Valid.{first_fault}
use Rattle.dp_plan.specs.declared.BrokenRule.{BrokenRule}
use Rattle.dp_plan.specs.declared.WrittenPlan.{WrittenPlan}
use Rattle.dp_plan_text.specs.PlanText.{PlanText}
use Rattle.dp_text.specs.Lines.{lines_of}
use Rattle.dp_plan_text.specs.Refused.{IsBroken, IsPlanText, IsRefusedPlans, StandsFor}
use Rattle.dp_plan_text.proofs.OneReading.{one_list, one_meaning}
use Rattle.dp_text.proofs.RefusedOnce.{one_line, unrefused}
use Rattle.dp_refusal.specs.declared.refusal.Refusal.{Refusal}
use Rattle.dp_refusal.specs.declared.refusal.Refusal.TheVariants.{Limit, PlanLine, PlanRule}
use Rattle.dp_load.specs.Plans.{ReadsPlans, TooLong, NotPlans, Broken, Taken}

module _ (p : Program) (small : length p.regions < 2 ^ 32) (text : List ℕ) where
  one_fault : (fault other : Option BrokenRule) → IsBroken p text fault → IsBroken p text other → fault ≡ other
  one_fault fault other s t = sym s.3 ∙ ap (first_fault p) (one_list p small text s.0 t.0 s.1 t.1 s.2 t.2) ∙ t.3

  none_refused : {A : Type 0} {proved : Bool} {plans : List WrittenPlan} {line : ℕ} → PlanText p text proved plans → IsRefusedPlans p text line → A
  none_refused {A} {proved} {plans} {line} t r = absurd (unrefused (IsPlanText p) (lines_of text) line (proved, plans, t) r)

  from_long : {b : Result (List Plan) Refusal} → 1048576 < length text → ReadsPlans p text b → Err (Limit PlanBytes 1048577) ≡ b
  from_long h (TooLong k) = refl
  from_long h (NotPlans line k r) = absurd (omega (arith, h, k))
  from_long h (Broken rule site k r) = absurd (omega (arith, h, k))
  from_long h (Taken plans k r) = absurd (omega (arith, h, k))

  from_line : {b : Result (List Plan) Refusal} (line : ℕ) → length text ≤ 1048576 → IsRefusedPlans p text line → ReadsPlans p text b → Err (PlanLine line) ≡ b
  from_line line h r (TooLong k) = absurd (omega (arith, h, k))
  from_line line h r (NotPlans other k s) = ap (λ (n : ℕ). Err (PlanLine n)) (one_line (IsPlanText p) (lines_of text) r s)
  from_line line h r (Broken rule site k s) = none_refused s.2 r
  from_line line h r (Taken plans k s) = none_refused s.2 r

  -- the refusal of a broken rule
  abbrev refusal_of : Option BrokenRule → Result (List Plan) Refusal
  refusal_of None = Err (PlanRule 0 0)
  refusal_of (Some broken) = Err (PlanRule broken.rule broken.site)

  from_rule : {b : Result (List Plan) Refusal} (rule site : ℕ) → length text ≤ 1048576 → IsBroken p text (Some (record { rule = rule; site = site })) →
      ReadsPlans p text b → Err (PlanRule rule site) ≡ b
  from_rule rule site h r (TooLong k) = absurd (omega (arith, h, k))
  from_rule rule site h r (NotPlans line k s) = none_refused r.2 s
  from_rule rule site h r (Broken other place k s) = ap refusal_of (one_fault _ _ r s)
  from_rule rule site h r (Taken plans k s) = let clash = one_fault _ None r (s.0, s.1, s.2, s.3) in absurd (cc clash)

  from_plans : {b : Result (List Plan) Refusal} (plans : List Plan) → length text ≤ 1048576 → StandsFor p text plans → ReadsPlans p text b → Ok plans ≡ b
  from_plans plans h r (TooLong k) = absurd (omega (arith, h, k))
  from_plans plans h r (NotPlans line k s) = none_refused r.2 s
  from_plans plans h r (Broken rule site k s) = let clash = one_fault None _ (r.0, r.1, r.2, r.3) s in absurd (cc clash)
  from_plans plans h r (Taken others k s) = ap (λ (ps : List Plan). Ok ps) (one_meaning p small text others plans s r)

  pub plans_once : {a b : Result (List Plan) Refusal} → ReadsPlans p text a → ReadsPlans p text b → a ≡ b
  plans_once (TooLong h) r = from_long h r
  plans_once (NotPlans line h s) r = from_line line h s r
  plans_once (Broken rule site h s) r = from_rule rule site h s r
  plans_once (Taken plans h s) r = from_plans plans h s r
