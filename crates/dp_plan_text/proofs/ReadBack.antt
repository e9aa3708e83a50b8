-- What is written of plans is read back.
use Rattle.std.proofs.Common.{◌≡◌, refl, sym, ap, ◌∙◌, ℕ, suc, ◌+◌, ◌≤◌, zero, Bool, List, [], ◌∷◌, map, length, None, arith}
use Rattle.dp_tree.specs.declared.Program.{Program}
use Rattle.dp_tree.specs.Inlined.{IsInlined}
use Rattle.dp_tree.specs.Numbering.{numbers_from}
use Rattle.dp_plan.specs.declared.Plan.{Plan}
use Rattle.dp_plan.specs.Written.{plan_of, written_of}
use Rattle.dp_plan.specs.Valid.{first_fault, or_later}
use Rattle.dp_plan.specs.Each.{Each}
use Rattle.dp_plan.specs.PlanFits.{PlanFits}
use Rattle.dp_plan_text.specs.PlanText.{PlanText, plan_lines, written_region, plan_words}
use Rattle.dp_plan_text.specs.Refused.{StandsFor}
use Rattle.dp_plan_text.specs.WrittenText.{plans_text}
use Rattle.dp_plan.specs.GivenPlans.{plans_version, ArePlans, HasVersion, IsPlan, region_of}
use Rattle.dp_plan.proofs.PlanBack.{plan_back, plan_fits}
use Rattle.dp_plan.proofs.RegionFacts.{InOrder, few_regions, in_order}
use Rattle.dp_plan.proofs.RulesHold.{valid_unbroken}
use Rattle.dp_plan_text.proofs.RunEnds.{all_lines_fit}
use Rattle.dp_plan_text.proofs.LineComplete.{are_words}
use Rattle.dp_text.proofs.Unbroken.{lines_whole}

-- a plan that fits, with its region's sites in order
record Ready (p : Program) (plan : Plan) : Type 0 where
  is : IsPlan p plan
  order : InOrder p plan

numbers_same : (p : Program) (plans : List Plan) → map written_region (map (written_of p) plans) ≡ map region_of plans
numbers_same p [] = refl
numbers_same p (plan ∷ rest) = ap (λ (ns : List ℕ). plan.region ∷ ns) (numbers_same p rest)

all_fit : (p : Program) (plans : List Plan) → Each (Ready p) plans → Each PlanFits (map (written_of p) plans)
all_fit p [] ready = tt
all_fit p (plan ∷ rest) ready = (plan_fits p plan ready.0.is ready.0.order, all_fit p rest ready.1)

no_fault : (p : Program) (plans : List Plan) → Each (Ready p) plans → first_fault p (map (written_of p) plans) ≡ None
no_fault p [] ready = refl
no_fault p (plan ∷ rest) ready =
    ap (λ o. or_later o (first_fault p (map (written_of p) rest))) (valid_unbroken p (written_of p plan) ready.0.is.valid) ∙ no_fault p rest ready.1

all_back : (p : Program) (v : Bool) (plans : List Plan) → Each (Ready p) plans → Each (HasVersion v) plans →
    plans ≡ map (plan_of p v) (map (written_of p) plans)
all_back p v [] ready same = refl
all_back p v (plan ∷ rest) ready same =
    ap (λ (l : List Plan). plan ∷ l) (all_back p v rest ready.1 same.1)
    ∙ ap (λ (q : Plan). q ∷ map (plan_of p v) (map (written_of p) rest)) (sym (plan_back p plan ready.0.is ready.0.order)
    ∙ ap (λ (b : Bool). plan_of p b (written_of p plan)) same.0)

module _ (p : Program) (inlined : IsInlined p) where
  all_ready : (plans : List Plan) (k n : ℕ) → 1 ≤ k → k + n ≤ 1 + length p.regions → map region_of plans ≡ numbers_from k n → Each (IsPlan p) plans →
      Each (Ready p) plans
  all_ready [] k n low high numbers are = tt
  all_ready (plan ∷ rest) k zero low high numbers are = absurd (cc numbers)
  all_ready (plan ∷ rest) k (suc n) low high numbers are =
      let here : plan.region ≡ k = cc numbers in
      let later : map region_of rest ≡ numbers_from (k + 1) n = cc numbers in (
        record { is = are.0; order = in_order p inlined plan (omega (arith, here, low)) (omega (arith, here, high)) },
        all_ready rest (k + 1) n (omega arith) (omega (arith, high)) later are.1,
      )

  pub read_back : (plans : List Plan) → ArePlans p plans → StandsFor p (plans_text p plans) plans
  read_back plans are =
      let ready = all_ready plans 1 (length p.regions) (omega arith) (omega arith) are.regions are.each in
      let ws = map (written_of p) plans in
      let numbers : map written_region (map (written_of p) plans) ≡ numbers_from 1 (length p.regions) = numbers_same p plans ∙ are.regions in
      let fit = all_fit p plans ready in
      let text : PlanText p (plans_text p plans) (plans_version plans) (map (written_of p) plans) = record {
        lines_are = lines_whole plan_words are_words (plan_lines (plans_version plans) ws) (all_lines_fit (plans_version plans) ws (length p.regions) numbers
            (few_regions p inlined) fit);
        regions = numbers;
        fit = fit;
      } in
      (plans_version plans, ws, text, no_fault p plans ready, all_back p (plans_version plans) plans ready are.version)
