-- The plan that a valid written plan stands for fits its region, and what a text is read as are such plans.
use Rattle.std.proofs.Common.{◌≡◌, refl, sym, ap, subst, ◌∙◌, ℕ, zero, suc, ◌+◌, ◌≤◌, Bool, true, false, List, [], ◌∷◌, map, length, Option, Some, None}
use Rattle.std.proofs.Common.{is_none, inl, inr, arith}
use Rattle.std.proofs.lemmas.Bool.{cases_Bool, ltb-false}
use Rattle.std.proofs.lemmas.List.{length-map}
use Rattle.dp_tree.specs.declared.Program.{Program}
use Rattle.dp_tree.specs.Inlined.{IsInlined}
use Rattle.dp_tree.specs.Numbering.{numbers_from}
use Rattle.dp_plan.specs.declared.Plan.{Plan}
use Rattle.dp_plan.specs.Stage.{first_site, stage_of}
use Rattle.dp_plan.specs.Written.{has, kind_in, lines_from, listed_sites, plan_of, region_sites, written_of, written_stage}
use Rattle.dp_plan.specs.declared.WrittenPlan.{WrittenPlan}
use Rattle.dp_plan.specs.declared.WrittenStage.{WrittenStage}
use Rattle.dp_plan.specs.Rules.{occurs_again}
use Rattle.dp_plan.specs.Valid.{first_broken, first_fault, or_later}
use Rattle.dp_plan.specs.declared.BrokenRule.{BrokenRule}
use Rattle.dp_plan.specs.Each.{AscendAbove, Each}
use Rattle.dp_plan.specs.PlanFits.{PlanFits}
use Rattle.dp_plan_text.specs.PlanText.{written_region}
use Rattle.dp_plan_text.specs.Refused.{StandsFor}
use Rattle.dp_plan.specs.GivenPlans.{ArePlans, HasVersion, IsPlan, region_of}
use Rattle.dp_plan.specs.GivenPlans.{plans_version}
use Rattle.dp_plan.proofs.Ascent.{above-ascends}
use Rattle.dp_plan.proofs.Found.{has_each}
use Rattle.dp_plan_text.proofs.LinesBack.{Listed, lines_back, stages_filled}
use Rattle.dp_plan.proofs.RegionFacts.{InOrder, in_order}
use Rattle.dp_plan.proofs.RulesHold.{all_listed, none_again, none_foreign}
use Rattle.dp_plan.proofs.SameNumbers.{count, count_none}
use Rattle.dp_plan.proofs.StagesBack.{table_back}
use Rattle.dp_plan_text.proofs.ValidBack as valid

each_same : (f g : ℕ → ℕ) (ns : List ℕ) → map f ns ≡ map g ns → Each (λ n. f n ≡ g n) ns
each_same f g [] e = tt
each_same f g (n ∷ ns) e = let head : f n ≡ g n = cc e in let later : map f ns ≡ map g ns = cc e in (head, each_same f g ns later)

module _ (p : Program) (v : Bool) (w : WrittenPlan) (holds : first_broken p w ≡ None) (fits : PlanFits w) (order : InOrder p (plan_of p v w)) where
  abbrev plan : Plan
  plan = plan_of p v w

  abbrev sites : List ℕ
  sites = region_sites p w.region

  up : AscendAbove 0 (region_sites p w.region)
  up = above-ascends 0 (first_site p plan) sites order.order (omega (arith, order.low)) order.high

  staged : map (stage_of p (plan_of p v w)) (region_sites p w.region) ≡ map (written_stage w) (region_sites p w.region)
  staged = table_back p plan order.order (length-map sites (written_stage w))

  known : (n : ℕ) → has n (listed_sites w) ≡ true → has n (region_sites p w.region) ≡ true
  known n e = has_each (λ site. has site (region_sites p w.region) ≡ true) (listed_sites w) n (none_foreign p w holds) e

  once : (n : ℕ) → count n (listed_sites w) ≤ 1
  once n = elim (cases_Bool (has n (listed_sites w))) [
    | inl t ↦ ltb-false 1 (count n (listed_sites w)) (has_each (λ site. occurs_again (listed_sites w) site ≡ false) (listed_sites w) n (none_again p w holds) t)
    | inr t ↦ omega (arith, count_none n (listed_sites w) t)
  ]

  all : Listed p (plan_of p v w) up 1 w.stages
  all = record {
    once = once;
    known = known;
    fit = fits.stages;
    staged = λ n e. has_each (λ m. stage_of p plan m ≡ written_stage w m) sites n (each_same (stage_of p plan) (written_stage w) sites staged) (known n e);
    earlier = λ n e off. let on = has_each (λ site. has site (listed_sites w) ≡ true) sites n (all_listed p w holds) e in absurd (cc (sym on ∙ off));
  }

  lines : lines_from p (plan_of p v w) 1 (map kind_in w.stages) ≡ w.stages
  lines = lines_back p plan up 1 w.stages all

  still : first_broken p (written_of p (plan_of p v w)) ≡ None
  still = ap (λ (ls : List WrittenStage). first_broken p (record (valid.in_order p w holds up) { stages = ls })) lines ∙ valid.valid_in_order p w holds up

  pub plan_is : IsPlan p (plan_of p v w)
  plan_is =
      let many : length (map kind_in w.stages) ≡ length w.stages = length-map w.stages kind_in in
      record {
        least_words = fits.least_words;
        most_words = fits.most_words;
        some_stage = omega (arith, many, fits.some_stage);
        few_stages = omega (arith, many, fits.few_stages);
        filled = subst (λ (t : List ℕ). Each (λ stage. has stage t ≡ true) (numbers_from 1 (length (map kind_in w.stages)))) staged
            (subst (λ (i : ℕ). Each (λ stage. has stage (map (stage_of p plan) sites) ≡ true) (numbers_from 1 i)) (sym many)
            (stages_filled p plan up 1 w.stages all));
        staged = length-map sites (written_stage w);
        valid = ap is_none still;
        assume = valid.sorted_up p w holds up;
        table = refl;
      }

numbers_same : (p : Program) (v : Bool) (ws : List WrittenPlan) → map region_of (map (plan_of p v) ws) ≡ map written_region ws
numbers_same p v [] = refl
numbers_same p v (w ∷ rest) = ap (λ (ns : List ℕ). w.region ∷ ns) (numbers_same p v rest)

all_have : (p : Program) (v : Bool) (ws : List WrittenPlan) → Each (HasVersion v) (map (plan_of p v) ws)
all_have p v [] = tt
all_have p v (w ∷ rest) = (refl, all_have p v rest)

one_version : (p : Program) (v : Bool) (ws : List WrittenPlan) → Each (HasVersion (plans_version (map (plan_of p v) ws))) (map (plan_of p v) ws)
one_version p v [] = tt
one_version p v (w ∷ rest) = all_have p v (w ∷ rest)

faultless : (first later : Option BrokenRule) → or_later first later ≡ None → (first ≡ None) × (later ≡ None)
faultless None later e = (refl, e)
faultless (Some broken) later e = absurd (cc e)

module _ (p : Program) (v : Bool) (inlined : IsInlined p) where
  each_is : (ws : List WrittenPlan) (k n : ℕ) → 1 ≤ k → k + n ≤ 1 + length p.regions → map written_region ws ≡ numbers_from k n → Each PlanFits ws →
      first_fault p ws ≡ None → Each (IsPlan p) (map (plan_of p v) ws)
  each_is [] k n low high numbers fit holds = tt
  each_is (w ∷ rest) k zero low high numbers fit holds = absurd (cc numbers)
  each_is (w ∷ rest) k (suc n) low high numbers fit holds =
      let here : w.region ≡ k = cc numbers in
      let later : map written_region rest ≡ numbers_from (k + 1) n = cc numbers in
      let both = faultless (first_broken p w) (first_fault p rest) holds in (
        plan_is p v w both.0 fit.0 (in_order p inlined (plan_of p v w) (omega (arith, here, low)) (omega (arith, here, high))),
        each_is rest (k + 1) n (omega arith) (omega (arith, high)) later fit.1 both.1,
      )

module _ (p : Program) (inlined : IsInlined p) where
  pub read_fits : (bytes : List ℕ) (plans : List Plan) → StandsFor p bytes plans → ArePlans p plans
  read_fits bytes plans stands =
      let v = stands.0 in let ws = stands.1 in let text = stands.2 in
      subst (λ (qs : List Plan). ArePlans p qs) (sym stands.4) (record {
        regions = numbers_same p v ws ∙ text.regions;
        version = one_version p v ws;
        each = each_is p v inlined ws 1 (length p.regions) (omega arith) (omega arith) text.regions text.fit stands.3;
      })
