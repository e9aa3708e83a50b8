-- The automatic plans of an inlined program are valid.
use Rattle.std.proofs.Common.{◌≡◌, sym, ap, subst, ℕ, zero, suc, ◌+◌, ◌<◌, ◌≤◌, Bool, true, List, [], ◌∷◌, map, length, Option, arith}
use Rattle.dp_tree.specs.declared.Program.{Program}
use Rattle.dp_tree.specs.Inlined.{IsInlined}
use Rattle.dp_tree.specs.Numbering.{numbers_from}
use Rattle.dp_plan.specs.declared.Plan.{Plan}
use Rattle.dp_plan.specs.GivenPlans.{ArePlans, HasVersion, IsPlan, region_of}
use Rattle.dp_plan.specs.Each.{Each}
use Rattle.dp_plan.specs.GivenPlans.{plans_version}
use Rattle.dp_profile.specs.declared.Profile.{Profile}
use Rattle.dp_cut.specs.Automatic.{AreAutomatic, IsAutomatic}
use Rattle.dp_cut.proofs.LeastValid.{least_valid}

one_version : (plans : List Plan) → Each (HasVersion true) plans → Each (HasVersion (plans_version plans)) plans
one_version [] each = tt
one_version (plan ∷ rest) each = subst (λ (v : Bool). Each (HasVersion v) (plan ∷ rest)) (sym each.0) each

module _ (p : Program) (inlined : IsInlined p) (profile : Option Profile) (rate most workers : ℕ) where
  abbrev Least : Plan → Type 0
  Least plan = IsAutomatic p plan.region profile rate most workers plan

  versions : (plans : List Plan) → Each Least plans → Each (HasVersion true) plans
  versions [] each = tt
  versions (plan ∷ rest) each = (ap (λ (q : Plan). q.proved) each.0.least.is, versions rest each.1)

  each_valid : (plans : List Plan) → most < 9 → (k n : ℕ) → 1 ≤ k → k + n ≤ 1 + length p.regions → map region_of plans ≡ numbers_from k n → Each Least plans →
      Each (IsPlan p) plans
  each_valid [] few k n low high numbers each = tt
  each_valid (plan ∷ rest) few k zero low high numbers each = absurd (cc numbers)
  each_valid (plan ∷ rest) few k (suc n) low high numbers each =
      let here : plan.region ≡ k = cc numbers in
      let later : map region_of rest ≡ numbers_from (k + 1) n = cc numbers in (
        least_valid p inlined plan.region (omega (arith, here, low)) (omega (arith, here, high)) profile rate most workers few plan each.0,
        each_valid rest few (k + 1) n (omega arith) (omega (arith, high)) later each.1,
      )

  pub automatic_valid : (plans : List Plan) → most < 9 → AreAutomatic p profile rate most workers plans → ArePlans p plans
  automatic_valid plans few are = record {
    regions = are.regions;
    each = each_valid plans few 1 (length p.regions) (omega arith) (omega arith) are.regions are.each;
    version = one_version plans (versions plans are.each);
  }
