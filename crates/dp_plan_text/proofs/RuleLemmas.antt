-- The rules over lists in ascending order, and the first rule that fails.
use Rattle.std.proofs.Common.{◌≡◌, sym, ◌∙◌, ap, ℕ, suc, not, ◌&&◌, ◌||◌, List, ◌∷◌, map, filter, Option, Some, None}
use Rattle.std.specs.List.Sorted.{IsPermutation}
use Rattle.std.proofs.lemmas.List.Elements.{filter_agree}
use Rattle.dp_tree.specs.declared.Program.{Program}
use Rattle.dp_plan.specs.Written.{listed_sites, region_sites}
use Rattle.dp_plan.specs.declared.WrittenPlan.{WrittenPlan}
use Rattle.dp_plan.specs.Enclosing.{region_ifs}
use Rattle.dp_plan.specs.Rules.{least, occurs_again, not_listed, listed_twice, foreign, comes_late, site_of_condition, assumed_site, late_if, is_late_unassumed}
use Rattle.dp_plan.specs.Rules.{wrongly_assumed, is_no_if_or_again}
use Rattle.dp_plan_text.specs.steps.Tables.{is_outside, lesser_of, is_late_outside, is_outside_or_again}
use Rattle.dp_plan.specs.Valid.{broken_from}
use Rattle.dp_plan_text.proofs.MemberLemmas.{least_either, has_moved, again_moved, least_moved}

outside_moved : (xs ys : List ℕ) → IsPermutation xs ys → (n : ℕ) → is_outside ys n ≡ is_outside xs n
outside_moved xs ys moved n = ap not (sym (has_moved n xs ys moved))

module _ (p : Program) (w : WrittenPlan) where
  -- the listed sites, and the region's, in ascending order
  module _ (ordered : List ℕ) (moved : IsPermutation (listed_sites w) ordered) where
    pub not_listed_is : least (filter (is_outside ordered) (region_sites p w.region)) ≡ not_listed p w
    not_listed_is = ap least (filter_agree (is_outside ordered) (is_outside (listed_sites w)) (outside_moved (listed_sites w) ordered moved)
        (region_sites p w.region))

    pub listed_twice_is : least (filter (occurs_again ordered) ordered) ≡ listed_twice w
    listed_twice_is =
        sym (least_moved (occurs_again (listed_sites w)) (occurs_again ordered) (listed_sites w) ordered
        (λ n. again_moved n (listed_sites w) ordered moved) moved)

    pub foreign_is : (own : List ℕ) → IsPermutation (region_sites p w.region) own → least (filter (is_outside own) ordered) ≡ foreign p w
    foreign_is own of_region =
        sym (least_moved (is_outside (region_sites p w.region)) (is_outside own) (listed_sites w) ordered
        (λ n. sym (outside_moved (region_sites p w.region) own of_region n)) moved)

  -- the assumed sites in ascending order
  module _ (ordered : List ℕ) (moved : IsPermutation (map assumed_site w.assume) ordered) where
    pub late_if_is : least (map site_of_condition (filter (is_late_outside w ordered) (region_ifs p w.region))) ≡ late_if p w
    late_if_is =
        ap (λ l. least (map site_of_condition l))
        (filter_agree (is_late_outside w ordered) (is_late_unassumed w)
        (λ e. ap (λ b. comes_late w e && b) (outside_moved (map assumed_site w.assume) ordered moved e.site)) (region_ifs p w.region))

    pub wrongly_assumed_is : least (filter (is_outside_or_again (map site_of_condition (region_ifs p w.region)) ordered) ordered) ≡ wrongly_assumed p w
    wrongly_assumed_is =
        let conditions = map site_of_condition (region_ifs p w.region) in
        sym (least_moved (is_no_if_or_again p w) (is_outside_or_again conditions ordered) (map assumed_site w.assume) ordered
        (λ n. ap (λ b. is_outside conditions n || b) (again_moved n (map assumed_site w.assume) ordered moved)) moved)

-- the lesser of what is no condition and what stands there again
pub wrong_either : (conditions own assumed : List ℕ) → IsPermutation conditions own
    → lesser_of (least (filter (is_outside own) assumed)) (least (filter (occurs_again assumed) assumed)) ≡ least
    (filter (is_outside_or_again conditions assumed) assumed)
wrong_either conditions own assumed moved =
    least_either (is_outside own) (occurs_again assumed) assumed
    ∙ ap least (filter_agree (λ n. is_outside own n || occurs_again assumed n) (is_outside_or_again conditions assumed)
    (λ n. ap (λ b. b || occurs_again assumed n) (outside_moved conditions own moved n)) assumed)

-- ---- the first rule that fails

pub breaks : (rule site : ℕ) (named : Option ℕ) (rest : List (Option ℕ)) → named ≡ Some site →
    Some (record { rule = rule; site = site }) ≡ broken_from rule (named ∷ rest)
breaks rule site named rest e = sym (ap (λ o. broken_from rule (o ∷ rest)) e)

pub holds : (rule : ℕ) (named : Option ℕ) (rest : List (Option ℕ)) → named ≡ None → broken_from (suc rule) rest ≡ broken_from rule (named ∷ rest)
holds rule named rest e = sym (ap (λ o. broken_from rule (o ∷ rest)) e)
