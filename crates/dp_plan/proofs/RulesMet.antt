-- A written plan of which each rule is met breaks none.
use Rattle.std.proofs.Common.{◌≡◌, refl, ap, ◌∙◌, ℕ, suc, Bool, true, false, not, ◌==◌, List, [], ◌∷◌, map, filter, Option, None}
use Rattle.dp_tree.specs.declared.Program.{Program}
use Rattle.dp_plan.specs.Each.{Each}
use Rattle.dp_plan.specs.Written.{WrittenPlan, has, listed_sites, region_sites, written_stage}
use Rattle.dp_plan.specs.Enclosing.{Enclosing, region_ifs, region_inner_whiles}
use Rattle.dp_plan.specs.Rules.{assumed_site, begins_sequential, comes_late, condition, condition_later, condition_unless, first_replicated, foreign}
use Rattle.dp_plan.specs.Rules.{is_late_unassumed, is_no_if_or_again, late_if, late_while, least, least_site_in, listed_twice, neighbours_replicated}
use Rattle.dp_plan.specs.Rules.{not_listed, occurs_again, second_neighbour, site_of_condition, wrongly_assumed}
use Rattle.dp_plan.specs.Valid.{broken_from, first_broken, rules}

-- what each rule asks
pub record Meets (p : Program) (w : WrittenPlan) : Type 0 where
  pub all : Each (λ site. has site (listed_sites w) ≡ true) (region_sites p w.region)
  pub once : Each (λ site. occurs_again (listed_sites w) site ≡ false) (listed_sites w)
  pub own : Each (λ site. has site (region_sites p w.region) ≡ true) (listed_sites w)
  pub first : (written_stage w (condition p w) == 1) ≡ true
  pub sequential : begins_sequential w.stages ≡ true
  pub apart : second_neighbour w.stages ≡ None
  pub whiles : Each (λ e. comes_late w e ≡ false) (region_inner_whiles p w.region)
  pub ifs : Each (λ e. is_late_unassumed w e ≡ false) (region_ifs p w.region)
  pub assumed : Each (λ site. is_no_if_or_again p w site ≡ false) (map assumed_site w.assume)

pub dropped : {X : Type 0} (test : X → Bool) (xs : List X) → Each (λ x. test x ≡ false) xs → filter test xs ≡ []
dropped test [] each = refl
dropped test (x ∷ xs) each = rw each.0 (dropped test xs each.1)

none_least : (test : ℕ → Bool) (ns : List ℕ) → Each (λ n. test n ≡ false) ns → least (filter test ns) ≡ None
none_least test ns each = ap least (dropped test ns each)

no_condition : (test : Enclosing → Bool) (es : List Enclosing) → Each (λ e. test e ≡ false) es → least (map site_of_condition (filter test es)) ≡ None
no_condition test es each = ap (λ (l : List Enclosing). least (map site_of_condition l)) (dropped test es each)

each_off : (test : ℕ → Bool) (ns : List ℕ) → Each (λ n. test n ≡ true) ns → Each (λ n. not (test n) ≡ false) ns
each_off test [] each = tt
each_off test (n ∷ ns) each = (ap not each.0, each_off test ns each.1)

pub none_broken : (rule : ℕ) (named : List (Option ℕ)) → Each (λ o. o ≡ None) named → broken_from rule named ≡ None
none_broken rule [] each = refl
none_broken rule (o ∷ rest) each = ap (λ (q : Option ℕ). broken_from rule (q ∷ rest)) each.0 ∙ none_broken (suc rule) rest each.1

module _ (p : Program) (w : WrittenPlan) (met : Meets p w) where
  lists : (not_listed p w ≡ None) × (listed_twice w ≡ None) × (foreign p w ≡ None)
  lists = (
    none_least (λ site. not (has site (listed_sites w))) (region_sites p w.region)
        (each_off (λ site. has site (listed_sites w)) (region_sites p w.region) met.all),
    none_least (occurs_again (listed_sites w)) (listed_sites w) met.once,
    none_least (λ site. not (has site (region_sites p w.region))) (listed_sites w) (each_off (λ site. has site (region_sites p w.region))
        (listed_sites w) met.own),
  )

  stages : (condition_later p w ≡ None) × (first_replicated p w ≡ None) × (neighbours_replicated w ≡ None)
  stages = (ap (condition_unless p w) met.first, ap (condition_unless p w) met.sequential, ap least_site_in met.apart)

  conditions : (late_while p w ≡ None) × (late_if p w ≡ None) × (wrongly_assumed p w ≡ None)
  conditions = (
    no_condition (comes_late w) (region_inner_whiles p w.region) met.whiles,
    no_condition (is_late_unassumed w) (region_ifs p w.region) met.ifs,
    none_least (is_no_if_or_again p w) (map assumed_site w.assume) met.assumed,
  )

  pub unbroken : first_broken p w ≡ None
  unbroken = none_broken 1 (rules p w) (lists.0, (lists.1, (lists.2, (stages.0, (stages.1, (stages.2, (conditions.0, (conditions.1, (conditions.2, tt)))))))))
