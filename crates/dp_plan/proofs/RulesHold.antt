-- What it says of a written plan that none of its rules is broken.
use Rattle.std.proofs.Common.{◌≡◌, refl, ℕ, suc, ◌==◌, Bool, true, false, not, List, [], ◌∷◌, map, filter, Option, Some, None, is_none, inl, inr}
use Rattle.std.proofs.lemmas.Bool.{cases_Bool, not-false}
use Rattle.dp_tree.specs.declared.Program.{Program}
use Rattle.dp_plan.specs.Each.{Each}
use Rattle.dp_plan.specs.Written.{WrittenPlan, has, listed_sites, region_sites, written_stage}
use Rattle.dp_plan.specs.Enclosing.{region_ifs, region_inner_whiles}
use Rattle.dp_plan.specs.Rules.{assumed_site, begins_sequential, comes_late, condition, condition_unless, is_late_unassumed, is_no_if_or_again, least}
use Rattle.dp_plan.specs.Rules.{least_site_in, lesser, occurs_again, second_neighbour, site_of_condition}
use Rattle.dp_plan.specs.Valid.{BrokenRule, broken_from, first_broken, is_valid, rules}

no_rule : (o : Option BrokenRule) → is_none o ≡ true → o ≡ None
no_rule None e = refl
no_rule (Some broken) e = absurd (cc e)

pub valid_unbroken : (p : Program) (w : WrittenPlan) → is_valid p w ≡ true → first_broken p w ≡ None
valid_unbroken p w e = no_rule (first_broken p w) e

-- no rule names a site
unbroken : (rule : ℕ) (named : List (Option ℕ)) → broken_from rule named ≡ None → Each (λ o. o ≡ None) named
unbroken rule [] e = tt
unbroken rule (None ∷ rest) e = (refl, unbroken (suc rule) rest e)
unbroken rule (Some site ∷ rest) e = absurd (cc e)

lesser_some : (n : ℕ) (o : Option ℕ) → lesser n o ≡ None → ⊥
lesser_some n None e = cc e
lesser_some n (Some m) e = cc e

pub none_least : (ns : List ℕ) → least ns ≡ None → ns ≡ []
none_least [] e = refl
none_least (n ∷ rest) e = absurd (lesser_some n (least rest) e)

none_kept : {X : Type 0} (test : X → Bool) (ns : List X) → filter test ns ≡ [] → Each (λ n. test n ≡ false) ns
none_kept test [] e = tt
none_kept test (n ∷ ns) e = elim (cases_Bool (test n)) [
  | inl t ↦ let clash : n ∷ filter test ns ≡ [] = rw t at e in absurd (cc clash)
  | inr t ↦ (t, none_kept test ns (rw t at e))
]

none_mapped : {X Y : Type 0} (f : X → Y) (xs : List X) → map f xs ≡ [] → xs ≡ []
none_mapped f [] e = refl
none_mapped f (x ∷ xs) e = absurd (cc e)

each_not : (test : ℕ → Bool) (ns : List ℕ) → Each (λ n. not (test n) ≡ false) ns → Each (λ n. test n ≡ true) ns
each_not test [] each = tt
each_not test (n ∷ ns) each = (not-false (test n) each.0, each_not test ns each.1)

met : (p : Program) (w : WrittenPlan) (b : Bool) → condition_unless p w b ≡ None → b ≡ true
met p w true e = refl
met p w false e = absurd (cc e)

module _ (p : Program) (w : WrittenPlan) (valid : first_broken p w ≡ None) where
  pub holds : Each (λ o. o ≡ None) (rules p w)
  holds = unbroken 1 (rules p w) valid

  pub all_listed : Each (λ site. has site (listed_sites w) ≡ true) (region_sites p w.region)
  all_listed = each_not (λ site. has site (listed_sites w)) (region_sites p w.region) (none_kept (λ site. not (has site (listed_sites w)))
      (region_sites p w.region) (none_least _ holds.0))

  pub none_again : Each (λ site. occurs_again (listed_sites w) site ≡ false) (listed_sites w)
  none_again = none_kept (occurs_again (listed_sites w)) (listed_sites w) (none_least _ holds.1.0)

  pub none_foreign : Each (λ site. has site (region_sites p w.region) ≡ true) (listed_sites w)
  none_foreign = each_not (λ site. has site (region_sites p w.region)) (listed_sites w) (none_kept (λ site. not (has site (region_sites p w.region)))
      (listed_sites w) (none_least _ holds.1.1.0))

  pub condition_first : (written_stage w (condition p w) == 1) ≡ true
  condition_first = met p w _ holds.1.1.1.0

  pub sequential_first : begins_sequential w.stages ≡ true
  sequential_first = met p w _ holds.1.1.1.1.0

  pub none_beside : least_site_in (second_neighbour w.stages) ≡ None
  none_beside = holds.1.1.1.1.1.0

  pub whiles_in_time : Each (λ e. comes_late w e ≡ false) (region_inner_whiles p w.region)
  whiles_in_time = none_kept (comes_late w) (region_inner_whiles p w.region) (none_mapped site_of_condition _ (none_least _ holds.1.1.1.1.1.1.0))

  pub ifs_in_time : Each (λ e. is_late_unassumed w e ≡ false) (region_ifs p w.region)
  ifs_in_time = none_kept (is_late_unassumed w) (region_ifs p w.region) (none_mapped site_of_condition (filter (is_late_unassumed w) (region_ifs p w.region))
      (none_least _ holds.1.1.1.1.1.1.1.0))

  pub rightly_assumed : Each (λ site. is_no_if_or_again p w site ≡ false) (map assumed_site w.assume)
  rightly_assumed = none_kept (is_no_if_or_again p w) (map assumed_site w.assume) (none_least _ holds.1.1.1.1.1.1.1.1.0)
