-- A valid written plan is valid with its assumptions in the order of the sites too.
use Rattle.std.proofs.Common.{◌≡◌, refl, ap, ◌∙◌, ℕ, ◌<◌, true, false, not, List, [], ◌∷◌, map, filter, filter_map, None, nat_lt, inl, inr, arith}
use Rattle.std.proofs.lemmas.Bool.{cases_Bool, ltb-true, not-false, or_from, or_parts}
use Rattle.dp_plan.proofs.RulesMet.{dropped, none_broken}
use Rattle.dp_tree.specs.declared.Program.{Program}
use Rattle.dp_plan.specs.Each.{AscendAbove, Each}
use Rattle.dp_plan.specs.Written.{assumption_at, has, region_sites}
use Rattle.dp_plan.specs.declared.WrittenPlan.{WrittenPlan}
use Rattle.dp_plan.specs.Enclosing.{region_ifs}
use Rattle.dp_plan.specs.declared.Enclosing.{Enclosing}
use Rattle.dp_plan.specs.Rules.{assumed_site, comes_late, is_late_unassumed, is_no_if_or_again, late_if, least, occurs_again, site_of_condition}
use Rattle.dp_plan.specs.Rules.{wrongly_assumed}
use Rattle.dp_plan.specs.Valid.{first_broken, rules}
use Rattle.dp_plan.proofs.Ascent.{above-filter}
use Rattle.dp_plan.proofs.Found.{each_has, has_each, has-filter, kept}
use Rattle.dp_plan.proofs.IfSites.{ifs_are_sites}
use Rattle.dp_plan.proofs.RulesHold.{holds, ifs_in_time, rightly_assumed}
use Rattle.dp_plan.proofs.SameNumbers.{ascending_once, count}
use Rattle.dp_plan_text.proofs.SortedAssume.{sorted_sites}

not_again : (n : ℕ) (ns : List ℕ) → count n ns < 2 → occurs_again ns n ≡ false
not_again n ns lt = elim (cases_Bool (nat_lt 1 (count n ns))) [ inl t ↦ absurd (omega (arith, ltb-true 1 (count n ns) t, lt)) | inr t ↦ t ]

module _ (p : Program) (w : WrittenPlan) (valid : first_broken p w ≡ None) (up : AscendAbove 0 (region_sites p w.region)) where
  abbrev pub in_order : WrittenPlan
  in_order = record w { assume = filter_map (assumption_at w.assume) (region_sites p w.region) }

  same : map assumed_site (filter_map (assumption_at w.assume) (region_sites p w.region)) ≡ filter (λ site. has site (map assumed_site w.assume))
      (region_sites p w.region)
  same = sorted_sites w.assume (region_sites p w.region)

  pub sorted_up : AscendAbove 0 (map assumed_site (filter_map (assumption_at w.assume) (region_sites p w.region)))
  sorted_up = rw same (above-filter (λ site. has site (map assumed_site w.assume)) 0 (region_sites p w.region) up)

  in_time : (es : List Enclosing) → Each (λ e. is_late_unassumed w e ≡ false) es → Each (λ n. has n (region_sites p w.region) ≡ true) (map site_of_condition es)
      → Each (λ e. is_late_unassumed in_order e ≡ false) es
  in_time [] each sites = tt
  in_time (e ∷ es) each sites = (
    elim (cases_Bool (comes_late w e)) [
      | inl t ↦
          let unassumed : not (has e.site (map assumed_site w.assume)) ≡ false = rw t at each.0 in
          let there : has e.site (filter (λ site. has site (map assumed_site w.assume)) (region_sites p w.region)) ≡ true =
          kept (λ site. has site (map assumed_site w.assume)) (region_sites p w.region) e.site sites.0
          (not-false (has e.site (map assumed_site w.assume)) unassumed) in
          let sorted_there : has e.site (map assumed_site (filter_map (assumption_at w.assume) (region_sites p w.region))) ≡ true = ap
          (has e.site) same ∙ there in
          rw (t, sorted_there) refl
      | inr t ↦ rw t refl
    ],
    in_time es each.1 sites.1,
  )

  rightly : (ns : List ℕ) → Each (λ n. has n (filter (λ site. has site (map assumed_site w.assume)) (region_sites p w.region)) ≡ true) ns →
      Each (λ n. is_no_if_or_again p in_order n ≡ false) ns
  rightly [] each = tt
  rightly (n ∷ ns) each =
      let assumed = (has-filter (λ site. has site (map assumed_site w.assume)) (region_sites p w.region) n each.0).1 in
      let known : is_no_if_or_again p w n ≡ false = has_each (λ site. is_no_if_or_again p w site ≡ false) (map assumed_site w.assume) n
      (rightly_assumed p w valid) assumed in
      let once = ascending_once 0 n (map assumed_site (filter_map (assumption_at w.assume) (region_sites p w.region))) sorted_up in (
        or_from (not (has n (map site_of_condition (region_ifs p w.region))))
            (occurs_again (map assumed_site (filter_map (assumption_at w.assume) (region_sites p w.region))) n)
            (or_parts (not (has n (map site_of_condition (region_ifs p w.region)))) (occurs_again (map assumed_site w.assume) n) known).0
            (not_again n (map assumed_site (filter_map (assumption_at w.assume) (region_sites p w.region))) (omega (arith, once))),
        rightly ns each.1,
      )

  if_sites : (ns : List ℕ) → Each (λ n. has n (map site_of_condition (region_ifs p w.region)) ≡ true) ns → Each (λ n. has n (region_sites p w.region) ≡ true) ns
  if_sites [] each = tt
  if_sites (n ∷ ns) each = (ifs_are_sites p w.region n each.0, if_sites ns each.1)

  none_late : late_if p in_order ≡ None
  none_late = ap (λ (es : List Enclosing). least (map site_of_condition es)) (dropped (is_late_unassumed in_order) (region_ifs p w.region)
      (in_time (region_ifs p w.region) (ifs_in_time p w valid) (if_sites (map site_of_condition (region_ifs p w.region))
      (each_has (map site_of_condition (region_ifs p w.region))))))

  none_wrong : wrongly_assumed p in_order ≡ None
  none_wrong = ap least (dropped (is_no_if_or_again p in_order) (map assumed_site (filter_map (assumption_at w.assume) (region_sites p w.region)))
      (rightly (map assumed_site (filter_map (assumption_at w.assume) (region_sites p w.region)))
      (rw same (each_has (filter (λ site. has site (map assumed_site w.assume)) (region_sites p w.region))))))

  pub valid_in_order : first_broken p in_order ≡ None
  valid_in_order =
      let h = holds p w valid in
      none_broken 1 (rules p in_order) (h.0, (h.1.0, (h.1.1.0, (h.1.1.1.0, (h.1.1.1.1.0, (h.1.1.1.1.1.0, (h.1.1.1.1.1.1.0, (none_late, (none_wrong, tt)))))))))
