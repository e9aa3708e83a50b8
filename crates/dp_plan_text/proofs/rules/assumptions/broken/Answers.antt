use Rattle.std.proofs.Common.{◌≡◌, sym, subst, ap, ◌∙◌, ℕ, List, [], ◌∷◌, map, filter, Option, IsPermutation}
use Rattle.dp_tree.specs.declared.Program.{Program}
use Rattle.dp_plan.specs.declared.WrittenPlan.{WrittenPlan}
use Rattle.dp_plan.specs.Enclosing.{region_ifs, region_inner_whiles}
use Rattle.dp_plan.specs.declared.Enclosing.{Enclosing}
use Rattle.dp_plan.specs.Rules.{least, comes_late, site_of_condition, assumed_site, late_while, late_if, wrongly_assumed}
use Rattle.dp_plan_text.specs.steps.Tables.{is_late_outside, is_outside_or_again}
use Rattle.dp_plan_text.proofs.RuleLemmas.{breaks, holds, late_if_is, wrongly_assumed_is}
use Rattle.dp_plan_text.proofs.rules.assumptions.broken.Goals as goal

-- what each call answers, of the lists that it reads
module _ (p : Program) (w : WrittenPlan) (named : Option ℕ) where
  seventh : (read : List Enclosing) → named ≡ least (map site_of_condition (filter (comes_late w) read)) → read ≡ region_inner_whiles p w.region →
      named ≡ late_while p w
  seventh read is of_region = is ∙ ap (λ l. least (map site_of_condition (filter (comes_late w) l))) of_region

  module _ (all ordered : List ℕ) (is_all : all ≡ map assumed_site w.assume) (moved : IsPermutation all ordered) (read : List Enclosing) (among : List ℕ)
      (of_region : read ≡ region_ifs p w.region) (in_order : among ≡ ordered) where
    order : IsPermutation (map assumed_site w.assume) ordered
    order = subst (λ l. IsPermutation l ordered) is_all moved

    eighth : named ≡ least (map site_of_condition (filter (is_late_outside w among) read)) → named ≡ late_if p w
    eighth is =
        is ∙ ap (λ l. least (map site_of_condition (filter (is_late_outside w among) l))) of_region
        ∙ ap (λ l. least (map site_of_condition (filter (is_late_outside w l) (region_ifs p w.region)))) in_order
        ∙ late_if_is p w ordered order

    ninth : named ≡ least (filter (is_outside_or_again (map site_of_condition read) among) among) → named ≡ wrongly_assumed p w
    ninth is =
        is ∙ ap (λ l. least (filter (is_outside_or_again (map site_of_condition l) among) among)) of_region
        ∙ ap (λ l. least (filter (is_outside_or_again (map site_of_condition (region_ifs p w.region)) l) l)) in_order
        ∙ wrongly_assumed_is p w ordered order

pub returns-in-Some-late_if : goal.returns-in-Some-late_if
returns-in-Some-late_if c =
    let p = c.args.p.now in let w = c.args.w.now in
    let seven = seventh p w c.late_while.result _ c.late_while.ensures (c.as_slice.ensures ∙ c.in_ok-whiles.ensures) in
    let eight = eighth p w c.late_if.result _ c.in_order-assumed.result c.in_ok-assumed_sites.ensures c.in_order-assumed.ensures.permutation _ _
    (c.as_slice-3.ensures ∙ c.in_ok-ifs.ensures) c.as_slice-2.ensures c.late_if.ensures in
    breaks 8 c.in-Some-late_if.site (late_if p w) (wrongly_assumed p w ∷ []) (sym eight ∙ c.in-Some-late_if.is)
    ∙ holds 7 (late_while p w) (late_if p w ∷ wrongly_assumed p w ∷ []) (sym seven ∙ c.in_default.is)

pub returns-in-Some-2 : goal.returns-in-Some-2
returns-in-Some-2 c =
    let p = c.args.p.now in let w = c.args.w.now in
    let seven = seventh p w c.late_while.result _ c.late_while.ensures (c.as_slice.ensures ∙ c.in_ok-whiles.ensures) in
    let eight = eighth p w c.late_if.result _ c.in_order-assumed.result c.in_ok-assumed_sites.ensures c.in_order-assumed.ensures.permutation _ _
    (c.as_slice-3.ensures ∙ c.in_ok-ifs.ensures) c.as_slice-2.ensures c.late_if.ensures in
    let nine = ninth p w c.in_ok-site.field-0 _ c.in_order-assumed.result c.in_ok-assumed_sites.ensures c.in_order-assumed.ensures.permutation _ _
    (c.as_slice-5.ensures ∙ c.in_ok-ifs.ensures) c.as_slice-4.ensures c.in_ok-site.ensures in
    breaks 9 c.in-Some-2.site (wrongly_assumed p w) [] (sym nine ∙ c.in-Some-2.is)
    ∙ holds 8 (late_if p w) (wrongly_assumed p w ∷ []) (sym eight ∙ c.in_default-late_if.is)
    ∙ holds 7 (late_while p w) (late_if p w ∷ wrongly_assumed p w ∷ []) (sym seven ∙ c.in_default.is)

pub returns : goal.returns
returns c =
    let p = c.args.p.now in let w = c.args.w.now in
    let seven = seventh p w c.late_while.result _ c.late_while.ensures (c.as_slice.ensures ∙ c.in_ok-whiles.ensures) in
    let eight = eighth p w c.late_if.result _ c.in_order-assumed.result c.in_ok-assumed_sites.ensures c.in_order-assumed.ensures.permutation _ _
    (c.as_slice-3.ensures ∙ c.in_ok-ifs.ensures) c.as_slice-2.ensures c.late_if.ensures in
    let nine = ninth p w c.in_ok-site.field-0 _ c.in_order-assumed.result c.in_ok-assumed_sites.ensures c.in_order-assumed.ensures.permutation _ _
    (c.as_slice-5.ensures ∙ c.in_ok-ifs.ensures) c.as_slice-4.ensures c.in_ok-site.ensures in
    holds 9 (wrongly_assumed p w) [] (sym nine ∙ c.in_default-2.is)
    ∙ holds 8 (late_if p w) (wrongly_assumed p w ∷ []) (sym eight ∙ c.in_default-late_if.is)
    ∙ holds 7 (late_while p w) (late_if p w ∷ wrongly_assumed p w ∷ []) (sym seven ∙ c.in_default.is)
