-- In a region that stands once and whose sites go up one by one, the table of its sites tells which stores lie apart from what is loaded.
use Rattle.std.proofs.Common.{◌≡◌, refl, sym, ap, ◌∙◌, subst, ℕ, suc, ◌+◌, ◌-◌, ◌==◌, true, List, [], ◌∷◌, map, length, append-nil, Option, Some, None}
use Rattle.std.proofs.Common.{slice_get, inl, inr, arith, eqb-true}
use Rattle.std.proofs.lemmas.Bool.{cases_Bool}
use Rattle.std.proofs.lemmas.Option.{slice_get-map}
use Rattle.std.specs.Option.{option_map}
use Rattle.std.specs.List.{list_any, flat_map}
use Rattle.dp_base.specs.declared.SiteId.{SiteId}
use Rattle.dp_tree.specs.declared.Expr.{Expr}
use Rattle.dp_tree.specs.declared.Program.{Program}
use Rattle.dp_tree.specs.declared.Stmt.{Stmt, out-Stmt}
use Rattle.dp_tree.specs.declared.Stmt.TheOpen.{Stmt-F, Region}
use Rattle.dp_tree.specs.Numbering.{numbers_from}
use Rattle.dp_plan.specs.declared.Plan.{Plan}
use Rattle.dp_plan.specs.Access.{accesses, region_in}
use Rattle.dp_sites.specs.Apart.{TellsApart, bare_plan, loaded_at, passes_or, store_apart_at, tells}
use Rattle.dp_plan.specs.Written.{has, region_sites, access_site}
use Rattle.dp_plan.specs.Touch.{Touch}
use Rattle.dp_plan.specs.IsFar.{body_of, passes_with, touches}
use Rattle.dp_sites.specs.Place.{test_of}
use Rattle.dp_sites.specs.declared.place.Gap.{Gap}
use Rattle.dp_sites.specs.declared.place.Gap.TheVariants as gap
use Rattle.dp_sites.specs.declared.part.Part.{Part}
use Rattle.dp_sites.specs.declared.touched.Touched.{Touched}
use Rattle.dp_sites.specs.steps.Parts.{part_list, parts, touched, touched_in}
use Rattle.dp_sites.specs.Storings.{body_at, goes_up_from, storing_at, storing_of}
use Rattle.dp_sites.proofs.Aligned.{aligned}
use Rattle.dp_plan.proofs.Ascent.{Ascends}
use Rattle.dp_sites.proofs.FarTest.{far_is, far_none}
use Rattle.dp_plan.proofs.Found.{past_other}
use Rattle.dp_sites.proofs.PartTable.{found_at, part_site, seat_at, sites_same, touches_rise}
use Rattle.dp_sites.proofs.TableMade.{opened_region, passes, risen_up}

-- where a site of the list stands
record Sited (k : ℕ) (us : List Part) (n : ℕ) : Type 0 where
  place : ℕ
  part : Part
  at : slice_get us place ≡ Some part
  site : part.site ≡ n
  number : n ≡ k + place

sited : (k : ℕ) (us : List Part) (n : ℕ) → Ascends k (map part_site us) → has n (map part_site us) ≡ true → Sited k us n
sited k [] n h e = absurd (cc e)
sited k (u ∷ us) n h e = elim (cases_Bool (u.site == n)) [
  | inl t ↦ let same = eqb-true u.site n t in record { place = 0; part = u; at = refl; site = same; number = omega (arith, same, h.0) }
  | inr f ↦ let r = sited (suc k) us n h.1 (past_other u.site n (map part_site us) f e) in
      record { place = suc r.place; part = r.part; at = r.at; site = r.site; number = omega (arith, r.number) }
]

module _ (p : Program) (plan : Plan) (s : Stmt) (only : region_in p plan.region ≡ s ∷ []) (r : ℕ) (site : SiteId) (condition : Expr) (body : List Stmt)
    (is : out-Stmt s ≡ Region r site condition body)
    (k : ℕ) (goes_up : Ascends k (map part_site (parts None s))) (proved : plan.proved ≡ true) where
  abbrev us : List Part
  us = parts None s

  -- two of its parts
  module _ (test : Gap) (j : ℕ) (u : Part) (at : slice_get (parts None s) j ≡ Some u) (i : ℕ) (d : Part) (there : slice_get (parts None s) i ≡ Some d) where
    far_at : list_any (passes_with (test_of test) p plan.region d.site u.site) (numbers_from 0 (length p.vars)) ≡ passes_or test u (storing_at p plan us body d)
    far_at = by (seat_at s k goes_up i d there).t.store refl
      where
        stores_is : d.stores ≡ touched_in (seat_at s k goes_up i d there).t.store
        stores_is = ap (λ (q : Part). q.stores) (seat_at s k goes_up i d there).same.part_is

        loads_is : u.loads ≡ map touched (seat_at s k goes_up j u at).t.reads
        loads_is = ap (λ (x : Part). x.loads) (seat_at s k goes_up j u at).same.part_is

        by : (o : Option Touch) → (seat_at s k goes_up i d there).t.store ≡ o → list_any (passes_with (test_of test) p plan.region d.site u.site)
            (numbers_from 0 (length p.vars)) ≡ passes_or test u (storing_at p plan us body d)
        by None e =
            far_none p plan s only r site condition body is k (touches_rise s k goes_up) us (aligned None s) test d u (seat_at s k goes_up i d there).t
            (seat_at s k goes_up j u at).t (found_at s k goes_up i d there) (found_at s k goes_up j u at) e
            ∙ sym (ap (λ (o : Option Touched). passes_or test u (storing_of p plan us body d.site o)) (stores_is ∙ ap touched_in e))
        by (Some t) e =
            far_is p plan s only r site condition body is k (touches_rise s k goes_up) us (aligned None s) test d u (seat_at s k goes_up i d there).t
            (seat_at s k goes_up j u at).t (found_at s k goes_up i d there) (found_at s k goes_up j u at) loads_is t.variable t.index e proved
            ∙ sym (ap (λ (o : Option Touched). passes_or test u (storing_of p plan us body d.site o)) (stores_is ∙ ap touched_in e))

  sites_here : region_sites p plan.region ≡ map part_site (parts None s)
  sites_here = ap (λ (xs : List Stmt). map access_site (flat_map accesses xs)) only ∙ ap (map access_site) (append-nil (accesses s))
      ∙ (sites_same (accesses s) (touches s) us (aligned None s)).0

  told : (test : Gap) (d u : ℕ) → has d (region_sites p plan.region) ≡ true → has u (region_sites p plan.region) ≡ true
      → tells test (record { first = k; parts = parts None s; stores = map (storing_at p plan (parts None s) body) (parts None s) }) d u ≡ list_any
      (passes_with (test_of test) p plan.region d u) (numbers_from 0 (length p.vars))
  told test d u inD inU =
      let atD = sited k us d goes_up (ap (has d) (sym sites_here) ∙ inD) in
      let atU = sited k us u goes_up (ap (has u) (sym sites_here) ∙ inU) in
      let placeD : d - k ≡ atD.place = omega (arith, atD.number) in
      let placeU : u - k ≡ atU.place = omega (arith, atU.number) in
      ap (λ (n : ℕ). loaded_at test (slice_get us n) (slice_get (map (storing_at p plan us body) us) (d - k))) placeU
      ∙ ap (λ (o : Option Part). loaded_at test o (slice_get (map (storing_at p plan us body) us) (d - k))) atU.at
      ∙ ap (λ (n : ℕ). store_apart_at test atU.part (slice_get (map (storing_at p plan us body) us) n)) placeD
      ∙ ap (store_apart_at test atU.part) (slice_get-map (storing_at p plan us body) us atD.place ∙ ap (option_map (storing_at p plan us body)) atD.at)
      ∙ sym (far_at test atU.place atU.part atU.at atD.place atD.part atD.at)
      ∙ ap (λ (n : ℕ). list_any (passes_with (test_of test) p plan.region n atU.part.site) (numbers_from 0 (length p.vars))) atD.site
      ∙ ap (λ (n : ℕ). list_any (passes_with (test_of test) p plan.region d n) (numbers_from 0 (length p.vars))) atU.site

  pub apart_told : TellsApart p plan.region (record { first = k; parts = parts None s; stores = map (storing_at p plan (parts None s) body) (parts None s) })
  apart_told d u inD inU = (told gap.Strides d u inD inU, told gap.Whole d u inD inU)

pub apart_made : (p : Program) (r : ℕ) (s : Stmt) (k : ℕ) → region_in p r ≡ s ∷ [] → goes_up_from k (part_list None s) ≡ true
    → TellsApart p r (record {
      first = k;
      parts = part_list None s;
      stores = map (storing_at p (bare_plan r) (part_list None s)
          (body_at s)) (part_list None s);
    })
unfolding part_list body_at
apart_made p r s k only up =
    let o = opened_region r s (passes r p.main s only) in
    subst (λ (h : Stmt-F Stmt). TellsApart p r
    (record { first = k; parts = parts None s; stores = map (storing_at p (bare_plan r) (parts None s) (body_of h)) (parts None s) })) (sym o.is)
    (apart_told p (bare_plan r) s only o.r o.site o.cond o.body o.is k (risen_up k (parts None s) up) refl)
