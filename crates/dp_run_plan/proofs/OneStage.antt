-- In the one-stage form of a plan each site of the region is of stage 1 and none is checked.
use Rattle.dp_semantics.proofs.Names.{◌≡◌, refl, sym, ap, ◌∙◌, inl, inr, ◌⊎◌, ℕ, zero, suc, ◌-◌, ◌<◌, ◌==◌, Bool, true, false, not, ◌&&◌, ◌||◌, if◌then◌else◌}
use Rattle.dp_semantics.proofs.Names.{List, [], ◌∷◌, map, length, nat_lt, slice_index, arith, le-leb, ne_eqb, cases_eq, list_any, Program, Plan, Access}
use Rattle.dp_semantics.proofs.Names.{stage_of, first_site, stores_var, is_replicated, is_body_local, is_stored_after, is_stored_beside, is_apart}
use Rattle.dp_semantics.proofs.Names.{is_apart_between, may_differ, is_checked, is_checked_access, region_accesses}
use Rattle.std.proofs.lemmas.Bool.{and_left, and_right}
use Rattle.dp_tree.specs.Inlined.{IsInlined}
use Rattle.dp_plan.specs.GivenPlans.{IsPlan}
use Rattle.dp_plan.specs.Written.{has, region_sites, access_site}
use Rattle.dp_plan.proofs.EachLemmas.{every}
use Rattle.dp_plan.proofs.Found.{each_has}
use Rattle.dp_plan.proofs.RegionFacts.{InOrder, in_order}
use Rattle.dp_semantics.proofs.Each.{Each, each_map, none_make}
use Rattle.dp_theorem.proofs.GivenFits.{region_within}
use Rattle.dp_theorem.proofs.TextOrder.{Between, ascends_between, each_of_map, has_fact}
use Rattle.dp_run_plan.specs.RunPlan.{hides_nothing, one_stage, RunsFor}

pub ones : (ss : List ℕ) (i : ℕ) → i < length ss → slice_index (map (λ _. 1) ss) i ≡ 1
ones [] i lt = absurd (omega (arith, lt))
ones (s ∷ ss) zero lt = refl
ones (s ∷ ss) (suc i) lt = ones ss i (omega (arith, lt))

never_beside : (a b c d : Bool) → b ≡ false → (a && b && c && d) ≡ false
never_beside true false c d e = refl
never_beside false false c d e = refl
never_beside a true c d e = absurd (cc)

module _ (p : Program) (inlined : IsInlined p) (plan : Plan) (is : IsPlan p plan) where
  pub in_text : InOrder p plan
  in_text = let within = region_within p inlined plan is in in_order p inlined plan within.0 within.1

  pub first_stage : (x : ℕ) → has x (region_sites p plan.region) ≡ true → stage_of p (one_stage plan) x ≡ 1
  first_stage x e =
      let between : Between (first_site p plan) (length (region_sites p plan.region)) x = has_fact
      (Between (first_site p plan) (length (region_sites p plan.region))) (region_sites p plan.region) x
      (ascends_between (first_site p plan) (region_sites p plan.region) in_text.order) e in
      ap (λ (b : Bool). if b then slice_index (map (λ _. 1) plan.stage_of) (x - first_site p plan) else 0) (le-leb (first_site p plan) x between.0)
      ∙ ones plan.stage_of (x - first_site p plan) (omega (arith, between.0, between.1, is.staged))

  -- a site of the one stage
  abbrev First : Access → Type 0
  First u = stage_of p (one_stage plan) u.site ≡ 1

  all_first : Each First (region_accesses p plan)
  all_first = each_map (λ (u : Access). has u.site (region_sites p plan.region) ≡ true) First (λ u e. first_stage u.site e) (region_accesses p plan)
      (each_of_map (λ (n : ℕ). has n (region_sites p plan.region) ≡ true) access_site (region_accesses p plan) (each_has (region_sites p plan.region)))

  same_there : (site x : ℕ) → may_differ p (one_stage plan) 1 site x ≡ false
  same_there site x =
      ap (λ (b : Bool). b || list_any (λ (d : Access). is_stored_beside p (one_stage plan) 1 x d && not (is_apart_between p (one_stage plan) site d.site))
      (region_accesses p plan))
      (none_make (λ (d : Access). is_stored_after p (one_stage plan) 1 x d && not (is_apart p (one_stage plan) site d.site)) (region_accesses p plan)
      (each_map First _ (λ d e. and_left (is_stored_after p (one_stage plan) 1 x d) (not (is_apart p (one_stage plan) site d.site))
      (and_right (stores_var x d) (nat_lt 1 (stage_of p (one_stage plan) d.site)) (ap (nat_lt 1) e))) (region_accesses p plan) all_first))
      ∙ none_make (λ (d : Access). is_stored_beside p (one_stage plan) 1 x d && not (is_apart_between p (one_stage plan) site d.site)) (region_accesses p plan)
      (each_map First _ (λ d e. and_left (is_stored_beside p (one_stage plan) 1 x d) (not (is_apart_between p (one_stage plan) site d.site))
      (never_beside (stores_var x d) (is_replicated (one_stage plan) 1) (stage_of p (one_stage plan) d.site == 1) (not (is_body_local p (one_stage plan) x))
      refl)) (region_accesses p plan) all_first)

  pub unchecked : (site : ℕ) → is_checked p (one_stage plan) site ≡ false
  unchecked site = none_make (is_checked_access p (one_stage plan) site) (region_accesses p plan)
      (each_map First (λ u. is_checked_access p (one_stage plan) site u ≡ false) here (region_accesses p plan) all_first)
    where
      here : (u : Access) → First u → is_checked_access p (one_stage plan) site u ≡ false
      here u one = by (cases_eq u.site site)
        where
          by : (u.site ≡ site) ⊎ (u.site ≡ site → ⊥) → is_checked_access p (one_stage plan) site u ≡ false
          by (inl e) = and_right (u.site == site) _ (ap (λ (s : ℕ). list_any (may_differ p (one_stage plan) s site) u.loads)
              (sym (ap (stage_of p (one_stage plan)) e) ∙ one)
              ∙ none_make (may_differ p (one_stage plan) 1 site) u.loads (every (λ x. may_differ p (one_stage plan) 1 site x ≡ false)
              (same_there site) u.loads))
          by (inr e) = ap (λ (b : Bool). b && list_any (may_differ p (one_stage plan) (stage_of p (one_stage plan) site) site) u.loads) (ne_eqb u.site site e)

  pub one_stage_hides_nothing : hides_nothing p (one_stage plan) ≡ true
  one_stage_hides_nothing =
      ap not (none_make (λ (a : Access). is_checked p (one_stage plan) a.site) (region_accesses p plan)
      (every (λ (a : Access). is_checked p (one_stage plan) a.site ≡ false) (λ a. unchecked a.site) (region_accesses p plan)))

  pub one_stage_runs : hides_nothing p plan ≡ true → RunsFor p plan (one_stage plan)
  one_stage_runs hides = record { region = refl; assume = refl; hides = hides; other_hides = one_stage_hides_nothing }
