-- In a region that stands once and whose sites go up one by one, the code answers of each site what the definition says.
use Rattle.std.proofs.Common.{◌≡◌, inl, inr, refl, sym, ap, ◌∙◌, subst, ℕ, suc, ◌+◌, ◌==◌, Bool, true, false, if◌then◌else◌, not, ◌&&◌, ◌||◌, nat_lt, nat_le}
use Rattle.std.proofs.Common.{List, [], ◌∷◌, map, filter_map, append-nil, Option, Some, None, slice_get, arith, eq-eqb, ne_eqb}
use Rattle.std.proofs.lemmas.Bool.{cases_eq}
use Rattle.std.specs.List.{list_any, flat_map}
use Rattle.dp_base.specs.declared.SiteId.{SiteId}
use Rattle.dp_base.specs.declared.VarId.{VarId}
use Rattle.dp_tree.specs.declared.Expr.{Expr}
use Rattle.dp_tree.specs.declared.Program.{Program}
use Rattle.dp_tree.specs.declared.Stmt.{Stmt, out-Stmt}
use Rattle.dp_tree.specs.declared.Stmt.TheOpen.{Region}
use Rattle.dp_plan.specs.declared.Plan.{Plan}
use Rattle.dp_plan.specs.Access.{Access, accesses, is_body_local, is_replicated, is_same_variable, is_stored_after, is_stored_beside, region_accesses}
use Rattle.dp_plan.specs.Access.{region_in, stage_of, stores_var}
use Rattle.dp_plan.specs.Touch.{Touch}
use Rattle.dp_plan.specs.IsFar.{SiteTouch, is_far, is_far_within, touches}
use Rattle.dp_plan.specs.Checked.{comes_before, has_both, has_site, is_apart, is_apart_between, is_checked, is_checked_access, loops, may_differ, share_a_loop}
use Rattle.dp_sites.specs.declared.place.Gap.TheVariants as gap
use Rattle.dp_sites.specs.declared.moving.Moving.{Moving}
use Rattle.dp_sites.specs.declared.moving.Storing.{Storing}
use Rattle.dp_sites.specs.declared.part.Part.{Part}
use Rattle.dp_sites.specs.declared.touched.Touched.{Touched}
use Rattle.dp_sites.specs.steps.Parts.{index_in, parts, touched, touched_in}
use Rattle.dp_sites.specs.Storings.{checked_or, differs_by, end_of, is_ahead, moving_of, part_checked, passes_by, sees_otherwise, storing_at, storing_of}
use Rattle.dp_sites.specs.Storings.{storings, stores_otherwise}
use Rattle.dp_sites.proofs.Aligned.{Aligned, Same, aligned, variable_in}
use Rattle.dp_plan.proofs.Ascent.{Ascends}
use Rattle.dp_sites.proofs.OuterLoops.{SitesRise, reaches, shared}
use Rattle.dp_sites.proofs.FarFind.{find}
use Rattle.dp_sites.proofs.FarTest.{far_is}
use Rattle.dp_sites.proofs.TextNumbers.{before_is, risen_ascend}
use Rattle.dp_sites.proofs.PartTable.{Seat, found_at, seat_at, touches_rise, any_at, any_storing, by_order, and_under, code_by, either_any, has_any, no_seat}
use Rattle.dp_sites.proofs.PartTable.{part_site, passed_by, picked, risen, seen_by, sites_same, stored_so, unstored}

module _ (p : Program) (plan : Plan) (s : Stmt) (only : region_in p plan.region ≡ s ∷ []) (r : ℕ) (site : SiteId) (condition : Expr) (body : List Stmt)
    (is : out-Stmt s ≡ Region r site condition body)
    (k : ℕ) (goes_up : Ascends k (map part_site (parts None s))) where
  abbrev pub us : List Part
  us = parts None s

  abbrev xs : List Access
  xs = accesses s

  abbrev ts : List SiteTouch
  ts = touches s

  lined : Aligned (accesses s) (touches s) (parts None s)
  lined = aligned None s

  rises_x : SitesRise k (accesses s)
  rises_x = subst (λ (ns : List ℕ). Ascends k ns) (sym (sites_same xs ts us lined).0) goes_up

  pub accesses_here : region_accesses p plan ≡ accesses s
  accesses_here = ap (flat_map accesses) only ∙ append-nil (accesses s)

  -- one part, and what stands at its place
  module _ (j : ℕ) (u : Part) (at : slice_get (parts None s) j ≡ Some u) where
    abbrev pub here : Seat (accesses s) (touches s) j u
    here = seat_at s k goes_up j u at

    number : u.site ≡ k + j
    number = risen k us goes_up j u at

    found_here : find u.site (touches s) ≡ Some here.t
    found_here = found_at s k goes_up j u at

    access_has : has_site u.site (accesses s) ≡ true
    access_has =
        ap (λ (n : ℕ). has_site n xs) number ∙ has_any (k + j) xs ∙ any_at (λ (a : Access). a.site) (λ (a : Access). true) k xs rises_x j
        ∙ ap (picked (λ (a : Access). a.site) (λ (a : Access). true)) here.access

  -- two of its parts
  module _ (j : ℕ) (u : Part) (at : slice_get (parts None s) j ≡ Some u) (i : ℕ) (d : Part) (there : slice_get (parts None s) i ≡ Some d) where
    reach_is : list_any (reaches u.site d.site) (parts None s) ≡ nat_le d.site (end_of u)
    reach_is =
        ap (λ (n : ℕ). list_any (λ (x : Part). (x.site == n) && nat_le d.site (end_of x)) us) (number j u at)
        ∙ any_at part_site (λ (x : Part). nat_le d.site (end_of x)) k us goes_up j ∙ ap (picked part_site (λ (x : Part). nat_le d.site (end_of x))) at

    share_is : nat_lt u.site d.site ≡ true → share_a_loop p plan.region u.site d.site ≡ nat_le d.site (end_of u)
    share_is e =
        ap (λ (ys : List Stmt). list_any (has_both u.site d.site) (flat_map loops ys)) only ∙ ap (list_any (has_both u.site d.site)) (append-nil (loops s))
        ∙ shared u.site d.site (Rattle.std.proofs.Common.ltb-true u.site d.site e) k s rises_x ∙ reach_is

    before : comes_before p plan.region u.site d.site ≡ is_ahead u d.site
    before =
        let whole : flat_map accesses (region_in p plan.region) ≡ accesses s = accesses_here in
        before_is p plan.region u.site d.site (subst (λ (ys : List Access). Rattle.dp_sites.proofs.TextNumbers.Ascending ys) (sym accesses_here)
        (risen_ascend k xs rises_x))
        (ap (has_site u.site) whole ∙ access_has j u at) (ap (has_site d.site) whole ∙ access_has i d there)
        ∙ and_under (nat_lt u.site d.site) (not (share_a_loop p plan.region u.site d.site)) (nat_lt (end_of u) d.site) (λ e. ap not (share_is e)
        ∙ by_order (end_of u) d.site)

    abbrev td : SiteTouch
    td = (here i d there).t

    module _ (array : ℕ) (index : Option Expr) (stores : td.store ≡ Some (record { variable = array; index = index })) where
      abbrev moving : Option Moving
      moving = moving_of p plan us body d.site (index_in index)

      abbrev strides : Bool
      strides = passes_by gap.Strides u (record { 0 = array }) moving

      abbrev wholly : Bool
      wholly = passes_by gap.Whole u (record { 0 = array }) moving

      loads_here : u.loads ≡ map touched (here j u at).t.reads
      loads_here = ap (λ (x : Part). x.loads) (here j u at).same.part_is

      far_here : plan.proved ≡ true → is_far p plan.region d.site u.site ≡ strides
      far_here proved = far_is p plan s only r site condition body is k (touches_rise s k goes_up) us lined gap.Strides d u td (here j u at).t
          (found_here i d there) (found_here j u at) loads_here array index stores proved

      far_within_here : plan.proved ≡ true → is_far_within p plan.region d.site u.site ≡ wholly
      far_within_here proved = far_is p plan s only r site condition body is k (touches_rise s k goes_up) us lined gap.Whole d u td (here j u at).t
          (found_here i d there) (found_here j u at) loads_here array index stores proved

      -- in version 1 nothing moves
      still : plan.proved ≡ false → strides ≡ false
      still off = by (index_in index)
        where
          by : (o : Option Rattle.dp_sites.specs.declared.place.Place.Place) →
              passes_by gap.Strides u (record { 0 = array }) (moving_of p plan us body d.site o) ≡ false
          by None = refl
          by (Some q) = ap (λ (b : Bool). passes_by gap.Strides u (record { 0 = array }) (if b && Rattle.dp_sites.specs.Storings.is_moved_alone p plan us q.by
              then Rattle.dp_sites.specs.Storings.moving_with d.site q (Rattle.dp_sites.specs.Storings.mover_in q.by body) else None)) off

      between_is : is_apart_between p plan u.site d.site ≡ strides
      between_is = by plan.proved refl
        where
          by : (b : Bool) → plan.proved ≡ b → (b && is_far p plan.region d.site u.site) ≡ strides
          by true e = far_here e
          by false e = sym (still e)

      apart_is : is_apart p plan u.site d.site ≡ (strides && (wholly || is_ahead u d.site))
      apart_is =
          ap (λ (b : Bool). b && (is_far_within p plan.region d.site u.site || comes_before p plan.region u.site d.site)) between_is
          ∙ ap (λ (b : Bool). strides && (is_far_within p plan.region d.site u.site || b)) before
          ∙ by plan.proved refl
        where
          by : (b : Bool) → plan.proved ≡ b → (strides && (is_far_within p plan.region d.site u.site || is_ahead u d.site))
              ≡ (strides && (wholly || is_ahead u d.site))
          by true e = ap (λ (b : Bool). strides && (b || is_ahead u d.site)) (far_within_here e)
          by false e = ap (λ (b : Bool). b && (is_far_within p plan.region d.site u.site || is_ahead u d.site)) (still e)
              ∙ sym (ap (λ (b : Bool). b && (wholly || is_ahead u d.site)) (still e))

      abbrev storing : Storing
      storing = record { site = d.site; stage = stage_of p plan d.site; var = record { 0 = array }; moving = moving }

      -- what the definition says of the pair is what the code asks
      pair_is : (x : VarId) (a : Access) → a.site ≡ d.site → a.stores ≡ Some array →
          ((is_stored_after p plan (stage_of p plan u.site) x.0 a && not (is_apart p plan u.site a.site)) || (is_stored_beside p plan (stage_of p plan u.site)
          x.0 a && not (is_apart_between p plan u.site a.site)))
          ≡ stores_otherwise p plan u x storing
      pair_is x a site_is stores_is =
          ap (λ (n : ℕ). seen_by (stores_var x.0 a) (nat_lt (stage_of p plan u.site) (stage_of p plan n)) (is_apart p plan u.site n)
          (is_replicated plan (stage_of p plan u.site)) (stage_of p plan n == stage_of p plan u.site) (not (is_body_local p plan x.0))
          (is_apart_between p plan u.site n)) site_is
          ∙ ap (λ (o : Option ℕ). seen_by (is_same_variable x.0 o) (nat_lt (stage_of p plan u.site) (stage_of p plan d.site)) (is_apart p plan u.site d.site)
          (is_replicated plan (stage_of p plan u.site)) (stage_of p plan d.site == stage_of p plan u.site) (not (is_body_local p plan x.0))
          (is_apart_between p plan u.site d.site)) stores_is
          ∙ ap (λ (b : Bool). seen_by (x.0 == array) (nat_lt (stage_of p plan u.site) (stage_of p plan d.site)) b (is_replicated plan (stage_of p plan u.site))
          (stage_of p plan d.site == stage_of p plan u.site) (not (is_body_local p plan x.0)) (is_apart_between p plan u.site d.site)) apart_is
          ∙ ap (seen_by (x.0 == array) (nat_lt (stage_of p plan u.site) (stage_of p plan d.site)) (strides && (wholly || is_ahead u d.site))
          (is_replicated plan (stage_of p plan u.site)) (stage_of p plan d.site == stage_of p plan u.site) (not (is_body_local p plan x.0))) between_is
          ∙ elim (cases_eq x.0 array) [
            | inl e ↦
                ap (λ (b : Bool). seen_by b (nat_lt (stage_of p plan u.site) (stage_of p plan d.site)) (strides && (wholly || is_ahead u d.site))
                (is_replicated plan (stage_of p plan u.site)) (stage_of p plan d.site == stage_of p plan u.site) (not (is_body_local p plan x.0)) strides)
                (eq-eqb x.0 array e)
                ∙ stored_so (nat_lt (stage_of p plan u.site) (stage_of p plan d.site)) (strides && (wholly || is_ahead u d.site))
                (is_replicated plan (stage_of p plan u.site)) (stage_of p plan d.site == stage_of p plan u.site) (not (is_body_local p plan x.0)) strides
                ∙ ap (λ (n : ℕ). code_by (nat_lt (stage_of p plan u.site) (stage_of p plan d.site)) (strides && (wholly || is_ahead u d.site))
                (is_replicated plan (stage_of p plan u.site)) (stage_of p plan d.site == stage_of p plan u.site) (not (is_body_local p plan n)) strides) e
                ∙ sym (ap (λ (b : Bool). b && differs_by p plan u storing) (eq-eqb array x.0 (sym e)))
            | inr other ↦
                ap (λ (b : Bool). seen_by b (nat_lt (stage_of p plan u.site) (stage_of p plan d.site)) (strides && (wholly || is_ahead u d.site))
                (is_replicated plan (stage_of p plan u.site)) (stage_of p plan d.site == stage_of p plan u.site) (not (is_body_local p plan x.0)) strides)
                (ne_eqb x.0 array other)
                ∙ unstored (nat_lt (stage_of p plan u.site) (stage_of p plan d.site)) (strides && (wholly || is_ahead u d.site))
                (is_replicated plan (stage_of p plan u.site)) (stage_of p plan d.site == stage_of p plan u.site) (not (is_body_local p plan x.0)) strides
                ∙ sym (ap (λ (b : Bool). b && differs_by p plan u storing) (ne_eqb array x.0 (λ e. other (sym e))))
          ]

  -- the definition's test of a store, and the code's, over all that store
  module _ (j : ℕ) (u : Part) (at : slice_get (parts None s) j ≡ Some u) (x : VarId) where
    abbrev pub test : Access → Bool
    test a = (is_stored_after p plan (stage_of p plan u.site) x.0 a && not (is_apart p plan u.site a.site)) || (is_stored_beside p plan (stage_of p plan u.site)
        x.0 a && not (is_apart_between p plan u.site a.site))

    abbrev pub passed : Option Storing → Bool
    passed = passed_by (stores_otherwise p plan u x)

    pub one_is : (i : ℕ) (d : Part) (there : slice_get (parts None s) i ≡ Some d) → test (here i d there).a ≡ passed (storing_at p plan us body d)
    one_is i d there = by (here i d there).t.store refl
      where
        h : Same (here i d there).a (here i d there).t d
        h = (here i d there).same

        part_stores_is : d.stores ≡ touched_in (here i d there).t.store
        part_stores_is = ap (λ (q : Part). q.stores) h.part_is

        site_is : (here i d there).a.site ≡ d.site
        site_is = h.site ∙ sym (ap (λ (q : Part). q.site) h.part_is)

        by : (o : Option Touch) → (here i d there).t.store ≡ o → test (here i d there).a ≡ passed (storing_at p plan us body d)
        by None e =
            ap (λ (o : Option ℕ). seen_by (is_same_variable x.0 o) (nat_lt (stage_of p plan u.site) (stage_of p plan (here i d there).a.site))
            (is_apart p plan u.site (here i d there).a.site) (is_replicated plan (stage_of p plan u.site))
            (stage_of p plan (here i d there).a.site == stage_of p plan u.site) (not (is_body_local p plan x.0))
            (is_apart_between p plan u.site (here i d there).a.site)) (h.stores ∙ ap variable_in e)
            ∙ sym (ap (λ (o : Option Touched). passed (storing_of p plan us body d.site o)) (part_stores_is ∙ ap touched_in e))
        by (Some t) e =
            pair_is j u at i d there t.variable t.index e x (here i d there).a site_is (h.stores ∙ ap variable_in e)
            ∙ sym (ap (λ (o : Option Touched). passed (storing_of p plan us body d.site o)) (part_stores_is ∙ ap touched_in e))

    -- from some place on
    any_is : (ys : List Access) (qs : List SiteTouch) (ws : List Part) (n : ℕ) → ((m : ℕ) (d : Part) → slice_get ws m ≡ Some d →
        slice_get (parts None s) (n + m) ≡ Some d) → ((m : ℕ) (a : Access) → slice_get ys m ≡ Some a → slice_get (accesses s) (n + m) ≡ Some a)
        → Aligned ys qs ws →
        list_any test ys ≡ list_any (stores_otherwise p plan u x) (filter_map (storing_at p plan us body) ws)
    any_is [] [] [] n f g h = refl
    any_is [] [] (w ∷ ws) n f g h = absurd h
    any_is [] (q ∷ qs) ws n f g h = absurd h
    any_is (a ∷ ys) [] ws n f g h = absurd h
    any_is (a ∷ ys) (q ∷ qs) [] n f g h = absurd h
    any_is (a ∷ ys) (q ∷ qs) (w ∷ ws) n f g h =
        let zero_place : n + 0 ≡ n = omega arith in
        let there = f 0 w refl in
        let spot = here (n + 0) w there in
        let same_access : spot.a ≡ a = cc (sym spot.access ∙ g 0 a refl) in
        let more : (m : ℕ) → n + suc m ≡ suc n + m = λ m. omega arith in
        ap (λ (b : Bool). b || list_any test ys) (ap test (sym same_access) ∙ one_is (n + 0) w there)
        ∙ ap (λ (b : Bool). passed (storing_at p plan us body w) || b) (any_is ys qs ws (suc n) (λ m d e. ap (slice_get us) (sym (more m)) ∙ f (suc m) d e)
        (λ m b e. ap (slice_get xs) (sym (more m)) ∙ g (suc m) b e) h.1)
        ∙ any_storing (stores_otherwise p plan u x) (storing_at p plan us body w) (filter_map (storing_at p plan us body) ws)

    seen_is : may_differ p plan (stage_of p plan u.site) u.site x.0 ≡ list_any (stores_otherwise p plan u x) (storings p plan us body)
    seen_is =
        either_any (λ (d : Access). is_stored_after p plan (stage_of p plan u.site) x.0 d && not (is_apart p plan u.site d.site))
        (λ (d : Access). is_stored_beside p plan (stage_of p plan u.site) x.0 d && not (is_apart_between p plan u.site d.site)) (region_accesses p plan)
        ∙ ap (list_any test) accesses_here
        ∙ any_is xs ts us 0 (λ m d e. let n : 0 + m ≡ m = omega arith in ap (slice_get us) n ∙ e)
        (λ m a e. let n : 0 + m ≡ m = omega arith in ap (slice_get xs) n ∙ e) lined

  loads_any : (j : ℕ) (u : Part) → slice_get (parts None s) j ≡ Some u → (reads : List Touch) →
      list_any (λ (t : Touch). may_differ p plan (stage_of p plan u.site) u.site t.variable) reads ≡ list_any
      (sees_otherwise p plan (storings p plan us body) u) (map touched reads)
  loads_any j u at [] = refl
  loads_any j u at (t ∷ rest) =
      ap (λ (b : Bool). b || list_any (λ (q : Touch). may_differ p plan (stage_of p plan u.site) u.site q.variable) rest)
      (seen_is j u at (record { 0 = t.variable }))
      ∙ ap (λ (b : Bool). sees_otherwise p plan (storings p plan us body) u (touched t) || b) (loads_any j u at rest)

  part_is : (j : ℕ) (u : Part) (at : slice_get (parts None s) j ≡ Some u) → list_any (may_differ p plan (stage_of p plan u.site) u.site) (here j u at).a.loads
      ≡ part_checked p plan (storings p plan us body) u
  part_is j u at =
      (here j u at).same.loads (may_differ p plan (stage_of p plan u.site) u.site) ∙ loads_any j u at (here j u at).t.reads
      ∙ ap (list_any (sees_otherwise p plan (storings p plan us body) u)) (sym (ap (λ (q : Part). q.loads) (here j u at).same.part_is))

  -- The code's answer at a place is the definition's for the site there.
  pub checked_is : (j : ℕ) → is_checked p plan (k + j) ≡ checked_or p plan (storings p plan us body) (slice_get (parts None s) j)
  checked_is j =
      ap (list_any (is_checked_access p plan (k + j))) accesses_here
      ∙ any_at (λ (a : Access). a.site) (λ (a : Access). list_any (may_differ p plan (stage_of p plan (k + j)) (k + j)) a.loads) k xs rises_x j
      ∙ by (slice_get (parts None s) j) refl
    where
      by : (o : Option Part) → slice_get (parts None s) j ≡ o →
          picked (λ (a : Access). a.site) (λ (a : Access). list_any (may_differ p plan (stage_of p plan (k + j)) (k + j)) a.loads) (slice_get (accesses s) j)
          ≡ checked_or p plan (storings p plan us body) o
      by None e = ap (picked (λ (a : Access). a.site) (λ (a : Access). list_any (may_differ p plan (stage_of p plan (k + j)) (k + j)) a.loads))
          (no_seat xs ts us lined j e)
      by (Some u) e =
          ap (picked (λ (a : Access). a.site) (λ (a : Access). list_any (may_differ p plan (stage_of p plan (k + j)) (k + j)) a.loads)) (here j u e).access
          ∙ ap (λ (n : ℕ). list_any (may_differ p plan (stage_of p plan n) n) (here j u e).a.loads) (sym (number j u e))
          ∙ part_is j u e
