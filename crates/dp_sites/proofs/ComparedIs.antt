-- In a region that stands once and whose sites go up one by one, the code finds the stores that the definition says.
use Rattle.std.proofs.Common.{◌≡◌, refl, sym, ap, ◌∙◌, ℕ, suc, Bool, true, false, ◌||◌, List, [], ◌∷◌, ◌++◌, map, filter_map, length, Option, Some, None}
use Rattle.std.proofs.Common.{slice_get, arith}
use Rattle.std.proofs.lemmas.List.{length-map}
use Rattle.std.specs.List.{cons_option, list_any, flat_map}
use Rattle.dp_base.specs.declared.SiteId.{SiteId}
use Rattle.dp_tree.specs.declared.Expr.{Expr}
use Rattle.dp_tree.specs.declared.Program.{Program}
use Rattle.dp_tree.specs.declared.Stmt.{Stmt, out-Stmt}
use Rattle.dp_tree.specs.declared.Stmt.TheOpen.{Stmt-F, Region}
use Rattle.dp_plan.specs.declared.Plan.{Plan}
use Rattle.dp_plan.specs.Access.{Access, accesses, first_site, region_in, stage_of}
use Rattle.dp_plan.specs.Touch.{Touch}
use Rattle.dp_plan.specs.IsFar.{body_of, touches}
use Rattle.dp_plan.specs.Written.{access_site}
use Rattle.dp_sites.specs.declared.moving.Storing.{Storing}
use Rattle.dp_sites.specs.declared.part.Part.{Part}
use Rattle.dp_sites.specs.declared.touched.Touched.{Touched}
use Rattle.dp_sites.specs.Compared.{compared_for, compared_stores, compared_with, differs_at, differs_for, when_compared}
use Rattle.dp_sites.specs.steps.Comparing.{differs_by_store, pair_of, pairs_among, pairs_of}
use Rattle.dp_sites.specs.steps.Parts.{part_list, parts, touched}
use Rattle.dp_sites.specs.Storings.{body_at, goes_up_from, storing_at, storing_of, storings, stores_otherwise}
use Rattle.dp_sites.proofs.Aligned.{aligned}
use Rattle.dp_plan.proofs.Ascent.{Ascends}
use Rattle.dp_sites.proofs.PartTable.{Seat, part_site, passed_by, seat_at, sites_same}
use Rattle.dp_sites.proofs.TableIs.{accesses_here, one_is}
use Rattle.dp_sites.proofs.TableMade.{opened_region, passes, risen_up}

-- lists of which the items at each place give the same
flat_same : {X Y Z : Type 0} (f : X → List Z) (g : Y → List Z) (xs : List X) (ys : List Y) → length xs ≡ length ys →
    ((j : ℕ) (x : X) (y : Y) → slice_get xs j ≡ Some x → slice_get ys j ≡ Some y → f x ≡ g y)
    → flat_map f xs ≡ flat_map g ys
flat_same f g [] [] many same = refl
flat_same f g [] (y ∷ ys) many same = absurd (omega (arith, many))
flat_same f g (x ∷ xs) [] many same = absurd (omega (arith, many))
flat_same f g (x ∷ xs) (y ∷ ys) many same =
    ap (λ zs. zs ++ flat_map f xs) (same 0 x y refl refl)
    ∙ ap (λ zs. g y ++ zs) (flat_same f g xs ys (omega (arith, many)) (λ j a b e h. same (suc j) a b e h))

-- what an item gives that may be there
abbrev given : {X Y : Type 0} → (X → List Y) → Option X → List Y
given f None = []
given f (Some x) = f x

flat_given : {X Y Z : Type 0} (f : Y → List Z) (h : X → Option Y) (xs : List X) → flat_map (λ (x : X). given f (h x)) xs ≡ flat_map f (filter_map h xs)
flat_given f h [] = refl
flat_given f h (x ∷ xs) = ap (λ zs. given f (h x) ++ zs) (flat_given f h xs) ∙ by (h x)
  where
    by : (o : _) → given f o ++ flat_map f (filter_map h xs) ≡ flat_map f (cons_option o (filter_map h xs))
    by None = refl
    by (Some y) = refl

any_never : {X : Type 0} (xs : List X) → list_any (λ (x : X). false) xs ≡ false
any_never [] = refl
any_never (x ∷ xs) = any_never xs

module _ (p : Program) (plan : Plan) (s : Stmt) (only : region_in p plan.region ≡ s ∷ []) (r : ℕ) (site : SiteId) (condition : Expr) (body : List Stmt)
    (is : out-Stmt s ≡ Region r site condition body)
    (k : ℕ) (goes_up : Ascends k (map part_site (parts None s))) where
  abbrev us : List Part
  us = parts None s

  many : length (accesses s) ≡ length (parts None s)
  many = sym (length-map (accesses s) access_site) ∙ ap length (sites_same (accesses s) (touches s) us (aligned None s)).0 ∙ length-map us part_site

  abbrev spot : (j : ℕ) (u : Part) → slice_get (parts None s) j ≡ Some u → Seat (accesses s) (touches s) j u
  spot j u at = seat_at s k goes_up j u at

  number_of : (j : ℕ) (u : Part) (at : slice_get (parts None s) j ≡ Some u) → (spot j u at).a.site ≡ u.site
  number_of j u at = (spot j u at).same.site ∙ sym (ap (λ (q : Part). q.site) (spot j u at).same.part_is)

  module _ (j : ℕ) (u : Part) (at : slice_get (parts None s) j ≡ Some u) (i : ℕ) (d : Part) (there : slice_get (parts None s) i ≡ Some d) where
    abbrev stored : Option Storing
    stored = storing_at p plan us body d

    -- over the loads as touches
    over : (reads : List Touch) → list_any (λ (t : Touch). differs_at p plan (stage_of p plan u.site) u.site t.variable (spot i d there).a) reads ≡ list_any
        (λ (load : Touched). passed_by (stores_otherwise p plan u load.var) stored) (map touched reads)
    over [] = refl
    over (t ∷ rest) =
        ap (λ (b : Bool). b || list_any (λ (q : Touch). differs_at p plan (stage_of p plan u.site) u.site q.variable (spot i d there).a) rest)
        (one_is p plan s only r site condition body is k goes_up j u at (record { 0 = t.variable }) i d there)
        ∙ ap (λ (b : Bool). passed_by (stores_otherwise p plan u (record { 0 = t.variable })) stored || b) (over rest)

    settled : (o : Option Storing) → list_any (λ (load : Touched). passed_by (stores_otherwise p plan u load.var) o) u.loads ≡ passed_by
        (differs_by_store p plan u) o
    settled None = any_never u.loads
    settled (Some storing) = refl

    differs_is : differs_for p plan u.site (spot j u at).a.loads (spot i d there).a ≡ passed_by (differs_by_store p plan u) stored
    differs_is =
        (spot j u at).same.loads (λ (x : ℕ). differs_at p plan (stage_of p plan u.site) u.site x (spot i d there).a) ∙ over (spot j u at).t.reads
        ∙ ap (list_any (λ (load : Touched). passed_by (stores_otherwise p plan u load.var) stored))
        (sym (ap (λ (q : Part). q.loads) (spot j u at).same.part_is))
        ∙ settled stored

    pair_given : (q : Option Touched) → when_compared (passed_by (differs_by_store p plan u) (storing_of p plan us body d.site q)) u.site d.site ≡ given
        (pair_of p plan u) (storing_of p plan us body d.site q)
    pair_given None = refl
    pair_given (Some t) = refl

    pair_is : compared_for p plan (spot j u at).a (spot i d there).a ≡ given (pair_of p plan u) (storing_at p plan us body d)
    pair_is =
        ap (λ (n : ℕ). when_compared (differs_for p plan n (spot j u at).a.loads (spot i d there).a) n (spot i d there).a.site) (number_of j u at)
        ∙ ap (when_compared (differs_for p plan u.site (spot j u at).a.loads (spot i d there).a) u.site) (number_of i d there)
        ∙ ap (λ (b : Bool). when_compared b u.site d.site) differs_is
        ∙ pair_given d.stores

  stores_are : (j : ℕ) (u : Part) (at : slice_get (parts None s) j ≡ Some u) → compared_with p plan (accesses s) (spot j u at).a ≡ pairs_of p plan
      (storings p plan us body) u
  stores_are j u at =
      flat_same (compared_for p plan (spot j u at).a) (λ (d : Part). given (pair_of p plan u) (storing_at p plan us body d)) (accesses s) us many
      (λ i a d e there. let same : a ≡ (spot i d there).a = cc (sym e ∙ (spot i d there).access) in ap (compared_for p plan
      (spot j u at).a) same ∙ pair_is j u at i d there)
      ∙ flat_given (pair_of p plan u) (storing_at p plan us body) us

  pub pairs_are : pairs_among p plan (storings p plan us body) us ≡ compared_stores p plan
  pairs_are = sym (
      ap (λ (xs : List Access). flat_map (compared_with p plan xs) xs) (accesses_here p plan s only r site condition body is k goes_up)
      ∙ flat_same (compared_with p plan (accesses s)) (pairs_of p plan (storings p plan us body)) (accesses s) us many
      (λ j a u e at. let same : a ≡ (spot j u at).a = cc (sym e ∙ (spot j u at).access) in ap (compared_with p plan (accesses s)) same ∙ stores_are j u at)
      )

pub pairs_made : (p : Program) (plan : Plan) (s : Stmt) → region_in p plan.region ≡ s ∷ [] → goes_up_from (first_site p plan) (part_list None s) ≡ true
    → pairs_among p plan (storings p plan (part_list None s) (body_at s)) (part_list None s) ≡ compared_stores p plan
unfolding part_list body_at
pairs_made p plan s only up =
    let o = opened_region plan.region s (passes plan.region p.main s only) in
    ap (λ (h : Stmt-F Stmt). pairs_among p plan (storings p plan (parts None s) (body_of h)) (parts None s)) o.is
    ∙ pairs_are p plan s only o.r o.site o.cond o.body o.is (first_site p plan) (risen_up (first_site p plan) (parts None s) up)
