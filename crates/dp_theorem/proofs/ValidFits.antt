-- A valid plan of an inlined program fits it, and its regions stand alone.
use Rattle.dp_semantics.proofs.Names.{opened_statement, ◌≡◌, ◌⊎◌, inl, inr, refl, sym, ap, ◌∙◌, subst, ℕ, zero, suc, ◌+◌, ◌-◌, ◌<◌, ◌≤◌, ◌==◌, Bool, true}
use Rattle.dp_semantics.proofs.Names.{false, not, ◌&&◌, ◌||◌, List, [], ◌∷◌, length, map, filter, Option, Some, None, slice_get, nat_lt, arith, le-leb, lt-ltb}
use Rattle.dp_semantics.proofs.Names.{eq-eqb, ne_eqb, append-nil, length-map, cases_Bool, list_all, flat_map, Region, SiteId, Expr, Stmt, hidden-the_row-Stmt-0}
use Rattle.dp_semantics.proofs.Names.{Program, Plan, RegionInfo, VarInfo, Access, accesses, access_known, first_site, first_site_of, fits_plan, has_cell}
use Rattle.dp_semantics.proofs.Names.{is_inner_access, is_local_of, is_numbered, is_region_at, is_replicated, is_single, kinds_apart, kinds_fit, length_of}
use Rattle.dp_semantics.proofs.Names.{lies_between, cells_in_order, one_region, region_accesses, region_fits, region_in, stage_of, stands_alone, stores_known}
use Rattle.dp_semantics.proofs.Names.{well_nested, and_parts, and_from}
use Rattle.dp_tree.specs.declared.Stmt.TheVariants as tree
use Rattle.dp_tree.specs.Layout as layout
use Rattle.dp_tree.specs.declared.VarScope.{VarScope}
use Rattle.dp_tree.specs.declared.VarScope.TheVariants.{Global, Outer, Body}
use Rattle.dp_tree.specs.Globals.{is_global_scope}
use Rattle.dp_tree.specs.Inlined.{IsInlined, has_call, has_call_in, stmt_within}
use Rattle.dp_tree.specs.Layout.{has_cells}
use Rattle.dp_plan.specs.declared.Enclosing.{Enclosing}
use Rattle.dp_plan.specs.Enclosing.{ifs, ifs_in, inner_whiles, inner_whiles_in, region_ifs, region_inner_whiles}
use Rattle.dp_plan.specs.Rules.{comes_late, first_in, is_late_unassumed}
use Rattle.dp_plan.specs.declared.WrittenPlan.{WrittenPlan}
use Rattle.dp_plan.specs.Written.{has, listed_sites, kind_in, plan_of, region_sites, access_site, written_stage}
use Rattle.dp_plan.specs.Valid.{first_broken}
use Rattle.dp_semantics.specs.ValidPlan.{WrittenAs, ValidPlanFits, RegionsStandAlone}
use Rattle.dp_semantics.proofs.Counts.{count_all}
use Rattle.dp_theorem.proofs.TextOrder.{Ascends, Between, ascends-numbers_from, ascends_between, each_of_map, has_fact}
use Rattle.dp_plan.proofs.RegionOrder.{RegionAt, Sought, absent, present, find_region}
use Rattle.dp_theorem.proofs.Regions.{all_alone}
use Rattle.dp_plan.proofs.RulesHold.{all_listed, none_foreign, condition_first, sequential_first, none_beside, whiles_in_time, ifs_in_time}
use Rattle.dp_theorem.proofs.WrittenStages.{stage_listed, stage_unlisted, first_kind, kinds_differ}
use Rattle.dp_theorem.proofs.WellNested.{Within, sites_within, ifs_at, InTime, Ruled, well_inner_in}
use Rattle.dp_theorem.proofs.PlanStages.{same_stage, in_time, ruled}
use Rattle.dp_semantics.proofs.Setting.{each_both, Each, each_map, none_of, all_of, all_make, accesses_all, accesses_at, accesses_out, well_hidden}

-- The cells lie in order for any region.
scoped : (r : ℕ) (scope : VarScope) (one : Bool) → (is_global_scope scope || one) ≡ true → (not (is_local_of r scope) || one) ≡ true
scoped r Global one e = refl
scoped r Outer one e = refl
scoped r (Body q) one e = by (q == r)
  where
    by : (b : Bool) → (not b || one) ≡ true
    by true = e
    by false = refl

pub laid : (r k : ℕ) (vars : List VarInfo) → layout.lies_in_order k vars ≡ true → cells_in_order r k vars ≡ true
laid r k [] e = refl
laid r k (x ∷ rest) e =
    let both = and_parts ((x.first.0 == k) && has_cells x) (layout.lies_in_order (k + x.length) rest) e in
    let here = and_parts (x.first.0 == k) (has_cells x) both.0 in
    let some = and_parts (nat_lt 0 x.length) (is_global_scope x.scope || (x.length == 1)) here.1 in
    and_from _ _ (and_from _ _ here.0 (and_from _ _ some.0 (scoped r x.scope (x.length == 1) some.1))) (laid r (k + x.length) rest both.1)

pub cells_at : (k x : ℕ) (vars : List VarInfo) → layout.lies_in_order k vars ≡ true → x < length vars → nat_lt 0 (length_of (slice_get vars x)) ≡ true
cells_at k x [] e low = absurd (omega (arith, low))
cells_at k zero (v ∷ rest) e low =
    let both = and_parts ((v.first.0 == k) && has_cells v) (layout.lies_in_order (k + v.length) rest) e in
    (and_parts (nat_lt 0 v.length) _ (and_parts (v.first.0 == k) (has_cells v) both.0).1).0
cells_at k (suc x) (v ∷ rest) e low =
    cells_at (k + v.length) x rest (and_parts ((v.first.0 == k) && has_cells v) (layout.lies_in_order (k + v.length) rest) e).1 (omega (arith, low))

pub kept : {X : Type 0} (P : X → Type 0) (test : X → Bool) (xs : List X) → Each P xs → Each P (filter test xs)
kept P test [] h = tt
kept P test (x ∷ xs) h = elim (cases_Bool (test x)) [ inl t ↦ rw t (h.0, kept P test xs h.1) | inr t ↦ rw t (kept P test xs h.1) ]

-- what is inside a region's statement
module _ (r : ℕ) (site : SiteId) (cond : Expr) (body : List Stmt) where
  pub call_made : has_call (tree.Region r site cond body) ≡ has_call_in (hidden-the_row-Stmt-0 body)
  unfolding opened_statement
  call_made = refl

  pub ifs_made : ifs (tree.Region r site cond body) ≡ ifs_in (hidden-the_row-Stmt-0 body)
  unfolding opened_statement
  ifs_made = refl

  pub whiles_made : inner_whiles (tree.Region r site cond body) ≡ inner_whiles_in (hidden-the_row-Stmt-0 body)
  unfolding opened_statement
  whiles_made = refl

module _ {p : Program} (inlined : IsInlined p) where
  pub sought : (r : ℕ) → Sought r 1 1 p.main p.regions
  sought r = find_region p.main 1 1 p.regions inlined.regions inlined.table (subst (λ (ns : List ℕ). Ascends 1 ns) (sym inlined.sites)
      (ascends-numbers_from 1 (length p.sites))) r

  module _ (r : ℕ) (entry : RegionInfo) (at : slice_get p.regions (r - 1) ≡ Some entry) (q : RegionAt r p.main entry) where
    accesses_are : flat_map accesses (region_in p r) ≡ accesses q.statement
    accesses_are = ap accesses_all q.only ∙ append-nil (accesses q.statement)

    pub between : Each (λ a. Between entry.first.0 (length (accesses q.statement)) a.site) (accesses q.statement)
    between = each_of_map (Between entry.first.0 (length (accesses q.statement))) access_site (accesses q.statement)
        (subst (λ (n : ℕ). Each (Between entry.first.0 n) (map access_site (accesses q.statement))) (length-map (accesses q.statement) access_site)
        (ascends_between entry.first.0 (map access_site (accesses q.statement)) q.sites))

    numbered : list_all (is_numbered p r) (flat_map accesses (region_in p r)) ≡ true
    numbered = ap (list_all (is_numbered p r)) accesses_are
        ∙ all_make (is_numbered p r) (accesses q.statement) (each_map _ (λ a. is_numbered p r a ≡ true) (λ a b. ap (lies_between a.site) at
        ∙ and_from _ _ (le-leb _ _ b.0) (le-leb _ _ (omega (arith, b.1, q.last)))) (accesses q.statement) between)

    alone : stands_alone p r ≡ true
    alone = and_from (is_single (region_in p r)) _ (ap is_single q.only) (and_from _ _ (all_alone r 1 p.main inlined.regions) numbered)

pub regions_alone : (p : Program) → IsInlined p → RegionsStandAlone p
regions_alone p inlined r low high = by (sought inlined r)
  where
    by : Sought r 1 1 p.main p.regions → stands_alone p r ≡ true
    by (absent none out) = absurd (out (omega (arith, low)) (omega (arith, high)))
    by (present entry from at q least most) = alone inlined r entry at q

-- A plan fits where each site has one of its stages, the condition the first, each condition comes in time, and the kinds fit.
module _ {p : Program} (inlined : IsInlined p) (plan : Plan) (entry : RegionInfo) (at : slice_get p.regions (plan.region - 1) ≡ Some entry)
    (q : RegionAt plan.region p.main entry) where
  abbrev pub Staged : Access → Type 0
  Staged a = (0 < stage_of p plan a.site) × (stage_of p plan a.site ≤ length plan.stages)

  pub parts : accesses q.statement ≡ accesses_at (Region plan.region q.site q.cond q.body)
  parts = accesses_out q.statement ∙ ap accesses_at q.is

  ascends : Ascends entry.first.0 (q.site.0 ∷ map access_site (accesses_all q.body))
  ascends = subst (λ (xs : List Access). Ascends entry.first.0 (map access_site xs)) parts q.sites

  pub first_here : first_site p plan ≡ q.site.0
  first_here = ap first_site_of at ∙ sym ascends.0

  inner : list_all (is_inner_access p plan) (accesses_all q.body) ≡ true
  inner = all_make (is_inner_access p plan) (accesses_all q.body) (each_map _ (λ a. is_inner_access p plan a ≡ true)
      (λ a b. ap not (ne_eqb a.site (first_site p plan) (λ e. omega (arith, e, b.0, ap first_site_of at)))) (accesses_all q.body)
      (each_of_map (Between (suc entry.first.0) (length (map access_site (accesses_all q.body)))) access_site (accesses_all q.body)
      (ascends_between (suc entry.first.0) (map access_site (accesses_all q.body)) ascends.1)))

  -- the statement is inlined
  bare : has_call_in (hidden-the_row-Stmt-0 q.body) ≡ false
  bare = sym (ap has_call q.made ∙ call_made plan.region q.site q.cond q.body)
      ∙ (subst (λ (xs : List Stmt). Each (λ x. has_call x ≡ false) xs) q.only (kept (λ x. has_call x ≡ false) (is_region_at plan.region) p.main
      (none_of has_call p.main inlined.calls))).0

  named : Each (Within (length p.vars)) (accesses q.statement)
  named = sites_within (length p.vars) q.statement
      (subst (λ (xs : List Stmt). Each (λ x. stmt_within (length p.vars) x ≡ true) xs) q.only
      (kept (λ x. stmt_within (length p.vars) x ≡ true) (is_region_at plan.region) p.main (all_of (stmt_within (length p.vars)) p.main inlined.named))).0

  stores_at : (o : Option ℕ) → ((x : ℕ) → o ≡ Some x → x < length p.vars) → stores_known p o ≡ true
  stores_at None h = refl
  stores_at (Some x) h = cells_at 0 x p.vars inlined.cells (h x refl)

  known_at : (a : Access) → Within (length p.vars) a × Staged a → access_known p plan a ≡ true
  known_at a h =
      and_from (list_all (has_cell p) a.loads) _
      (all_make (has_cell p) a.loads (each_map (λ x. x < length p.vars) (λ x. has_cell p x ≡ true)
      (λ x low. cells_at 0 x p.vars inlined.cells low) a.loads h.0.0))
      (and_from (stores_known p a.stores) _ (stores_at a.stores h.0.1) (and_from _ _ (lt-ltb 0 (stage_of p plan a.site) h.1.0)
      (le-leb (stage_of p plan a.site) (length plan.stages) h.1.1)))

  pub fits_so : Each Staged (accesses q.statement) → (stage_of p plan (first_site p plan) == 1) ≡ true → Each (InTime p plan) (inner_whiles q.statement) →
      Each (Ruled p plan) (ifs q.statement) → kinds_fit plan ≡ true → fits_plan p plan ≡ true
  fits_so staged first whiles told kinds =
      let known : list_all (access_known p plan) (region_accesses p plan) ≡ true =
      ap (list_all (access_known p plan)) (accesses_are inlined plan.region entry at q)
      ∙ all_make (access_known p plan) (accesses q.statement) (each_map _ (λ a. access_known p plan a ≡ true) known_at (accesses q.statement)
      (each_both _ _ (accesses q.statement) named staged)) in
      let well : list_all (well_nested p plan) q.body ≡ true =
      sym (well_hidden p plan q.body) ∙ well_inner_in p plan (hidden-the_row-Stmt-0 q.body) q.plain bare
      (subst (λ (es : List Enclosing). Each (InTime p plan) es) (ap inner_whiles q.made ∙ whiles_made plan.region q.site q.cond q.body) whiles)
      (subst (λ (es : List Enclosing). Each (Ruled p plan) es) (ap ifs q.made ∙ ifs_made plan.region q.site q.cond q.body) told) in
      let one : one_region p plan (region_in p plan.region) ≡ true =
      ap (one_region p plan) q.only ∙ ap (region_fits p plan) q.is
      ∙ and_from (plan.region == plan.region) _ (eq-eqb plan.region plan.region refl)
      (and_from _ _ (eq-eqb _ _ first_here) (and_from _ _ first (and_from _ _ well inner))) in
      and_from _ _ (laid plan.region 0 p.vars inlined.cells)
      (and_from _ _ known (and_from _ _ one (and_from _ _ (all_alone plan.region 1 p.main inlined.regions) kinds)))

module _ {p : Program} (inlined : IsInlined p) (v : Bool) (w : WrittenPlan) (written : WrittenAs p w (plan_of p v w)) where
  abbrev plan : Plan
  plan = plan_of p v w

  abbrev valid : first_broken p w ≡ None
  valid = written.valid

  -- a region that isn't there has no plan
  nowhere : region_in p w.region ≡ [] → ⊥
  nowhere none = let clash = sym (ap (λ (n : ℕ). n == 1) (stage_unlisted 1 w.stages 0 (by (cases_Bool (has 0 (listed_sites w)))))) ∙ there in cc clash
    where
      empty : region_sites p w.region ≡ []
      empty = ap (λ (xs : List Stmt). map access_site (flat_map accesses xs)) none

      there : (written_stage w 0 == 1) ≡ true
      there = ap (λ (ns : List ℕ). written_stage w (first_in ns) == 1) (sym empty) ∙ condition_first p w valid

      by : (has 0 (listed_sites w) ≡ true) ⊎ (has 0 (listed_sites w) ≡ false) → has 0 (listed_sites w) ≡ false
      by (inl e) = let clash : has 0 [] ≡ true = ap (has 0) (sym empty) ∙ has_fact (λ n. has n (region_sites p w.region) ≡ true) (listed_sites w) 0
          (none_foreign p w valid) e in absurd (cc clash)
      by (inr e) = e

  module _ (entry : RegionInfo) (at : slice_get p.regions (w.region - 1) ≡ Some entry) (q : RegionAt w.region p.main entry) where
    sites_are : region_sites p w.region ≡ map access_site (accesses q.statement)
    sites_are = ap (map access_site) (accesses_are inlined w.region entry at q)

    first_is : first_site p plan ≡ entry.first.0
    first_is = ap first_site_of at

    order : Ascends (first_site p plan) (region_sites p w.region)
    order = subst (λ (n : ℕ). Ascends n (region_sites p w.region)) (sym first_is) (subst (λ (ns : List ℕ). Ascends entry.first.0 ns) (sym sites_are) q.sites)

    stages_are : (site : ℕ) → stage_of p plan site ≡ written_stage w site
    stages_are = same_stage p w plan refl order (none_foreign p w valid)

    first_stage : (stage_of p plan (first_site p plan) == 1) ≡ true
    first_stage = ap (λ (n : ℕ). stage_of p plan n == 1) (first_here inlined plan entry at q) ∙ ap (λ (n : ℕ). n == 1) (stages_are q.site.0)
        ∙ ap (λ (ns : List ℕ). written_stage w (first_in ns) == 1) (sym (sites_are ∙ ap (map access_site) (parts inlined plan entry at q)))
        ∙ condition_first p w valid

    -- each of its sites is listed
    has_stage : Each (λ a. has a.site (listed_sites w) ≡ true) (accesses q.statement)
    has_stage = each_of_map (λ site. has site (listed_sites w) ≡ true) access_site (accesses q.statement)
        (subst (λ (ns : List ℕ). Each (λ site. has site (listed_sites w) ≡ true) ns) sites_are (all_listed p w valid))

    staged : (a : Access) → has a.site (listed_sites w) ≡ true → Staged inlined plan entry at q a
    staged a is =
        let bounds = stage_listed 1 w.stages a.site is in
        (omega (arith, bounds.0, stages_are a.site), omega (arith, bounds.1, stages_are a.site, length-map w.stages kind_in))

    -- its conditions come in time
    whiles : Each (InTime p plan) (inner_whiles q.statement)
    whiles = subst (λ (es : List Enclosing). Each (InTime p plan) es) (ap (flat_map inner_whiles) q.only ∙ append-nil (inner_whiles q.statement))
        (each_map (λ e. comes_late w e ≡ false) (InTime p plan) (λ e late. in_time p w plan refl order (none_foreign p w valid) e late)
        (region_inner_whiles p w.region) (whiles_in_time p w valid))

    ifs_are : region_ifs p w.region ≡ ifs q.statement
    ifs_are = ap (flat_map ifs) q.only ∙ append-nil (ifs q.statement)

    told : Each (Ruled p plan) (ifs q.statement)
    told = each_map _ (Ruled p plan) (λ e h. ruled p w plan refl order (none_foreign p w valid) refl e h.0 h.1) (ifs q.statement)
        (each_both (λ e. has e.site (region_sites p w.region) ≡ true) (λ e. is_late_unassumed w e ≡ false) (ifs q.statement)
        (ifs_at (λ n. has n (region_sites p w.region) ≡ true) q.statement
        (each_map (λ a. has a.site (listed_sites w) ≡ true) (λ a. has a.site (region_sites p w.region) ≡ true)
        (λ a h. has_fact (λ n. has n (region_sites p w.region) ≡ true) (listed_sites w) a.site (none_foreign p w valid) h) (accesses q.statement) has_stage))
        (subst (λ (es : List Enclosing). Each (λ e. is_late_unassumed w e ≡ false) es) ifs_are (ifs_in_time p w valid)))

    apart : (s : ℕ) → 1 ≤ s → kinds_apart plan s ≡ true
    apart zero low = absurd (omega (arith, low))
    apart (suc s) low =
        let next : suc s + 1 ≡ suc (suc s) = omega arith in
        ap (λ (n : ℕ). not (is_replicated plan (suc s) && is_replicated plan n)) next ∙ ap not (kinds_differ w.stages written.filled (none_beside p w valid) s)

    kinds : kinds_fit plan ≡ true
    kinds = and_from _ _ (ap not (first_kind w.stages (sequential_first p w valid))) (count_all (kinds_apart plan) (length plan.stages) 1
        (λ s low high. apart s low))

    fits : fits_plan p plan ≡ true
    fits = fits_so inlined plan entry at q (each_map _ (Staged inlined plan entry at q) staged (accesses q.statement) has_stage) first_stage whiles told kinds

  fits_here : fits_plan p plan ≡ true
  fits_here = by (sought inlined w.region)
    where
      by : Sought w.region 1 1 p.main p.regions → fits_plan p plan ≡ true
      by (absent none out) = absurd (nowhere none)
      by (present entry low at q least most) = fits entry at q

pub valid_fits : (p : Program) (q : Plan) → IsInlined p → ValidPlanFits p q
valid_fits p q inlined w written =
    subst (λ (u : Plan). fits_plan p u ≡ true) (sym written.plan_is)
    (fits_here inlined q.proved w (subst (λ (u : Plan). WrittenAs p w u) written.plan_is written))
