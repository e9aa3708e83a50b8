-- Each site of a region has its kind at its own place, and a needed one is kept.
use Rattle.dp_semantics.proofs.Names.{◌≡◌, ◌⊎◌, ◌++◌, inl, inr, refl, sym, ap, ◌∙◌, subst, arith, length-map, map-append, eqb-true, eq-eqb, cases_lt, ℕ, zero}
use Rattle.dp_semantics.proofs.Names.{suc, ◌+◌, ◌-◌, ◌<◌, ◌≤◌, ◌&&◌, ◌||◌, ◌==◌, if◌then◌else◌, Bool, true, false, List, [], ◌∷◌, length, map, slice_get, Some}
use Rattle.dp_semantics.proofs.Names.{flat_map, Stmt, Program, Plan, Access, accesses, stage_of, first_site, is_checked, is_checked_access, last}
use Rattle.dp_semantics.proofs.Names.{region_statement, region_accesses, list_any, fits_plan}
use Rattle.std.proofs.lemmas.Option.{get_or_from_slice_get, slice_get-map}
use Rattle.dp_tree.specs.declared.Stmt.TheVariants as tree
use Rattle.dp_tree.specs.Inlined.{IsInlined}
use Rattle.dp_tree.specs.Statements.{asked}
use Rattle.dp_tree.proofs.Asked.{asked_both}
use Rattle.dp_plan.specs.Access.{access_at}
use Rattle.dp_plan.specs.Checked.{has_site}
use Rattle.dp_plan.specs.Written.{access_site}
use Rattle.dp_plan.proofs.Ascent.{Ascends}
use Rattle.dp_semantics.proofs.Each.{Each}
use Rattle.dp_semantics.proofs.Setting.{Sound}
use Rattle.dp_net.specs.NetItems.{Marks, begins}
use Rattle.dp_columns.specs.declared.ColumnKind.{ColumnKind}
use Rattle.dp_columns.specs.declared.ColumnKind.TheVariants as kind
use Rattle.dp_lean_code.specs.Known.{paying_marks}
use Rattle.dp_lean_code.proofs.Missing.{none_below, none_past}
use Rattle.dp_lean_code.proofs.ProgramRight.{ok, ascends}
use Rattle.dp_lean_code.proofs.TablesRight.{numbered_at}
use Rattle.dp_lean_turn.specs.Notes.{kind_at, kinds_of}
use Rattle.dp_lean_turn.specs.Told.{keeps_something}
use Rattle.dp_lean_kinds.specs.declared.form.SiteForm.{SiteForm}
use Rattle.dp_lean_kinds.specs.declared.form.SiteForm.TheVariants as form
use Rattle.dp_lean_kinds.specs.declared.form.FormedSite.{FormedSite}
use Rattle.dp_lean_kinds.specs.ColumnKinds.{formed_sites, values_of, is_needed, kind_of, region_kinds}
unfoldable use Rattle.dp_lean_kinds.specs.ColumnKinds.{formed_at}
use Rattle.dp_lean_kinds.proofs.Sizes.{kinds_count}
use Rattle.dp_lean_region.specs.Region.{plan_kinds}

-- ---- the numbers of a region's sites, in text order

abbrev number_in : FormedSite → ℕ
number_in a = a.site.0

one_numbers : (x : Stmt) → map number_in (asked formed_at x) ≡ map access_site (accesses x)
unfolding formed_at
one_numbers x = asked_both (λ a c. map number_in a ≡ map access_site c) refl
    (λ a b c d e f. map-append number_in a b ∙ (λ i. e i ++ f i) ∙ sym (map-append access_site c d)) formed_at access_at each x
  where
    each : (x : Stmt) → map number_in (formed_at x) ≡ map access_site (access_at x)
    each (tree.Assign site x e) = refl
    each (tree.Store site x i e) = refl
    each (tree.Print site e) = refl
    each (tree.If' site e h a k b) = refl
    each (tree.While' site e h a) = refl
    each (tree.Region' r site e h a) = refl
    each (tree.Break site e) = refl
    each (tree.Call f line args) = refl

all_numbers : (xs : List Stmt) → map number_in (flat_map (asked formed_at) xs) ≡ map access_site (flat_map accesses xs)
all_numbers [] = refl
all_numbers (x ∷ xs) =
    map-append number_in (asked formed_at x) (flat_map (asked formed_at) xs)
    ∙ (λ i. one_numbers x i ++ all_numbers xs i)
    ∙ sym (map-append access_site (accesses x) (flat_map accesses xs))

-- ---- the place of a site

-- where the numbers go up one by one, that of a site is its place
at_place : (k y : ℕ) (sites : List FormedSite) → Ascends k (map number_in sites) → k ≤ y → y < k + length sites →
    (a : FormedSite) × (slice_get sites (y - k) ≡ Some a) × (a.site.0 ≡ y)
at_place k y [] up low high = absurd (omega (arith, low, high))
at_place k y (a ∷ sites) up low high = elim (cases_lt k y) [
  | inl past ↦
      let more = at_place (suc k) y sites up.1 (omega (arith, past)) (omega (arith, high)) in
      let place : y - k ≡ suc (y - suc k) = omega (arith, past) in
      (more.0, ap (slice_get (a ∷ sites)) place ∙ more.1, more.2)
  | inr here ↦
      let place : y - k ≡ 0 = omega (arith, here) in
      let same : k ≡ y = omega (arith, here, low) in
      (a, ap (slice_get (a ∷ sites)) place, up.0 ∙ same)
]

module _ (p : Program) (plan : Plan) (inlined : IsInlined p) (fits : fits_plan p plan ≡ true) where
  abbrev m : Marks
  m = paying_marks p plan

  -- the numbers of the region's sites
  pub within : (y : ℕ) → has_site y (region_accesses p plan) ≡ true → (first_site p plan ≤ y) × (y < first_site p plan + length (region_accesses p plan))
  within y there = (from (cases_lt y (first_site p plan)), upto (cases_lt y (first_site p plan + length (region_accesses p plan))))
    where
      up : Ascends (first_site p plan) (map access_site (region_accesses p plan))
      up = ascends p plan inlined fits

      from : (y < first_site p plan) ⊎ (first_site p plan ≤ y) → first_site p plan ≤ y
      from (inl low) = let clash = sym (none_below (first_site p plan) y (region_accesses p plan) up low) ∙ there in absurd (cc clash)
      from (inr low) = low

      upto : (y < first_site p plan + length (region_accesses p plan)) ⊎ (first_site p plan + length (region_accesses p plan) ≤ y) →
          y < first_site p plan + length (region_accesses p plan)
      upto (inl high) = high
      upto (inr high) = let clash = sym (none_past (first_site p plan) y (region_accesses p plan) up high) ∙ there in absurd (cc clash)

  -- the site as it is formed, at its place
  pub formed : (y : ℕ) → has_site y (region_accesses p plan) ≡ true → (a : FormedSite)
      × (slice_get (formed_sites p plan) (y - first_site p plan) ≡ Some a) × (a.site.0 ≡ y)
  formed y there =
      let numbers = all_numbers (region_statement p plan) in
      let count : length (formed_sites p plan) ≡ length (region_accesses p plan) =
      sym (length-map (formed_sites p plan) number_in) ∙ ap length numbers ∙ length-map (region_accesses p plan) access_site in
      let range = within y there in
      at_place (first_site p plan) y (formed_sites p plan)
      (subst (Ascends (first_site p plan)) (sym numbers) (ascends p plan inlined fits)) range.0 (omega (arith, range.1, count))

  -- .. and the kind that a stage's columns have there
  pub kind_there : (t y : ℕ) (there : has_site y (region_accesses p plan) ≡ true) →
      kind_at (region_kinds p plan m t) (y - first_site p plan) ≡ kind_of p plan m t (formed y there).0
  kind_there t y there =
      get_or_from_slice_get (region_kinds p plan m t) (y - first_site p plan) (kind_of p plan m t (formed y there).0) kind.Nothing
      (slice_get-map (kind_of p plan m t) (formed_sites p plan) (y - first_site p plan)
      ∙ ap (Rattle.std.specs.Option.option_map (kind_of p plan m t)) (formed y there).1)

-- ---- which are kept

values_kept : (p : Program) (plan : Plan) (f : SiteForm) → keeps_something (values_of p plan f) ≡ true
values_kept p plan (form.Stored x) = by (Rattle.dp_tree.specs.Eval.cell_count p x == 1)
  where
    by : (b : Bool) → keeps_something (if b then kind.Value (Rattle.dp_tree.specs.Eval.first_cell p x) else kind.Element) ≡ true
    by true = refl
    by false = refl
values_kept p plan form.Single = refl

either_kept : (b : Bool) (k : ColumnKind) → keeps_something k ≡ true → keeps_something (if b then kind.Block else k) ≡ true
either_kept true k e = refl
either_kept false k e = e

kept_where : (own needed b : Bool) (k : ColumnKind) → own ≡ true → needed ≡ true → keeps_something k ≡ true →
    keeps_something (if own && needed then (if b then kind.Block else k) else kind.Nothing) ≡ true
kept_where own needed b k e f g = rw (e, f) (either_kept b k g)

module _ (p : Program) (plan : Plan) (m : Marks) where
  -- a needed site of the stage is kept
  needed_kept : (t y : ℕ) (a : FormedSite) → a.site.0 ≡ y → stage_of p plan y ≡ t → is_needed p plan m t y ≡ true →
      keeps_something (kind_of p plan m t a) ≡ true
  needed_kept t y a at own needed =
      kept_where (stage_of p plan a.site.0 == t) (is_needed p plan m t a.site.0) (begins m a.site.0) (values_of p plan a.form)
      (eq-eqb (stage_of p plan a.site.0) t (ap (stage_of p plan) at ∙ own)) (ap (is_needed p plan m t) at ∙ needed) (values_kept p plan a.form)

-- ---- the kinds of all stages

-- those of one stage among them
pub kinds_of_stage : (p : Program) (plan : Plan) (t : ℕ) → 0 < t → t ≤ length plan.stages → kinds_of (plan_kinds p plan) t ≡ region_kinds p plan
    (paying_marks p plan) t
kinds_of_stage p plan zero some upto = absurd (omega (arith, some))
kinds_of_stage p plan (suc t) some upto =
    let same : 1 + t ≡ suc t = omega arith in
    get_or_from_slice_get (plan_kinds p plan) t (region_kinds p plan (paying_marks p plan) (suc t)) []
    (numbered_at (region_kinds p plan (paying_marks p plan)) 1 (length plan.stages) t (omega (arith, upto))
    ∙ ap (λ (s : ℕ). Some (region_kinds p plan (paying_marks p plan) s)) same)

-- a site of the region is of one of the plan's stages
site_sound : (p : Program) (plan : Plan) (y : ℕ) (all : List Access) → Each (Sound p plan) all → has_site y all ≡ true → (0 < stage_of p plan y)
    × (stage_of p plan y < last plan)
site_sound p plan y [] h e = absurd (cc e)
site_sound p plan y (c ∷ all) h e = by (c.site == y) refl e (site_sound p plan y all h.1)
  where
    by : (b : Bool) → (c.site == y) ≡ b → (b || has_site y all) ≡ true → (has_site y all ≡ true → (0 < stage_of p plan y) × (stage_of p plan y < last plan)) →
        (0 < stage_of p plan y) × (stage_of p plan y < last plan)
    by true is e more = subst (λ (f : ℕ). (0 < stage_of p plan f) × (stage_of p plan f < last plan)) (eqb-true c.site y is) (h.0.staged, h.0.early)
    by false is e more = more e

module _ (p : Program) (plan : Plan) (inlined : IsInlined p) (fits : fits_plan p plan ≡ true) where
  -- what is needed behind its own stage is kept in that stage's columns
  pub kept_there : (y : ℕ) → has_site y (region_accesses p plan) ≡ true → is_needed p plan (paying_marks p plan) (stage_of p plan y) y ≡ true →
      keeps_something (kind_at (kinds_of (plan_kinds p plan) (stage_of p plan y)) (y - first_site p plan)) ≡ true
  kept_there y there needed =
      let range = site_sound p plan y (region_accesses p plan) (ok p plan inlined fits).sound there in
      let f = formed p plan inlined fits y there in
      ap (λ (kinds : List ColumnKind). keeps_something (kind_at kinds (y - first_site p plan))) (kinds_of_stage p plan (stage_of p plan y) range.0
      (omega (arith, range.1)))
      ∙ ap keeps_something (kind_there p plan inlined fits (stage_of p plan y) y there)
      ∙ needed_kept p plan (paying_marks p plan) (stage_of p plan y) y f.0 f.2 refl needed

  -- each site of the region has a place in each stage's columns
  pub placed : (s y : ℕ) → suc s ≤ length plan.stages → has_site y (region_accesses p plan) ≡ true →
      y - first_site p plan < length (kinds_of (plan_kinds p plan) (suc s))
  placed s y upto there =
      let count = ap length (kinds_of_stage p plan (suc s) (omega arith) upto) ∙ kinds_count p plan (paying_marks p plan) (suc s) in
      let range = within p plan inlined fits y there in omega (arith, count, range.0, range.1)

-- a checked site is one of the region's
pub checked_there : (p : Program) (plan : Plan) (y : ℕ) → is_checked p plan y ≡ true → has_site y (region_accesses p plan) ≡ true
checked_there p plan y = over (region_accesses p plan)
  where
    over : (all : List Access) → list_any (is_checked_access p plan y) all ≡ true → has_site y all ≡ true
    over [] e = absurd (cc e)
    over (a ∷ all) e = by (a.site == y) refl e (over all)
      where
        by : (b : Bool) → (a.site == y) ≡ b → ((b && list_any (Rattle.dp_plan.specs.Checked.may_differ p plan (stage_of p plan y) y) a.loads) || list_any
            (is_checked_access p plan y) all) ≡ true →
            (list_any (is_checked_access p plan y) all ≡ true → has_site y all ≡ true) → (b || has_site y all) ≡ true
        by true is e more = refl
        by false is e more = more e
