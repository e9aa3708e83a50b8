-- Tests of a place, of a memory and of a report, and what they say.
use Rattle.std.proofs.Common.{◌≡◌, ℕ, zero, suc, ◌+◌, ◌-◌, ◌<◌, ◌≤◌, ◌==◌, Bool, true, false, not, ◌&&◌, ◌||◌, nat_le, nat_lt, List, [], ◌∷◌, ◌++◌, map, length}
use Rattle.std.proofs.Common.{ℤ, pos, negsuc, get_or, slice_get, Option, Some, None, refl, sym, ap, subst, ◌∙◌, rules, arith, tests, eqb-true, length-append}
use Rattle.std.specs.Prelude.{if◌then◌else◌, replicate}
use Rattle.std.specs.List.{list_all}
use Rattle.std.proofs.lemmas.Bool.{cases_Bool}
use Rattle.std.proofs.lemmas.List.{map-append, length-replicate}
use Rattle.dp_base.specs.Arithmetic.{fits, is_zero}
use Rattle.dp_base.specs.declared.RegionReport.{RegionReport}
use Rattle.dp_base.specs.declared.limits.TheConstants.{FUEL}
use Rattle.dp_text.specs.Each.{Each}
use Rattle.dp_text.proofs.Tests.{both}
use Rattle.dp_tree.specs.declared.Program.{Program}
use Rattle.dp_tree.specs.declared.VarInfo.{VarInfo}
use Rattle.dp_tree.specs.Numbering.{numbers_from}
use Rattle.dp_tree.specs.Trace.{start_cells}
use Rattle.dp_tree.proofs.NumberLists.{numbers_from-append}
use Rattle.dp_save.specs.declared.Checkpoint.{Checkpoint}
use Rattle.dp_save.specs.declared.line.Place.{Place}
use Rattle.dp_save.specs.Fits.{BodyLocalIsZero, CellsFit, PlaceFits, ReportFits, ReportsFit, StopsHere, is_body_scope, reported_region}
use Rattle.dp_save.specs.steps.Reading.{cells_fit, is_next, is_zero_at, place_fits, rests, stopped, with_report}
use Rattle.dp_save.proofs.ValueLemmas.{Wide}

-- ---- lists

pub each-append : {X : Type 0} (P : X → Type 0) (xs : List X) (x : X) → Each P xs → P x → Each P (xs ++ x ∷ [])
each-append P [] x all one = (one, tt)
each-append P (y ∷ xs) x all one = (all.0, each-append P xs x all.1 one)

pub each-lists : {X : Type 0} (P : X → Type 0) (xs ys : List X) → Each P xs → Each P ys → Each P (xs ++ ys)
each-lists P [] ys all more = more
each-lists P (x ∷ xs) ys all more = (all.0, each-lists P xs ys all.1 more)

-- ---- the place

pub place_tested : (p : Program) (place : Place) (cells : List ℤ) (reports : List RegionReport) → PlaceFits p (stopped place cells reports) →
    place_fits p place ≡ true
place_tested p place cells reports f =
    let a : nat_lt 0 place.region ≡ true = let lt : 0 < place.region = omega (arith, f.some_region) in search rules in
    let b : nat_le place.region (length p.regions) ≡ true = let le : place.region ≤ length p.regions = f.region_exists in search rules in
    let c : nat_le place.steps place.fuel ≡ true = let le : place.steps ≤ place.fuel = f.steps_within in search rules in
    rw (a, b, c) refl

pub place_sound : (p : Program) (place : Place) (cells : List ℤ) (reports : List RegionReport) → place.region < 4294967296 → place.after ≤ FUEL →
    place.fuel ≤ FUEL → place_fits p place ≡ true → PlaceFits p (stopped place cells reports)
place_sound p place cells reports small after fuel h =
    let a = both (nat_lt 0 place.region) (nat_le place.region (length p.regions) && nat_le place.steps place.fuel) h in
    let b = both (nat_le place.region (length p.regions)) (nat_le place.steps place.fuel) a.second in
    record {
      some_region = let e : nat_lt 0 place.region ≡ true = a.first in let lt : 0 < place.region = search rules in omega (arith, lt);
      region_exists = let e : nat_le place.region (length p.regions) ≡ true = b.first in search rules;
      region_numbered = small;
      few_after = after;
      steps_within = let e : nat_le place.steps place.fuel ≡ true = b.second in search rules;
      most_fuel = fuel;
    }

-- of another memory and other reports
pub same_place : (p : Program) (place : Place) (cells others : List ℤ) (reports more : List RegionReport) → PlaceFits p (stopped place cells reports) →
    PlaceFits p (stopped place others more)
same_place p place cells others reports more f = record {
  some_region = f.some_region;
  region_exists = f.region_exists;
  region_numbered = f.region_numbered;
  few_after = f.few_after;
  steps_within = f.steps_within;
  most_fuel = f.most_fuel;
}

-- ---- the memory

zero_is : (z : ℤ) → is_zero z ≡ true → z ≡ pos 0
unfolding is_zero
zero_is (pos zero) h = refl
zero_is (pos (suc n)) h = let low : suc n < 1 = search rules in absurd (omega (arith, low))
zero_is (negsuc n) h = absurd (cc h)

zero_zero : is_zero (pos 0) ≡ true
unfolding is_zero
zero_zero = refl

pub reads_zero : (cells : List ℤ) (k : ℕ) → is_zero_at (slice_get cells k) ≡ true → get_or cells k (pos 0) ≡ pos 0
reads_zero [] k h = refl
reads_zero (z ∷ cells) zero h = zero_is z h
reads_zero (z ∷ cells) (suc k) h = reads_zero cells k h

zero_read : (cells : List ℤ) (k : ℕ) → get_or cells k (pos 0) ≡ pos 0 → is_zero_at (slice_get cells k) ≡ true
zero_read [] k h = refl
zero_read (z ∷ cells) zero h = ap is_zero h ∙ zero_zero
zero_read (z ∷ cells) (suc k) h = zero_read cells k h

local_case : (cells : List ℤ) (k : ℕ) (body : Bool) → (if body then is_zero_at (slice_get cells k) else true) ≡ true → body ≡ true →
    get_or cells k (pos 0) ≡ pos 0
local_case cells k true h e = reads_zero cells k h
local_case cells k false h e = absurd (cc e)

local_tested : (cells : List ℤ) (k : ℕ) (body : Bool) → (body ≡ true → get_or cells k (pos 0) ≡ pos 0) →
    (if body then is_zero_at (slice_get cells k) else true) ≡ true
local_tested cells k true h = zero_read cells k (h refl)
local_tested cells k false h = refl

locals_sound : (cells : List ℤ) (vars : List VarInfo) → list_all (rests cells) vars ≡ true → Each (BodyLocalIsZero cells) vars
locals_sound cells [] h = tt
locals_sound cells (x ∷ vars) h =
    let b = both (rests cells x) (list_all (rests cells) vars) h in
    (local_case cells x.first.0 (is_body_scope x.scope) b.first, locals_sound cells vars b.second)

locals_tested : (cells : List ℤ) (vars : List VarInfo) → Each (BodyLocalIsZero cells) vars → list_all (rests cells) vars ≡ true
locals_tested cells [] h = refl
locals_tested cells (x ∷ vars) h =
    let a : rests cells x ≡ true = local_tested cells x.first.0 (is_body_scope x.scope) h.0 in
    let b : list_all (rests cells) vars ≡ true = locals_tested cells vars h.1 in rw (a, b) refl

pub cells_sound : (p : Program) (cells : List ℤ) → Each Wide cells → cells_fit p.vars cells ≡ true → CellsFit p cells
cells_sound p cells wide h =
    let b = both (length (start_cells p.vars) == length cells) (list_all (rests cells) p.vars) h in
    record { long = sym (eqb-true (length (start_cells p.vars)) (length cells) b.first); wide = wide; locals = locals_sound cells p.vars b.second }

pub cells_tested : (p : Program) (cells : List ℤ) → CellsFit p cells → cells_fit p.vars cells ≡ true
cells_tested p cells f =
    let a : (length (start_cells p.vars) == length cells) ≡ true = let e : length (start_cells p.vars) ≡ length cells = sym f.long in search (rules, tests) in
    let b : list_all (rests cells) p.vars ≡ true = locals_tested cells p.vars f.locals in rw (a, b) refl

-- a memory of zeros
zeros_read : (n k : ℕ) → get_or (replicate n (pos 0)) k (pos 0) ≡ pos 0
zeros_read zero k = refl
zeros_read (suc n) zero = refl
zeros_read (suc n) (suc k) = zeros_read n k

zeros_wide : (n : ℕ) → Each Wide (replicate n (pos 0))
zeros_wide zero = tt
zeros_wide (suc n) = (refl, zeros_wide n)

zeros_rest : (n : ℕ) (vars : List VarInfo) → Each (BodyLocalIsZero (replicate n (pos 0))) vars
zeros_rest n [] = tt
zeros_rest n (x ∷ vars) = ((λ _. zeros_read n x.first.0), zeros_rest n vars)

abbrev pub zeros : Program → List ℤ
zeros p = replicate (length (start_cells p.vars)) (pos 0)

pub zeros_fit : (p : Program) → CellsFit p (zeros p)
zeros_fit p = record {
  long = length-replicate (length (start_cells p.vars)) (pos 0);
  wide = zeros_wide (length
      (start_cells p.vars));
  locals = zeros_rest (length (start_cells p.vars)) p.vars;
}

-- ---- reports

pub record IsNext (c : Checkpoint) (r : RegionReport) : Type 0 where
  pub counted : r.region ≡ suc (length c.reports)
  pub within : r.region ≤ c.region
  pub here : StopsHere c r

here_case : (same : Bool) (region at iterations after : ℕ) → (region == at) ≡ same → (not same || (iterations == after)) ≡ true →
    region ≡ at → iterations ≡ after
here_case true region at iterations after e h is = eqb-true iterations after h
here_case false region at iterations after e h is = let t : (region == at) ≡ true = search (rules, tests) in absurd (cc (sym e ∙ t))

pub next_sound : (c : Checkpoint) (r : RegionReport) → is_next c r ≡ true → IsNext c r
next_sound c r h =
    let a = both (nat_lt 0 r.region)
    ((length c.reports == r.region - 1) && (nat_le r.region c.region && (not (r.region == c.region) || (r.iterations == c.after)))) h in
    let b = both (length c.reports == r.region - 1) (nat_le r.region c.region && (not (r.region == c.region) || (r.iterations == c.after))) a.second in
    let d = both (nat_le r.region c.region) (not (r.region == c.region) || (r.iterations == c.after)) b.second in
    let some : 0 < r.region = let e : nat_lt 0 r.region ≡ true = a.first in search rules in
    record {
      counted = let e : length c.reports ≡ r.region - 1 = eqb-true (length c.reports) (r.region - 1) b.first in omega (arith, e, some);
      within = let e : nat_le r.region c.region ≡ true = d.first in search rules;
      here = here_case (r.region == c.region) r.region c.region r.iterations c.after refl d.second;
    }

here_tested : (same : Bool) (region at iterations after : ℕ) → (region == at) ≡ same → (region ≡ at → iterations ≡ after) →
    (not same || (iterations == after)) ≡ true
here_tested true region at iterations after e h = let is : iterations ≡ after = h (eqb-true region at e) in search (rules, tests)
here_tested false region at iterations after e h = refl

pub next_tested : (c : Checkpoint) (r : RegionReport) → r.region ≡ suc (length c.reports) → r.region ≤ c.region → StopsHere c r → is_next c r ≡ true
next_tested c r counted within here =
    let a : nat_lt 0 r.region ≡ true = let lt : 0 < r.region = omega (arith, counted) in search rules in
    let b : (length c.reports == r.region - 1) ≡ true = let e : length c.reports ≡ r.region - 1 = omega (arith, counted) in search (rules, tests) in
    let d : nat_le r.region c.region ≡ true = search rules in
    let e : (not (r.region == c.region) || (r.iterations == c.after)) ≡ true = here_tested (r.region == c.region) r.region c.region r.iterations
    c.after refl here in
    rw (a, b, d, e) refl

-- the reports with one more
pub more_reports : (place : Place) (cells : List ℤ) (reports : List RegionReport) (r : RegionReport) → ReportsFit (stopped place cells reports) →
    r.region ≡ suc (length reports) → ReportFits r → StopsHere (stopped place cells reports) r
    → ReportsFit (stopped place cells (reports ++ r ∷ []))
more_reports place cells reports r f number fits here = record {
  regions =
      map-append reported_region reports (r ∷ [])
      ∙ ap (λ (ns : List ℕ). ns ++ r.region ∷ []) f.regions
      ∙ ap (λ (n : ℕ). numbers_from 1 (length reports) ++ n ∷ []) (number ∙ (let e : suc (length reports) ≡ 1 + length reports = omega arith in e))
      ∙ sym (numbers_from-append 1 (length reports) 1)
      ∙ ap (numbers_from 1) (sym (length-append reports (r ∷ [])));
  each = each-append ReportFits reports r f.each fits;
  here = each-append (StopsHere (stopped place cells reports)) reports r f.here here;
}
