-- What is looked up in a region's tables is what the definitions say.
use Rattle.dp_semantics.proofs.Names.{◌≡◌, ◌⊎◌, inl, inr, refl, sym, ap, ◌∙◌, arith, not, ℕ, zero, suc, ◌+◌, ◌-◌, ◌<◌, ◌≤◌, ◌==◌, ◌&&◌, ◌||◌, nat_le}
use Rattle.dp_semantics.proofs.Names.{if◌then◌else◌, Bool, true, false, List, [], ◌∷◌, length, map, Option, Some, None, slice_get, list_any, lt-leb, le-leb}
use Rattle.dp_semantics.proofs.Names.{ne_eqb, or_from, cases_lt, Program, Plan, Access, cell_count, stage_of, region_accesses, is_replicated, is_body_local}
use Rattle.dp_semantics.proofs.Names.{last}
use Rattle.std.proofs.Common.{slice_index}
use Rattle.dp_tree.specs.declared.VarInfo.{VarInfo}
use Rattle.dp_tree.specs.Numbering.{numbers_from}
use Rattle.dp_plan.specs.Access.{is_local}
use Rattle.dp_plan.specs.Written.{access_site}
use Rattle.dp_plan.specs.Checked.{is_checked}
use Rattle.dp_plan.proofs.Ascent.{Ascends}
use Rattle.dp_semantics.proofs.Each.{Each}
use Rattle.dp_semantics.proofs.Setting.{Sound}
use Rattle.dp_net.specs.Hidden.{loads_var}
use Rattle.dp_lean.specs.Needed.{is_judge, is_loaded_in, compares, wanted, is_done_to}
use Rattle.dp_lean_code.specs.steps.Looked.{entry_of, or_else}

module _ {X : Type 0} (f : ℕ → X) where
  -- an entry of a table by numbers, and none behind the last
  pub numbered_at : (first n k : ℕ) → k < n → slice_get (map f (numbers_from first n)) k ≡ Some (f (first + k))
  numbered_at first zero k low = absurd (omega (arith, low))
  numbered_at first (suc n) zero low = let e : first ≡ first + 0 = omega arith in ap (λ j. Some (f j)) e
  numbered_at first (suc n) (suc k) low = let e : first + 1 + k ≡ first + suc k = omega arith in numbered_at (first + 1) n k (omega (arith, low))
      ∙ ap (λ j. Some (f j)) e

  pub numbered_past : (first n k : ℕ) → n ≤ k → slice_get (map f (numbers_from first n)) k ≡ None
  numbered_past first zero k high = refl
  numbered_past first (suc n) zero high = absurd (omega (arith, high))
  numbered_past first (suc n) (suc k) high = numbered_past (first + 1) n k (omega (arith, high))

-- an entry of a table by the sites of a region
module _ (h : ℕ → ℕ) where
  abbrev by_site : List Access → List ℕ
  by_site all = map (λ (a : Access). h a.site) all

  site_at : (all : List Access) (k i : ℕ) → Ascends k (map access_site all) → i < length all → slice_index (by_site all) i ≡ h (k + i)
  site_at [] k i up low = absurd (omega (arith, low))
  site_at (a ∷ all) k zero up low = let e : a.site ≡ k + 0 = omega (arith, up.0) in ap h e
  site_at (a ∷ all) k (suc i) up low = let e : suc k + i ≡ k + suc i = omega arith in site_at all (suc k) i up.1 (omega (arith, low)) ∙ ap h e

  site_past : (all : List Access) (i : ℕ) → length all ≤ i → slice_index (by_site all) i ≡ 0
  site_past [] i high = refl
  site_past (a ∷ all) zero high = absurd (omega (arith, high))
  site_past (a ∷ all) (suc i) high = site_past all i (omega (arith, high))

  pub by_number : (all : List Access) (k f : ℕ) → Ascends k (map access_site all) → (f < k → h f ≡ 0) → (k + length all ≤ f → h f ≡ 0) →
      (if nat_le k f then slice_index (by_site all) (f - k) else 0) ≡ h f
  by_number all k f up below past = elim (cases_lt f k) [
    | inl low ↦ ap (λ c. if c then slice_index (by_site all) (f - k) else 0) (lt-leb k f low) ∙ sym (below low)
    | inr from ↦ ap (λ c. if c then slice_index (by_site all) (f - k) else 0) (le-leb k f from) ∙ inside from (cases_lt (f - k) (length all))
  ]
    where
      inside : k ≤ f → (f - k < length all) ⊎ (length all ≤ f - k) → slice_index (by_site all) (f - k) ≡ h f
      inside from (inl low) = let e : k + (f - k) ≡ f = omega (arith, from) in site_at all k (f - k) up low ∙ ap h e
      inside from (inr high) = site_past all (f - k) high ∙ sym (past (omega (arith, from, high)))

-- a variable that the program lacks
module _ (p : Program) (plan : Plan) (x : ℕ) (lacks : slice_get p.vars x ≡ None) where
  no_cell : cell_count p (record { 0 = x }) ≡ 0
  no_cell = rw lacks refl

  none_loaded : (loads : List ℕ) → Each (λ y. 0 < cell_count p (record { 0 = y })) loads → list_any (λ (y : ℕ). y == x) loads ≡ false
  none_loaded [] h = refl
  none_loaded (y ∷ loads) h =
      or_from (y == x) (list_any (λ (z : ℕ). z == x) loads) (ne_eqb y x (λ e. let c = ap (λ (z : ℕ). cell_count p (record { 0 = z })) e in
      omega (arith, h.0, c, no_cell))) (none_loaded loads h.1)

  none_so : (test : Access → Bool) (all : List Access) → Each (Sound p plan) all → list_any (λ (a : Access). test a && loads_var p plan x a) all ≡ false
  none_so test [] h = refl
  none_so test (a ∷ all) h =
      or_from (test a && loads_var p plan x a) (list_any (λ (b : Access). test b && loads_var p plan x b) all)
      (ap (λ c. test a && c) (none_loaded a.loads h.0.reads) ∙ and_none (test a)) (none_so test all h.1)
    where
      and_none : (c : Bool) → (c && false) ≡ false
      and_none true = refl
      and_none false = refl

  module _ (sound : Each (Sound p plan) (region_accesses p plan)) (s : ℕ) where
    not_wanted : wanted p plan s x ≡ false
    not_wanted = by (is_judge p plan s) (is_replicated plan (suc s)) (none_so (λ a. is_checked p plan a.site) (region_accesses p plan) sound)
        (none_so (λ a. stage_of p plan a.site == s) (region_accesses p plan) sound) (none_so (λ a. stage_of p plan a.site == suc s)
        (region_accesses p plan) sound)
      where
        by : (judge par : Bool) → list_any (compares p plan x) (region_accesses p plan) ≡ false → is_loaded_in p plan s x ≡ false →
            is_loaded_in p plan (suc s) x ≡ false →
            (if judge then list_any (compares p plan x) (region_accesses p plan) else is_loaded_in p plan s x || (par && is_loaded_in p plan (suc s) x)) ≡ false
        by true par e f g = e
        by false true e f g = or_from _ _ f g
        by false false e f g = or_from _ false f refl

    -- .. is done to by the judge alone
    pub lacking_done : is_judge p plan s ≡ is_done_to p plan s x
    lacking_done = sym (ap (λ c. c || (is_judge p plan s && not (is_body_local p plan x))) not_wanted
        ∙ ap (λ (o : Option VarInfo). is_judge p plan s && not (is_local plan.region o)) lacks ∙ and_true (is_judge p plan s))
      where
        and_true : (c : Bool) → (c && true) ≡ c
        and_true true = refl
        and_true false = refl

-- the stage's row of a table of stages and variables
pub done_right : (p : Program) (plan : Plan) (sound : Each (Sound p plan) (region_accesses p plan)) (s : ℕ) → 0 < s → s ≤ last plan →
    (table : List (List Bool)) →
    table ≡ map (λ (t : ℕ). map (is_done_to p plan t) (numbers_from 0 (length p.vars))) (numbers_from 1 (last plan)) → (x : ℕ) →
    or_else (is_judge p plan s) (entry_of x (slice_get table (s - 1))) ≡ is_done_to p plan s x
done_right p plan sound s low high table is x =
    let n : s - 1 < last plan = omega (arith, low, high) in
    let e : 1 + (s - 1) ≡ s = omega (arith, low) in
    ap (λ (o : Option (List Bool)). or_else (is_judge p plan s) (entry_of x o))
    (ap (λ (t : List (List Bool)). slice_get t (s - 1)) is ∙ numbered_at (λ t. map (is_done_to p plan t) (numbers_from 0 (length p.vars))) 1
    (last plan) (s - 1) n
    ∙ ap (λ t. Some (map (is_done_to p plan t) (numbers_from 0 (length p.vars)))) e)
    ∙ by (cases_lt x (length p.vars))
  where
    by : (x < length p.vars) ⊎ (length p.vars ≤ x) → or_else (is_judge p plan s) (slice_get (map (is_done_to p plan s) (numbers_from 0 (length p.vars))) x)
        ≡ is_done_to p plan s x
    by (inl there) = let e : 0 + x ≡ x = omega arith in ap (or_else (is_judge p plan s)) (numbered_at (is_done_to p plan s) 0 (length p.vars) x there)
        ∙ ap (is_done_to p plan s) e
    by (inr behind) = ap (or_else (is_judge p plan s)) (numbered_past (is_done_to p plan s) 0 (length p.vars) x behind)
        ∙ lacking_done p plan x (none_there p.vars x behind) sound s
      where
        none_there : (vars : List VarInfo) (i : ℕ) → length vars ≤ i → slice_get vars i ≡ None
        none_there [] i h = refl
        none_there (v ∷ vars) zero h = absurd (omega (arith, h))
        none_there (v ∷ vars) (suc i) h = none_there vars i (omega (arith, h))
