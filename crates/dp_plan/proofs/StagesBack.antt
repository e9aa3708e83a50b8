-- The stages of a plan are those of its lines.
use Rattle.std.proofs.Common.{◌≡◌, refl, sym, ap, subst, ◌∙◌, ℕ, suc, ◌+◌, ◌-◌, ◌==◌, if◌then◌else◌, true, ◌||◌, nat_le, List, [], ◌∷◌, map, filter, length}
use Rattle.std.proofs.Common.{drop, slice_index, inl, inr, arith, le-leb, eqb-true, drop-cons}
use Rattle.std.specs.List.{flat_map}
use Rattle.std.proofs.lemmas.Bool.{cases_Bool}
use Rattle.std.proofs.lemmas.List.{drop_all}
use Rattle.std.proofs.lemmas.List.Folds.{list_any-append}
use Rattle.dp_tree.specs.declared.Program.{Program}
use Rattle.dp_tree.specs.Numbering.{numbers_from}
use Rattle.dp_plan.specs.declared.StageKind.{StageKind}
use Rattle.dp_plan.specs.declared.Plan.{Plan}
use Rattle.dp_plan.specs.Stage.{first_site, stage_of}
use Rattle.dp_plan.specs.Written.{has, kind_in, sites_in, stage_from, region_sites, lines_from}
use Rattle.dp_plan.specs.Each.{AscendAbove, Each}
use Rattle.dp_plan.specs.PlanFits.{StageFits}
use Rattle.dp_plan.proofs.Ascent.{Ascends, above-filter}
use Rattle.dp_plan.proofs.Found.{has-filter, kept_some}

-- the table that is looked up from the first site on
looked_up : (first : ℕ) (table : List ℕ) (i : ℕ) (sites : List ℕ) → Ascends (first + i) sites → i + length sites ≡ length table
    → map (λ (site : ℕ). if nat_le first site then slice_index table (site - first) else 0) sites ≡ drop i table
looked_up first table i [] up long = sym (drop_all i table (omega (arith, long)))
looked_up first table i (site ∷ rest) up long =
    let from : nat_le first site ≡ true = le-leb first site (omega (arith, up.0)) in
    let place : site - first ≡ i = omega (arith, up.0) in
    let next : suc (first + i) ≡ first + suc i = omega arith in
    rw (from, place, drop-cons table i 0 (omega (arith, long)))
    (ap (λ (l : List ℕ). slice_index table i ∷ l) (looked_up first table (suc i) rest (subst (λ (n : ℕ). Ascends n rest) next up.1) (omega (arith, long))))

pub map_same : (f g : ℕ → ℕ) (ns : List ℕ) → Each (λ n. f n ≡ g n) ns → map f ns ≡ map g ns
map_same f g [] each = refl
map_same f g (n ∷ ns) each = ap (λ (m : ℕ). m ∷ map f ns) each.0 ∙ ap (λ (l : List ℕ). g n ∷ l) (map_same f g ns each.1)

module _ (p : Program) (plan : Plan) where
  abbrev sites : List ℕ
  sites = region_sites p plan.region

  pub table_back : Ascends (first_site p plan) (region_sites p plan.region) → length plan.stage_of ≡ length (region_sites p plan.region) →
      map (stage_of p plan) (region_sites p plan.region) ≡ plan.stage_of
  table_back up long =
      let e : first_site p plan ≡ first_site p plan + 0 = omega arith in
      looked_up (first_site p plan) plan.stage_of 0 sites (subst (λ (n : ℕ). Ascends n sites) e up) (omega (arith, long))

  pub kinds_back : (k : ℕ) (kinds : List StageKind) → map kind_in (lines_from p plan k kinds) ≡ kinds
  kinds_back k [] = refl
  kinds_back k (kind ∷ rest) = ap (λ (l : List StageKind). kind ∷ l) (kinds_back (suc k) rest)

  pub length-lines_from : (k : ℕ) (kinds : List StageKind) → length (lines_from p plan k kinds) ≡ length kinds
  length-lines_from k [] = refl
  length-lines_from k (kind ∷ rest) = ap suc (length-lines_from (suc k) rest)

  -- a listed site is listed in the line of its stage
  pub stage_back : (k : ℕ) (kinds : List StageKind) (site : ℕ) → has site (flat_map sites_in (lines_from p plan k kinds)) ≡ true →
      stage_from k (lines_from p plan k kinds) site ≡ stage_of p plan site
  stage_back k [] site e = absurd (cc e)
  stage_back k (kind ∷ rest) site e = elim (cases_Bool (has site here)) [
    | inl t ↦ rw t (sym (eqb-true (stage_of p plan site) k (has-filter (λ n. stage_of p plan n == k) sites site t).1))
    | inr t ↦ rw t (stage_back (suc k) rest site (rw t at there))
  ]
    where
      here : List ℕ
      here = filter (λ n. stage_of p plan n == k) sites

      there : (has site here || has site (flat_map sites_in (lines_from p plan (suc k) rest))) ≡ true
      there = sym (list_any-append (λ n. n == site) here (flat_map sites_in (lines_from p plan (suc k) rest))) ∙ e

  -- the lines fit, where each stage has a site
  pub stages_fit : (k : ℕ) (kinds : List StageKind) → AscendAbove 0 (region_sites p plan.region)
      → Each (λ stage. has stage (map (stage_of p plan) (region_sites p plan.region)) ≡ true) (numbers_from k (length kinds)) →
      Each StageFits (lines_from p plan k kinds)
  stages_fit k [] up filled = tt
  stages_fit k (kind ∷ rest) up filled =
      let next : k + 1 ≡ suc k = omega arith in (
        (kept_some (stage_of p plan) k sites filled.0, above-filter (λ n. stage_of p plan n == k) 0 sites up),
        stages_fit (suc k) rest up
            (subst (λ (i : ℕ). Each (λ stage. has stage (map (stage_of p plan) sites) ≡ true) (numbers_from i (length rest))) next filled.1),
      )
