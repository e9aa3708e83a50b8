-- Assumptions in the order of a region's sites.
use Rattle.std.proofs.Common.{◌≡◌, refl, ap, ◌∙◌, ℕ, ◌==◌, true, false, List, [], ◌∷◌, map, filter, filter_map, Option, None, inl, inr}
use Rattle.std.specs.List.{cons_option}
use Rattle.std.proofs.lemmas.Bool.{cases_Bool}
use Rattle.dp_tree.specs.declared.Assume.{Assume}
use Rattle.dp_plan.specs.Written.{has, assumption_at}
use Rattle.dp_plan.specs.Rules.{assumed_site}
use Rattle.dp_plan.proofs.AssumeBack.{found_assumption}

not_found : (assumed : List Assume) (site : ℕ) → has site (map assumed_site assumed) ≡ false → assumption_at assumed site ≡ None
not_found [] site e = refl
not_found (a ∷ rest) site e = elim (cases_Bool (a.site.0 == site)) [
  | inl here ↦ let clash : true ≡ false = rw here at e in absurd (cc clash)
  | inr off ↦ rw off (not_found rest site (rw off at e))
]

-- they are of those sites that are assumed
pub sorted_sites : (assumed : List Assume) (sites : List ℕ)
    → map assumed_site (filter_map (assumption_at assumed) sites) ≡ filter (λ site. has site (map assumed_site assumed)) sites
sorted_sites assumed [] = refl
sorted_sites assumed (site ∷ rest) = elim (cases_Bool (has site (map assumed_site assumed))) [
  | inl t ↦
      let a = found_assumption assumed site t in
      ap (λ (o : Option Assume). map assumed_site (cons_option o (filter_map (assumption_at assumed) rest))) a.1
      ∙ ap (λ (n : ℕ). n ∷ map assumed_site (filter_map (assumption_at assumed) rest)) a.2
      ∙ ap (λ (l : List ℕ). site ∷ l) (sorted_sites assumed rest)
      ∙ rw t refl
  | inr t ↦
      ap (λ (o : Option Assume). map assumed_site (cons_option o (filter_map (assumption_at assumed) rest))) (not_found assumed site t)
      ∙ sorted_sites assumed rest ∙ rw t refl
]
