-- Assumptions that ascend by site stand in the order of the sites.
use Rattle.std.proofs.Common.{◌≡◌, refl, sym, ap, subst, ◌∙◌, ℕ, ◌<◌, ◌≤◌, ◌==◌, true, false, List, [], ◌∷◌, map, Some, None, filter_map, inl, inr, arith}
use Rattle.std.proofs.Common.{eq-eqb, eqb-true, ne_eqb}
use Rattle.std.proofs.lemmas.Bool.{cases_Bool}
use Rattle.dp_tree.specs.declared.Assume.{Assume}
use Rattle.dp_plan.specs.Each.{AscendAbove, Each}
use Rattle.dp_plan.specs.PlanFits.{AssumeFits}
use Rattle.dp_plan.specs.Written.{has, assumption_at}
use Rattle.dp_plan.specs.Rules.{assumed_site}
use Rattle.dp_plan.proofs.Ascent.{above_each}
use Rattle.dp_plan.proofs.Found.{has_each, past, past_other}

-- the assumption of a site that is assumed
pub found_assumption : (assumed : List Assume) (site : ℕ) → has site (map assumed_site assumed) ≡ true → (a : Assume)
    × (assumption_at assumed site ≡ Some a) × (a.site.0 ≡ site)
found_assumption [] site e = absurd (cc e)
found_assumption (a ∷ rest) site e = elim (cases_Bool (a.site.0 == site)) [
  | inl here ↦ (a, rw here refl, eqb-true a.site.0 site here)
  | inr off ↦ let later = found_assumption rest site (rw off at e) in (later.0, rw off later.1, later.2)
]

each_past : (s : ℕ) (rest ns : List ℕ) → Each (λ n. s < n) ns → Each (λ n. has n (s ∷ rest) ≡ true) ns → Each (λ n. has n rest ≡ true) ns
each_past s rest [] above each = tt
each_past s rest (n ∷ ns) above each = (past s n rest above.0 each.0, each_past s rest ns above.1 each.1)

-- what is assumed of a lower site isn't found
skip : (a : Assume) (more : List Assume) (ns : List ℕ) → Each (λ n. a.site.0 < n) ns → filter_map (assumption_at (a ∷ more)) ns ≡ filter_map
    (assumption_at more) ns
skip a more [] above = refl
skip a more (n ∷ ns) above =
    let other : (a.site.0 == n) ≡ false = ne_eqb a.site.0 n (λ same. omega (arith, same, above.0)) in
    rw other (rw (skip a more ns above.1) refl)

none_at : (assumed : List Assume) (low s : ℕ) → AscendAbove low (map assumed_site assumed) → s ≤ low → assumption_at assumed s ≡ None
none_at [] low s h le = refl
none_at (a ∷ more) low s h le =
    let other : (a.site.0 == s) ≡ false = ne_eqb a.site.0 s (λ same. omega (arith, same, h.0, le)) in
    rw other (none_at more a.site.0 s h.2 (omega (arith, h.0, le)))

not_same : (s n : ℕ) → (n == s) ≡ false → (s == n) ≡ false
not_same s n t = ne_eqb s n (λ same. let clash : true ≡ false = sym (eq-eqb n s (sym same)) ∙ t in cc clash)

pub assume_back : (low : ℕ) (sites : List ℕ) (assumed : List Assume) → AscendAbove low sites → AscendAbove low (map assumed_site assumed) →
    Each (λ n. has n sites ≡ true) (map assumed_site assumed)
    → filter_map (assumption_at assumed) sites ≡ assumed
assume_back low [] [] up assumed_up each = refl
assume_back low [] (a ∷ more) up assumed_up each = absurd (cc each.0)
assume_back low (s ∷ rest) [] up assumed_up each = assume_back s rest [] up.2 tt tt
assume_back low (s ∷ rest) (a ∷ more) up assumed_up each = elim (cases_Bool (a.site.0 == s)) [
  | inl t ↦
      let same : a.site.0 ≡ s = eqb-true a.site.0 s t in
      let above : Each (λ n. a.site.0 < n) rest = subst (λ (i : ℕ). Each (λ n. i < n) rest) (sym same) (above_each s rest up.2) in
      let later : AscendAbove s (map assumed_site more) = subst (λ (i : ℕ). AscendAbove i (map assumed_site more)) same assumed_up.2 in
      rw t (ap (λ (l : List Assume). a ∷ l) (skip a more rest above
      ∙ assume_back s rest more up.2 later (each_past s rest (map assumed_site more) (above_each s (map assumed_site more) later) each.1)))
  | inr t ↦
      let behind : has a.site.0 rest ≡ true = past_other s a.site.0 rest (not_same s a.site.0 t) each.0 in
      let lt : s < a.site.0 = has_each (λ n. s < n) rest a.site.0 (above_each s rest up.2) behind in
      let higher : AscendAbove s (map assumed_site (a ∷ more)) = (lt, assumed_up.1, assumed_up.2) in
      rw (none_at (a ∷ more) s s higher (omega arith))
      (assume_back s rest (a ∷ more) up.2 higher (each_past s rest (map assumed_site (a ∷ more)) (above_each s (map assumed_site (a ∷ more)) higher) each))
]

-- the assumed sites fit a text
pub assumed_fit : (low : ℕ) (assumed : List Assume) → AscendAbove low (map assumed_site assumed) → Each AssumeFits assumed
assumed_fit low [] h = tt
assumed_fit low (a ∷ more) h = ((omega (arith, h.0), h.1), assumed_fit a.site.0 more h.2)
