-- Which sites a region has, and which counts and flows fit them.
use Rattle.std.proofs.Common.{◌≡◌, refl, arith, ℕ, true, false, [], ◌∷◌, map}
use Rattle.dp_tree.specs.declared.Stmt.TheVariants as stmt
use Rattle.dp_tree.proofs.Build.{num, set, set_at, say, loop, region, tree_opened}
use Rattle.dp_profile.specs.Sites.{RegionSite, region_site, sites}
use Rattle.dp_profile.specs.ProfileFits.{CountFits, CountsFit, FlowFits, RegionsFit, is_before}
use Rattle.dp_profile.proofs.rows.Profiles.{count, flow}

abbrev plain : ℕ → RegionSite
plain n = region_site (record { 0 = n }) false

abbrev condition : ℕ → RegionSite
condition n = region_site (record { 0 = n }) true

-- while (1) { a[0] = 1; if (1) { print(1); } else { x = 1; } while (1) { if (1) break; } }
each_form : sites (region 1 2 (num 1) (set_at 3 0 (num 0) (num 1) ∷ stmt.If (record { 0 = 4 }) (num 1) (say 5 (num 1) ∷ []) (set 6 1 (num 1) ∷ [])
    ∷ loop 7 (num 1) (stmt.Break (record { 0 = 8 }) (num 1) ∷ []) ∷ []))
    ≡ condition 2 ∷ plain 3 ∷ condition 4 ∷ plain 5 ∷ plain 6 ∷ condition 7 ∷ condition 8 ∷ []
unfolding tree_opened
each_form = refl

too_many_runs : CountFits (condition 2) (count 1000000000001 0) → ⊥
too_many_runs fits = omega (arith, fits.most_runs)

more_than_its_runs : CountFits (condition 2) (count 3 4) → ⊥
more_than_its_runs fits = omega (arith, fits.most_nonzero)

no_condition : CountFits (plain 2) (count 3 1) → ⊥
no_condition fits = omega (arith, fits.condition refl)

counts_of_no_site : CountsFit [] (count 0 0 ∷ []) → ⊥
counts_of_no_site fits = fits

site_without_counts : CountsFit (plain 2 ∷ []) [] → ⊥
site_without_counts fits = fits

not_shown : FlowFits (plain 2 ∷ []) (flow 2 2 true 0) → ⊥
not_shown fits = omega (arith, fits.some_shown)

shown_too_often : FlowFits (plain 2 ∷ []) (flow 2 2 true 1000000000001) → ⊥
shown_too_often fits = omega (arith, fits.most_shown)

from_elsewhere : FlowFits (plain 2 ∷ []) (flow 3 2 true 1) → ⊥
from_elsewhere fits = let clash : false ≡ true = fits.from in absurd (cc clash)

to_elsewhere : FlowFits (plain 2 ∷ []) (flow 2 3 true 1) → ⊥
to_elsewhere fits = let clash : false ≡ true = fits.to in absurd (cc clash)

profile_of_no_region : RegionsFit [] (record { sites = []; flows = [] } ∷ []) → ⊥
profile_of_no_region fits = fits

region_without_profile : RegionsFit ([] ∷ []) [] → ⊥
region_without_profile fits = fits

behind_intra : map (is_before (flow 3 4 false 1)) (flow 2 5 true 2 ∷ flow 3 3 true 2 ∷ flow 3 4 false 2 ∷ flow 3 4 true 1 ∷ flow 3 5 false 1
    ∷ flow 4 1 false 1 ∷ [])
    ≡ false ∷ false ∷ false ∷ true ∷ true ∷ true ∷ []
behind_intra = refl

behind_carried : map (is_before (flow 3 4 true 1)) (flow 3 4 false 2 ∷ flow 3 4 true 2 ∷ flow 3 5 false 1 ∷ []) ≡ false ∷ false ∷ true ∷ []
behind_carried = refl
