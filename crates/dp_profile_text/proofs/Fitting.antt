-- Counts, flows and regions that fit, one more at the end.
use Rattle.std.proofs.Common.{◌≡◌, ℕ, suc, ◌+◌, ◌-◌, true, List, [], ◌∷◌, ◌++◌, length, Some, None, slice_get, refl, sym, ap, ◌∙◌, append_assoc, append-nil}
use Rattle.std.proofs.Common.{arith}
use Rattle.dp_profile.specs.declared.RegionProfile.{RegionProfile}
use Rattle.dp_profile.specs.declared.SiteCount.{SiteCount}
use Rattle.dp_profile.specs.declared.Flow.{Flow}
use Rattle.dp_profile_text.specs.declared.line.Line.{Line}
use Rattle.dp_profile_text.specs.declared.line.Line.TheVariants as line
use Rattle.dp_profile.specs.declared.sites.RegionSite.{RegionSite}
use Rattle.dp_profile.specs.ProfileFits.{CountsFit, Ascend, RegionsFit}
use Rattle.dp_profile_text.specs.ProfileText.{runs_lines, profile_region_lines, regions_lines}
use Rattle.dp_profile_text.specs.steps.Reading.{last_flow, is_behind}

pub seam : {X : Type 0} (xs : List X) (y : X) (ys : List X) → slice_get (xs ++ y ∷ ys) (length xs) ≡ Some y
seam [] y ys = refl
seam (x ∷ xs) y ys = seam xs y ys

pub past : {X : Type 0} (xs : List X) → slice_get xs (length xs) ≡ None
past [] = refl
past (x ∷ xs) = past xs

-- ---- counts

pub counts_many : (sites : List RegionSite) (counts : List SiteCount) → CountsFit sites counts → length counts ≡ length sites
counts_many [] [] fit = refl
counts_many [] (c ∷ counts) fit = absurd fit
counts_many (s ∷ sites) [] fit = absurd fit
counts_many (s ∷ sites) (c ∷ counts) fit = ap suc (counts_many sites counts fit.1)

pub counts_more : (sites more : List RegionSite) (counts rest : List SiteCount) → CountsFit sites counts → CountsFit more rest →
    CountsFit (sites ++ more) (counts ++ rest)
counts_more [] more [] rest fit later = later
counts_more [] more (c ∷ counts) rest fit later = absurd fit
counts_more (s ∷ sites) more [] rest fit later = absurd fit
counts_more (s ∷ sites) more (c ∷ counts) rest fit later = (fit.0, counts_more sites more counts rest fit.1 later)

pub runs_more : (sites more : List RegionSite) (counts rest : List SiteCount) → CountsFit sites counts →
    runs_lines (sites ++ more) (counts ++ rest) ≡ runs_lines sites counts ++ runs_lines more rest
runs_more [] more [] rest fit = refl
runs_more [] more (c ∷ counts) rest fit = absurd fit
runs_more (s ∷ sites) more [] rest fit = absurd fit
runs_more (s ∷ sites) more (c ∷ counts) rest fit = ap (λ (l : List Line). line.Runs s.site c ∷ l) (runs_more sites more counts rest fit.1)

-- ---- regions

pub regions_many : (all : List (List RegionSite)) (shown : List RegionProfile) → RegionsFit all shown → length shown ≡ length all
regions_many [] [] fit = refl
regions_many [] (one ∷ shown) fit = absurd fit
regions_many (sites ∷ all) [] fit = absurd fit
regions_many (sites ∷ all) (one ∷ shown) fit = ap suc (regions_many all shown fit.1)

pub regions_fit_more : (all more : List (List RegionSite)) (shown rest : List RegionProfile) → RegionsFit all shown → RegionsFit more rest →
    RegionsFit (all ++ more) (shown ++ rest)
regions_fit_more [] more [] rest fit later = later
regions_fit_more [] more (one ∷ shown) rest fit later = absurd fit
regions_fit_more (sites ∷ all) more [] rest fit later = absurd fit
regions_fit_more (sites ∷ all) more (one ∷ shown) rest fit later = (fit.0, regions_fit_more all more shown rest fit.1 later)

pub regions_more : (r : ℕ) (all more : List (List RegionSite)) (shown rest : List RegionProfile) → RegionsFit all shown
    → regions_lines r (all ++ more) (shown ++ rest) ≡ regions_lines r all shown ++ regions_lines (r + length all) more rest
regions_more r [] more [] rest fit = ap (λ (n : ℕ). regions_lines n more rest) (omega arith)
regions_more r [] more (one ∷ shown) rest fit = absurd fit
regions_more r (sites ∷ all) more [] rest fit = absurd fit
regions_more r (sites ∷ all) more (one ∷ shown) rest fit =
    let same : (r + 1) + length all ≡ r + suc (length all) = omega arith in
    ap (λ (l : List Line). profile_region_lines r sites one ++ l) (regions_more (r + 1) all more shown rest fit.1
    ∙ ap (λ (n : ℕ). regions_lines (r + 1) all shown ++ regions_lines n more rest) same)
    ∙ sym (append_assoc (profile_region_lines r sites one) (regions_lines (r + 1) all shown) (regions_lines (r + suc (length all)) more rest))

-- one region more
pub regions_one : (all : List (List RegionSite)) (sites : List RegionSite) (shown : List RegionProfile) (one : RegionProfile) → RegionsFit all shown
    → regions_lines 1 (all ++ sites ∷ []) (shown ++ one ∷ []) ≡ regions_lines 1 all shown ++ profile_region_lines (1 + length all) sites one
regions_one all sites shown one fit = regions_more 1 all (sites ∷ []) shown (one ∷ []) fit ∙ ap (λ (l : List Line). regions_lines 1 all shown ++ l)
    (append-nil (profile_region_lines (1 + length all) sites one))

-- ---- flows

last_next : (f g : Flow) (rest : List Flow) → last_flow (f ∷ g ∷ rest) ≡ last_flow (g ∷ rest)
last_next f g rest = let down : suc (suc (length rest)) - 1 ≡ suc (suc (length rest) - 1) = omega arith in ap (slice_get (f ∷ g ∷ rest)) down

pub ascend_more : (flows : List Flow) (f : Flow) → Ascend flows → is_behind (last_flow flows) f ≡ true → Ascend (flows ++ f ∷ [])
ascend_more [] f up behind = tt
ascend_more (g ∷ []) f up behind = (behind, tt)
ascend_more (g ∷ h ∷ rest) f up behind =
    (up.0, ascend_more (h ∷ rest) f up.1 (ap (λ o. is_behind o f) (sym (last_next g h rest)) ∙ behind))

-- ---- each of a list
