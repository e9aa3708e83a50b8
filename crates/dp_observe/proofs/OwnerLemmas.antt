-- Sites that are given to a region, one after the other.
use Rattle.std.proofs.Common.{◌≡◌, ℕ, ◌==◌, if◌then◌else◌, List, ◌∷◌, arith}
use Rattle.dp_profile.specs.declared.sites.RegionSite.{RegionSite}
use Rattle.dp_profile.specs.Sites.{has_numbered_site}

pub given_one : (s : RegionSite) (rest : List RegionSite) (n place before : ℕ) →
    (if has_numbered_site n rest then place else (if n == s.site.0 then place else before)) ≡ (if has_numbered_site n (s ∷ rest) then place else before)
given_one s rest n place before = grind (arith)

pub ruleset gives = (given_one)
