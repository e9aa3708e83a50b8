-- The regions of sites.
use Rattle.std.specs.Prelude.{ℕ, ◌+◌, if◌then◌else◌, List, [], ◌∷◌}
use Rattle.dp_profile.specs.declared.sites.RegionSite.{RegionSite}
use Rattle.dp_profile.specs.Sites.{has_numbered_site}

-- the place of the site's region, where these regions stand from a place on, and it was this by then
abbrev pub owner_after : ℕ → ℕ → ℕ → List (List RegionSite) → ℕ
owner_after n place before [] = before
owner_after n place before (sites ∷ rest) = owner_after n (place + 1) (if has_numbered_site n sites then place else before) rest
