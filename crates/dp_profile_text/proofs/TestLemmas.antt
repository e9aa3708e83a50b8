-- What tests of a reader's state tell.
use Rattle.std.proofs.Common.{◌≡◌, ℕ, ◌==◌, Bool, true, false, ◌||◌, Some, ap, eqb-true}
use Rattle.dp_base.specs.declared.SiteId.{SiteId}
use Rattle.dp_text.proofs.Tests.{both}
use Rattle.dp_profile.specs.declared.SiteCount.{SiteCount}
use Rattle.dp_profile.specs.declared.sites.RegionSite.{RegionSite}
use Rattle.dp_profile_text.specs.steps.Reading.{counts_at}

pub record FitsAt (site : SiteId) (c : SiteCount) (s : RegionSite) : Type 0 where
  pub same : s.site ≡ site
  pub condition : s.condition ≡ false → c.nonzero ≡ 0

pub fits_at : (site : SiteId) (c : SiteCount) (s : RegionSite) → counts_at site c (Some s) ≡ true → FitsAt site c s
fits_at site c s h =
    let b = both (s.site.0 == site.0) (s.condition || (c.nonzero == 0)) h in
    record { same = ap (λ (n : ℕ). record { 0 = n }) (eqb-true s.site.0 site.0 b.first); condition = by s.condition b.second }
  where
    by : (condition : Bool) → (condition || (c.nonzero == 0)) ≡ true → condition ≡ false → c.nonzero ≡ 0
    by true h e = absurd (cc e)
    by false h e = eqb-true c.nonzero 0 h
