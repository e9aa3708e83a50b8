use Rattle.std.proofs.Common.{◌≡◌, refl, sym, ap, ◌∙◌, ℕ, List, [], ◌∷◌, ◌++◌, append-nil}
use Rattle.dp_profile.specs.declared.sites.RegionSite.{RegionSite}
use Rattle.dp_profile.specs.Observed.{nothing_shown}
use Rattle.dp_explain.specs.ShownText.{shown_text}
use Rattle.dp_explain.proofs.shown.put_text.Goals as goal

none_seen : (sites : List RegionSite) → shown_text sites nothing_shown ≡ []
none_seen [] = refl
none_seen (s ∷ sites) = refl

pub returns-in-None : goal.returns-in-None
returns-in-None c = rw c.in-None.is (sym (append-nil c.args.out.now) ∙ ap (λ (text : List ℕ). c.args.out.now ++ text) (sym (none_seen c.args.sites.now)))
