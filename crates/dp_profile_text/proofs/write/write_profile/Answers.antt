use Rattle.std.proofs.Common.{◌≡◌, [], ◌++◌, List, ℕ, ap, ◌∙◌, codes}
use Rattle.dp_profile.specs.declared.RegionProfile.{RegionProfile}
use Rattle.dp_profile.specs.declared.sites.RegionSite.{RegionSite}
use Rattle.dp_profile.specs.Sites.{regions}
use Rattle.dp_profile_text.specs.WrittenText.{regions_text}
use Rattle.dp_profile_text.proofs.WriteLemmas.{text_parts}
use Rattle.dp_profile_text.proofs.write.write_profile.Goals as goal
use Rattle.dp_text.proofs.Grown.{grew}

pub returns : goal.returns
returns c =
    let p = c.args.p.now in let profile = c.args.profile.now in
    let head : c.extend_from_slice.new.self ≡ [] ++ codes "profile 1\n" = c.in_ok-extend_from_slice.ensures.ok
    ∙ ap (λ (l : List ℕ). l ++ codes "profile 1\n") c.new-out.ensures in
    let body : c.put_regions.new.out ≡ c.extend_from_slice.new.self ++ regions_text 1 (regions c.args.p.now) c.args.profile.now.regions =
    c.in_ok-put_regions.ensures.text
    ∙ ap (λ (l : List (List RegionSite)). c.extend_from_slice.new.self ++ regions_text 1 l c.as_slice-2.result.now) (c.as_slice.ensures ∙ c.in_ok-all.ensures)
    ∙ ap (λ (l : List RegionProfile). c.extend_from_slice.new.self ++ regions_text 1 (regions c.args.p.now) l) c.as_slice-2.ensures in
    grew [] _ _ _ (codes "profile 1\n") (regions_text 1 (regions p) profile.regions) (codes "end\n") head body c.in_ok-extend_from_slice-2.ensures.ok
    ∙ text_parts p profile
