-- The lines of a text, part by part.
use Rattle.std.proofs.Common.{◌≡◌, ℕ, ◌+◌, List, [], ◌∷◌, ◌++◌, map, length, codes, decimal, refl, sym, ap, ◌∙◌, append_assoc}
use Rattle.std.specs.List.{flat_map}
use Rattle.std.proofs.lemmas.Grind.{flat_map-append}
use Rattle.dp_base.specs.declared.SiteId.{SiteId}
use Rattle.dp_text.specs.Labels.{labelled}
use Rattle.dp_tree.specs.declared.Program.{Program}
use Rattle.dp_profile.specs.declared.Profile.{Profile}
use Rattle.dp_profile.specs.declared.RegionProfile.{RegionProfile}
use Rattle.dp_profile.specs.declared.SiteCount.{SiteCount}
use Rattle.dp_profile.specs.declared.Flow.{Flow}
use Rattle.dp_profile_text.specs.declared.line.Line.TheVariants as line
use Rattle.dp_profile.specs.declared.sites.RegionSite.{RegionSite}
use Rattle.dp_profile.specs.Sites.{regions}
use Rattle.dp_profile_text.specs.ProfileText.{flow_word, profile_line_bytes, runs_lines, profile_region_lines, regions_lines}
use Rattle.dp_profile_text.specs.WrittenText.{profile_text, profile_line_text, runs_text, flows_text, profile_region_text, regions_text}

-- two numbers, a word and a number
pub flow_grew : (out one two three four five six word : List ℕ) (n m k : ℕ) → one ≡ out ++ labelled (codes "flow ") n → two ≡ one ++ labelled (codes " ") m →
    three ≡ two ++ 32 ∷ [] → four ≡ three ++ word
    → five ≡ four ++ labelled (codes " ") k → six ≡ five ++ 10 ∷ []
    → six ≡ out ++ (codes "flow " ++ (decimal n ++ (codes " " ++ (decimal m ++ (codes " " ++ (word ++ (codes " " ++ (decimal k ++ 10 ∷ []))))))))
unfolding labelled
flow_grew out one two three four five six word n m k p q r s t u = u ∙ rw (t, s, r, q, p) (simp append_assoc)

pub region_line : (r : ℕ) → codes "region " ++ (decimal r ++ 10 ∷ []) ≡ profile_line_text (line.Region r)
unfolding profile_line_text
region_line r = refl

pub runs_line : (site : SiteId) (c : SiteCount) →
    codes "runs " ++ (decimal site.0 ++ (codes " " ++ (decimal c.runs ++ (codes " " ++ (decimal c.nonzero ++ 10 ∷ []))))) ≡ profile_line_text (line.Runs site c)
unfolding profile_line_text
runs_line site c = simp append_assoc

pub flow_line : (f : Flow) →
    codes "flow " ++ (decimal f.from.0
    ++ (codes " " ++ (decimal f.to.0 ++ (codes " " ++ (flow_word f.carried ++ (codes " " ++ (decimal f.shown ++ 10 ∷ []))))))) ≡ profile_line_text (line.Flow f)
unfolding profile_line_text
flow_line f = simp append_assoc

-- ---- the lines of a region

runs_are : (sites : List RegionSite) (counts : List SiteCount) → runs_text sites counts ≡ flat_map profile_line_bytes (runs_lines sites counts)
unfolding profile_line_text
runs_are [] counts = refl
runs_are (s ∷ sites) [] = refl
runs_are (s ∷ sites) (c ∷ counts) = ap (λ (l : List ℕ). profile_line_bytes (line.Runs s.site c) ++ l) (runs_are sites counts)

flows_are : (flows : List Flow) → flows_text flows ≡ flat_map profile_line_bytes (map line.Flow flows)
unfolding profile_line_text
flows_are [] = refl
flows_are (f ∷ rest) = ap (λ (l : List ℕ). profile_line_bytes (line.Flow f) ++ l) (flows_are rest)

pub region_parts : (r : ℕ) (sites : List RegionSite) (shown : RegionProfile) → profile_line_text (line.Region r)
    ++ (runs_text sites shown.sites ++ flows_text shown.flows) ≡ profile_region_text r sites shown
unfolding profile_region_text profile_line_text
region_parts r sites shown =
    ap (λ (l : List ℕ). profile_line_bytes (line.Region r) ++ l)
    (ap (λ (l : List ℕ). l ++ flows_text shown.flows) (runs_are sites shown.sites)
    ∙ ap (λ (l : List ℕ). flat_map profile_line_bytes (runs_lines sites shown.sites) ++ l) (flows_are shown.flows)
    ∙ sym (flat_map-append profile_line_bytes (runs_lines sites shown.sites) (map line.Flow shown.flows)))

-- ---- the text of all regions

texts_are : (r : ℕ) (all : List (List RegionSite)) (shown : List RegionProfile) → regions_text r all shown ≡ flat_map profile_line_bytes
    (regions_lines r all shown)
unfolding profile_region_text
texts_are r [] shown = refl
texts_are r (sites ∷ later) [] = refl
texts_are r (sites ∷ later) (shown ∷ rest) =
    ap (λ (l : List ℕ). flat_map profile_line_bytes (profile_region_lines r sites shown) ++ l) (texts_are (r + 1) later rest)
    ∙ sym (flat_map-append profile_line_bytes (profile_region_lines r sites shown) (regions_lines (r + 1) later rest))

pub text_parts : (p : Program) (profile : Profile) → codes "profile 1\n" ++ (regions_text 1 (regions p) profile.regions ++ codes "end\n")
    ≡ profile_text p profile
text_parts p profile =
    ap (λ (l : List ℕ). codes "profile 1\n" ++ (l ++ codes "end\n")) (texts_are 1 (regions p) profile.regions)
    ∙ ap (λ (l : List ℕ). codes "profile 1\n" ++ l) (sym (flat_map-append profile_line_bytes (regions_lines 1 (regions p) profile.regions) (line.End ∷ [])))

-- ---- where one of two lists ends

pub no_sites : (sites : List RegionSite) (counts : List SiteCount) → length sites ≡ 0 → runs_text sites counts ≡ []
no_sites [] counts h = refl
no_sites (s ∷ sites) counts h = absurd (cc h)

pub no_counts : (sites : List RegionSite) (counts : List SiteCount) → length counts ≡ 0 → runs_text sites counts ≡ []
no_counts [] counts h = refl
no_counts (s ∷ sites) [] h = refl
no_counts (s ∷ sites) (c ∷ counts) h = absurd (cc h)

pub no_regions : (r : ℕ) (all : List (List RegionSite)) (shown : List RegionProfile) → length all ≡ 0 → regions_text r all shown ≡ []
no_regions r [] shown h = refl
no_regions r (sites ∷ later) shown h = absurd (cc h)

pub none_shown : (r : ℕ) (all : List (List RegionSite)) (shown : List RegionProfile) → length shown ≡ 0 → regions_text r all shown ≡ []
none_shown r [] shown h = refl
none_shown r (sites ∷ later) [] h = refl
none_shown r (sites ∷ later) (shown ∷ rest) h = absurd (cc h)
