-- The lines of a profile that fits are read to their end.
use Rattle.std.proofs.Common.{◌≡◌, ℕ, ◌+◌, ◌-◌, ◌<◌, ◌≤◌, ◌==◌, Bool, true, false, ◌||◌, nat_le, nat_lt, List, [], ◌∷◌, ◌++◌, map, length, Option, Some}
use Rattle.std.proofs.Common.{slice_get, refl, sym, ap, ◌∙◌, append_assoc, append-nil, length-append, rules, arith, tests}
use Rattle.dp_plan.specs.Each.{Each}
use Rattle.dp_profile.specs.declared.RegionProfile.{RegionProfile}
use Rattle.dp_profile.specs.declared.SiteCount.{SiteCount}
use Rattle.dp_profile.specs.declared.Flow.{Flow}
use Rattle.dp_profile_text.specs.declared.line.Line.{Line}
use Rattle.dp_profile_text.specs.declared.line.Line.TheVariants as line
use Rattle.dp_profile_text.specs.declared.reader.Reader.{Reader}
use Rattle.dp_profile_text.specs.declared.reader.Phase.TheVariants as phase
use Rattle.dp_profile.specs.Observed.{nothing_shown}
use Rattle.dp_profile.specs.declared.sites.RegionSite.{RegionSite}
use Rattle.dp_profile.specs.Sites.{has_numbered_site}
use Rattle.dp_profile.specs.ProfileFits.{CountFits, CountsFit, FlowFits, Ascend, RegionFits, RegionsFit}
use Rattle.dp_profile_text.specs.ProfileText.{runs_lines, profile_region_lines, regions_lines}
use Rattle.dp_profile_text.specs.steps.Reading.{begun, state, sites_or_none, last_sites, is_counted, is_between, closed, counts_at, is_behind, last_flow, next}
use Rattle.dp_profile_text.proofs.Fitting.{seam, counts_many}
use Rattle.dp_text.proofs.Runs.{run_by}

abbrev pub run : List (List RegionSite) → Option Reader → List Line → Option Reader
run all = run_by (next all)

abbrev pub counted : List SiteCount → List Flow → RegionProfile
counted counts flows = record { sites = counts; flows = flows }

abbrev pub within : List RegionProfile → RegionProfile → Reader
within done last = state phase.Region done last

abbrev pub over : List RegionProfile → Reader
over done = state phase.Over done nothing_shown

module _ (before : List (List RegionSite)) (sites : List RegionSite) (later : List (List RegionSite)) (done : List RegionProfile)
    (many : length done ≡ length before) where
  abbrev table : List (List RegionSite)
  table = before ++ sites ∷ later

  pub sites_here : (last : RegionProfile) → last_sites (before ++ sites ∷ later) (within done last) ≡ sites
  sites_here last = ap (λ (n : ℕ). sites_or_none (slice_get table n)) many ∙ ap sites_or_none (seam before sites later)

  -- the next site's line
  runs_next : (had left : List RegionSite) (s : RegionSite) (counts : List SiteCount) (c : SiteCount) → sites ≡ had ++ s ∷ left →
      length counts ≡ length had → CountFits s c
      → next (before ++ sites ∷ later) (within done (counted counts [])) (line.Runs s.site c) ≡ Some (within done (counted (counts ++ c ∷ []) []))
  unfolding next
  runs_next had left s counts c is same fit =
      let at : slice_get (last_sites (before ++ sites ∷ later) (within done (counted counts []))) (length counts) ≡ Some s =
      ap (λ (l : List RegionSite). slice_get l (length counts)) (sites_here (counted counts []) ∙ is) ∙ ap (λ (n : ℕ). slice_get (had ++ s ∷ left) n) same
      ∙ seam had s left in
      let number : (s.site.0 == s.site.0) ≡ true = search (rules, tests) in
      let value : (s.condition || (c.nonzero == 0)) ≡ true = condition_case s.condition c.nonzero fit.condition in
      let good : counts_at s.site c (Some s) ≡ true = rw (number, value) refl in
      rw (at, good) refl
    where
      condition_case : (condition : Bool) (n : ℕ) → (condition ≡ false → n ≡ 0) → (condition || (n == 0)) ≡ true
      condition_case true n h = refl
      condition_case false n h = let none : n ≡ 0 = h refl in rw none refl

  runs_run : (had left : List RegionSite) (counts rest : List SiteCount) (more : List Line) → sites ≡ had ++ left →
      length counts ≡ length had → CountsFit left rest
      → run (before ++ sites ∷ later) (Some (within done (counted counts []))) (runs_lines left rest ++ more) ≡ run (before ++ sites ∷ later)
      (Some (within done (counted (counts ++ rest) []))) more
  runs_run had [] counts [] more is same fit = ap (λ (l : List SiteCount). run table (Some (within done (counted l []))) more) (sym (append-nil counts))
  runs_run had [] counts (c ∷ rest) more is same fit = absurd fit
  runs_run had (s ∷ left) counts [] more is same fit = absurd fit
  runs_run had (s ∷ left) counts (c ∷ rest) more is same fit =
      let longer : length (counts ++ c ∷ []) ≡ length (had ++ s ∷ []) = omega (arith, same, length-append counts (c ∷ []), length-append had (s ∷ [])) in
      ap (λ o. run table o (runs_lines left rest ++ more)) (runs_next had left s counts c is same fit.0)
      ∙ runs_run (had ++ s ∷ []) left (counts ++ c ∷ []) rest more (is ∙ sym (append_assoc had (s ∷ []) left)) longer fit.1
      ∙ ap (λ (l : List SiteCount). run table (Some (within done (counted l []))) more) (append_assoc counts (c ∷ []) rest)

  pub counted_here : (last : RegionProfile) → length last.sites ≡ length sites → is_counted (before ++ sites ∷ later) (within done last) ≡ true
  counted_here last same =
      let equal : length last.sites ≡ length (last_sites (before ++ sites ∷ later) (within done last)) = same ∙ ap length (sym (sites_here last)) in
      search (rules, tests)

  -- the next flow's line
  flow_next : (counts : List SiteCount) (flows : List Flow) (f : Flow) → length counts ≡ length sites → FlowFits sites f → is_behind (last_flow flows) f ≡ true
      → next (before ++ sites ∷ later) (within done (counted counts flows)) (line.Flow f) ≡ Some (within done (counted counts (flows ++ f ∷ [])))
  unfolding next
  flow_next counts flows f same fit behind =
      let from : has_numbered_site f.from.0 (last_sites (before ++ sites ∷ later) (within done (counted counts flows))) ≡ true = ap (has_numbered_site f.from.0)
      (sites_here (counted counts flows)) ∙ fit.from in
      let to : has_numbered_site f.to.0 (last_sites (before ++ sites ∷ later) (within done (counted counts flows))) ≡ true = ap (has_numbered_site f.to.0)
      (sites_here (counted counts flows)) ∙ fit.to in
      rw (counted_here (counted counts flows) same, from, to, behind) refl

  -- each flow of these comes behind the one before, the first one behind the last of others
  abbrev FollowOn : List Flow → List Flow → Type 0
  FollowOn flows [] = Unit {0}
  FollowOn flows (f ∷ rest) = (is_behind (last_flow flows) f ≡ true) × FollowOn (flows ++ f ∷ []) rest

  flows_run : (counts : List SiteCount) (flows rest : List Flow) (more : List Line) → length counts ≡ length sites →
      Each (FlowFits sites) rest → FollowOn flows rest
      → run (before ++ sites ∷ later) (Some (within done (counted counts flows))) (map line.Flow rest ++ more) ≡ run (before ++ sites ∷ later)
      (Some (within done (counted counts (flows ++ rest)))) more
  flows_run counts flows [] more same fit up = ap (λ (l : List Flow). run table (Some (within done (counted counts l))) more) (sym (append-nil flows))
  flows_run counts flows (f ∷ rest) more same fit up =
      ap (λ o. run table o (map line.Flow rest ++ more)) (flow_next counts flows f same fit.0 up.0)
      ∙ flows_run counts (flows ++ f ∷ []) rest more same fit.1 up.1
      ∙ ap (λ (l : List Flow). run table (Some (within done (counted counts l))) more) (append_assoc flows (f ∷ []) rest)

  last_is : (flows : List Flow) (f : Flow) → last_flow (flows ++ f ∷ []) ≡ Some f
  last_is flows f =
      let long : length (flows ++ f ∷ []) - 1 ≡ length flows = omega (arith, length-append flows (f ∷ [])) in
      ap (slice_get (flows ++ f ∷ [])) long ∙ seam flows f []

  follow_from : (flows : List Flow) (f : Flow) (rest : List Flow) → Ascend (f ∷ rest) → FollowOn (flows ++ f ∷ []) rest
  follow_from flows f [] up = tt
  follow_from flows f (g ∷ rest) up = (ap (λ o. is_behind o g) (last_is flows f) ∙ up.0, follow_from (flows ++ f ∷ []) g rest up.1)

  follow_on : (flows : List Flow) → Ascend flows → FollowOn [] flows
  follow_on [] up = tt
  follow_on (f ∷ rest) up = (refl, follow_from [] f rest up)

  -- the lines of the region behind its first one
  pub region_run : (shown : RegionProfile) (more : List Line) → RegionFits sites shown
      → run (before ++ sites ∷ later) (Some (within done nothing_shown)) ((runs_lines sites shown.sites ++ map line.Flow shown.flows) ++ more) ≡ run
      (before ++ sites ∷ later) (Some (within done shown)) more
  region_run shown more fit =
      ap (run table (Some (within done nothing_shown))) (append_assoc (runs_lines sites shown.sites) (map line.Flow shown.flows) more)
      ∙ runs_run [] sites [] shown.sites (map line.Flow shown.flows ++ more) refl refl fit.counts
      ∙ flows_run shown.sites [] shown.flows more (counts_many sites shown.sites fit.counts) fit.flows (follow_on shown.flows fit.ascend)

-- the line of the next region
pub region_next_some : (all : List (List RegionSite)) (s : Reader) (r : ℕ) → is_between all s ≡ true → r ≡ 1 + length (closed s) → r ≤ length all →
    next all s (line.Region r) ≡ Some (within (closed s) nothing_shown)
unfolding next
region_next_some all s r between is upto =
    let low : nat_lt 0 r ≡ true = let lt : 0 < r = omega (arith, is) in search rules in
    let high : nat_le r (length all) ≡ true = search rules in
    let same : (length (closed s) == r - 1) ≡ true = let e : length (closed s) ≡ r - 1 = omega (arith, is) in search (rules, tests) in
    rw (between, low, high, same) refl

pub end_next : (all : List (List RegionSite)) (s : Reader) → is_between all s ≡ true → length (closed s) ≡ length all →
    next all s line.End ≡ Some (over (closed s))
unfolding next
end_next all s between same = let e : (length (closed s) == length all) ≡ true = search (rules, tests) in rw (between, e) refl

-- the lines of the regions that are left, from a place between two
regions_run : (before left : List (List RegionSite)) (s : Reader) (shown : List RegionProfile) → is_between (before ++ left) s ≡ true →
    length (closed s) ≡ length before → RegionsFit left shown
    → run (before ++ left) (Some s) (regions_lines (1 + length before) left shown ++ line.End ∷ []) ≡ Some (over (closed s ++ shown))
regions_run before [] s [] between many fit =
    end_next (before ++ []) s between (many ∙ ap length (sym (append-nil before)))
    ∙ ap (λ (l : List RegionProfile). Some (over l)) (sym (append-nil (closed s)))
regions_run before [] s (one ∷ shown) between many fit = absurd fit
regions_run before (sites ∷ later) s [] between many fit = absurd fit
regions_run before (sites ∷ later) s (one ∷ shown) between many fit =
    let all = before ++ sites ∷ later in
    let upto : 1 + length before ≤ length (before ++ sites ∷ later) = omega (arith, length-append before (sites ∷ later)) in
    let rest = regions_lines ((1 + length before) + 1) later shown ++ line.End ∷ [] in
    let wide : before ++ sites ∷ later ≡ (before ++ sites ∷ []) ++ later = sym (append_assoc before (sites ∷ []) later) in
    let long : length (before ++ sites ∷ []) ≡ length before + 1 = length-append before (sites ∷ []) in
    let number : (1 + length before) + 1 ≡ 1 + length (before ++ sites ∷ []) = omega (arith, long) in
    let next_between : is_between (before ++ sites ∷ later) (within (closed s) one) ≡ true = counted_here before sites later (closed s) many one
    (counts_many sites one.sites fit.0.counts) in
    let next_many : length (closed s ++ one ∷ []) ≡ length (before ++ sites ∷ []) = omega (arith, many, long, length-append (closed s) (one ∷ [])) in
    ap (run all (Some s)) (append_assoc (profile_region_lines (1 + length before) sites one)
    (regions_lines ((1 + length before) + 1) later shown) (line.End ∷ []))
    ∙ ap (λ o. run all o ((runs_lines sites one.sites ++ map line.Flow one.flows) ++ rest)) (region_next_some all s (1 + length before) between
    (ap (λ (n : ℕ). 1 + n) (sym many)) upto)
    ∙ region_run before sites later (closed s) many one rest fit.0
    ∙ ap (λ (n : ℕ). run all (Some (within (closed s) one)) (regions_lines n later shown ++ line.End ∷ [])) number
    ∙ ap (λ (l : List (List RegionSite)). run l (Some (within (closed s) one)) (regions_lines (1 + length (before ++ sites ∷ [])) later shown
    ++ line.End ∷ [])) wide
    ∙ regions_run (before ++ sites ∷ []) later (within (closed s) one) shown (ap (λ (l : List (List RegionSite)). is_between l (within (closed s) one))
    (sym wide) ∙ next_between) next_many fit.1
    ∙ ap (λ (l : List RegionProfile). Some (over l)) (append_assoc (closed s) (one ∷ []) shown)

head_next : (all : List (List RegionSite)) → next all begun line.Head ≡ Some (state phase.Headed [] nothing_shown)
unfolding next
head_next _ = refl

-- the lines of all regions
pub lines_run : (all : List (List RegionSite)) (shown : List RegionProfile) → RegionsFit all shown →
    run all (Some begun) (line.Head ∷ (regions_lines 1 all shown ++ line.End ∷ [])) ≡ Some (over shown)
lines_run all shown fit =
    ap (λ o. run all o (regions_lines 1 all shown ++ line.End ∷ [])) (head_next all)
    ∙ regions_run [] all (state phase.Headed [] nothing_shown) shown refl refl fit
