-- Lines that may begin a text can be completed to one, and the lines of a text fit.
use Rattle.std.proofs.Common.{◌≡◌, ◌⊎◌, inl, inr, ℕ, suc, ◌+◌, ◌≤◌, ◌==◌, Bool, true, ◌||◌, List, [], ◌∷◌, ◌++◌, map, length, refl, sym, ap, subst, ◌∙◌}
use Rattle.std.proofs.Common.{append_assoc, append-nil, arith, eqb-true}
use Rattle.std.proofs.lemmas.Bool.{cases_Bool}
use Rattle.dp_plan.specs.Each.{Each}
use Rattle.dp_plan.proofs.EachLemmas.{each-lists, each_made}
use Rattle.dp_profile.specs.declared.RegionProfile.{RegionProfile}
use Rattle.dp_profile.specs.declared.SiteCount.{SiteCount}
use Rattle.dp_profile.specs.declared.Flow.{Flow}
use Rattle.dp_profile_text.specs.declared.line.Line.{Line}
use Rattle.dp_profile_text.specs.declared.line.Line.TheVariants as line
use Rattle.dp_profile_text.specs.declared.reader.Reader.{Reader}
use Rattle.dp_profile_text.specs.declared.reader.Phase.TheVariants as phase
use Rattle.dp_profile.specs.declared.sites.RegionSite.{RegionSite}
use Rattle.dp_profile.specs.Sites.{has_numbered_site}
use Rattle.dp_profile.specs.ProfileFits.{CountsFit, FlowFits, Ascend, RegionFits, RegionsFit}
use Rattle.dp_profile_text.specs.ProfileText.{runs_lines, profile_region_lines, regions_lines}
use Rattle.dp_profile_text.proofs.Fitting.{regions_fit_more, regions_more, counts_more, runs_more}
use Rattle.dp_profile_text.proofs.LineComplete.{LineFits}
use Rattle.dp_profile.proofs.KnownSites.{top, SmallSite}
use Rattle.dp_profile_text.proofs.RunComplete.{counted}
use Rattle.dp_profile_text.proofs.RunSound.{Reads, at_start, headed, in_region, at_end}

-- the lines of all regions with these profiles
abbrev pub whole_lines : List (List RegionSite) → List RegionProfile → List Line
whole_lines all shown = line.Head ∷ (regions_lines 1 all shown ++ line.End ∷ [])

-- ---- regions of which nothing was seen

abbrev blank_counts : List RegionSite → List SiteCount
blank_counts [] = []
blank_counts (s ∷ sites) = record { runs = 0; nonzero = 0 } ∷ blank_counts sites

blank_counts_fit : (sites : List RegionSite) → CountsFit sites (blank_counts sites)
blank_counts_fit [] = tt
blank_counts_fit (s ∷ sites) = (record { most_runs = omega arith; most_nonzero = omega arith; condition = λ _. refl }, blank_counts_fit sites)

abbrev blanks : List (List RegionSite) → List RegionProfile
blanks [] = []
blanks (sites ∷ later) = counted (blank_counts sites) [] ∷ blanks later

blanks_fit : (all : List (List RegionSite)) → RegionsFit all (blanks all)
blanks_fit [] = tt
blanks_fit (sites ∷ later) = (record { counts = blank_counts_fit sites; flows = tt; ascend = tt }, blanks_fit later)

-- ---- lines that complete a text

pub record Ends (all : List (List RegionSite)) (ls : List Line) : Type 0 where
  pub more : List Line
  pub shown : List RegionProfile
  pub fit : RegionsFit all shown
  pub whole : ls ++ more ≡ whole_lines all shown

start_ends : (all : List (List RegionSite)) → Ends all []
start_ends all = record { more = whole_lines all (blanks all); shown = blanks all; fit = blanks_fit all; whole = refl }

headed_ends : (all : List (List RegionSite)) → Ends all (line.Head ∷ [])
headed_ends all = record { more = regions_lines 1 all (blanks all) ++ line.End ∷ []; shown = blanks all; fit = blanks_fit all; whole = refl }

module _ (before later : List (List RegionSite)) (had left : List RegionSite) (done : List RegionProfile) (counts : List SiteCount) (flows : List Flow)
    (done_fit : RegionsFit before done) (counts_fit : CountsFit had counts) (flows_fit : Each (FlowFits (had ++ left)) flows) (up : Ascend flows) where
  abbrev filled : RegionProfile
  filled = counted (counts ++ blank_counts left) flows

  abbrev rest : List Line
  rest = regions_lines ((1 + length before) + 1) later (blanks later) ++ line.End ∷ []

  filled_fits : RegionFits (had ++ left) filled
  filled_fits = record { counts = counts_more had left counts (blank_counts left) counts_fit (blank_counts_fit left); flows = flows_fit; ascend = up }

  -- the other sites' lines behind the region's
  region_whole : (left ≡ []) ⊎ (flows ≡ [])
      → profile_region_lines (1 + length before) had (counted counts flows) ++ runs_lines left (blank_counts left) ≡ profile_region_lines (1 + length before)
      (had ++ left) (counted (counts ++ blank_counts left) flows)
  region_whole (inl none) =
      ap (λ (l : List RegionSite). profile_region_lines (1 + length before) had (counted counts flows) ++ runs_lines l (blank_counts l)) none
      ∙ append-nil (profile_region_lines (1 + length before) had (counted counts flows))
      ∙ sym (ap (λ (l : List RegionSite). profile_region_lines (1 + length before) (had ++ l) (counted (counts ++ blank_counts l) flows)) none
      ∙ ap (λ (l : List RegionSite). profile_region_lines (1 + length before) l (counted (counts ++ []) flows)) (append-nil had)
      ∙ ap (λ (l : List SiteCount). profile_region_lines (1 + length before) had (counted l flows)) (append-nil counts))
  region_whole (inr none) =
      ap (λ (fs : List Flow). profile_region_lines (1 + length before) had (counted counts fs) ++ runs_lines left (blank_counts left)) none
      ∙ ap (λ (ls : List Line). line.Region (1 + length before) ∷ (ls ++ runs_lines left (blank_counts left))) (append-nil (runs_lines had counts))
      ∙ sym (ap (λ (fs : List Flow). profile_region_lines (1 + length before) (had ++ left) (counted (counts ++ blank_counts left) fs)) none
      ∙ ap (λ (ls : List Line). line.Region (1 + length before) ∷ ls) (append-nil (runs_lines (had ++ left) (counts ++ blank_counts left))
      ∙ runs_more had left counts (blank_counts left) counts_fit))

  -- the lines of all regions, with those of the others behind
  shown_lines : regions_lines 1 (before ++ (had ++ left) ∷ later) (done ++ filled ∷ blanks later)
      ≡ regions_lines 1 before done ++ (profile_region_lines (1 + length before) (had ++ left) filled ++ regions_lines ((1 + length before) + 1)
      later (blanks later))
  shown_lines = regions_more 1 before ((had ++ left) ∷ later) done (filled ∷ blanks later) done_fit

  region_ends : (all : List (List RegionSite)) → all ≡ before ++ (had ++ left) ∷ later → (left ≡ []) ⊎ (flows ≡ [])
      → Ends all (line.Head ∷ (regions_lines 1 before done ++ profile_region_lines (1 + length before) had (counted counts flows)))
  region_ends all is complete = record {
    more = runs_lines left (blank_counts left) ++ rest;
    shown = done ++ filled ∷ blanks later;
    fit = subst (λ (l : List (List RegionSite)). RegionsFit l (done ++ filled ∷ blanks later)) (sym is) (regions_fit_more before ((had ++ left) ∷ later) done
        (filled ∷ blanks later) done_fit (filled_fits, blanks_fit later));
    whole = ap (λ (ls : List Line). line.Head ∷ ls) (joined
        ∙ sym (ap (λ (l : List (List RegionSite)). regions_lines 1 l (done ++ filled ∷ blanks later) ++ line.End ∷ []) is
        ∙ ap (λ (ls : List Line). ls ++ line.End ∷ []) shown_lines ∙ spread));
  }
    where
      here : List Line
      here = profile_region_lines (1 + length before) (had ++ left) filled

      joined : (regions_lines 1 before done ++ profile_region_lines (1 + length before) had (counted counts flows))
          ++ (runs_lines left (blank_counts left) ++ rest)
          ≡ regions_lines 1 before done ++ (profile_region_lines (1 + length before) (had ++ left) filled ++ rest)
      joined =
          append_assoc (regions_lines 1 before done) (profile_region_lines (1 + length before) had (counted counts flows))
          (runs_lines left (blank_counts left) ++ rest)
          ∙ ap (λ (ls : List Line). regions_lines 1 before done ++ ls)
          (sym (append_assoc (profile_region_lines (1 + length before) had (counted counts flows)) (runs_lines left (blank_counts left)) rest)
          ∙ ap (λ (ls : List Line). ls ++ rest) (region_whole complete))

      spread : (regions_lines 1 before done ++ (profile_region_lines (1 + length before) (had ++ left) filled ++ regions_lines ((1 + length before) + 1) later
          (blanks later))) ++ line.End ∷ []
          ≡ regions_lines 1 before done ++ (profile_region_lines (1 + length before) (had ++ left) filled ++ rest)
      spread =
          append_assoc (regions_lines 1 before done) (profile_region_lines (1 + length before) (had ++ left) filled ++ regions_lines ((1 + length before) + 1)
          later (blanks later)) (line.End ∷ [])
          ∙ ap (λ (ls : List Line). regions_lines 1 before done ++ ls) (append_assoc (profile_region_lines (1 + length before) (had ++ left) filled)
          (regions_lines ((1 + length before) + 1) later (blanks later)) (line.End ∷ []))

end_ends : (all : List (List RegionSite)) (done : List RegionProfile) → RegionsFit all done → Ends all (whole_lines all done)
end_ends all done fit = record { more = []; shown = done; fit = fit; whole = append-nil (whole_lines all done) }

pub reads_end : (all : List (List RegionSite)) (s : Reader) (ls : List Line) → Reads all s ls → Ends all ls
reads_end all _ _ at_start = start_ends all
reads_end all _ _ headed = headed_ends all
reads_end all _ _ (in_region before later had left done counts flows is d c f u e) = region_ends before later had left done counts flows d c f u all is e
reads_end all _ _ (at_end done fit) = end_ends all done fit

-- the text is over
pub record IsText (all : List (List RegionSite)) (shown : List RegionProfile) (ls : List Line) : Type 0 where
  pub are : ls ≡ whole_lines all shown
  pub fit : RegionsFit all shown

pub reads_over : (all : List (List RegionSite)) (s : Reader) (ls : List Line) → Reads all s ls → s.phase ≡ phase.Over → IsText all s.done ls
reads_over all _ _ at_start h = absurd (cc h)
reads_over all _ _ headed h = absurd (cc h)
reads_over all _ _ (in_region before later had left done counts flows is d c f u e) h = absurd (cc h)
reads_over all _ _ (at_end done fit) h = record { are = refl; fit = fit }

-- ---- the lines of a profile fit, where the sites' numbers have 32 bits

found_small : (n : ℕ) (sites : List RegionSite) → Each SmallSite sites → has_numbered_site n sites ≡ true → n ≤ top
found_small n [] small h = absurd (cc h)
found_small n (s ∷ sites) small h = elim (cases_Bool (s.site.0 == n)) [
  | inl t ↦ let same : s.site.0 ≡ n = eqb-true s.site.0 n t in omega (arith, same, small.0)
  | inr f ↦ found_small n sites small.1 (ap (λ (b : Bool). b || has_numbered_site n sites) (sym f) ∙ h)
]

runs_fit : (sites : List RegionSite) (counts : List SiteCount) → Each SmallSite sites → CountsFit sites counts → Each LineFits (runs_lines sites counts)
runs_fit [] counts small fit = tt
runs_fit (s ∷ sites) [] small fit = tt
runs_fit (s ∷ sites) (c ∷ counts) small fit = ((small.0, fit.0.most_runs, fit.0.most_nonzero), runs_fit sites counts small.1 fit.1)

flow_fits : (sites : List RegionSite) → Each SmallSite sites → (f : Flow) → FlowFits sites f → LineFits (line.Flow f)
flow_fits sites small f fit = (found_small f.from.0 sites small fit.from, found_small f.to.0 sites small fit.to, fit.some_shown, fit.most_shown)

regions_fit : (r : ℕ) (all : List (List RegionSite)) (shown : List RegionProfile) → r + length all ≤ suc top → Each (Each SmallSite) all →
    RegionsFit all shown → Each LineFits (regions_lines r all shown)
regions_fit r [] shown few small fit = tt
regions_fit r (sites ∷ later) [] few small fit = tt
regions_fit r (sites ∷ later) (one ∷ shown) few small fit =
    each-lists LineFits (profile_region_lines r sites one) (regions_lines (r + 1) later shown) (
      omega (arith, few),
      each-lists LineFits (runs_lines sites one.sites) (map line.Flow one.flows) (runs_fit sites one.sites small.0 fit.0.counts) (each_made
          (FlowFits sites) LineFits line.Flow (flow_fits sites small.0) one.flows fit.0.flows),
    )
    (regions_fit (r + 1) later shown (omega (arith, few)) small.1 fit.1)

pub whole_fits : (all : List (List RegionSite)) (shown : List RegionProfile) → length all ≤ top → Each (Each SmallSite) all → RegionsFit all shown →
    Each LineFits (whole_lines all shown)
whole_fits all shown few small fit =
    (tt, each-lists LineFits (regions_lines 1 all shown) (line.End ∷ []) (regions_fit 1 all shown (omega (arith, few)) small fit) (tt, tt))
