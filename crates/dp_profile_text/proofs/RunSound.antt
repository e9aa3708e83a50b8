-- Lines that are read one after the other begin the text of a profile.
use Rattle.std.proofs.Common.{◌≡◌, ◌⊎◌, inl, inr, ℕ, ◌+◌, ◌-◌, ◌<◌, ◌≤◌, ◌==◌, true, false, ◌&&◌, nat_le, nat_lt, List, [], ◌∷◌, ◌++◌, map, length, Some}
use Rattle.std.proofs.Common.{slice_get, refl, sym, ap, subst, ◌∙◌, append_assoc, append-nil, length-append, rules, arith, eqb-true}
use Rattle.dp_base.specs.declared.SiteId.{SiteId}
use Rattle.dp_plan.specs.Each.{Each}
use Rattle.std.proofs.lemmas.List.{map-append, nil_from_length}
use Rattle.dp_plan.proofs.EachLemmas.{each-append}
use Rattle.dp_profile.specs.declared.RegionProfile.{RegionProfile}
use Rattle.dp_profile.specs.declared.SiteCount.{SiteCount}
use Rattle.dp_profile.specs.declared.Flow.{Flow}
use Rattle.dp_profile_text.specs.declared.line.Line.{Line}
use Rattle.dp_profile_text.specs.declared.line.Line.TheVariants as line
use Rattle.dp_profile_text.specs.declared.reader.Reader.{Reader}
use Rattle.dp_profile_text.specs.declared.reader.Phase.TheVariants as phase
use Rattle.dp_profile.specs.Observed.{nothing_shown}
use Rattle.dp_profile.specs.declared.sites.RegionSite.{RegionSite}
use Rattle.dp_profile.specs.Sites.{has_numbered_site}
use Rattle.dp_profile.specs.ProfileFits.{CountsFit, FlowFits, Ascend, RegionFits, RegionsFit}
use Rattle.dp_profile_text.specs.ProfileText.{runs_lines, profile_region_lines, regions_lines}
use Rattle.dp_profile_text.specs.steps.Reading.{begun, state, last_sites, is_counted, is_between, closed, region_next, counts_at, is_behind, last_flow}
use Rattle.dp_profile_text.specs.steps.Reading.{flows_next, next}
use Rattle.dp_profile_text.proofs.Fitting.{seam, past, counts_many, counts_more, runs_more, regions_many, regions_fit_more, regions_one, ascend_more}
use Rattle.dp_profile_text.proofs.LineComplete.{LineFits}
use Rattle.dp_profile_text.proofs.RunComplete.{counted, within, over, sites_here}
use Rattle.dp_text.proofs.Tests.{Both, both, taken}
use Rattle.dp_profile_text.proofs.TestLemmas.{FitsAt, fits_at}

-- the state behind lines that may begin a text for these regions
pub data Reads (all : List (List RegionSite)) : Reader → List Line → Type 0 where
  at_start : Reads all begun []
  headed : Reads all (state phase.Headed [] nothing_shown) (line.Head ∷ [])
  in_region : (before later : List (List RegionSite)) (had left : List RegionSite) (done : List RegionProfile) (counts : List SiteCount) (flows : List Flow)
      → all ≡ before ++ (had ++ left) ∷ later → RegionsFit before done → CountsFit had counts → Each (FlowFits (had ++ left)) flows → Ascend flows →
      (left ≡ []) ⊎ (flows ≡ [])
      → Reads all (within done (counted counts flows))
      (line.Head ∷ (regions_lines 1 before done ++ profile_region_lines (1 + length before) had (counted counts flows)))
  at_end : (done : List RegionProfile) → RegionsFit all done → Reads all (over done) (line.Head ∷ (regions_lines 1 all done ++ line.End ∷ []))

module _ (all before later : List (List RegionSite)) (had left : List RegionSite) (done : List RegionProfile) (counts : List SiteCount) (flows : List Flow)
    (all_is : all ≡ before ++ (had ++ left) ∷ later) (done_fit : RegionsFit before done) (counts_fit : CountsFit had counts)
    (flows_fit : Each (FlowFits (had ++ left)) flows) (up : Ascend flows) (complete : (left ≡ []) ⊎ (flows ≡ [])) where
  abbrev last : RegionProfile
  last = counted counts flows

  abbrev so_far : List Line
  so_far = line.Head ∷ (regions_lines 1 before done ++ profile_region_lines (1 + length before) had (counted counts flows))

  -- a line behind those so far
  behind : (l : Line) → so_far ++ l ∷ [] ≡ line.Head
      ∷ (regions_lines 1 before done ++ (profile_region_lines (1 + length before) had (counted counts flows) ++ l ∷ []))
  behind l = ap (λ (ls : List Line). line.Head ∷ ls) (append_assoc (regions_lines 1 before done) (profile_region_lines (1 + length before) had last) (l ∷ []))

  sites_are : last_sites all (within done last) ≡ had ++ left
  sites_are = ap (λ (l : List (List RegionSite)). last_sites l (within done last)) all_is
      ∙ sites_here before (had ++ left) later done (regions_many before done done_fit) last

  none_left : is_counted all (within done last) ≡ true → left ≡ []
  none_left h =
      let same : length counts ≡ length (last_sites all (within done (counted counts flows))) = eqb-true _ _ h in
      nil_from_length left (omega (arith, same ∙ ap length sites_are, length-append had left, counts_many had counts counts_fit))

  whole_sites : left ≡ [] → had ++ left ≡ had
  whole_sites none = ap (λ (l : List RegionSite). had ++ l) none ∙ append-nil had

  region_fits : left ≡ [] → RegionFits had last
  region_fits none = record { counts = counts_fit; flows = subst (λ (l : List RegionSite). Each (FlowFits l) flows) (whole_sites none) flows_fit; ascend = up }

  closed_fit : left ≡ [] → RegionsFit (before ++ had ∷ []) (done ++ last ∷ [])
  closed_fit none = regions_fit_more before (had ∷ []) done (last ∷ []) done_fit (region_fits none, tt)

  all_here : left ≡ [] → all ≡ (before ++ had ∷ []) ++ later
  all_here none = all_is ∙ ap (λ (l : List RegionSite). before ++ l ∷ later) (whole_sites none) ∙ sym (append_assoc before (had ∷ []) later)

  closed_many : length (done ++ last ∷ []) ≡ length (before ++ had ∷ [])
  closed_many = omega (arith, length-append done (last ∷ []), length-append before (had ∷ []), regions_many before done done_fit)

  lines_closed : regions_lines 1 (before ++ had ∷ []) (done ++ last ∷ []) ≡ regions_lines 1 before done ++ profile_region_lines (1 + length before) had
      (counted counts flows)
  lines_closed = regions_one before had done last done_fit

  pub head_after : (s : Reader) → next all (within done (counted counts flows)) line.Head ≡ Some s → Reads all s (so_far ++ line.Head ∷ [])
  unfolding next
  head_after s h = absurd (cc h)

  pub region_after : (r : ℕ) (s : Reader) → next all (within done (counted counts flows)) (line.Region r) ≡ Some s → Reads all s (so_far ++ line.Region r ∷ [])
  unfolding next
  region_after r s h = next_one later (all_here none) low
    where
      t : ((is_between all (within done (counted counts flows)) && region_next all (within done (counted counts flows)) r) ≡ true)
          × (within (done ++ last ∷ []) nothing_shown ≡ s)
      t = taken _ _ s h

      b : Both (is_between all (within done last)) (region_next all (within done last) r)
      b = both _ _ t.0

      c : Both (nat_lt 0 r) (nat_le r (length all) && (length (closed (within done last)) == r - 1))
      c = both _ _ b.second

      d : Both (nat_le r (length all)) (length (closed (within done last)) == r - 1)
      d = both _ _ c.second

      none : left ≡ []
      none = none_left b.first

      number : r ≡ 1 + length (before ++ had ∷ [])
      number =
          let some : 0 < r = let lt : nat_lt 0 r ≡ true = c.first in search rules in
          let same : length (done ++ last ∷ []) ≡ r - 1 = eqb-true _ _ d.second in
          omega (arith, some, same, closed_many)

      low : r ≤ length all
      low = let le : nat_le r (length all) ≡ true = d.first in search rules

      next_one : (later : List (List RegionSite)) → all ≡ (before ++ had ∷ []) ++ later → r ≤ length all → Reads all s (so_far ++ line.Region r ∷ [])
      next_one [] is le = absurd (omega (arith, le, number, ap length (is ∙ append-nil (before ++ had ∷ []))))
      next_one (sites ∷ rest) is le =
          subst (λ (q : Reader). Reads all q (so_far ++ line.Region r ∷ [])) t.1
          (subst (λ (ls : List Line). Reads all (within (done ++ last ∷ []) nothing_shown) ls) lines
          (in_region (before ++ had ∷ []) rest [] sites (done ++ last ∷ []) [] [] is (closed_fit none) tt tt tt (inr refl)))
        where
          lines : line.Head ∷ (regions_lines 1 (before ++ had ∷ []) (done ++ last ∷ []) ++ profile_region_lines (1 + length (before ++ had ∷ [])) []
              nothing_shown) ≡ so_far ++ line.Region r ∷ []
          lines =
              ap (λ (ls : List Line). line.Head ∷ (ls ++ profile_region_lines (1 + length (before ++ had ∷ [])) [] nothing_shown)) lines_closed
              ∙ ap (λ (n : ℕ). so_far ++ line.Region n ∷ []) (sym number)

  pub runs_after : (site : SiteId) (c : SiteCount) (s : Reader) → LineFits (line.Runs site c) → next all (within done (counted counts flows)) (line.Runs site c)
      ≡ Some s → Reads all s (so_far ++ line.Runs site c ∷ [])
  unfolding next
  runs_after site c s fits h = by left refl at
    where
      t : (counts_at site c (slice_get (last_sites all (within done (counted counts flows))) (length counts)) ≡ true)
          × (within done (counted (counts ++ c ∷ []) flows) ≡ s)
      t = taken _ _ s h

      at : counts_at site c (slice_get (had ++ left) (length had)) ≡ true
      at =
          sym (ap (λ (n : ℕ). counts_at site c (slice_get (had ++ left) n)) (counts_many had counts counts_fit))
          ∙ sym (ap (λ (l : List RegionSite). counts_at site c (slice_get l (length counts))) sites_are) ∙ t.0

      by : (l : List RegionSite) → left ≡ l → counts_at site c (slice_get (had ++ left) (length had)) ≡ true → Reads all s (so_far ++ line.Runs site c ∷ [])
      by [] is e =
          let gone : counts_at site c (slice_get (had ++ left) (length had)) ≡ false = ap (λ (l : List RegionSite). counts_at site c (slice_get l (length had)))
          (whole_sites is) ∙ ap (counts_at site c) (past had) in
          absurd (cc (sym gone ∙ e))
      by (one ∷ rest) is e =
          subst (λ (q : Reader). Reads all q (so_far ++ line.Runs site c ∷ [])) t.1
          (subst (λ (ls : List Line). Reads all (within done (counted (counts ++ c ∷ []) flows)) ls) lines
          (in_region before later (had ++ one ∷ []) rest done (counts ++ c ∷ []) flows all_more done_fit
          (counts_more had (one ∷ []) counts (c ∷ []) counts_fit (record { most_runs = fits.1; most_nonzero = fits.2; condition = f.condition }, tt))
          (subst (λ (l : List RegionSite). Each (FlowFits l) flows) same_sites flows_fit) up (inr no_flows)))
        where
          f : FitsAt site c one
          f = fits_at site c one (sym (ap (counts_at site c) (ap (λ (l : List RegionSite). slice_get (had ++ l) (length had)) is ∙ seam had one rest)) ∙ e)

          same_sites : had ++ left ≡ (had ++ one ∷ []) ++ rest
          same_sites = ap (λ (l : List RegionSite). had ++ l) is ∙ sym (append_assoc had (one ∷ []) rest)

          all_more : all ≡ before ++ ((had ++ one ∷ []) ++ rest) ∷ later
          all_more = all_is ∙ ap (λ (l : List RegionSite). before ++ l ∷ later) same_sites

          no_flows : flows ≡ []
          no_flows = elim complete [
            | inl none ↦ absurd (cc (sym is ∙ none))
            | inr none ↦ none
          ]

          region_more : profile_region_lines (1 + length before) (had ++ one ∷ []) (counted (counts ++ c ∷ []) flows) ≡ profile_region_lines (1 + length before)
              had (counted counts flows) ++ line.Runs site c ∷ []
          region_more =
              ap (λ (fs : List Flow). line.Region (1 + length before) ∷ (runs_lines (had ++ one ∷ []) (counts ++ c ∷ []) ++ map line.Flow fs)) no_flows
              ∙ ap (λ (ls : List Line). line.Region (1 + length before) ∷ ls)
              (append-nil (runs_lines (had ++ one ∷ []) (counts ++ c ∷ [])) ∙ runs_more had (one ∷ []) counts (c ∷ []) counts_fit
              ∙ ap (λ (i : SiteId). runs_lines had counts ++ line.Runs i c ∷ []) f.same)
              ∙ sym (ap (λ (fs : List Flow). line.Region (1 + length before) ∷ ((runs_lines had counts ++ map line.Flow fs) ++ line.Runs site c ∷ [])) no_flows
              ∙ ap (λ (ls : List Line). line.Region (1 + length before) ∷ (ls ++ line.Runs site c ∷ [])) (append-nil (runs_lines had counts)))

          lines : line.Head ∷ (regions_lines 1 before done ++ profile_region_lines (1 + length before) (had ++ one ∷ []) (counted (counts ++ c ∷ []) flows))
              ≡ so_far ++ line.Runs site c ∷ []
          lines = ap (λ (ls : List Line). line.Head ∷ (regions_lines 1 before done ++ ls)) region_more ∙ sym (behind (line.Runs site c))

  pub flow_after : (f : Flow) (s : Reader) → LineFits (line.Flow f) → next all (within done (counted counts flows)) (line.Flow f) ≡ Some s →
      Reads all s (so_far ++ line.Flow f ∷ [])
  unfolding next
  flow_after f s fits h =
      subst (λ (q : Reader). Reads all q (so_far ++ line.Flow f ∷ [])) t.1
      (subst (λ (ls : List Line). Reads all (within done (counted counts (flows ++ f ∷ []))) ls) lines
      (in_region before later had left done counts (flows ++ f ∷ []) all_is done_fit counts_fit (each-append (FlowFits (had ++ left)) flows f flows_fit fit)
      (ascend_more flows f up e.second) (inl (none_left b.first))))
    where
      t : ((is_counted all (within done (counted counts flows)) && flows_next all (within done (counted counts flows)) f) ≡ true)
          × (within done (counted counts (flows ++ f ∷ [])) ≡ s)
      t = taken _ _ s h

      b : Both (is_counted all (within done last)) (flows_next all (within done last) f)
      b = both _ _ t.0

      d : Both (has_numbered_site f.from.0 (last_sites all (within done last))) (has_numbered_site f.to.0 (last_sites all (within done last)) && is_behind
          (last_flow flows) f)
      d = both _ _ b.second

      e : Both (has_numbered_site f.to.0 (last_sites all (within done last))) (is_behind (last_flow flows) f)
      e = both _ _ d.second

      fit : FlowFits (had ++ left) f
      fit = record {
        from = sym (ap (has_numbered_site f.from.0) sites_are) ∙ d.first;
        to = sym (ap (has_numbered_site f.to.0) sites_are) ∙ e.first;
        some_shown = fits.2;
        most_shown = fits.3;
      }

      region_more : profile_region_lines (1 + length before) had (counted counts (flows ++ f ∷ [])) ≡ profile_region_lines (1 + length before) had
          (counted counts flows) ++ line.Flow f ∷ []
      region_more =
          ap (λ (ls : List Line). line.Region (1 + length before) ∷ ls)
          (ap (λ (ls : List Line). runs_lines had counts ++ ls) (map-append line.Flow flows (f ∷ []))
          ∙ sym (append_assoc (runs_lines had counts) (map line.Flow flows) (line.Flow f ∷ [])))

      lines : line.Head ∷ (regions_lines 1 before done ++ profile_region_lines (1 + length before) had (counted counts (flows ++ f ∷ [])))
          ≡ so_far ++ line.Flow f ∷ []
      lines = ap (λ (ls : List Line). line.Head ∷ (regions_lines 1 before done ++ ls)) region_more ∙ sym (behind (line.Flow f))

  pub end_after : (s : Reader) → next all (within done (counted counts flows)) line.End ≡ Some s → Reads all s (so_far ++ line.End ∷ [])
  unfolding next
  end_after s h =
      subst (λ (q : Reader). Reads all q (so_far ++ line.End ∷ [])) t.1
      (subst (λ (ls : List Line). Reads all (over (done ++ last ∷ [])) ls) lines (at_end (done ++ last ∷ []) fit))
    where
      t : ((is_between all (within done (counted counts flows)) && (length (done ++ last ∷ []) == length all)) ≡ true) × (over (done ++ last ∷ []) ≡ s)
      t = taken _ _ s h

      b : Both (is_between all (within done last)) (length (done ++ last ∷ []) == length all)
      b = both _ _ t.0

      none : left ≡ []
      none = none_left b.first

      no_later : later ≡ []
      no_later =
          let same : length (done ++ last ∷ []) ≡ length all = eqb-true _ _ b.second in
          nil_from_length later (omega (arith, same, closed_many, ap length (all_here none), length-append (before ++ had ∷ []) later))

      all_ends : all ≡ before ++ had ∷ []
      all_ends = all_here none ∙ ap (λ (l : List (List RegionSite)). (before ++ had ∷ []) ++ l) no_later ∙ append-nil (before ++ had ∷ [])

      fit : RegionsFit all (done ++ last ∷ [])
      fit = subst (λ (l : List (List RegionSite)). RegionsFit l (done ++ last ∷ [])) (sym all_ends) (closed_fit none)

      lines : line.Head ∷ (regions_lines 1 all (done ++ last ∷ []) ++ line.End ∷ []) ≡ so_far ++ line.End ∷ []
      lines = ap (λ (l : List (List RegionSite)). line.Head ∷ (regions_lines 1 l (done ++ last ∷ []) ++ line.End ∷ [])) all_ends
          ∙ ap (λ (ls : List Line). line.Head ∷ (ls ++ line.End ∷ [])) lines_closed
