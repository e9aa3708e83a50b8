-- What was counted in a whole run is what it shows.
use Rattle.std.proofs.Common.{◌≡◌, refl, sym, ap, subst, ◌∙◌, ℕ, suc, ◌+◌, ◌*◌, ◌==◌, ◌&&◌, Bool, true, false, List, [], ◌∷◌, ◌++◌, map, count_by, length, Some}
use Rattle.std.proofs.Common.{slice_get, arith}
use Rattle.std.specs.List.{flat_map}
use Rattle.dp_room.specs.OneIf.{one_if}
use Rattle.dp_tree.specs.declared.Program.{Program}
use Rattle.dp_tree.specs.Step.{Event}
use Rattle.dp_profile.specs.declared.Flow.{Flow}
use Rattle.dp_profile.specs.declared.RegionProfile.{RegionProfile}
use Rattle.dp_profile.specs.declared.SiteCount.{SiteCount}
use Rattle.dp_profile.specs.declared.sites.RegionSite.{RegionSite}
use Rattle.dp_profile.specs.Sites.{regions}
use Rattle.dp_profile.specs.Observed.{backward, gives_nonzero, counts_of_site, shown_back, flow_of, flows_between, region_seen, regions_seen}
use Rattle.dp_observe.specs.declared.board.Board.{Board}
use Rattle.dp_observe.specs.declared.counter.Counter.{Counter}
use Rattle.dp_observe.specs.declared.tally.Tally.{Tally}
use Rattle.dp_observe.specs.steps.Columns.{at_column}
use Rattle.dp_observe.specs.steps.Taken.{flows_of, flows_from, flows_taken, region_taken, regions_taken}
use Rattle.dp_observe.specs.steps.Tracking.{TallyFits, CounterFits, BoardFits}
use Rattle.dp_observe.proofs.HitLemmas.{count_cons}

count_backward : (test : Event → Bool) (acc xs : List Event) → count_by test (backward acc xs) ≡ count_by test xs + count_by test acc
count_backward test acc [] = omega arith
count_backward test acc (x ∷ xs) =
    let later = count_backward test (x ∷ acc) xs in let first = count_cons test x acc in let all = count_cons test x xs in
    omega (arith, later, first, all)

whole_count : (test : Event → Bool) (trace : List Event) → count_by test (backward [] trace) ≡ count_by test trace
whole_count test trace = let all = count_backward test [] trace in omega (arith, all)

site_count_whole : (trace : List Event) (s : RegionSite) → counts_of_site (backward [] trace) s ≡ counts_of_site trace s
site_count_whole trace s =
    ap (λ n. record { runs = n; nonzero = count_by (λ (e : Event). (e.site == s.site.0) && gives_nonzero e.effect) (backward [] trace) })
    (whole_count (λ (e : Event). e.site == s.site.0) trace)
    ∙ ap (λ n. record { runs = count_by (λ (e : Event). e.site == s.site.0) trace; nonzero = n })
    (whole_count (λ (e : Event). (e.site == s.site.0) && gives_nonzero e.effect) trace)

module _ (p : Program) (region : ℕ) (all : List RegionSite) (trace : List Event) where
  abbrev past : List Event
  past = backward [] trace

  -- the tallies of these sites
  abbrev Fit : List RegionSite → List Tally → Type 0
  Fit sites tallies = (place : ℕ) (s : RegionSite) (t : Tally) → slice_get sites place ≡ Some s → slice_get tallies place ≡ Some t →
      TallyFits p region all past s t

  counts_are : (sites : List RegionSite) (tallies : List Tally) → length tallies ≡ length sites → Fit sites tallies →
      map (λ t. t.count) tallies ≡ map (counts_of_site trace) sites
  counts_are [] [] size fit = refl
  counts_are [] (t ∷ tallies) size fit = absurd (omega (arith, size))
  counts_are (s ∷ sites) [] size fit = absurd (omega (arith, size))
  counts_are (s ∷ sites) (t ∷ tallies) size fit =
      ap (λ (c : SiteCount). c ∷ map (λ (t : Tally). t.count) tallies) ((fit 0 s t refl refl).count ∙ site_count_whole trace s)
      ∙ ap (λ (cs : List SiteCount). counts_of_site trace s ∷ cs) (counts_are sites tallies (omega (arith, size))
      (λ place s t there got. fit (suc place) s t there got))

  pair_is : (place : ℕ) (d u : RegionSite) (t : Tally) → slice_get all place ≡ Some d → TallyFits p region all past u t →
      flows_of place d u t.shown ≡ flows_between p region all trace d u
  pair_is place d u t there fits =
      let even : 2 * place ≡ 2 * place + one_if false = omega arith in
      ap (λ n. flow_of n d u false ++ flow_of (at_column t.shown (2 * place + 1)) d u true) (ap (at_column t.shown) even ∙ fits.shown place d false there)
      ∙ ap (λ n. flow_of (shown_back p region all d.site.0 u.site.0 false past) d u false ++ flow_of n d u true) (fits.shown place d true there)

  row_is : (place : ℕ) (d : RegionSite) (sites : List RegionSite) (tallies : List Tally) → slice_get all place ≡ Some d →
      length tallies ≡ length sites → Fit sites tallies
      → flows_from place d sites tallies ≡ flat_map (flows_between p region all trace d) sites
  row_is place d [] tallies there size fit = refl
  row_is place d (u ∷ sites) [] there size fit = absurd (omega (arith, size))
  row_is place d (u ∷ sites) (t ∷ tallies) there size fit =
      ap (λ (fs : List Flow). fs ++ flows_from place d sites tallies) (pair_is place d u t there (fit 0 u t refl refl))
      ∙ ap (λ (fs : List Flow). flows_between p region all trace d u ++ fs) (row_is place d sites tallies there (omega (arith, size))
      (λ place s t there got. fit (suc place) s t there got))

  rows_are : (place : ℕ) (froms : List RegionSite) (tallies : List Tally) → ((k : ℕ) (d : RegionSite) → slice_get froms k ≡ Some d →
      slice_get all (place + k) ≡ Some d) → length tallies ≡ length all → Fit all tallies
      → flows_taken place froms all tallies ≡ flat_map (λ d. flat_map (flows_between p region all trace d) all) froms
  rows_are place [] tallies stand size fit = refl
  rows_are place (d ∷ froms) tallies stand size fit =
      let here : place + 0 ≡ place = omega arith in
      ap (λ (fs : List Flow). fs ++ flows_taken (place + 1) froms all tallies) (row_is place d all tallies (ap (slice_get all) (sym here)
      ∙ stand 0 d refl) size fit)
      ∙ ap (λ (fs : List Flow). flat_map (flows_between p region all trace d) all ++ fs)
      (rows_are (place + 1) froms tallies (λ k d there. let next : place + 1 + k ≡ place + suc k = omega arith in ap (slice_get all) next ∙ stand (suc
      k) d there) size fit)

  region_is : (c : Counter) → CounterFits p region all past c → region_taken all c ≡ region_seen p region all trace
  region_is c fits =
      ap (λ (cs : List SiteCount). record { sites = cs; flows = flows_taken 0 all all c.tallies }) (counts_are all c.tallies fits.size fits.tallies)
      ∙ ap (λ (fs : List Flow). record { sites = map (counts_of_site trace) all; flows = fs })
      (rows_are 0 all c.tallies (λ k d there. let from : 0 + k ≡ k = omega arith in ap (slice_get all) from ∙ there) fits.size fits.tallies)

regions_are : (p : Program) (r : ℕ) (rs : List (List RegionSite)) (cs : List Counter) (trace : List Event) → length cs ≡ length rs
    → ((place : ℕ) (sites : List RegionSite) (c : Counter) → slice_get rs place ≡ Some sites → slice_get cs place ≡ Some c →
    CounterFits p (place + r) sites (backward [] trace) c)
    → regions_taken rs cs ≡ regions_seen p r rs trace
regions_are p r [] cs trace size fits = refl
regions_are p r (ss ∷ rs) [] trace size fits = absurd (omega (arith, size))
regions_are p r (ss ∷ rs) (c ∷ cs) trace size fits =
    let here : 0 + r ≡ r = omega arith in
    ap (λ (x : RegionProfile). x ∷ regions_taken rs cs)
    (region_is p r ss trace c (subst (λ n. CounterFits p n ss (backward [] trace) c) here (fits 0 ss c refl refl)))
    ∙ ap (λ (xs : List RegionProfile). region_seen p r ss trace ∷ xs)
    (regions_are p (r + 1) rs cs trace (omega (arith, size)) (λ place sites c there got.
    let next : suc place + r ≡ place + (r + 1) = omega arith in
    subst (λ n. CounterFits p n sites (backward [] trace) c) next (fits (suc place) sites c there got)))

-- the profile that is taken after the run
pub profile_is : (p : Program) (trace : List Event) (b : Board) → BoardFits p (backward [] trace) b →
    regions_taken (regions p) b.counters ≡ regions_seen p 1 (regions p) trace
profile_is p trace b fits = regions_are p 1 (regions p) b.counters trace fits.size fits.counters
