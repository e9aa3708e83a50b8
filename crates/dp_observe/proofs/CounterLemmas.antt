-- What was counted in a region, after one event more.
use Rattle.std.proofs.Common.{◌≡◌, ◌≢◌, refl, sym, ap, subst, ◌∙◌, ℕ, zero, suc, ◌-◌, ◌==◌, Bool, true, false, List, [], ◌∷◌, length, Option, Some, None}
use Rattle.std.proofs.Common.{slice_get, slice_set, inl, inr, arith, eqb-true, eq-eqb}
use Rattle.std.proofs.lemmas.Bool.{cases_Bool}
use Rattle.dp_room.proofs.ListLemmas.{at_index}
use Rattle.std.proofs.lemmas.Option.{slice_get_within}
use Rattle.dp_tree.specs.declared.Program.{Program}
use Rattle.dp_tree.specs.Step.{Event}
use Rattle.dp_meaning.specs.Watched.{cells_of, effect_seen}
use Rattle.dp_profile.specs.declared.sites.RegionSite.{RegionSite}
use Rattle.dp_profile.specs.Sites.{has_numbered_site}
use Rattle.dp_observe.specs.declared.counter.Counter.{Counter}
use Rattle.dp_observe.specs.declared.frame.Frame.{Frame}
use Rattle.dp_observe.specs.declared.frame.Writer.{Writer}
use Rattle.dp_observe.specs.declared.sparse.Sparse.{Sparse}
use Rattle.dp_observe.specs.declared.tally.Tally.{Tally}
use Rattle.dp_observe.specs.steps.Counting.{TallyCounts, PlaceCounts, Counts}
use Rattle.dp_observe.specs.Sparse.{at}
use Rattle.dp_observe.specs.steps.Tracking.{writer_of, FrameFits, TallyFits, CounterFits}
use Rattle.dp_observe.proofs.FrameLemmas.{frame_own, frame_other}
use Rattle.dp_observe.proofs.HitLemmas.{unequal, in_order_at, in_order_find}
use Rattle.dp_observe.proofs.TallyLemmas.{tally_own, tally_other}

pub get_set_same : {X : Type 0} (xs : List X) (k : ℕ) (x y : X) → slice_get (slice_set xs k x) k ≡ Some y → y ≡ x
get_set_same [] k x y e = absurd (cc e)
get_set_same (z ∷ xs) zero x y e = cc
get_set_same (z ∷ xs) (suc k) x y e = get_set_same xs k x y e

pub get_set_other : {X : Type 0} (xs : List X) (k j : ℕ) (x : X) → j ≢ k → slice_get (slice_set xs k x) j ≡ slice_get xs j
get_set_other [] k j x other = refl
get_set_other (z ∷ xs) zero zero x other = absurd (other refl)
get_set_other (z ∷ xs) zero (suc j) x other = refl
get_set_other (z ∷ xs) (suc k) zero x other = refl
get_set_other (z ∷ xs) (suc k) (suc j) x other = get_set_other xs k j x (λ e. other (ap suc e))

pub length_set : {X : Type 0} (xs : List X) (k : ℕ) (x : X) → length (slice_set xs k x) ≡ length xs
length_set [] k x = refl
length_set (z ∷ xs) zero x = refl
length_set (z ∷ xs) (suc k) x = ap suc (length_set xs k x)

pub has_site_at : (sites : List RegionSite) (place : ℕ) (s : RegionSite) → slice_get sites place ≡ Some s → has_numbered_site s.site.0 sites ≡ true
has_site_at [] place s e = absurd (cc e)
has_site_at (x ∷ rest) zero s e = let same : x ≡ s = cc in rw (eq-eqb x.site.0 s.site.0 (ap (λ (y : RegionSite). y.site.0) same)) refl
has_site_at (x ∷ rest) (suc place) s e = elim (cases_Bool (x.site.0 == s.site.0)) [ inl b ↦ rw b refl | inr b ↦ rw b (has_site_at rest place s e) ]

module _ (p : Program) (region : ℕ) (sites : List RegionSite) (e : Event) (past : List Event) where
  -- an event at a site of another region, or of none
  pub counter_other : (c : Counter) → has_numbered_site e.site sites ≡ false → CounterFits p region sites past c → CounterFits p region sites (e ∷ past) c
  counter_other c away fits = record {
    frame = frame_other sites e past c.frame fits.frame away;
    locals = fits.locals;
    size = fits.size;
    tallies = λ place s t there got. tally_other p region sites e past s t
        (unequal e.site s.site.0 (λ is. let clash = sym (ap (λ n. has_numbered_site n sites) is ∙ has_site_at sites place s there) ∙ away in cc clash))
        (fits.tallies place s t there got);
  }

  module _ (writers : Sparse Writer) (c d : Counter) (fits : CounterFits p region sites past c) (here : has_numbered_site e.site sites ≡ true)
      (written : (k : ℕ) → at writers k ≡ writer_of k past)
      (counts : Counts e.site (effect_seen e.effect) (cells_of e.loads) (suc (length past)) writers c d) where
    abbrev n : ℕ
    n = e.site - c.frame.first.0

    frame_fits : FrameFits sites (e ∷ past) d.frame
    frame_fits = subst (FrameFits sites (e ∷ past)) (sym counts.frame) (frame_own sites e past c.frame fits.frame here)

    last_is : d.frame.last ≡ length (e ∷ past)
    last_is = ap (λ (f : Frame). f.last) counts.frame

    own : (place : ℕ) (s : RegionSite) (t u : Tally) → slice_get sites place ≡ Some s → slice_get c.tallies place ≡ Some t → s.site.0 ≡ e.site
        → TallyCounts (effect_seen e.effect) (cells_of e.loads) d.frame writers c.locals t u → TallyFits p region sites (e ∷ past) s u
    own place s t u there got number tc =
        let inside = frame_fits.inside last_is in
        tally_own p region sites e past s d.frame writers c.locals t u frame_fits.first here inside.0 inside.1 written fits.locals
        (eq-eqb e.site s.site.0 (sym number)) tc (fits.tallies place s t there got)

    place_of : (place : ℕ) (s : RegionSite) → slice_get sites place ≡ Some s → s.site.0 ≡ e.site → place ≡ n
    place_of place s there number = let at = in_order_at c.frame.first.0 sites place s fits.frame.first there in omega (arith, at, number)

    site_at : (s : RegionSite) → slice_get sites n ≡ Some s → s.site.0 ≡ e.site
    site_at s there = let at = in_order_at c.frame.first.0 sites n s fits.frame.first there in
        let low = (in_order_find c.frame.first.0 sites e.site fits.frame.first here).0 in omega (arith, at, low)

    abbrev New : List Tally → Type 0
    New ts = (length ts ≡ length sites) × ((place : ℕ) (s : RegionSite) (t : Tally) → slice_get sites place ≡ Some s → slice_get ts place ≡ Some t →
        TallyFits p region sites (e ∷ past) s t)

    new_by : (o : Option Tally) → slice_get c.tallies n ≡ o → PlaceCounts (effect_seen e.effect) (cells_of e.loads) d.frame writers c.locals n c.tallies
        d.tallies o → New d.tallies
    new_by None got so =
        let find = in_order_find c.frame.first.0 sites e.site fits.frame.first here in
        let within = slice_get_within sites n find.1.0 find.1.1 in
        let size = fits.size in
        let item = at_index c.tallies n (omega (arith, within, size)) in
        let clash = sym got ∙ item.1 in absurd (cc clash)
    new_by (Some t) got so = (
      ap length so.1 ∙ length_set c.tallies n so.0 ∙ fits.size,
      λ place s v there has.
          let has : slice_get (slice_set c.tallies n so.0) place ≡ Some v = sym (ap (λ (ts : List Tally). slice_get ts place) so.1) ∙ has in
          elim (cases_Bool (place == n)) [
            | inl is ↦
                let same : place ≡ n = eqb-true place n is in
                let there : slice_get sites n ≡ Some s = ap (slice_get sites) (sym same) ∙ there in
                let new : v ≡ so.0 = get_set_same c.tallies n so.0 v (ap (slice_get (slice_set c.tallies n so.0)) (sym same) ∙ has) in
                subst (TallyFits p region sites (e ∷ past) s) (sym new) (own n s t so.0 there got (site_at s there) so.2)
            | inr is ↦
                let other : place ≢ n = λ same. let clash = sym (eq-eqb place n same) ∙ is in cc clash in
                tally_other p region sites e past s v (unequal e.site s.site.0 (λ same. other (place_of place s there (sym same))))
                (fits.tallies place s v there (sym (get_set_other c.tallies n place so.0 other) ∙ has))
          ],
    )

    -- an event at one of the region's sites
    pub counter_own : CounterFits p region sites (e ∷ past) d
    counter_own =
        let new = new_by (slice_get c.tallies n) refl counts.tallies in
        record {
          frame = frame_fits;
          locals = λ k. ap (λ (l : Sparse Bool). at l k) counts.locals ∙ fits.locals k;
          size = new.0;
          tallies = new.1;
        }
