-- Where the run stands in a region, after one event more.
use Rattle.std.proofs.Common.{◌≡◌, ◌≢◌, refl, sym, ap, ◌∙◌, ℕ, suc, ◌-◌, ◌≤◌, ◌<◌, ◌==◌, if◌then◌else◌, ◌||◌, Bool, true, false, nat_le, List, [], ◌∷◌, length}
use Rattle.std.proofs.Common.{Option, Some, None, inl, inr, arith, eqb-true, eq-eqb}
use Rattle.std.proofs.lemmas.Bool.{cases_Bool, le-leb, lt-leb}
use Rattle.dp_tree.specs.Step.{Event}
use Rattle.dp_profile.specs.declared.sites.RegionSite.{RegionSite}
use Rattle.dp_profile.specs.Sites.{has_numbered_site}
use Rattle.dp_profile.specs.Observed.{FoundStore, begins_iteration, stores_to_cell, last_store}
use Rattle.dp_observe.specs.declared.frame.Frame.{Frame}
use Rattle.dp_observe.specs.declared.frame.Writer.{Writer}
use Rattle.dp_observe.specs.steps.Frames.{kept, frame_after}
use Rattle.dp_observe.specs.steps.Tracking.{writer_of, since, begun, InOrder, FrameFits}

kept_at : (f : Frame) (n k target : ℕ) → (f.last ≡ n → k ≡ target) → (f.last ≢ n → n ≡ target) → kept f (suc n) k ≡ target
kept_at f n k target same other =
    let before : suc n - 1 ≡ n = omega arith in
    elim (cases_Bool (f.last == n)) [
      | inl e ↦ rw before (rw e (same (eqb-true f.last n e)))
      | inr e ↦ rw before (rw e (other (λ is. let clash = sym (eq-eqb f.last n is) ∙ e in cc clash)))
    ]

module _ (sites : List RegionSite) (e : Event) (past : List Event) (f : Frame) (fits : FrameFits sites past f) where
  -- an event at a site of another region, or of none
  pub frame_other : has_numbered_site e.site sites ≡ false → FrameFits sites (e ∷ past) f
  frame_other no_site = record {
    first = fits.first;
    within = let w = fits.within in omega arith;
    inside = λ is. let w = fits.within in absurd (omega (arith, is, w));
    outside = λ _. (rw no_site refl, rw no_site refl);
  }

  begins_at : (ss : List RegionSite) → InOrder f.first.0 ss → has_numbered_site e.site ss ≡ true → begins_iteration ss e ≡ (f.first.0 == e.site)
  begins_at [] order here = absurd (cc here)
  begins_at (s ∷ rest) order here = ap (λ (n : ℕ). n == e.site) order.0

  -- an event at one of the region's sites
  pub frame_own : has_numbered_site e.site sites ≡ true → FrameFits sites (e ∷ past) (frame_after f e.site (suc (length past)))
  frame_own here = record {
    first = fits.first;
    within = omega arith;
    inside = λ _. (began, begins);
    outside = λ other. absurd (other refl);
  }
    where
      n : ℕ
      n = length past

      began : kept f (suc n) f.since ≡ since sites (e ∷ past)
      began = rw here (kept_at f n f.since (since sites past) (λ is. (fits.inside is).0) (λ is. sym (fits.outside is).0))

      begins : (if f.first.0 == e.site then suc n - 1 else kept f (suc n) f.begun) ≡ begun sites (e ∷ past)
      begins =
          let before : suc n - 1 ≡ n = omega arith in
          let at = begins_at sites fits.first here in
          elim (cases_Bool (f.first.0 == e.site)) [
            | inl is ↦ let b = at ∙ is in rw here (rw b (rw is before))
            | inr is ↦ let b = at ∙ is in rw here (rw b (rw is (kept_at f n f.begun (begun sites past) (λ q. (fits.inside q).1) (λ q. sym (fits.outside q).1))))
          ]

-- ---- from where a load's value came

-- the store that is found in a frame
abbrev pub source_of : Writer → ℕ → Bool → ℕ → Option FoundStore
source_of w since flag begun = if nat_le w.after since then None else Some (record { site = w.site.0; carried = flag || nat_le w.after begun })

pub writer_within : (cell : ℕ) (past : List Event) → (writer_of cell past).after ≤ length past
writer_within cell [] = omega arith
writer_within cell (e ∷ before) = by (stores_to_cell cell e.effect) (writer_within cell before)
  where
    by : (b : Bool) → (writer_of cell before).after ≤ length before → (if b then record { site = record { 0 = e.site }; after = suc (length before) }
        else writer_of cell before).after ≤ suc (length before)
    by true h = omega arith
    by false h = omega (arith, h)

since_within : (sites : List RegionSite) (past : List Event) → since sites past ≤ length past
since_within sites [] = omega arith
since_within sites (e ∷ before) = by (has_numbered_site e.site sites) (since_within sites before)
  where
    by : (b : Bool) → since sites before ≤ length before → (if b then since sites before else suc (length before)) ≤ suc (length before)
    by true h = omega (arith, h)
    by false h = omega arith

begun_within : (sites : List RegionSite) (past : List Event) → begun sites past ≤ length past
begun_within sites [] = omega arith
begun_within sites (e ∷ before) = by (has_numbered_site e.site sites) (begins_iteration sites e) (begun_within sites before)
  where
    by : (b c : Bool) → begun sites before ≤ length before → (if b then (if c then length before else begun sites before) else suc (length before))
        ≤ suc (length before)
    by true true h = omega arith
    by true false h = omega (arith, h)
    by false c h = omega arith

found : (w : Writer) (since begun : ℕ) (flag : Bool) → since < w.after →
    source_of w since flag begun ≡ Some (record { site = w.site.0; carried = flag || nat_le w.after begun })
found w since begun flag h = rw (lt-leb w.after since h) refl

unfound : (w : Writer) (since begun : ℕ) (flag : Bool) → w.after ≤ since → source_of w since flag begun ≡ None
unfound w since begun flag h = rw (le-leb w.after since h) refl

or_again : (flag : Bool) → flag ≡ (flag || false)
or_again true = refl
or_again false = refl

-- the backward search finds the last writer
pub last_found : (sites : List RegionSite) (cell : ℕ) (flag : Bool) (past : List Event) → last_store sites cell flag past ≡ source_of (writer_of cell past)
    (since sites past) flag (begun sites past)
last_found sites cell flag [] = refl
last_found sites cell flag (e ∷ before) = elim (cases_Bool (has_numbered_site e.site sites)) [
  | inr no_site ↦ rw no_site (sym (unfound (writer_of cell (e ∷ before)) (suc (length before)) (suc (length before)) flag (writer_within cell (e ∷ before))))
  | inl here ↦ elim (cases_Bool (stores_to_cell cell e.effect)) [
    | inl stored ↦
        let low = since_within sites before in
        let less : since sites before < suc (length before) = omega (arith, low) in
        let late : begun sites (e ∷ before) < suc (length before) = begun_late here in
        let newest : nat_le (suc (length before)) (begun sites (e ∷ before)) ≡ false = lt-leb (suc (length before)) (begun sites (e ∷ before)) late in
        rw here (rw stored (ap (λ b. Some (record { site = e.site; carried = b })) (or_again flag ∙ ap (λ b. flag || b) (sym (rw here at newest)))
        ∙ sym (found (record { site = record { 0 = e.site }; after = suc (length before) }) (since sites before) _ flag less)))
    | inr other ↦ rw here (rw other (last_found sites cell (flag || begins_iteration sites e) before ∙ same_source flag (begins_iteration sites e)))
  ]
]
  where
    begun_late : has_numbered_site e.site sites ≡ true → begun sites (e ∷ before) < suc (length before)
    begun_late here = by (begins_iteration sites e)
      where
        by : (b : Bool) → (if has_numbered_site e.site sites then (if b then length before else begun sites before) else suc (length before))
            < suc (length before)
        by true = rw here (omega arith)
        by false = rw here (let low = begun_within sites before in omega (arith, low))

    same_source : (flag b : Bool) → source_of (writer_of cell before) (since sites before) (flag || b) (begun sites before) ≡ source_of (writer_of cell before)
        (since sites before) flag (if b then length before else begun sites before)
    same_source true b = refl
    same_source false true = rw (le-leb (writer_of cell before).after (length before) (writer_within cell before)) refl
    same_source false false = refl

-- and its site is one of the region's
pub writer_own : (sites : List RegionSite) (cell : ℕ) (past : List Event) → since sites past < (writer_of cell past).after →
    has_numbered_site (writer_of cell past).site.0 sites ≡ true
writer_own sites cell [] h = absurd (omega (arith, h))
writer_own sites cell (e ∷ before) h = elim (cases_Bool (has_numbered_site e.site sites)) [
  | inr no_site ↦ absurd (let low = writer_within cell (e ∷ before) in let high = rw no_site at h in omega (arith, low, high))
  | inl here ↦ elim (cases_Bool (stores_to_cell cell e.effect)) [
    | inl stored ↦ rw stored here
    | inr other ↦ rw other (writer_own sites cell before (rw other at (rw here at h)))
  ]
]

-- the same for a load of an event at one of the region's sites
pub load_found : (sites : List RegionSite) (cell : ℕ) (e : Event) (before : List Event) → has_numbered_site e.site sites ≡ true
    → last_store sites cell (begins_iteration sites e) before ≡ source_of (writer_of cell before) (since sites (e ∷ before)) false (begun sites (e ∷ before))
load_found sites cell e before here = last_found sites cell (begins_iteration sites e) before ∙ rw here (by (begins_iteration sites e))
  where
    by : (b : Bool) → source_of (writer_of cell before) (since sites before) b (begun sites before) ≡ source_of (writer_of cell before) (since sites before)
        false (if b then length before else begun sites before)
    by true = rw (le-leb (writer_of cell before).after (length before) (writer_within cell before)) refl
    by false = refl
