-- What the code's tests say of stages.
use Rattle.std.proofs.Common.{◌≡◌, inl, inr, refl, sym, subst, arith, ℕ, ◌<◌, ◌≤◌, ◌+◌, ◌-◌, if◌then◌else◌, Bool, true, false, List, [], length, slice_index}
use Rattle.std.proofs.lemmas.Bool.{cases_lt, cases_eq}
use Rattle.dp_least_cut.specs.declared.Stretch.{Stretch}
use Rattle.dp_least_cut.specs.Allowed.{weight_between}
use Rattle.dp_least_cut.specs.steps.Fits.{Fits, TellsNeed}
use Rattle.dp_least_cut.specs.steps.Best.{AreCosts, AreLimits, Stands, MayStand, Best, IsBeginning}
use Rattle.dp_least_cut.proofs.Greedy.{stages_within, split, best_next, best_none, weaken, fits_stage}

module _ (weights limits : List ℕ) (workers bound : ℕ) (costs : AreCosts weights limits workers) (carried : List (ℕ × ℕ))
    (right : AreLimits carried limits) where
  pub may_stand : (closed : Bool) (begin end : ℕ) (r : Bool) → begin < end → end ≤ length weights → Stands weights limits workers bound closed begin end r →
      MayStand weights carried workers bound closed begin end r
  may_stand closed begin end r some within stands = record {
    some = some;
    within = within;
    may = λ e. ((stands.may e).0, (right begin (omega (arith, some, within, costs.limited)) end (omega (arith, within, costs.limited))).1 (stands.may e).1);
    cheap = stands.cheap;
  }

  pub stands_back : (closed : Bool) (begin end : ℕ) (r : Bool) → MayStand weights carried workers bound closed begin end r →
      Stands weights limits workers bound closed begin end r
  stands_back closed begin end r stand = record {
    may = λ e. (
      (stand.may e).0,
      (right begin (omega (arith, stand.some, stand.within, costs.limited)) end
          (omega (arith, stand.within, costs.limited))).0 (stand.may e).1,
    );
    cheap = stand.cheap;
  }

  module _ (after_seq after_par : List ℕ) (seq : TellsNeed weights carried workers bound false 0 after_seq)
      (par : TellsNeed weights carried workers bound true 0 after_par) where
    pub fits_need : (left end : ℕ) (r : Bool) → end ≤ length weights → left ≤ 8 → Fits weights carried workers bound left r end →
        (if r then slice_index after_par end else slice_index after_seq end) ≤ left
    fits_need left end true h few fits = (par end left (omega arith) h few).1 fits
    fits_need left end false h few fits = (seq end left (omega arith) h few).1 fits

    open_too : (left end : ℕ) (r : Bool) → Fits weights carried workers bound left r end → Fits weights carried workers bound left false end
    open_too left end r fits =
        record {
          cut = fits.cut;
          stages = weaken weights carried workers bound false r end fits.cut (λ e. absurd
              (cc e)) fits.stages;
          few = fits.few;
          cheap = fits.cheap;
        }

    -- where the least kind needs too many stages, so does the other
    pub late : (left : ℕ) (closed : Bool) (begin end : ℕ) (least : Bool) → left ≤ 8 → end ≤ length weights →
        (least ≡ true → bound < weight_between weights begin end) →
        left < (if least then slice_index after_par end else slice_index after_seq end) → (r : Bool) →
        MayStand weights carried workers bound closed begin end r → ¬ Fits weights carried workers bound left r end
    late left closed begin end false few h need many r stand fits = let low = fits_need left end false h few (open_too left end r fits) in
        omega (arith, low, many)
    late left closed begin end true few h need many true stand fits = let low = fits_need left end true h few fits in omega (arith, low, many)
    late left closed begin end true few h need many false stand fits = let heavy = need refl in omega (arith, heavy, stand.cheap)

  -- no stage with an end before this one fits
  module _ (left : ℕ) (closed : Bool) (begin end : ℕ) (few : left ≤ 8)
      (earlier : (e : ℕ) (r : Bool) → e < end → MayStand weights carried workers bound closed begin e r → ¬ Fits weights carried workers bound left r e)
      (whole : (r : Bool) → ¬ Stands weights limits workers bound closed begin (length weights) r) where
    pub next_begins : (r : Bool) → begin < end → end < length weights → Stands weights limits workers bound closed begin end r →
        (r ≡ true → bound < weight_between weights begin end) →
        Fits weights carried workers bound left r end → IsBeginning weights carried workers bound left closed begin
        (record { units = end - begin; replicated = r })
    next_begins r some h stands need rest =
        let at : begin + (end - begin) ≡ end = omega (arith, some) in
        let s : Stretch = record { units = end - begin; replicated = r } in
        record {
          rest = subst (λ (x : ℕ). Fits weights carried workers bound left r x) (sym at) rest;
          best = λ cut best. best_next weights carried workers bound left closed begin end s cut at h
              (may_stand closed begin end r some (omega (arith, h)) stands) need
              (λ r' stand. whole r' (stands_back closed begin (length weights) r' stand))
              earlier
              (subst (λ (x : ℕ). Best weights carried workers bound left r x cut) at best);
        }

    -- one of the stages fits where the units from `begin` on can be cut
    pub one_begins : length weights ≤ end → begin < length weights → Fits weights carried workers bound (left + 1) closed begin → ⊥
    one_begins h some fits =
        let first = split weights carried workers bound (left + 1) closed begin some fits in
        let few' : first.less ≡ left = omega (arith, first.one) in
        elim (cases_eq first.end (length weights)) [
          | inl last ↦ whole first.replicated (subst (λ (x : ℕ). Stands weights limits workers bound closed begin x first.replicated) last
              (stands_back closed begin first.end first.replicated first.stand))
          | inr other ↦
              let within = first.stand.within in
              earlier first.end first.replicated (omega (arith, within, other, h)) first.stand
              (subst (λ (x : ℕ). Fits weights carried workers bound x first.replicated first.end) few' first.rest)
        ]

-- where the units from `begin` on can be cut and no stage is left, or no unit, then no unit is
pub ends_none : (weights : List ℕ) (carried : List (ℕ × ℕ)) (workers bound left : ℕ) (closed : Bool) (begin : ℕ) →
    Fits weights carried workers bound left closed begin → (begin < length weights → left ≡ 0) → Best weights carried workers bound left closed begin []
ends_none weights carried workers bound left closed begin fits none = elim (cases_lt begin (length weights)) [
  | inl some ↦
      let first = split weights carried workers bound left closed begin some fits in
      let e = none some in
      absurd (omega (arith, first.one, e))
  | inr past ↦
      let within = stages_within weights carried workers bound fits.cut closed begin fits.stages in
      let at : begin ≡ length weights = omega (arith, past, within) in
      subst (λ (x : ℕ). Best weights carried workers bound left closed x []) (sym at) (best_none weights carried workers bound left closed)
]

-- a larger bound, and more stages
pub fits_more : (weights : List ℕ) (carried : List (ℕ × ℕ)) (workers low high less most : ℕ) (closed : Bool) (begin : ℕ) → low ≤ high → less ≤ most →
    Fits weights carried workers low less closed begin → Fits weights carried workers high most closed begin
fits_more weights carried workers low high less most closed begin h k fits = record {
  cut = fits.cut;
  stages = fits.stages;
  few = (let f = fits.few in omega (arith, f, k));
  cheap = (let f = fits.cheap in omega (arith, f, h));
}

-- one stage of all units keeps the bound that is their weight
pub all_fit : (weights : List ℕ) (carried : List (ℕ × ℕ)) (workers bound stages : ℕ) → weight_between weights 0 (length weights) ≤ bound → 0 < stages →
    Fits weights carried workers bound stages true 0
all_fit weights carried workers bound stages heavy some = elim (cases_lt 0 (length weights)) [
  | inl units ↦ fits_more weights carried workers bound bound 1 stages true 0 (omega arith) (omega (arith, some))
      (fits_stage weights carried workers bound 0 true 0 (length weights) false
      (record { some = units; within = omega arith; may = λ e. absurd (cc e); cheap = heavy })
      (record { cut = []; stages = refl; few = omega arith; cheap = omega arith }))
  | inr none ↦ record { cut = []; stages = omega (arith, none); few = omega arith; cheap = omega arith }
]
