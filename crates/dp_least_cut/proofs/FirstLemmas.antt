-- From what is needed after each first stage to what is needed.
use Rattle.std.proofs.Common.{◌≡◌, ◌⊎◌, ◌↔◌, inl, inr, sym, subst, ◌∙◌, ap, arith, ℕ, ◌<◌, ◌≤◌, ◌+◌, ◌-◌, if◌then◌else◌, Bool, true, false, List, length}
use Rattle.std.proofs.Common.{slice_index}
use Rattle.std.proofs.lemmas.Bool.{cases_eq}
use Rattle.std.proofs.Math.ListN.{set}
use Rattle.std.proofs.lemmas.List.{get_or-set_same, get_or-set_other}
use Rattle.dp_least_cut.specs.Allowed.{weight_between}
use Rattle.dp_least_cut.specs.steps.Fits.{Fits, StageFits, TellsNeed}
use Rattle.dp_least_cut.specs.steps.Best.{AreCosts, AreLimits, HasFirst, Stands}
use Rattle.dp_least_cut.proofs.Greedy.{fits_stage, split}
use Rattle.dp_least_cut.proofs.Beginnings.{may_stand, stands_back}

module _ (weights limits : List ℕ) (workers bound : ℕ) (after_seq after_par : List ℕ) (closed : Bool) (begin last : ℕ) (some : begin ≤ last) (may : Bool)
    (is : (may ≡ true) ↔ ((closed ≡ false) × (last + 1 ≤ slice_index limits begin))) where
  pub first_more : (most : ℕ) → HasFirst weights limits workers bound after_seq after_par closed begin last most
      ⊎ ((r : Bool) × StageFits workers bound may (weight_between weights begin (last + 1)) (slice_index after_seq (last + 1))
      (slice_index after_par (last + 1)) most r) →
      HasFirst weights limits workers bound after_seq after_par closed begin (last + 1) most
  first_more most (inl was) =
      record { end = was.end; replicated = was.replicated; some = was.some; within = omega (arith, was.within); stand = was.stand; rest = was.rest }
  first_more most (inr (r, fits)) = record {
    end = last + 1;
    replicated = r;
    some = omega (arith, some);
    within = omega arith;
    stand = record { may = λ e. is.0 (fits.0 e); cheap = fits.1 };
    rest = fits.2;
  }

  pub first_less : (most : ℕ) → HasFirst weights limits workers bound after_seq after_par closed begin (last + 1) most →
      HasFirst weights limits workers bound after_seq after_par closed begin last most
      ⊎ ((r : Bool) × StageFits workers bound may (weight_between weights begin (last + 1)) (slice_index after_seq (last + 1))
      (slice_index after_par (last + 1)) most r)
  first_less most has = elim (cases_eq has.end (last + 1)) [
    | inl here ↦
        let stand : Stands weights limits workers bound closed begin (last + 1) has.replicated = subst
        (λ (x : ℕ). Stands weights limits workers bound closed begin x has.replicated) here has.stand in
        inr (
          has.replicated,
          (
            λ e. is.1 (stand.may e),
            stand.cheap,
            subst (λ (x : ℕ). (if has.replicated then slice_index after_par x
                else slice_index after_seq x) < most) here has.rest,
          ),
        )
    | inr other ↦ inl (record {
      end = has.end;
      replicated = has.replicated;
      some = has.some;
      within = (let w = has.within in
          omega (arith, w, other));
      stand = has.stand;
      rest = has.rest;
    })
  ]

module _ (weights limits : List ℕ) (workers bound : ℕ) (costs : AreCosts weights limits workers) (carried : List (ℕ × ℕ)) (right : AreLimits carried limits)
    (after_seq after_par : List ℕ) (begin : ℕ) (some : begin < length weights)
    (seq : TellsNeed weights carried workers bound false (begin + 1) after_seq) (par : TellsNeed weights carried workers bound true (begin + 1) after_par) where
  later_fits : (end most : ℕ) (r : Bool) → begin < end → end ≤ length weights → most ≤ 8 → (if r then slice_index after_par end else slice_index after_seq end)
      ≤ most → Fits weights carried workers bound most r end
  later_fits end most true low h few need = (par end most (omega (arith, low)) h few).0 need
  later_fits end most false low h few need = (seq end most (omega (arith, low)) h few).0 need

  later_need : (end most : ℕ) (r : Bool) → begin < end → end ≤ length weights → most ≤ 8 → Fits weights carried workers bound most r end →
      (if r then slice_index after_par end else slice_index after_seq end) ≤ most
  later_need end most true low h few fits = (par end most (omega (arith, low)) h few).1 fits
  later_need end most false low h few fits = (seq end most (omega (arith, low)) h few).1 fits

  -- what is needed from `begin` on
  pub need_is : (closed : Bool) (most : ℕ) → most ≤ 8 → (HasFirst weights limits workers bound after_seq after_par closed begin (length weights) most →
      Fits weights carried workers bound most closed begin)
      × (Fits weights carried workers bound most closed begin → HasFirst weights limits workers bound after_seq after_par closed begin (length weights) most)
  need_is closed most few = (
    λ has.
        let less : ℕ = most - 1 in
        let one : less + 1 ≡ most = (let r = has.rest in omega (arith, r)) in
        let within = has.within in
        let rest = later_fits has.end less has.replicated has.some within (omega (arith, few)) (let r = has.rest in omega (arith, r)) in
        subst (λ (x : ℕ). Fits weights carried workers bound x closed begin) one
        (fits_stage weights carried workers bound less closed begin has.end has.replicated (may_stand weights limits workers bound costs carried right closed
        begin has.end has.replicated has.some within has.stand) rest),
    λ fits.
        let first = split weights carried workers bound most closed begin some fits in
        let within = first.stand.within in
        let need = later_need first.end first.less first.replicated first.stand.some within (let e = first.one in omega (arith, e, few)) first.rest in
        record {
          end = first.end;
          replicated = first.replicated;
          some = first.stand.some;
          within = within;
          stand = stands_back weights limits workers bound costs carried right closed begin first.end first.replicated first.stand;
          rest = (let e = first.one in omega (arith, e, need));
        },
  )

-- one place more is told
pub told_more : (weights : List ℕ) (carried : List (ℕ × ℕ)) (workers bound : ℕ) (closed : Bool) (begin new : ℕ) (needs : List ℕ) → begin < length needs →
    TellsNeed weights carried workers bound closed (begin + 1) needs →
    ((most : ℕ) → most ≤ 8 → (new ≤ most → Fits weights carried workers bound most closed begin) × (Fits weights carried workers bound most closed begin →
    new ≤ most)) → TellsNeed weights carried workers bound closed begin (set needs begin new)
told_more weights carried workers bound closed begin new needs h before now place most low within few = elim (cases_eq place begin) [
  | inl here ↦
      let is : slice_index (set needs begin new) place ≡ new = ap (λ x. slice_index (set needs begin new) x) here ∙ get_or-set_same needs begin new 0 h in
      subst (λ (p : ℕ). (slice_index (set needs begin new) place ≤ most → Fits weights carried workers bound most closed p)
      × (Fits weights carried workers bound most closed p → slice_index (set needs begin new) place ≤ most)) (sym here)
      (subst (λ (v : ℕ). (v ≤ most → Fits weights carried workers bound most closed begin) × (Fits weights carried workers bound most closed begin → v ≤ most))
      (sym is) (now most few))
  | inr other ↦
      let is : slice_index (set needs begin new) place ≡ slice_index needs place = get_or-set_other needs begin place new 0 other in
      subst (λ (v : ℕ). (v ≤ most → Fits weights carried workers bound most closed place) × (Fits weights carried workers bound most closed place → v ≤ most))
      (sym is) (before place most (omega (arith, low, other)) within few)
]
