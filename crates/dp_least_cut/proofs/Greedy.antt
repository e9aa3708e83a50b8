-- The first stage of the least cut of the units from one on, and what follows it.
use Rattle.std.proofs.Common.{◌≡◌, inl, inr, refl, sym, subst, ◌∙◌, arith, ℕ, ◌<◌, ◌≤◌, ◌+◌, ◌-◌, Bool, true, false, List, [], ◌∷◌, length, max}
use Rattle.std.proofs.lemmas.Bool.{cases_lt, cases_eq}
use Rattle.dp_least_cut.specs.declared.Stretch.{Stretch}
use Rattle.dp_least_cut.specs.Allowed.{AreStages, IsClear, cost_of, weight_between, bottleneck}
use Rattle.dp_least_cut.specs.steps.Fits.{Fits}
use Rattle.dp_least_cut.specs.steps.Best.{NoLater, MayStand, Best}

most_of : (a b : ℕ) {c : ℕ} → a ≤ c → b ≤ c → max a b ≤ c
most_of a b h k = omega (arith, h, k)

left_of : (a b : ℕ) {c : ℕ} → max a b ≤ c → a ≤ c
left_of a b h = omega (arith, h)

right_of : (a b : ℕ) {c : ℕ} → max a b ≤ c → b ≤ c
right_of a b h = omega (arith, h)

module _ (weights : List ℕ) (carried : List (ℕ × ℕ)) (workers bound : ℕ) where
  pub stages_within : (cut : List Stretch) (closed : Bool) (begin : ℕ) → AreStages carried (length weights) closed begin cut → begin ≤ length weights
  stages_within [] closed begin h = omega (arith, h)
  stages_within (s ∷ rest) closed begin h = let low = stages_within rest s.replicated (begin + s.units) h.2 in omega (arith, low)

  -- a stage, and what follows it
  pub fits_stage : (most : ℕ) (closed : Bool) (begin end : ℕ) (replicated : Bool) → MayStand weights carried workers bound closed begin end replicated →
      Fits weights carried workers bound most replicated end → Fits weights carried workers bound (most + 1) closed begin
  fits_stage most closed begin end replicated stand rest =
      let at : begin + (end - begin) ≡ end = omega (arith, stand.some) in
      let low : cost_of workers (weight_between weights begin (begin + (end - begin))) replicated ≤ bound =
      subst (λ (x : ℕ). cost_of workers (weight_between weights begin x) replicated ≤ bound) (sym at) stand.cheap in
      let later : bottleneck weights workers (begin + (end - begin)) rest.cut ≤ bound = subst (λ (x : ℕ). bottleneck weights workers x rest.cut ≤ bound)
      (sym at) rest.cheap in
      record {
        cut = record { units = end - begin; replicated = replicated } ∷ rest.cut;
        stages = (
          omega (arith, stand.some),
          λ e. ((stand.may e).0, subst (λ (x : ℕ). IsClear carried begin x) (sym at) (stand.may e).1),
          subst (λ (x : ℕ).
              AreStages carried (length weights) replicated x rest.cut) (sym at) rest.stages,
        );
        few = omega (arith, rest.few);
        cheap = most_of _ _ low later;
      }

  -- the units from `begin` on begin with a stage
  pub record Split (most : ℕ) (closed : Bool) (begin : ℕ) : Type 0 where
    pub end : ℕ
    pub replicated : Bool
    pub stand : MayStand weights carried workers bound closed begin end replicated
    pub less : ℕ
    pub one : most ≡ less + 1
    pub rest : Fits weights carried workers bound less replicated end

  first_stands : (closed : Bool) (begin : ℕ) (s : Stretch) (rest : List Stretch) → AreStages carried (length weights) closed begin (s ∷ rest) →
      bottleneck weights workers begin (s ∷ rest) ≤ bound → MayStand weights carried workers bound closed begin (begin + s.units) s.replicated
  first_stands closed begin s rest stages cheap = record {
    some = omega (arith, stages.0);
    within = stages_within rest s.replicated (begin + s.units) stages.2;
    may = stages.1;
    cheap = left_of _ _ cheap;
  }

  pub split : (most : ℕ) (closed : Bool) (begin : ℕ) → begin < length weights → Fits weights carried workers bound most closed begin → Split most closed begin
  split most closed begin h fits = go fits.cut fits.stages fits.few fits.cheap
    where
      go : (cut : List Stretch) → AreStages carried (length weights) closed begin cut → length cut ≤ most → bottleneck weights workers begin cut ≤ bound →
          Split most closed begin
      go [] stages few cheap = absurd (omega (arith, stages, h))
      go (s ∷ rest) stages few cheap = record {
        end = begin + s.units;
        replicated = s.replicated;
        stand = first_stands closed begin s rest stages cheap;
        less = most - 1;
        one = omega (arith, few);
        rest = record { cut = rest; stages = stages.2; few = omega (arith, few); cheap = right_of _ _ cheap };
      }

  pub best_none : (most : ℕ) (closed : Bool) → Best weights carried workers bound most closed (length weights) []
  best_none most closed = record { stages = refl; few = omega arith; cheap = omega arith; first = only }
    where
      only : (other : List Stretch) → AreStages carried (length weights) closed (length weights) other → length other ≤ most →
          bottleneck weights workers (length weights) other ≤ bound → NoLater [] other
      only [] stages few cheap = tt
      only (o ∷ os) stages few cheap = let low = stages_within os o.replicated (length weights + o.units) stages.2 in absurd (omega (arith, stages.0, low))

  -- replicated only where it has to be
  kind_least : (begin end : ℕ) (g o : Bool) → (g ≡ true → bound < weight_between weights begin end) →
      cost_of workers (weight_between weights begin end) o ≤ bound → g ≡ true → o ≡ true
  kind_least begin end g true need cheap e = refl
  kind_least begin end g false need cheap e = absurd (omega (arith, need e, cheap))

  -- what may follow a stage may follow a sequential one
  pub weaken : (g o : Bool) (begin : ℕ) (cut : List Stretch) → (g ≡ true → o ≡ true) → AreStages carried (length weights) o begin cut →
      AreStages carried (length weights) g begin cut
  weaken g o begin [] h stages = stages
  weaken g o begin (s ∷ rest) h stages = (stages.0, λ e. (eased g o h (stages.1 e).0, (stages.1 e).1), stages.2)
    where
      eased : (g o : Bool) → (g ≡ true → o ≡ true) → o ≡ false → g ≡ false
      eased false o h e = refl
      eased true o h e = sym (h refl) ∙ e

  -- The shortest stage after which the rest can keep the bound, where the rest can't be one stage.
  pub best_next : (most : ℕ) (closed : Bool) (begin end : ℕ) (s : Stretch) (rest : List Stretch) → begin + s.units ≡ end → end < length weights →
      MayStand weights carried workers bound closed begin end s.replicated →
      (s.replicated ≡ true → bound < weight_between weights begin end) →
      ((r : Bool) → ¬ MayStand weights carried workers bound closed begin (length weights) r) →
      ((e : ℕ) (r : Bool) → e < end → MayStand weights carried workers bound closed begin e r → ¬ Fits weights carried workers bound most r e) →
      Best weights carried workers bound most s.replicated end rest → Best weights carried workers bound (most + 1) closed begin (s ∷ rest)
  best_next most closed begin end s [] at h stand need whole earlier rest = absurd (omega (arith, rest.stages, h))
  best_next most closed begin end s (t ∷ ts) at h stand need whole earlier rest = record {
    stages = (
      omega (arith, at, stand.some),
      λ e. ((stand.may e).0, subst (λ (x : ℕ). IsClear carried begin x) (sym at) (stand.may e).1),
      subst (λ (x : ℕ).
          AreStages carried (length weights) s.replicated x (t ∷ ts)) (sym at) rest.stages,
    );
    few = omega (arith, rest.few);
    cheap = most_of _ _ (subst (λ (x : ℕ). cost_of workers (weight_between weights begin x) s.replicated ≤ bound) (sym at) stand.cheap)
        (subst (λ (x : ℕ). bottleneck weights workers x (t ∷ ts) ≤ bound) (sym at) rest.cheap);
    first = only;
  }
    where
      only : (other : List Stretch) → AreStages carried (length weights) closed begin other → length other ≤ most + 1 →
          bottleneck weights workers begin other ≤ bound → NoLater (s ∷ t ∷ ts) other
      only [] stages few cheap = absurd (omega (arith, stages, stand.some, h))
      only (o ∷ []) stages few cheap = whole o.replicated (subst (λ (x : ℕ). MayStand weights carried workers bound closed begin x o.replicated) stages.2
          (first_stands closed begin o [] stages cheap))
      only (o ∷ p ∷ os) stages few cheap = elim (cases_lt (begin + o.units) end) [
        | inl early ↦ absurd (earlier (begin + o.units) o.replicated early (first_stands closed begin o (p ∷ os) stages cheap)
            (record { cut = p ∷ os; stages = stages.2; few = omega (arith, few); cheap = right_of _ _ cheap }))
        | inr late ↦ elim (cases_eq s.units o.units) [
          | inr other ↦ inl (omega (arith, late, at, other))
          | inl same ↦
              let there : begin + o.units ≡ end = omega (arith, at, same) in
              let kinds : s.replicated ≡ true → o.replicated ≡ true = kind_least begin end s.replicated o.replicated need
              (subst (λ (x : ℕ). cost_of workers (weight_between weights begin x) o.replicated ≤ bound) there (left_of _ _ cheap)) in
              inr (
                same,
                kinds,
                rest.first (p ∷ os)
                    (weaken s.replicated o.replicated end (p ∷ os) kinds
                    (subst (λ (x : ℕ). AreStages carried (length weights) o.replicated x (p ∷ os)) there stages.2))
                    (omega (arith, few))
                    (subst (λ (x : ℕ). bottleneck weights workers x (p ∷ os) ≤ bound) there (right_of _ _ cheap)),
              )
        ]
      ]
