-- The stages of the units of a cut: they rise from stage to stage, and each stage has a unit.
use Rattle.std.proofs.Common.{◌≡◌, ◌∙◌, ap, inl, inr, refl, arith, ℕ, ◌+◌, ◌-◌, ◌<◌, ◌≤◌, nat_lt, Bool, true, false, List, [], ◌∷◌, length}
use Rattle.std.proofs.lemmas.Bool.{cases_Bool, cases_eq, ltb-true, ltb-false, lt-ltb, le-ltb, true≢false}
use Rattle.dp_least_cut.specs.declared.Stretch.{Stretch}
use Rattle.dp_least_cut.specs.Allowed.{AreStages}
use Rattle.dp_cut.specs.LeastPlan.{stage_of_unit}

pub stage_least : (k : ℕ) (cut : List Stretch) (a : ℕ) → k ≤ stage_of_unit k cut a
stage_least k [] a = omega arith
stage_least k (s ∷ rest) a = elim (cases_Bool (nat_lt a s.units)) [
  | inl t ↦ rw t (omega arith)
  | inr f ↦ let later = stage_least (k + 1) rest (a - s.units) in rw f (omega (arith, later))
]

-- a later unit is in no earlier stage
pub stage_rises : (k : ℕ) (cut : List Stretch) (a b : ℕ) → a ≤ b → stage_of_unit k cut a ≤ stage_of_unit k cut b
stage_rises k [] a b h = omega arith
stage_rises k (s ∷ rest) a b h = elim (cases_Bool (nat_lt a s.units)) [
  | inl t ↦ rw t (stage_least k (s ∷ rest) b)
  | inr f ↦ elim (cases_Bool (nat_lt b s.units)) [
    | inl t ↦ absurd (omega (arith, h, ltb-false a s.units f, ltb-true b s.units t))
    | inr g ↦ rw f (rw g (stage_rises (k + 1) rest (a - s.units) (b - s.units) (omega (arith, h))))
  ]
]

module _ (carried : List (ℕ × ℕ)) (count : ℕ) where
  pub within : (closed : Bool) (begin : ℕ) (cut : List Stretch) → AreStages carried count closed begin cut → begin ≤ count
  within closed begin [] stages = omega (arith, stages)
  within closed begin (s ∷ rest) stages = let later = within s.replicated (begin + s.units) rest stages.2 in omega (arith, later)

  -- each unit is in one of the stages
  pub stage_most : (k : ℕ) (closed : Bool) (begin : ℕ) (cut : List Stretch) (a : ℕ) → AreStages carried count closed begin cut → begin + a < count →
      stage_of_unit k cut a < k + length cut
  stage_most k closed begin [] a stages h = absurd (omega (arith, stages, h))
  stage_most k closed begin (s ∷ rest) a stages h = elim (cases_Bool (nat_lt a s.units)) [
    | inl t ↦ rw t (omega arith)
    | inr f ↦
        let low = ltb-false a s.units f in
        let later = stage_most (k + 1) s.replicated (begin + s.units) rest (a - s.units) stages.2 (omega (arith, h, low)) in
        rw f (omega (arith, later))
  ]

  -- the first unit is in the first stage, which is sequential
  pub first_stage : (k : ℕ) (closed : Bool) (begin : ℕ) (cut : List Stretch) → AreStages carried count closed begin cut → begin < count →
      stage_of_unit k cut 0 ≡ k
  first_stage k closed begin [] stages h = absurd (omega (arith, stages, h))
  first_stage k closed begin (s ∷ rest) stages h = rw (lt-ltb 0 s.units stages.0) refl

  pub first_sequential : (begin : ℕ) (s : Stretch) (rest : List Stretch) → AreStages carried count true begin (s ∷ rest) → s.replicated ≡ false
  first_sequential begin s rest stages = elim (cases_Bool s.replicated) [
    | inl t ↦ absurd (true≢false (stages.1 t).0)
    | inr f ↦ f
  ]

  -- each stage has a unit
  pub stage_reached : (k : ℕ) (closed : Bool) (begin : ℕ) (cut : List Stretch) → AreStages carried count closed begin cut → (j : ℕ) → k ≤ j →
      j < k + length cut → (a : ℕ) × (begin + a < count) × (stage_of_unit k cut a ≡ j)
  stage_reached k closed begin [] stages j low high = absurd (omega (arith, low, high))
  stage_reached k closed begin (s ∷ rest) stages j low high = elim (cases_eq k j) [
    | inl here ↦
        let room = within s.replicated (begin + s.units) rest stages.2 in
        (0, omega (arith, room, stages.0), rw (lt-ltb 0 s.units stages.0) here)
    | inr other ↦
        let later = stage_reached (k + 1) s.replicated (begin + s.units) rest stages.2 j (omega (arith, low, other)) (omega (arith, high)) in
        let past : nat_lt (s.units + later.0) s.units ≡ false = le-ltb (s.units + later.0) s.units (omega arith) in
        let left : (s.units + later.0) - s.units ≡ later.0 = omega arith in
        let within = later.1 in
        (s.units + later.0, omega (arith, within), rw past (ap (stage_of_unit (k + 1) rest) left ∙ later.2))
  ]
