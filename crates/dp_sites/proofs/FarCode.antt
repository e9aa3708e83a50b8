-- What the code asks of a stored place and a load is the definition's test by the one variable that the place names.
use Rattle.std.proofs.Common.{◌≡◌, inl, inr, refl, sym, ap, ◌∙◌, ℕ, zero, suc, ◌+◌, ◌<◌, ◌≤◌, ◌==◌, Bool, true, false, not, ◌&&◌, ◌||◌, nat_lt, List, [], ◌∷◌}
use Rattle.std.proofs.Common.{map, ℤ, Option, Some, None, arith, eq-eqb}
use Rattle.std.specs.Prelude.{◌+ℤ◌}
use Rattle.std.proofs.lemmas.Int.{ints}
use Rattle.std.proofs.lemmas.Bool.{cases_eq}
use Rattle.std.specs.List.{list_all, list_any}
use Rattle.dp_tree.specs.declared.Expr.{Expr}
use Rattle.dp_tree.specs.Numbering.{numbers_from}
use Rattle.dp_base.specs.declared.VarId.{VarId}
use Rattle.dp_plan.specs.Touch.{Touch, when_so}
use Rattle.dp_plan.specs.IsFar.{far_between, place_of, read_passes, shifted, stored_at, stored_place}
use Rattle.dp_sites.specs.declared.place.Place.{Place}
use Rattle.dp_sites.specs.declared.place.Step.{Step}
use Rattle.dp_sites.specs.declared.place.Gap.{Gap}
use Rattle.dp_sites.specs.declared.moving.Moving.{Moving}
use Rattle.dp_sites.specs.Place.{offset_in, place_at, stride_in, test_of}
use Rattle.dp_sites.specs.steps.Parts.{index_in, touched}
use Rattle.dp_sites.specs.Storings.{load_passes, place_passes}
use Rattle.dp_sites.proofs.FarOffsets.{offset_by, offset_is}
use Rattle.dp_sites.proofs.FarHalves.{shift_by}
use Rattle.std.proofs.Math.Bool.{or-false}

-- the place of an index, by what the code keeps of it
pub place_is : (v : ℕ) (shift : ℤ) (index : Option Expr) → place_of v shift index ≡ shifted shift (offset_by v (index_in index))
place_is v shift None = refl
place_is v shift (Some e) = ap (shifted shift) (offset_is v e)

shifted_at : (q : Place) (late : Bool) (step : Step) → offset_in q +ℤ shift_by (stride_in step) late ≡ place_at q late step
shifted_at q true step = refl
shifted_at q false step = omega (arith, ints)

module _ (test : Gap) (site : ℕ) (m : Moving) (array : VarId) where
  abbrev v : ℕ
  v = m.place.by.0

  abbrev late : Bool
  late = nat_lt m.mover site

  abbrev place : ℤ
  place = place_at m.place m.late m.step

  abbrev t : ℤ → ℤ → Bool
  t = test_of test (stride_in m.step)

  one_place : (o : Option Place) → far_between t place (shifted (shift_by (stride_in m.step) late) (offset_by v o)) ≡ place_passes test site m o
  one_place None = refl
  one_place (Some q) = by (q.by.0 == v)
    where
      by : (b : Bool) → far_between t place (shifted (shift_by (stride_in m.step) late) (when_so b (Some (offset_in q))))
          ≡ (b && t place (place_at q late m.step))
      by true = ap (t place) (shifted_at q late m.step)
      by false = refl

  one_read : (x : Touch) → read_passes t v array.0 place (shift_by (stride_in m.step) late) x ≡ load_passes test site array m (touched x)
  one_read x = ap (λ (b : Bool). not (x.variable == array.0) || b) (ap (far_between t place) (place_is v (shift_by (stride_in m.step) late) x.index)
      ∙ one_place (index_in x.index))

  pub all_reads : (xs : List Touch) → list_all (read_passes t v array.0 place (shift_by (stride_in m.step) late)) xs ≡ list_all
      (load_passes test site array m) (map touched xs)
  all_reads [] = refl
  all_reads (x ∷ xs) = ap (λ (b : Bool). b && list_all (read_passes t v array.0 place (shift_by (stride_in m.step) late)) xs) (one_read x)
      ∙ ap (λ (b : Bool). load_passes test site array m (touched x) && b) (all_reads xs)

-- what is stored, by what the code keeps
pub stored_is : (q : Place) (array : ℕ) (index : Option Expr) (late : Bool) (step : Step) → index_in index ≡ Some q →
    stored_at q.by.0 (shift_by (stride_in step) late) (Some (record { variable = array; index = index })) ≡ Some
    (record { array = array; place = place_at q late step })
stored_is q array index late step is =
    ap (stored_place array) (place_is q.by.0 (shift_by (stride_in step) late) index
    ∙ ap (λ (o : Option Place). shifted (shift_by (stride_in step) late) (offset_by q.by.0 o)) is
    ∙ ap (λ (b : Bool). shifted (shift_by (stride_in step) late) (when_so b (Some (offset_in q)))) (eq-eqb q.by.0 q.by.0 refl))
    ∙ ap (λ (z : ℤ). Some (record { array = array; place = z })) (shifted_at q late step)

-- by another variable nothing is stored at a place
pub unstored : (v : ℕ) (shift : ℤ) (array : ℕ) (index : Option Expr) → offset_by v (index_in index) ≡ None →
    stored_at v shift (Some (record { variable = array; index = index })) ≡ None
unstored v shift array index none = ap (stored_place array) (place_is v shift index ∙ ap (shifted shift) none)

-- ---- one number alone passes

pub none_any : (f : ℕ → Bool) (first n : ℕ) → ((v : ℕ) → f v ≡ false) → list_any f (numbers_from first n) ≡ false
none_any f first zero off = refl
none_any f first (suc n) off = ap (λ (b : Bool). b || list_any f (numbers_from (first + 1) n)) (off first) ∙ none_any f (first + 1) n off

below_any : (f : ℕ → Bool) (v first n : ℕ) → ((w : ℕ) → (w ≡ v → ⊥) → f w ≡ false) → v < first → list_any f (numbers_from first n) ≡ false
below_any f v first zero off low = refl
below_any f v first (suc n) off low = ap (λ (b : Bool). b || list_any f (numbers_from (first + 1) n)) (off first (λ e. omega (arith, e, low)))
    ∙ below_any f v (first + 1) n off (omega (arith, low))

pub single_any : (f : ℕ → Bool) (v first n : ℕ) → ((w : ℕ) → (w ≡ v → ⊥) → f w ≡ false) → first ≤ v → (first + n ≤ v → f v ≡ false) →
    list_any f (numbers_from first n) ≡ f v
single_any f v first zero off low high = sym (high (omega (arith, low)))
single_any f v first (suc n) off low high = elim (cases_eq first v) [
  | inl e ↦ ap (λ (b : Bool). f first || b) (below_any f v (first + 1) n off (omega (arith, e))) ∙ or-false (f first) ∙ ap f e
  | inr other ↦ ap (λ (b : Bool). b || list_any f (numbers_from (first + 1) n)) (off first other)
      ∙ single_any f v (first + 1) n off (above other) (λ h. high (omega (arith, h)))
]
  where
    above : (first ≡ v → ⊥) → first + 1 ≤ v
    above other = elim (Rattle.std.proofs.lemmas.Bool.cases_lt first v) [ inl lt ↦ omega (arith, lt) | inr ge ↦ absurd (other (omega (arith, ge, low))) ]
