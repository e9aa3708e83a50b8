-- A program has one list of automatic plans.
use Rattle.std.proofs.Common.{◌≡◌, refl, sym, subst, ◌∙◌, ap, inl, inr, arith, ℕ, ◌<◌, Bool, true, false, List, [], ◌∷◌, map, length, Option}
use Rattle.dp_tree.specs.declared.Program.{Program}
use Rattle.dp_plan.specs.declared.Plan.{Plan}
use Rattle.dp_plan.specs.GivenPlans.{region_of}
use Rattle.dp_plan.specs.Each.{Each}
use Rattle.dp_profile.specs.declared.Profile.{Profile}
use Rattle.dp_depend.specs.Edges.{chosen_of, edges_of}
use Rattle.dp_depend.specs.Node.{region_nodes}
use Rattle.dp_units.specs.Order.{ArePlaces}
use Rattle.dp_units.proofs.OrderOnce.{one_order, same_places}
use Rattle.dp_least_cut.specs.declared.Stretch.{Stretch}
use Rattle.dp_cut.specs.Automatic.{AreAutomatic, IsAutomatic, node_pairs, weights_of}
use Rattle.dp_least_cut.specs.LeastCut.{IsLeastCut}
use Rattle.dp_cut.specs.LeastPlan.{IsLeastPlan, plan_of_cut}
use Rattle.dp_least_cut.specs.Order.{IsBefore, IsKindBefore, IsListBefore, kinds, places_from}
use Rattle.dp_least_cut.specs.Order.IsBefore.{by_bottleneck, by_places, by_count, by_kinds}

-- no list comes before another and behind it
list_once : {X : Type 0} (before : X → X → Type 0) → ((x y : X) → before x y → before y x → ⊥) → (xs ys : List X) → IsListBefore before xs ys →
    IsListBefore before ys xs → ⊥
list_once before once [] [] h k = h
list_once before once [] (y ∷ ys) h k = k
list_once before once (x ∷ xs) [] h k = h
list_once before once (x ∷ xs) (y ∷ ys) (inl h) (inl k) = once x y h k
list_once before once (x ∷ xs) (y ∷ ys) (inl h) (inr k) = let own = subst (λ z. before x z) k.0 h in once x x own own
list_once before once (x ∷ xs) (y ∷ ys) (inr h) (inl k) = let own = subst (λ z. before y z) h.0 k in once y y own own
list_once before once (x ∷ xs) (y ∷ ys) (inr h) (inr k) = list_once before once xs ys h.1 k.1

no_list_before_itself : {X : Type 0} (before : X → X → Type 0) → ((x y : X) → before x y → before y x → ⊥) → (xs ys : List X) → xs ≡ ys →
    IsListBefore before xs ys → ⊥
no_list_before_itself before once xs ys e h =
    let own : IsListBefore before xs xs = subst (λ zs. IsListBefore before xs zs) (sym e) h in
    list_once before once xs xs own own

less_once : (x y : ℕ) → x < y → y < x → ⊥
less_once x y h k = omega (arith, h, k)

kind_once : (x y : Bool) → IsKindBefore x y → IsKindBefore y x → ⊥
kind_once x y h k =
    let clash : true ≡ false = sym h.1 ∙ k.0 in
    absurd (cc clash)

module _ (weights : List ℕ) (workers : ℕ) where
  before_once : (a b : List Stretch) → IsBefore weights workers a b → IsBefore weights workers b a → ⊥
  before_once a b (by_bottleneck h) (by_bottleneck k) = omega (arith, h, k)
  before_once a b (by_bottleneck h) (by_places e k) = omega (arith, h, e)
  before_once a b (by_bottleneck h) (by_count e f k) = omega (arith, h, e)
  before_once a b (by_bottleneck h) (by_kinds e f g k) = omega (arith, h, e)
  before_once a b (by_places e h) (by_bottleneck k) = omega (arith, k, e)
  before_once a b (by_places e h) (by_places f k) = list_once (λ x y. x < y) less_once (places_from 0 a) (places_from 0 b) h k
  before_once a b (by_places e h) (by_count f g k) = no_list_before_itself (λ x y. x < y) less_once (places_from 0 a) (places_from 0 b) (sym g) h
  before_once a b (by_places e h) (by_kinds f g i k) = no_list_before_itself (λ x y. x < y) less_once (places_from 0 a) (places_from 0 b) (sym g) h
  before_once a b (by_count e f h) (by_bottleneck k) = omega (arith, k, e)
  before_once a b (by_count e f h) (by_places g k) = no_list_before_itself (λ x y. x < y) less_once (places_from 0 b) (places_from 0 a) (sym f) k
  before_once a b (by_count e f h) (by_count g i k) = omega (arith, h, k)
  before_once a b (by_count e f h) (by_kinds g i j k) = omega (arith, h, j)
  before_once a b (by_kinds e f g h) (by_bottleneck k) = omega (arith, k, e)
  before_once a b (by_kinds e f g h) (by_places i k) = no_list_before_itself (λ x y. x < y) less_once (places_from 0 b) (places_from 0 a) (sym f) k
  before_once a b (by_kinds e f g h) (by_count i j k) = omega (arith, g, k)
  before_once a b (by_kinds e f g h) (by_kinds i j l k) = list_once IsKindBefore kind_once (kinds a) (kinds b) h k

  one_cut : (carried : List (ℕ × ℕ)) (most : ℕ) (a b : List Stretch) → IsLeastCut weights carried most workers a →
      IsLeastCut weights carried most workers b → a ≡ b
  one_cut carried most a b x y = elim (x.first b y.allowed) [
    | inl same ↦ same
    | inr before ↦ elim (y.first a x.allowed) [
      | inl same ↦ sym same
      | inr behind ↦ absurd (before_once a b before behind)
    ]
  ]

module _ (p : Program) (profile : Option Profile) (rate most workers : ℕ) where
  one_plan : (r : ℕ) (a b : Plan) → IsAutomatic p r profile rate most workers a → IsAutomatic p r profile rate most workers b → a ≡ b
  one_plan r a b x y =
      let count = length (region_nodes p r) in
      let pairs = node_pairs p r profile rate in
      let orders : y.order ≡ x.order = one_order count pairs y.order x.order y.ordered x.ordered in
      let placed : ArePlaces count pairs x.order y.places = subst (λ (order : List ℕ). ArePlaces count pairs order y.places) orders y.placed in
      let places : y.places ≡ x.places = same_places count pairs x.order y.places x.places x.ordered placed x.placed in
      let moved : IsLeastPlan p r (edges_of p r profile rate) (chosen_of p r profile rate) x.order x.places (weights_of p r profile) most workers b =
      subst (λ (ps : List ℕ). IsLeastPlan p r (edges_of p r profile rate) (chosen_of p r profile rate) x.order ps (weights_of p r profile)
      most workers b) places
      (subst (λ (order : List ℕ). IsLeastPlan p r (edges_of p r profile rate) (chosen_of p r profile rate) order y.places (weights_of p r profile) most workers
      b) orders y.least) in
      x.least.is ∙ ap (plan_of_cut p r x.places (chosen_of p r profile rate)) (one_cut _ workers _ most x.least.cut moved.cut x.least.least moved.least)
      ∙ sym moved.is

  one_list : (a b : List Plan) → map region_of a ≡ map region_of b → Each (λ (plan : Plan). IsAutomatic p plan.region profile rate most workers plan) a →
      Each (λ (plan : Plan). IsAutomatic p plan.region profile rate most workers plan) b → a ≡ b
  one_list [] [] e x y = refl
  one_list [] (b ∷ bs) e x y = absurd (cc e)
  one_list (a ∷ rest) [] e x y = absurd (cc e)
  one_list (a ∷ rest) (b ∷ others) e x y =
      let region : a.region ≡ b.region = cc e in
      let regions : map region_of rest ≡ map region_of others = cc e in
      let same : a ≡ b = one_plan b.region a b (subst (λ (r : ℕ). IsAutomatic p r profile rate most workers a) region x.0) y.0 in
      ap (λ (plan : Plan). plan ∷ rest) same ∙ ap (λ (plans : List Plan). b ∷ plans) (one_list rest others regions x.1 y.1)

  pub automatic_once : (a b : List Plan) → AreAutomatic p profile rate most workers a → AreAutomatic p profile rate most workers b → a ≡ b
  automatic_once a b x y = one_list a b (x.regions ∙ sym y.regions) x.each y.each
