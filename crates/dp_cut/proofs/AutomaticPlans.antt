-- Plans that are made region by region.
use Rattle.std.proofs.Common.{◌≡◌, refl, sym, ap, subst, ◌∙◌, ℕ, zero, suc, ◌+◌, ◌<◌, ◌≤◌, List, [], ◌∷◌, ◌++◌, map, length, sum, drop, drop-cons, get_or}
use Rattle.std.proofs.Common.{Option, arith}
use Rattle.std.proofs.lemmas.List.{map-append}
use Rattle.std.proofs.lemmas.List.Sums.{sum_by-cons}
use Rattle.dp_plan.proofs.EachLemmas.{each-append}
use Rattle.dp_tree.specs.declared.Program.{Program}
use Rattle.dp_tree.specs.Numbering.{numbers_from}
use Rattle.dp_plan.specs.declared.Plan.{Plan}
use Rattle.dp_plan.specs.GivenPlans.{region_of}
use Rattle.dp_plan.specs.Each.{Each}
use Rattle.dp_profile.specs.declared.Profile.{Profile}
use Rattle.dp_tree.specs.declared.Assume.{Assume}
use Rattle.dp_depend.specs.declared.Edge.{Edge}
use Rattle.dp_depend.specs.Edges.{chosen_of, edges_of}
use Rattle.dp_depend.specs.Node.{region_nodes}
use Rattle.dp_units.specs.Order.{ArePlaces, IsOrder}
use Rattle.dp_cut.specs.Automatic.{AreAutomatic, IsAutomatic, node_pairs, weights_of}
use Rattle.dp_cut.specs.LeastPlan.{IsLeastPlan}

numbers_more : (k n : ℕ) → numbers_from k n ++ (k + n) ∷ [] ≡ numbers_from k (suc n)
numbers_more k zero = let e : k + 0 ≡ k = omega arith in ap (λ (i : ℕ). i ∷ []) e
numbers_more k (suc n) =
    let e : k + suc n ≡ (k + 1) + n = omega arith in
    ap (λ (i : ℕ). k ∷ (numbers_from (k + 1) n ++ i ∷ [])) e ∙ ap (λ (l : List ℕ). k ∷ l) (numbers_more (k + 1) n)

module _ (p : Program) (profile : Option Profile) (rate most workers : ℕ) where
  -- the plans of the first so many regions
  pub record Made (count : ℕ) (plans : List Plan) : Type 0 where
    pub within : count ≤ length p.regions
    pub regions : map region_of plans ≡ numbers_from 1 count
    pub least : Each (λ (plan : Plan). IsAutomatic p plan.region profile rate most workers plan) plans

  pub made_none : Made 0 []
  made_none = record { within = omega arith; regions = refl; least = tt }

  pub made_more : (count : ℕ) (plans : List Plan) (plan : Plan) → count < length p.regions → Made count plans →
      IsAutomatic p (count + 1) profile rate most workers plan → Made (count + 1) (plans ++ plan ∷ [])
  made_more count plans plan low made least =
      let region : plan.region ≡ count + 1 = ap region_of least.least.is in
      let number : plan.region ≡ 1 + count = omega (arith, region) in
      let next : suc count ≡ count + 1 = omega arith in
      record {
        within = omega (arith, low);
        regions = map-append region_of plans (plan ∷ []) ∙ ap (λ (l : List ℕ). l ++ plan.region ∷ []) made.regions
            ∙ ap (λ (i : ℕ). numbers_from 1 count ++ i ∷ []) number ∙ numbers_more 1 count ∙ ap (numbers_from 1) next;
        least = each-append (λ (q : Plan). IsAutomatic p q.region profile rate most workers q) plans plan made.least
            (subst (λ (i : ℕ). IsAutomatic p i profile rate most workers plan) (sym region) least);
      }

pub made_least : (p : Program) (profile : Option Profile) (rate most workers count : ℕ) (plans : List Plan) → length p.regions ≤ count →
    Made p profile rate most workers count plans → AreAutomatic p profile rate most workers plans
made_least p profile rate most workers count plans all made =
    let whole : count ≡ length p.regions = omega (arith, all, made.within) in
    record { regions = made.regions ∙ ap (numbers_from 1) whole; each = made.least }

pub automatic_made : (p : Program) (r : ℕ) (profile : Option Profile) (rate most workers : ℕ) (plan : Plan) (order places weights : List ℕ) (count : ℕ)
    (pairs : List (ℕ × ℕ)) (edges : List Edge) (chosen : List Assume)
    → count ≡ length (region_nodes p r) → pairs ≡ node_pairs p r profile rate → weights ≡ weights_of p r profile → edges ≡ edges_of p r profile rate →
    chosen ≡ chosen_of p r profile rate
    → IsOrder count pairs order → ArePlaces count pairs order places → IsLeastPlan p r edges chosen order places weights most workers plan →
    IsAutomatic p r profile rate most workers plan
automatic_made p r profile rate most workers plan order places weights count pairs edges chosen count_is pairs_are weights_are edges_are chosen_are ordered
    placed least = record {
      order = order;
      places = places;
      ordered = subst (λ (n : ℕ). IsOrder n (node_pairs p r profile rate) order) count_is
          (subst (λ (qs : List (ℕ × ℕ)). IsOrder count qs order) pairs_are ordered);
      placed = subst (λ (n : ℕ). ArePlaces n (node_pairs p r profile rate) order places) count_is
          (subst (λ (qs : List (ℕ × ℕ)). ArePlaces count qs order places) pairs_are placed);
      least = subst (λ (es : List Edge). IsLeastPlan p r es (chosen_of p r profile rate) order places (weights_of p r profile) most workers plan) edges_are
          (subst (λ (cs : List Assume). IsLeastPlan p r edges cs order places (weights_of p r profile) most workers plan) chosen_are
          (subst (λ (ws : List ℕ). IsLeastPlan p r edges chosen order places ws most workers plan) weights_are least));
    }

pub sum_next : (ws : List ℕ) (i w : ℕ) → i < length ws → w ≡ get_or ws i w → sum (drop i ws) ≡ w + sum (drop (i + 1) ws)
sum_next ws i w lt is =
    let next : suc i ≡ i + 1 = omega arith in
    ap sum (drop-cons ws i w lt) ∙ sum_by-cons (λ (y : ℕ). y) (get_or ws i w) (drop (suc i) ws) ∙ ap (λ (v : ℕ). v + sum (drop (suc i) ws)) (sym is)
    ∙ ap (λ (j : ℕ). w + sum (drop j ws)) next
