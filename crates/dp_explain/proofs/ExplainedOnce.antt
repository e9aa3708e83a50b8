-- There is one text that explains plans.
use Rattle.std.proofs.Common.{◌≡◌, refl, sym, ap, ◌∙◌, subst, ℕ, List, [], ◌∷◌, ◌++◌, codes, length, Option}
use Rattle.dp_tree.specs.declared.Program.{Program}
use Rattle.dp_plan.specs.declared.Plan.{Plan}
use Rattle.dp_plan_text.specs.WrittenText.{plans_text}
use Rattle.dp_profile.specs.declared.Profile.{Profile}
use Rattle.dp_depend.specs.Node.{region_nodes}
use Rattle.dp_units.specs.declared.classes.Units.{Units}
use Rattle.dp_units.specs.Order.{ArePlaces}
use Rattle.dp_units.proofs.OrderOnce.{one_order, same_places}
use Rattle.dp_cut.specs.Automatic.{node_pairs}
use Rattle.dp_explain.specs.Explanation.{IsExplanation, Reasons, none, more}
use Rattle.dp_explain.specs.Reasons.{AreUnits, reason_text}

abbrev made_of : List ℕ → List ℕ → Units
made_of places order = record { place_of = places; order = order }

module _ (p : Program) (profile : Option Profile) (rate : ℕ) where
  units_once : (r : ℕ) (a b : Units) → AreUnits p r profile rate a → AreUnits p r profile rate b → a ≡ b
  units_once r a b x y =
      let count = length (region_nodes p r) in
      let pairs = node_pairs p r profile rate in
      let orders : a.order ≡ b.order = one_order count pairs a.order b.order x.ordered y.ordered in
      let placed : ArePlaces count pairs b.order a.place_of = subst (λ (order : List ℕ). ArePlaces count pairs order a.place_of) orders x.placed in
      let places : a.place_of ≡ b.place_of = same_places count pairs b.order a.place_of b.place_of y.ordered placed y.placed in
      ap (λ (order : List ℕ). made_of a.place_of order) orders ∙ ap (λ (placed_at : List ℕ). made_of placed_at b.order) places

  -- the first plan's part, and those behind it
  record Split (plan : Plan) (rest : List Plan) (text : List ℕ) : Type 0 where
    units : Units
    later : List ℕ
    are : AreUnits p plan.region profile rate units
    behind : Reasons p profile rate rest later
    is : text ≡ reason_text p profile rate units plan ++ later

  abbrev Parts : List Plan → List ℕ → Type 0
  Parts [] text = text ≡ []
  Parts (plan ∷ rest) text = Split plan rest text

  parts_of : {plans : List Plan} {text : List ℕ} → Reasons p profile rate plans text → Parts plans text
  parts_of none = refl
  parts_of (more plan rest units later are behind) = record { units = units; later = later; are = are; behind = behind; is = refl }

  reasons_once : (plans : List Plan) (text other : List ℕ) → Reasons p profile rate plans text → Reasons p profile rate plans other → text ≡ other
  reasons_once [] text other x y = parts_of x ∙ sym (parts_of y)
  reasons_once (plan ∷ rest) text other x y =
      let a : Split plan rest text = parts_of x in
      let b : Split plan rest other = parts_of y in
      a.is ∙ ap (λ (u : Units). reason_text p profile rate u plan ++ a.later) (units_once plan.region a.units b.units a.are b.are)
      ∙ ap (λ (zs : List ℕ). reason_text p profile rate b.units plan ++ zs) (reasons_once rest a.later b.later a.behind b.behind) ∙ sym b.is

pub explained_once : (p : Program) (profile : Option Profile) (rate : ℕ) (plans : List Plan) (text other : List ℕ) → IsExplanation p profile rate plans text →
    IsExplanation p profile rate plans other → text ≡ other
explained_once p profile rate plans text other x y =
    x.is ∙ ap (λ (reasons : List ℕ). plans_text p plans ++ (reasons ++ codes "end\n")) (reasons_once p profile rate plans x.reasons y.reasons x.are y.are)
    ∙ sym y.is
