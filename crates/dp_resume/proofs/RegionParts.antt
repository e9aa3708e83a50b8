-- The regions of a prepared program before a place, at it, and behind it.
use Rattle.std.proofs.Common.{◌≡◌, sym, ap, ◌∙◌, ℕ, ◌<◌, List, length, map, take, drop, Some, get_or, arith}
use Rattle.std.proofs.lemmas.List.{drop-map, length-map, take-map}
use Rattle.std.proofs.lemmas.Option.{slice_get-get_or}
use Rattle.dp_tree.specs.declared.Program.{Program}
use Rattle.dp_plan.specs.declared.Plan.{Plan}
use Rattle.dp_prepared.specs.Planned.{Prepared, prepared_of}
use Rattle.dp_run.specs.Prepared.{AreOf, plans_in}
use Rattle.dp_run.proofs.PlansIn.{of_at, of_program, plans_are}

module _ (p : Program) (plans : List Plan) (regions : List Prepared) (are : regions ≡ map (prepared_of p) plans) (n : ℕ) where
  many : length regions ≡ length plans
  many = ap (λ (rs : List Prepared). length rs) are ∙ length-map plans (prepared_of p)

  pub own_at_place : (r : Prepared) → n < length plans → r ≡ get_or regions n r → r.program ≡ p
  own_at_place r few is = of_at p regions n r (of_program p plans regions are) (slice_get-get_or regions n r (omega (arith, few, many)) ∙ ap Some (sym is))

  module _ (part : List Prepared) where
    first : part ≡ take n regions → part ≡ map (prepared_of p) (take n plans)
    first is = is ∙ ap (take n) are ∙ take-map (prepared_of p) n plans

    pub plans_before : part ≡ take n regions → plans_in part ≡ take n plans
    plans_before is = plans_are p (take n plans) part (first is)

    pub own_before : part ≡ take n regions → AreOf p part
    own_before is = of_program p (take n plans) part (first is)

    rest : part ≡ drop n regions → part ≡ map (prepared_of p) (drop n plans)
    rest is = is ∙ ap (drop n) are ∙ drop-map (prepared_of p) n plans

    pub plans_behind : part ≡ drop n regions → plans_in part ≡ drop n plans
    plans_behind is = plans_are p (drop n plans) part (rest is)

    pub own_behind : part ≡ drop n regions → AreOf p part
    own_behind is = of_program p (drop n plans) part (rest is)
