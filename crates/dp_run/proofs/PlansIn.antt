-- The plans of prepared regions.
use Rattle.std.proofs.Common.{◌≡◌, refl, sym, ap, subst, ◌∙◌, ℕ, zero, suc, List, [], ◌∷◌, map, Some, slice_get}
use Rattle.std.proofs.lemmas.Option.{slice_get-map}
use Rattle.std.specs.Option.{option_map}
use Rattle.dp_tree.specs.declared.Program.{Program}
use Rattle.dp_plan.specs.declared.Plan.{Plan}
use Rattle.dp_prepared.specs.Planned.{Prepared, prepared_of}
use Rattle.dp_run.specs.Prepared.{AreOf, IsOf, PlannedProgram, plan_in, plans_in}

pub plan_at : (regions : List Prepared) (k : ℕ) (r : Prepared) → slice_get regions k ≡ Some r → slice_get (plans_in regions) k ≡ Some r.plan
plan_at regions k r is = slice_get-map plan_in regions k ∙ ap (option_map plan_in) is

-- a region of a program's is one of the program
pub of_at : (p : Program) (regions : List Prepared) (k : ℕ) (r : Prepared) → AreOf p regions → slice_get regions k ≡ Some r → r.program ≡ p
of_at p [] k r are is = absurd (cc is)
of_at p (x ∷ regions) zero r are is = let same : x ≡ r = cc is in subst (IsOf p) same are.0
of_at p (x ∷ regions) (suc k) r are is = of_at p regions k r are.1 is

-- regions that were prepared for these plans
pub plans_prepared : (p : Program) (plans : List Plan) → plans_in (map (prepared_of p) plans) ≡ plans
plans_prepared p [] = refl
plans_prepared p (plan ∷ plans) = ap (λ (rest : List Plan). plan ∷ rest) (plans_prepared p plans)

pub are_prepared : (p : Program) (plans : List Plan) → AreOf p (map (prepared_of p) plans)
are_prepared p [] = tt
are_prepared p (plan ∷ plans) = (refl, are_prepared p plans)

-- .. and all regions of one program are so
pub as_prepared : (p : Program) (regions : List Prepared) → AreOf p regions → regions ≡ map (prepared_of p) (plans_in regions)
as_prepared p [] are = refl
as_prepared p (r ∷ regions) are = λ i. record { program = are.0 i; plan = r.plan } ∷ as_prepared p regions are.1 i

module _ (p : Program) (plans : List Plan) (regions : List Prepared) (are : regions ≡ map (prepared_of p) plans) where
  pub plans_are : plans_in regions ≡ plans
  plans_are = ap plans_in are ∙ plans_prepared p plans

  pub of_program : AreOf p regions
  of_program = subst (AreOf p) (sym are) (are_prepared p plans)

-- the program with these plans
pub shown_as : (p : Program) (plans other : List Plan) → plans ≡ other → ◌≡◌ {A = PlannedProgram} (record { program = p; plans = plans })
    (record { program = p; plans = other })
shown_as p plans other same = λ i. record { program = p; plans = same i }
