-- The other plan at a place is one under which the region of that place may be run.
use Rattle.std.proofs.Common.{◌≡◌, sym, ap, ◌∙◌, subst, ℕ, zero, suc, ◌+◌, ◌++◌, ◌≤◌, Bool, true, ◌&&◌, List, [], ◌∷◌, map, length, nat_lt, Some, slice_get}
use Rattle.std.proofs.Common.{inl, inr, arith, drop, length-append}
use Rattle.std.proofs.lemmas.List.{length-map, length-drop}
use Rattle.std.proofs.lemmas.Bool.{and_parts, cases_Bool}
use Rattle.dp_tree.specs.declared.Program.{Program}
use Rattle.dp_tree.specs.Inlined.{IsInlined}
use Rattle.dp_plan.specs.declared.Plan.{Plan}
use Rattle.dp_plan.specs.Each.{Each}
use Rattle.dp_plan.specs.GivenPlans.{IsPlan}
use Rattle.dp_prepared.proofs.Plans.{planned}
use Rattle.dp_run_plan.specs.Others.{MayRunAs, checks_nothing, plan_entry, other_of, others_of}
use Rattle.dp_run_plan.specs.RunPlan.{hides_nothing, one_stage}
use Rattle.dp_run_plan.proofs.OneStage.{one_stage_runs}
use Rattle.dp_run_plan.proofs.OneStageValid.{one_stage_is_plan}
use Rattle.dp_run_plan.proofs.Tables.{table_tells}

module _ (p : Program) (inlined : IsInlined p) (chooses : Bool) where
  -- the other plan of a plan that is given
  may_run : (plan : Plan) → IsPlan p plan → MayRunAs p plan (other_of chooses plan)
  may_run plan is = elim (cases_Bool (chooses && nat_lt 1 (length plan.stages) && checks_nothing plan)) [
    | inl e ↦
        let hides : hides_nothing p plan ≡ true = sym (table_tells p inlined plan is)
        ∙ (and_parts (chooses && nat_lt 1 (length plan.stages)) (checks_nothing plan) e).1 in
        rw e (planned p inlined (one_stage plan) (one_stage_is_plan p inlined plan is), one_stage_runs p inlined plan is hides)
    | inr e ↦ rw e tt
  ]

  pub may_run_at : (plans : List Plan) (i : ℕ) (plan : Plan) → Each (IsPlan p) plans → slice_get plans i ≡ Some plan →
      MayRunAs p plan (plan_entry (slice_get (others_of chooses plans) i))
  may_run_at [] i plan each at = absurd (cc at)
  may_run_at (x ∷ plans) zero plan each at = let is : x ≡ plan = cc at in subst (λ (q : Plan). MayRunAs p q (other_of chooses x)) is (may_run x each.0)
  may_run_at (x ∷ plans) (suc i) plan each at = may_run_at plans i plan each.1 at

-- what is made of the items before a place is as long as the place
pub place_is : {A B : Type 0} (f : A → B) (made : List B) (all : List A) (i : ℕ) → i ≤ length all → made ++ map f (drop i all) ≡ map f all → length made ≡ i
place_is f made all i le e =
    let whole : length made + length (map f (drop i all)) ≡ length (map f all) = sym (length-append made (map f (drop i all))) ∙ ap length e in
    omega (arith, whole, le, length-map (drop i all) f, length-map all f, length-drop i all)
