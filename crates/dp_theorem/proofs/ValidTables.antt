-- The table of a valid plan of an inlined program is right.
use Rattle.dp_semantics.proofs.Names.{◌≡◌, refl, sym, subst, true, List, [], ◌∷◌, nat_lt, nat_le, length, list_all, Program, Plan, Access, access_known}
use Rattle.dp_semantics.proofs.Names.{fits_plan, has_cell, stores_known, region_accesses, stage_of, and_parts, and_from}
use Rattle.dp_tree.specs.Inlined.{IsInlined}
use Rattle.dp_plan.specs.CheckedTable.{IsTabled, is_staged}
use Rattle.dp_plan.specs.Written.{plan_before_table}
use Rattle.dp_plan.proofs.TableLemmas.{table_right}
use Rattle.dp_semantics.specs.ValidPlan.{ValidPlanTabled}
use Rattle.dp_theorem.proofs.ValidFits.{valid_fits}

known_staged : (p : Program) (plan : Plan) (xs : List Access) → list_all (access_known p plan) xs ≡ true → list_all (is_staged p plan) xs ≡ true
known_staged p plan [] known = refl
known_staged p plan (a ∷ xs) known =
    let both = and_parts (access_known p plan a) (list_all (access_known p plan) xs) known in
    let named = and_parts (list_all (has_cell p) a.loads) _ both.0 in
    let stored = and_parts (stores_known p a.stores) _ named.1 in
    let staged = and_parts (nat_lt 0 (stage_of p plan a.site)) (nat_le (stage_of p plan a.site) (length plan.stages)) stored.1 in
    and_from _ _ staged.0 (known_staged p plan xs both.1)

pub valid_tabled : (p : Program) (q : Plan) → IsInlined p → ValidPlanTabled p q
valid_tabled p q inlined w written =
    let fits = subst (λ (u : Plan). fits_plan p u ≡ true) written.plan_is (valid_fits p q inlined w written) in
    let known = (and_parts _ _ (and_parts _ _ fits).1).0 in
    subst (λ (u : Plan). IsTabled p u) (sym written.plan_is) (table_right p (plan_before_table p q.proved w) (known_staged p (plan_before_table p q.proved w)
    (region_accesses p (plan_before_table p q.proved w)) known))
