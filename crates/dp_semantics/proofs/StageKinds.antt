-- The kinds of the stages of a plan that fits its program.
use Rattle.dp_semantics.proofs.Names.{◌≡◌, inl, inr, refl, ap, ℕ, zero, suc, ◌+◌, true, false, not, length, arith, slice_get_past, cases_lt, both_ways}
use Rattle.dp_semantics.proofs.Names.{not-true, list_all, Program, Plan, is_par, is_replicated, region_statement, region_accesses, numbers_from, cells_in_order}
use Rattle.dp_semantics.proofs.Names.{access_known, one_region, region_alone, kinds_apart, kinds_fit, fits_plan, and_parts, and-true}
use Rattle.dp_semantics.proofs.Counts.{all_count}

-- the first stage is sequential, and no stage next to a replicated one is replicated
pub record Kinds (plan : Plan) : Type 0 where
  pub sequential : is_replicated plan 1 ≡ false
  pub apart : (s : ℕ) → is_replicated plan (suc s) ≡ true → is_replicated plan s ≡ false

module _ (plan : Plan) (fit : kinds_fit plan ≡ true) where
  tests : (not (is_replicated plan 1) ≡ true) × (list_all (kinds_apart plan) (numbers_from 1 (length plan.stages)) ≡ true)
  tests = and_parts (not (is_replicated plan 1)) (list_all (kinds_apart plan) (numbers_from 1 (length plan.stages))) fit

  apart_at : (s : ℕ) → is_replicated plan (suc s) ≡ true → is_replicated plan s ≡ false
  apart_at zero rep = refl
  apart_at (suc s) rep = elim (cases_lt (suc s) (length plan.stages)) [
    | inl h ↦
        let next : suc s + 1 ≡ suc (suc s) = omega arith in
        let apart = all_count (kinds_apart plan) (length plan.stages) 1 (suc s) tests.1 (omega arith) (omega (arith, h)) in
        not-true (is_replicated plan (suc s)) (rw (next, rep, and-true (is_replicated plan (suc s))) at apart)
    | inr h ↦ absurd (both_ways (is_replicated plan (suc (suc s))) (ap is_par (slice_get_past plan.stages (suc s) h)) rep)
  ]

  pub kinds_of : Kinds plan
  kinds_of = record { sequential = not-true (is_replicated plan 1) tests.0; apart = apart_at }

-- .. as the whole test says it
pub fitting_kinds : (p : Program) (plan : Plan) → fits_plan p plan ≡ true → Kinds plan
fitting_kinds p plan e =
    let one = and_parts (cells_in_order plan.region 0 p.vars) _ e in
    let two = and_parts (list_all (access_known p plan) (region_accesses p plan)) _ one.1 in
    let three = and_parts (one_region p plan (region_statement p plan)) _ two.1 in
    kinds_of plan (and_parts (list_all (region_alone plan.region) p.main) (kinds_fit plan) three.1).1
