-- A region that is reached is one of the program, and has a plan.
use Rattle.std.proofs.Common.{◌≡◌, refl, sym, ap, ◌∙◌, ℕ, zero, suc, ◌+◌, ◌-◌, ◌<◌, ◌≤◌, ◌==◌, Bool, true, false, List, [], ◌∷◌, ◌++◌, ℤ, length, map, Some}
use Rattle.std.proofs.Common.{None, slice_get, inl, inr, arith, eqb-true}
use Rattle.std.proofs.lemmas.Bool.{cases_lt, eqb-false}
use Rattle.dp_tree.specs.declared.Stmt.{Stmt, out-Stmt}
use Rattle.dp_tree.specs.declared.Program.{Program}
use Rattle.dp_tree.specs.Inlined.{IsInlined}
use Rattle.dp_tree.specs.Iteration.{is_region, stands_at_head, start, starts}
use Rattle.dp_tree.specs.Numbering.{numbers_from}
use Rattle.dp_tree.specs.Step.{Config, standing}
use Rattle.dp_tree.specs.Trace.{run_of}
use Rattle.dp_plan.specs.declared.Plan.{Plan}
use Rattle.dp_plan.specs.Each.{Each}
use Rattle.dp_plan.specs.GivenPlans.{IsPlan, region_of}
use Rattle.dp_semantics.specs.EpochKey.{statements_from}
use Rattle.dp_semantics.specs.Verdict.{source_run}
use Rattle.dp_theorem.proofs.Turns.{start_at, starts_at_once}
use Rattle.dp_run.specs.Given.{AreGiven}
use Rattle.dp_run.specs.Regions.{regions_left}
use Rattle.dp_run.proofs.HeadPlaces.{FoundAt, found_at}
use Rattle.dp_run.proofs.InOrder.{left_join, number_at, stands_at_region, within_numbers}
use Rattle.dp_run.proofs.RegionsLeft.{left_cons}
use Rattle.dp_run.proofs.Tops.{regions_numbered}
use Rattle.dp_resume.proofs.Reached.{from_is, stands_at, statement_is, taken}

-- ---- the plan of a region

module _ (p : Program) where
  find_here : (first count : ℕ) (plan : Plan) (xs : List Plan) (r : ℕ) (b : Bool) → (first == r) ≡ b → plan.region ≡ first → IsPlan p plan → first ≤ r →
      (first < r → (found : Plan) × IsPlan p found × (found.region ≡ r)) → (found : Plan) × IsPlan p found × (found.region ≡ r)
  find_here first count plan xs r true e number is low on = (plan, is, number ∙ eqb-true first r e)
  find_here first count plan xs r false e number is low on = elim (cases_lt first r) [
    | inl less ↦ on less
    | inr le ↦ let same : first ≡ r = omega (arith, low, le) in absurd (eqb-false first r e same)
  ]

  pub find_plan : (first count : ℕ) (xs : List Plan) → map region_of xs ≡ numbers_from first count → Each (IsPlan p) xs → (r : ℕ) → first ≤ r →
      r < first + count → (plan : Plan) × IsPlan p plan × (plan.region ≡ r)
  find_plan first zero xs numbers each r low high = absurd (omega (arith, low, high))
  find_plan first (suc count) [] numbers each r low high = absurd (cc numbers)
  find_plan first (suc count) (plan ∷ xs) numbers each r low high =
      let number : plan.region ≡ first = cc numbers in let others : map region_of xs ≡ numbers_from (first + 1) count = cc numbers in
      find_here first count plan xs r (first == r) refl number each.0 low (λ less. find_plan (first + 1) count xs others each.1 r (omega (arith, less))
      (omega (arith, high)))

-- ---- a region that stands in `main`

module _ (p : Program) (inlined : IsInlined p) (input : List ℤ) (fuel r n k : ℕ) (e : start (source_run p input fuel) r n ≡ Some k) where
  here : FoundAt (stands_at_head r) (source_run p input fuel).configs k
  here = found_at (stands_at_head r) (source_run p input fuel).configs n k e

  pub region_within : (1 ≤ r) × (r < 1 + length p.regions)
  region_within =
      let a = stands_at_region p r here.found (stands_at p inlined input fuel k here.found here.at) here.passes in
      within_numbers (regions_left a.before) (regions_left a.rest) 1 (length p.regions) r
      (sym (regions_numbered p inlined) ∙ ap regions_left a.main_is ∙ left_join a.before (a.statement ∷ a.rest)
      ∙ ap (λ (ns : List ℕ). regions_left a.before ++ ns) (left_cons a.statement a.rest (Some r) (number_at r (out-Stmt a.statement) a.at)))

-- ---- a region of the program

suffix_numbers : (xs ys : List ℕ) (first count r : ℕ) → numbers_from first count ≡ xs ++ r ∷ ys → r ∷ ys ≡ numbers_from r (first + count - r)
suffix_numbers xs ys first zero r e = absurd (by xs e)
  where
    by : (xs : List ℕ) → [] ≡ xs ++ r ∷ ys → ⊥
    by [] e = cc e
    by (x ∷ xs) e = cc e
suffix_numbers [] ys first (suc count) r e =
    let same : first ≡ r = cc e in let all : first + suc count - r ≡ suc count = omega (arith, same) in
    sym e ∙ ap (λ (k : ℕ). numbers_from k (suc count)) same ∙ ap (numbers_from r) (sym all)
suffix_numbers (x ∷ xs) ys first (suc count) r e =
    let more : numbers_from (first + 1) count ≡ xs ++ r ∷ ys = cc e in let same : (first + 1) + count - r ≡ first + suc count - r = omega arith in
    suffix_numbers xs ys (first + 1) count r more ∙ ap (numbers_from r) same

module _ (p : Program) (plans : List Plan) (given : AreGiven p plans) (r : ℕ) (low : 1 ≤ r) (high : r ≤ length p.regions) where
  planned : (plan : Plan) × IsPlan p plan × (plan.region ≡ r)
  planned = find_plan p 1 (length p.regions) plans given.plans_are.regions given.plans_are.each r low (omega (arith, high))

  left_by : (plan : Plan) → IsPlan p plan → plan.region ≡ r → regions_left (statements_from r p.main) ≡ numbers_from r (1 + length p.regions - r)
  left_by plan is number =
      let a = taken p given.inlined plan is in
      let on : is_region r (out-Stmt a.statement) ≡ true = ap (λ (q : ℕ). is_region q (out-Stmt a.statement)) (sym number)
      ∙ statement_is p given.inlined plan is in
      let here : regions_left (a.statement ∷ a.tail) ≡ r ∷ regions_left a.tail = left_cons a.statement a.tail (Some r)
      (number_at r (out-Stmt a.statement) on) in
      ap (λ (q : ℕ). regions_left (statements_from q p.main)) (sym number) ∙ ap regions_left (from_is p given.inlined plan is) ∙ here
      ∙ suffix_numbers (regions_left a.front) (regions_left a.tail) 1 (length p.regions) r
      (sym (regions_numbered p given.inlined) ∙ ap regions_left a.main_is ∙ left_join a.front (a.statement ∷ a.tail)
      ∙ ap (λ (ns : List ℕ). regions_left a.front ++ ns) here)

  -- the regions that are left from this one on
  pub left_at : regions_left (statements_from r p.main) ≡ numbers_from r (1 + length p.regions - r)
  left_at = left_by planned.0 planned.1 planned.2

  starts_by : (plan : Plan) → IsPlan p plan → plan.region ≡ r → (input : List ℤ) (fuel : ℕ) (cells : List ℤ) →
      starts (run_of p input fuel (standing p (statements_from r p.main) cells)) r ≡ [] → ⊥
  starts_by plan is number input fuel cells none =
      let a = taken p given.inlined plan is in
      let at_once = starts_at_once a input 0 fuel cells in
      let from : standing p (statements_from r p.main) cells ≡ start_at a input cells = ap (λ (q : ℕ). standing p (statements_from q p.main) cells) (sym number)
      ∙ ap (λ (xs : List Stmt). standing p xs cells) (from_is p given.inlined plan is) in
      let empty : starts (run_of p input fuel (start_at a input cells)) plan.region ≡ [] = ap (starts (run_of p input fuel (start_at a input cells))) number
      ∙ ap (λ (c : Config). starts (run_of p input fuel c) r) (sym from) ∙ none in
      let bad : None ≡ Some 0 = ap (λ (ks : List ℕ). slice_get ks 0) (sym empty) ∙ at_once in cc bad

  -- where its condition comes next it starts at once
  pub starts_there : (input : List ℤ) (fuel : ℕ) (cells : List ℤ) → starts (run_of p input fuel (standing p (statements_from r p.main) cells)) r ≡ [] → ⊥
  starts_there = starts_by planned.0 planned.1 planned.2
