-- What is reported of a region's own run is what is reported of it in the whole run.
use Rattle.std.proofs.Common.{◌≡◌, refl, sym, ap, subst, ◌∙◌, ℕ, suc, ◌+◌, ◌-◌, ◌<◌, ◌≤◌, Bool, true, false, if◌then◌else◌, cond, List, [], ◌∷◌, ℤ, length, map}
use Rattle.std.proofs.Common.{take, count_by, nat_lt, Some, slice_get, arith, rules}
use Rattle.std.proofs.lemmas.List.Sums.{sum_by-cons, count_by-le-length, length-filter}
use Rattle.dp_base.specs.declared.Cause.{Cause as ReportedCause}
use Rattle.dp_tree.specs.declared.Program.{Program}
use Rattle.dp_tree.specs.Trace.{Run, run_of}
use Rattle.dp_tree.specs.Iteration.{starts, start, places, begun_count, stands_at_head}
use Rattle.dp_plan.specs.declared.Plan.{Plan}
use Rattle.dp_tree.specs.Numbering.{numbers_from}
use Rattle.dp_semantics.specs.Recovery.{is_recovered, recovered}
use Rattle.dp_semantics.specs.Cause.{cause}
use Rattle.dp_semantics.specs.Reported.{reported, report_of, region_report}
use Rattle.dp_semantics.specs.Shift.{SameRegion}
use Rattle.dp_theorem.proofs.Shift.{region_runs_alone}
use Rattle.dp_meaning.specs.declared.ends.Part.TheVariants as part
use Rattle.dp_meaning.specs.MachineState.{MachineState, fuel_left, rest_of_run, part_of}
use Rattle.dp_epoch.specs.RegionRun.{beyond, region_run}
use Rattle.dp_run.specs.RunText.{committed_count}
use Rattle.dp_run.specs.Stretches.{Between, RunsFrom}
use Rattle.dp_run.proofs.Lists.{map_same}
use Rattle.dp_run.proofs.RegionsLeft.{on_region}
use Rattle.dp_run.proofs.Leading.{config_here}
use Rattle.dp_theorem.proofs.Central.{fuel_is}
use Rattle.dp_commit.proofs.Parts.{run_begins}
use Rattle.dp_tree.proofs.NumberLists.{length-numbers_from}

module _ (p : Program) (plan : Plan) (input : List ℤ) (fuel : ℕ) (run : Run) (n : ℕ) (m : MachineState) (number : plan.region ≡ suc n)
    (b : Between p input fuel run n m) (here : part_of m.config.to_do ≡ part.Region (suc n)) where
  abbrev start_is : RunsFrom p input fuel run
  start_is = b.behind.begins

  abbrev made : ℕ
  made = length b.behind.passed.events

  -- the region's first iteration starts here
  first_start : start run plan.region 0 ≡ Some (made + 0)
  first_start =
      let begins = run_begins m.program m.input (fuel_left m) m.config in
      let more = places (stands_at_head (suc n)) 1 begins.0 in
      let rest_starts : starts (rest_of_run m) (suc n) ≡ 0 ∷ more =
      ap (places (stands_at_head (suc n)) 0) begins.1 ∙ ap (λ (t : Bool). if t then 0 ∷ more else more) (on_region (suc n) m.config here) in
      ap (λ (r : ℕ). start run r 0) number ∙ ap (λ (ks : List ℕ). slice_get ks 0) (b.behind.passed.ahead (suc n) (omega arith)
      ∙ ap (map (beyond made)) rest_starts)

  left_is : start_is.steps - (made + 0) ≡ fuel_left m
  left_is =
      let all : run.fuel ≡ start_is.steps = ap (λ (u : Run). u.fuel) start_is.run_is ∙ fuel_is p input start_is.steps start_is.from in
      let rest = fuel_is m.program m.input (fuel_left m) m.config in
      omega (arith, all, rest, b.behind.passed.piece.fuel)

  -- the region's own run
  pub own_is : run_of p input (start_is.steps - (made + 0)) m.config ≡ region_run m
  own_is =
      ap (λ (k : ℕ). run_of p input k m.config) left_is ∙ ap (λ (q : Program). run_of q input (fuel_left m) m.config) (sym b.behind.program_is)
      ∙ ap (λ (zs : List ℤ). run_of m.program zs (fuel_left m) m.config) (sym b.behind.input_is)

  abbrev own : Run
  own = run_of p input (start_is.steps - (made + 0)) m.config

  -- .. has all that is said of the region's iterations
  pub same : SameRegion p plan (made + 0) run (run_of p input (start_is.steps - (made + 0)) m.config)
  same = subst (λ (u : Run). SameRegion p plan (made + 0) u own) (sym start_is.run_is)
      (region_runs_alone p plan input start_is.steps (made + 0) start_is.from m.config
      (subst (λ (u : Run). slice_get u.configs (made + 0) ≡ Some m.config) start_is.run_is (config_here p input fuel run n m b))
      (subst (λ (u : Run). start u plan.region 0 ≡ Some (made + 0)) start_is.run_is first_start))

  report_own : region_report p plan run ≡ region_report p plan own
  report_own =
      ap (λ (k : ℕ). report_of plan.region k (recovered p plan run) (λ i. reported (cause p plan run i))) same.begun_in_all
      ∙ ap (λ (ks : List ℕ). report_of plan.region (begun_count own plan.region) ks (λ i. reported (cause p plan run i))) same.recovered_list
      ∙ ap (λ (cs : List ReportedCause). record {
        region = plan.region;
        iterations = begun_count own plan.region;
        recovered_count = length (recovered p plan
            own);
        recovered = take 1000 (recovered p plan own);
        causes = cs;
      })
      (map_same (λ i. reported (cause p plan run i)) (λ i. reported (cause p plan own i)) (λ i. ap reported (same.cause i)) (take 1000 (recovered p plan own)))

  pub report_is : region_report p plan (region_run m) ≡ region_report p plan run
  report_is = sym (report_own ∙ ap (region_report p plan) own_is)

pub few_recovered : (p : Program) (plan : Plan) (run : Run) → length (recovered p plan run) ≤ begun_count run plan.region
few_recovered p plan r = let ns : List ℕ = numbers_from 0 (begun_count r plan.region) in
    omega (arith, length-filter (is_recovered p plan r) ns, count_by-le-length (is_recovered p plan r) ns, length-numbers_from 0 (begun_count r plan.region))

-- Iterations are begun at different steps within the fuel, so there are no more of them than steps.
places_few : {X : Type 0} (test : X → Bool) (k n : ℕ) (xs : List X) → count_by (λ j. nat_lt j n) (places test k xs) ≤ n - k
places_few test k n [] = omega arith
places_few test k n (x ∷ xs) = by (test x) (places_few test (suc k) n xs)
  where
    one : (b : Bool) → nat_lt k n ≡ b → count_by (λ j. nat_lt j n) (places test (suc k) xs) ≤ n - suc k →
        cond b 1 0 + count_by (λ j. nat_lt j n) (places test (suc k) xs) ≤ n - k
    one true e h = let less : k < n = search (rules, e) in omega (arith, h, less)
    one false e h = omega (arith, h)

    by : (t : Bool) → count_by (λ j. nat_lt j n) (places test (suc k) xs) ≤ n - suc k →
        count_by (λ j. nat_lt j n) (if t then k ∷ places test (suc k) xs else places test (suc k) xs) ≤ n - k
    by true h = let c = sum_by-cons (λ j. cond (nat_lt j n) 1 0) k (places test (suc k) xs) in let o = one (nat_lt k n) refl h in omega (arith, c, o)
    by false h = omega (arith, h)

pub begun_few : (run : Run) (r : ℕ) → begun_count run r ≤ run.fuel
begun_few u r = let few = places_few (stands_at_head r) 0 u.fuel u.configs in omega (arith, few)

pub committed_few : (p : Program) (plan : Plan) (run : Run) → committed_count p plan run ≤ run.fuel
committed_few p plan run = let few = begun_few run plan.region in omega (arith, few)
