-- From the parts to the whole log.
use Rattle.std.proofs.Common.{◌≡◌, refl, sym, ap, ◌∙◌, subst, arith, ℕ, zero, suc, ◌+◌, ◌-◌, ◌<◌, List, [], ◌∷◌, ◌++◌, append_assoc, ℤ, map, take, false}
use Rattle.std.proofs.Common.{append-nil, None}
use Rattle.dp_tree.specs.declared.Program.{Program}
use Rattle.dp_tree.specs.Inlined.{IsInlined}
use Rattle.dp_tree.specs.Numbering.{numbers_from}
use Rattle.dp_tree.specs.Trace.{begin, run_of, start_cells}
use Rattle.dp_tree.proofs.Heads.{standing_to_do}
use Rattle.dp_tree.proofs.InMain.{begins_in_main}
use Rattle.dp_plan.specs.declared.Plan.{Plan}
use Rattle.dp_plan.specs.Each.{Each}
use Rattle.dp_plan.specs.GivenPlans.{ArePlans, region_of}
use Rattle.dp_semantics.specs.Verdict.{source_run}
use Rattle.dp_meaning.specs.MachineState.{MachineState, rest_of_run}
use Rattle.dp_log.specs.Compared.{DifferFirst}
use Rattle.dp_log.specs.LogText.{first_line}
use Rattle.dp_auditor.specs.Answered.{Answers}
use Rattle.dp_auditor.specs.declared.AuditEnd.{AuditEnd}
use Rattle.dp_auditor.specs.Comparing.{Compared, Fails, PassesPiece}
use Rattle.dp_auditor.specs.Regions.{Ascending, IsAbove, Standing, regions_left}
use Rattle.dp_auditor.proofs.OrderLemmas.{regions_numbered}
use Rattle.dp_auditor.proofs.PieceLemmas.{compared_is, fails_behind, passes_join}

above_numbers : (r k n : ℕ) (plans : List Plan) → r < k → map region_of plans ≡ numbers_from k n → Each (IsAbove r) plans
above_numbers r k n [] less e = tt
above_numbers r k zero (plan ∷ plans) less e = absurd (cc e)
above_numbers r k (suc n) (plan ∷ plans) less e =
    let first : plan.region ≡ k = cc e in
    let rest : map region_of plans ≡ numbers_from (k + 1) n = cc e in
    (omega (arith, first, less), above_numbers r (k + 1) n plans (omega (arith, less)) rest)

-- Plans with ascending numbers stand in their order.
pub ascending : (k n : ℕ) (plans : List Plan) → map region_of plans ≡ numbers_from k n → Ascending plans
ascending k n [] e = tt
ascending k zero (plan ∷ plans) e = absurd (cc e)
ascending k (suc n) (plan ∷ plans) e =
    let first : plan.region ≡ k = cc e in
    let rest : map region_of plans ≡ numbers_from (k + 1) n = cc e in
    (above_numbers plan.region (k + 1) n plans (omega (arith, first)) rest, ascending (k + 1) n plans rest)

module _ (p : Program) (plans : List Plan) (input : List ℤ) (fuel : ℕ) (m : MachineState)
    (is : m ≡ record { program = p; input = input; config = begin p; steps = 0; fuel = fuel; current = None; spoiled = false }) where
  pub standing_first : IsInlined p → ArePlans p plans → Standing p plans m
  standing_first h are = subst (Standing p plans) (sym is) (record {
    inlined = h;
    program_is = refl;
    stands = begins_in_main p;
    left = ap regions_left (standing_to_do p p.main (start_cells p.vars)) ∙ regions_numbered p h ∙ sym are.regions;
    between = refl;
  })

  pub run_is : rest_of_run m ≡ source_run p input fuel
  run_is = let all : fuel - 0 ≡ fuel = omega arith in ap rest_of_run is ∙ ap (λ (n : ℕ). run_of p input n (begin p)) all

module _ (log regions end : List ℕ) (start : Compared) (is : start ≡ record { log = log; place = 0 }) where
  from_start : (expected : List ℕ) (line : ℕ) → Fails start expected line → DifferFirst log expected line
  from_start expected line f = subst (λ (c : Compared). DifferFirst c.log (take c.place c.log ++ expected) line) is f

  whole_is : first_line ++ (regions ++ end) ≡ first_line ++ regions ++ end
  whole_is = sym (append_assoc first_line regions end)

  pub fails_first : (line : ℕ) → ((later : List ℕ) → Fails start (first_line ++ later) line) → DifferFirst log (first_line ++ regions ++ end) line
  fails_first line f = subst (λ (xs : List ℕ). DifferFirst log xs line) whole_is (from_start (first_line ++ (regions ++ end)) line (f (regions ++ end)))

  module _ (mid : Compared) (passes : PassesPiece start mid first_line) where
    pub fails_regions : (line : ℕ) → ((later : List ℕ) → Fails mid (regions ++ later) line) → DifferFirst log (first_line ++ regions ++ end) line
    fails_regions line f = subst (λ (xs : List ℕ). DifferFirst log xs line) whole_is (from_start (first_line ++ (regions ++ end)) line
        (fails_behind start mid first_line (regions ++ end) line passes (f end)))

    module _ (new : Compared) (more : PassesPiece mid new regions) where
      pub fails_end : (line : ℕ) → ((later : List ℕ) → Fails new (end ++ later) line) → DifferFirst log (first_line ++ regions ++ end) line
      fails_end line f =
          let all : Fails start ((first_line ++ regions) ++ (end ++ [])) line = fails_behind start new (first_line ++ regions) (end ++ []) line
          (passes_join start mid new first_line regions passes more) (f []) in
          subst (λ (xs : List ℕ). DifferFirst log (first_line ++ regions ++ xs) line) (append-nil end)
          (from_start ((first_line ++ regions) ++ (end ++ [])) line all)

      pub answers : (last : Compared) → PassesPiece new last end → (answer : AuditEnd) → Answers last.log (take last.place last.log) answer →
          Answers log (first_line ++ regions ++ end) answer
      answers last passes_end answer told =
          let all = passes_join start new last (first_line ++ regions) end (passes_join start mid new first_line regions passes more) passes_end in
          let text : take last.place last.log ≡ first_line ++ regions ++ end = compared_is start last (first_line ++ regions ++ end) all
          ∙ ap (λ (c : Compared). take c.place c.log ++ (first_line ++ regions ++ end)) is in
          let same : last.log ≡ log = all.log ∙ ap (λ (c : Compared). c.log) is in
          subst (λ (xs : List ℕ). Answers xs (first_line ++ regions ++ end) answer) same (subst (λ (xs : List ℕ). Answers last.log xs answer) text told)
