-- A run that was to be saved and stopped before its region: a front of its text was written.
use Rattle.std.proofs.Common.{◌≡◌, refl, sym, ap, ◌∙◌, subst, ℕ, suc, ◌+◌, ◌-◌, ◌≤◌, false, List, [], ℤ, length, take, Option, Some, None, arith}
use Rattle.dp_edge.specs.Writing.{WritesFront}
use Rattle.dp_edge.proofs.FrontLemmas.{front_more}
use Rattle.dp_tree.specs.declared.Program.{Program}
use Rattle.dp_tree.specs.Iteration.{start}
use Rattle.dp_tree.specs.Trace.{Run, begin, prints}
use Rattle.dp_plan.specs.declared.Plan.{Plan}
use Rattle.dp_prepared.specs.Planned.{Prepared}
use Rattle.dp_meaning.specs.MachineState.{MachineState, rest_of_run}
use Rattle.dp_report.specs.PrintsText.{prints_bytes}
use Rattle.dp_run.specs.Given.{AreGiven}
use Rattle.dp_run.specs.RunText.{source_run}
use Rattle.dp_run.specs.Stretches.{Ahead, FrontBefore, to_come}
use Rattle.dp_save.specs.WrittenText.{checkpoint_bytes}
use Rattle.dp_resume.specs.Saved.{checkpoint_at, saved_bytes, saved_from, text_before}
use Rattle.dp_resume.proofs.RestLemmas.{front_ending}
use Rattle.dp_resume.proofs.SaveWhole.{ahead_first, ending_is, long, run_here}

module _ (p : Program) (plans : List Plan) (given : AreGiven p plans) (input : List ℤ) (fuel r after : ℕ)
    (m : MachineState) (is : m ≡ record { program = p; input = input; config = begin p; steps = 0; fuel = fuel; current = None; spoiled = false })
    (low : 1 ≤ r) (high : r ≤ length plans) (before : List Plan) (before_is : before ≡ take (r - 1) plans) where
  many : suc (0 + length before) ≤ r
  many = let size : length before ≡ r - 1 = ap (λ (ps : List Plan). length ps) before_is ∙ long p plans given input fuel r after m is low high before before_is
      in omega (arith, size, low)

  -- It stopped in the regions before this one.
  pub stopped_before : (regions : List Prepared) → length regions ≡ length before → (old now : Option (List ℕ)) →
      WritesFront (prints_bytes (to_come m)) old now →
      ((run : Run) (n : ℕ) → Ahead m.program before input m.fuel run n m → FrontBefore (suc (n + length regions)) [] m old now) →
      WritesFront (saved_bytes p plans input fuel r after) old now
  stopped_before regions as_many old now w f = by (start (source_run p input fuel) r after) refl
    where
      by : (o : Option ℕ) → start (source_run p input fuel) r after ≡ o →
          WritesFront (saved_from p plans input fuel r after (start (source_run p input fuel) r after)) old now
      by None none =
          subst (λ (t : List ℕ). WritesFront t old now) (ending_is p plans given input fuel r after m is
          ∙ sym (ap (saved_from p plans input fuel r after) none)) (front_ending p plans input m old now w)
      by (Some k) there =
          let reached : start (rest_of_run m) r after ≡ Some k = ap (λ (u : Run). start u r after) (run_here p plans given input fuel r after m is) ∙ there in
          let front = (f (source_run p input fuel) 0 (ahead_first p plans given input fuel r after m is low high before before_is)).front r after k
          (omega (arith, many, as_many)) reached in
          subst (λ (o : Option ℕ). WritesFront (saved_from p plans input fuel r after o) old now) (sym there)
          (front_more (text_before (source_run p input fuel) k) (checkpoint_bytes (checkpoint_at p plans input fuel r after k)) old now
          (subst (λ (u : Run). WritesFront (prints_bytes (prints (take k u.trace))) old now) (run_here p plans given input fuel r after m is) front))
