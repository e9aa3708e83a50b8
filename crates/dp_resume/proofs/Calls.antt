-- What the calls of a run that goes on from a checkpoint give.
use Rattle.std.proofs.Common.{◌≡◌, refl, sym, ap, ◌∙◌, subst, ℕ, ◌-◌, false, List, [], ℤ, take, drop, All, Option, None, ◌≤◌, arith}
use Rattle.dp_base.specs.declared.End.{End}
use Rattle.dp_base.specs.declared.RegionReport.{RegionReport}
use Rattle.dp_edge.specs.Writing.{WritesFront}
use Rattle.dp_edge.proofs.FrontLemmas.{front_nothing}
use Rattle.dp_tree.specs.declared.Program.{Program}
use Rattle.dp_tree.specs.Step.{standing}
use Rattle.dp_tree.specs.Trace.{Run}
use Rattle.dp_plan.specs.declared.Plan.{Plan}
use Rattle.dp_semantics.specs.EpochKey.{statements_from}
use Rattle.dp_meaning.specs.MachineState.{MachineState}
use Rattle.dp_run.specs.Given.{AreGiven}
use Rattle.dp_run.specs.Stretches.{Ahead, Went, ended_by}
use Rattle.dp_run.proofs.Ending.{IsListed}
use Rattle.dp_save.specs.declared.Checkpoint.{Checkpoint}
use Rattle.dp_save.specs.Fits.{Fits}
use Rattle.dp_theorem.proofs.Central.{fuel_is}
use Rattle.dp_resume.specs.Resumed.{resumed_bytes, resumed_run}
use Rattle.dp_resume.specs.steps.Merging.{IsSmall, merged}
use Rattle.dp_resume.proofs.MergeLemmas.{saved_small, told_small}
use Rattle.dp_resume.proofs.Whole.{Finished, ahead, finished, listed}

-- The machine starts with the program that is lent.
module _ (p : Program) (plans : List Plan) (given : AreGiven p plans) (input : List ℤ) (c : Checkpoint) (fits : Fits p c) (cells : List ℤ)
    (cells_are : cells ≡ c.cells) (left : List Plan) (left_is : left ≡ drop (c.region - 1) plans)
    (m : MachineState) (lent : Program) (same : lent ≡ p)
    (made : m ≡ record {
      program = lent;
      input = input;
      config = standing lent (statements_from c.region lent.main) cells;
      steps = c.steps;
      fuel = c.fuel;
      current = None;
      spoiled = false;
    }) where
  pub start_here : m ≡ record {
    program = p;
    input = input;
    config = standing p (statements_from c.region p.main) c.cells;
    steps = c.steps;
    fuel = c.fuel;
    current = None;
    spoiled = false;
  }
  start_here =
      subst (λ (q : Program). m
      ≡ record {
        program = q;
        input = input;
        config = standing q (statements_from c.region q.main) c.cells;
        steps = c.steps;
        fuel = c.fuel;
        current = None;
        spoiled = false;
      }) same
      (made ∙ ap (λ (zs : List ℤ).
      record {
        program = lent;
        input = input;
        config = standing lent (statements_from c.region lent.main) zs;
        steps = c.steps;
        fuel = c.fuel;
        current = None;
        spoiled = false;
      }) cells_are)

  pub program_here : m.program ≡ p
  program_here = ap (λ (x : MachineState). x.program) start_here

  pub ahead_here : Ahead m.program left input m.fuel (resumed_run p input c) (c.region - 1) m
  ahead_here =
      subst (λ (q : Program). Ahead q left input m.fuel (resumed_run p input c) (c.region - 1) m) (sym program_here)
      (subst (λ (ps : List Plan). Ahead p ps input m.fuel (resumed_run p input c) (c.region - 1) m) (sym left_is)
      (ahead p plans given input c fits m start_here))

  -- the run has ended
  pub finished_here : (last : MachineState) (o : Option End) (end : End) (told reports : List RegionReport) (before now : ℕ) → told ≡ [] → end ≡ ended_by o →
      ((u : Run) (k : ℕ) → Ahead m.program left input m.fuel u k m → Went false m.program left input m.fuel u k last o told reports before now) →
      Finished p plans given input c fits last end reports
  finished_here last o end told reports before now none is went =
      finished p plans given input c fits last m.fuel o end told reports before now none is
      (subst (λ (ps : List Plan). Went false p ps input m.fuel (resumed_run p input c) (c.region - 1) last o told reports before now) left_is
      (subst (λ (q : Program). Went false q left input m.fuel (resumed_run p input c) (c.region - 1) last o told reports before now) program_here
      (went (resumed_run p input c) (c.region - 1) ahead_here)))

few_steps : (p : Program) (input : List ℤ) (c : Checkpoint) → Fits p c → (resumed_run p input c).fuel ≤ 1000000000
few_steps p input c fits = omega (arith, fuel_is p input (c.fuel - c.steps) (standing p (statements_from c.region p.main) c.cells), fits.place.most_fuel)

module _ (p : Program) (plans : List Plan) (given : AreGiven p plans) (input : List ℤ) (c : Checkpoint) (fits : Fits p c) (last : MachineState) (end : End)
    (told : List RegionReport) (d : Finished p plans given input c fits last end told) where
  pub told_small_here : All IsSmall told
  told_small_here =
      subst (All IsSmall) (sym d.reports_are)
      (told_small p (resumed_run p input c) (take d.count (drop (c.region - 1) plans)) (few_steps p input c fits))

  pub listed_here : (saved reports : List RegionReport) → saved ≡ c.reports → reports ≡ merged saved told → All IsListed reports
  listed_here saved reports is are =
      subst (All IsListed) (sym (are ∙ ap (λ (rs : List RegionReport). merged rs told) is)) (listed p plans given input c fits last end told d)

pub saved_small_here : (p : Program) (c : Checkpoint) → Fits p c → (saved : List RegionReport) → saved ≡ c.reports → All IsSmall saved
saved_small_here p c fits saved is = subst (All IsSmall) (sym is) (saved_small c.reports fits.reports.each)

pub reports_here : (c : Checkpoint) (saved told reports : List RegionReport) → saved ≡ c.reports → reports ≡ merged saved told → reports ≡ merged c.reports told
reports_here c saved told reports is are = are ∙ ap (λ (rs : List RegionReport). merged rs told) is

-- nothing was written
pub nothing_written : (p : Program) (plans : List Plan) (input : List ℤ) (c : Checkpoint) (told : Option (List ℕ)) →
    WritesFront (resumed_bytes p plans input c) told told
nothing_written p plans input c told = front_nothing (resumed_bytes p plans input c) told told refl
