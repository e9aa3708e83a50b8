-- The whole run of a prepared program.
use Rattle.std.proofs.Common.{◌≡◌, sym, ap, subst, ℕ, Bool, false, List, [], map, ℤ, Option, None}
use Rattle.dp_base.specs.declared.RegionReport.{RegionReport}
use Rattle.dp_base.specs.declared.End.{End}
use Rattle.dp_tree.specs.declared.Program.{Program}
use Rattle.dp_tree.specs.Trace.{Run, begin}
use Rattle.dp_plan.specs.declared.Plan.{Plan}
use Rattle.dp_meaning.specs.MachineState.{MachineState}
use Rattle.dp_prepared.specs.Planned.{Prepared, prepared_of}
use Rattle.dp_run.specs.Given.{AreGiven}
use Rattle.dp_run.specs.Prepared.{AreOf, plans_in}
use Rattle.dp_run.specs.RunText.{source_run}
use Rattle.dp_run.specs.Stretches.{Ahead, Went, ended_by}
use Rattle.dp_run.proofs.PlansIn.{of_program, plans_are}
use Rattle.dp_run.proofs.Whole.{Finished, ahead, finished}

-- The machine starts with the program that is lent, and the regions are the prepared program's.
module _ (p : Program) (plans : List Plan) (input : List ℤ) (fuel : ℕ) (why : Bool) (given : AreGiven p plans) (lent : Program)
    (same : lent ≡ p) (m : MachineState)
    (begun : m ≡ record { program = lent; input = input; config = begin lent; steps = 0; fuel = fuel; current = None; spoiled = false }) where
  pub start_there : m ≡ record { program = p; input = input; config = begin p; steps = 0; fuel = fuel; current = None; spoiled = false }
  start_there = subst (λ (q : Program). m ≡ record { program = q; input = input; config = begin q; steps = 0; fuel = fuel; current = None; spoiled = false })
      same begun

  program_is : m.program ≡ p
  program_is = ap (λ (s : MachineState). s.program) start_there

  module _ (regions : List Prepared) (are : regions ≡ map (prepared_of p) plans) where
    pub ahead_there : Ahead m.program (plans_in regions) input m.fuel (source_run p input fuel) 0 m
    ahead_there =
        subst (λ (q : Program). Ahead q (plans_in regions) input m.fuel (source_run p input fuel) 0 m) (sym program_is)
        (subst (λ (xs : List Plan). Ahead p xs input m.fuel (source_run p input fuel) 0 m) (sym (plans_are p plans regions are))
        (ahead p plans input fuel why given m start_there))

    pub regions_there : AreOf m.program regions
    regions_there = subst (λ (q : Program). AreOf q regions) (sym program_is) (of_program p plans regions are)

    pub finished_there : (last : MachineState) (o : Option End) (end : End) (told reports : List RegionReport) (before now : ℕ) → told ≡ [] → end ≡ ended_by o →
        ((run : Run) (n : ℕ) → Ahead m.program (plans_in regions) input m.fuel run n m → Went why m.program (plans_in regions) input m.fuel run n last o told
        reports before now) → Finished why p plans input fuel last end reports before now
    finished_there last o end told reports before now none is went =
        let run = source_run p input fuel in
        finished p plans input fuel why given m last start_there o end told reports before now none is
        (subst (λ (xs : List Plan). Went why p xs input m.fuel run 0 last o told reports before now) (plans_are p plans regions are)
        (subst (λ (q : Program). Went why q (plans_in regions) input m.fuel run 0 last o told reports before now) program_is (went run 0 ahead_there)))
