-- The machine's calls, and the runs of regions, bring the whole run on: from part to part, and to the end.
use Rattle.std.proofs.Common.{◌≡◌, refl, sym, ap, ◌∙◌, subst, ℕ, suc, ◌+◌, ◌-◌, ◌<◌, true, false, not, drop, List, [], ◌∷◌, ℤ, length, map, Option, Some, None}
use Rattle.std.proofs.Common.{slice_get, arith}
use Rattle.dp_base.specs.declared.Fault.{Fault as FaultAt}
use Rattle.dp_base.specs.declared.End.{End}
use Rattle.dp_base.specs.declared.End.TheVariants as how
use Rattle.dp_tree.specs.declared.Program.{Program}
use Rattle.dp_tree.specs.Inlined.{IsInlined}
use Rattle.dp_tree.specs.InMain.{StandsInMain}
use Rattle.dp_tree.specs.Numbering.{numbers_from}
use Rattle.dp_tree.specs.Step.{Config}
use Rattle.dp_tree.specs.Trace.{Run, run_of, ended, begin, start_cells}
use Rattle.dp_tree.specs.Iteration.{starts, stands_at_head}
use Rattle.dp_tree.proofs.InMain.{begins_in_main, stays_in_main}
use Rattle.dp_meaning.specs.declared.ends.Part.{Part}
use Rattle.dp_meaning.specs.declared.ends.Part.TheVariants as part
use Rattle.dp_meaning.specs.declared.ends.PartEnd.{PartEnd}
use Rattle.dp_meaning.specs.declared.ends.PartEnd.TheVariants as part_end
use Rattle.dp_meaning.specs.MachineState.{MachineState, fuel_left, rest_of_run, part_of, part_at, next_part}
use Rattle.dp_meaning.specs.PartRun.{PartRun}
use Rattle.dp_epoch.specs.RegionRun.{beyond}
use Rattle.dp_run.specs.RunText.{source_run}
use Rattle.dp_run.specs.Regions.{regions_left}
use Rattle.dp_run.specs.Stretches.{HasPassed, Behind, Between, Over, Leads}
use Rattle.dp_run.proofs.RegionsLeft.{left_from_region, left_finished, left_at_region, Next, next_of, region, nothing, off_plain, off_finished}
use Rattle.dp_run.proofs.Tops.{regions_numbered}
use Rattle.dp_run.proofs.Passing.{passed_none, passed_on, starts_behind, off_plain_part, cells_at_end, run_over, config_at, no_start}
use Rattle.dp_commit.proofs.Parts.{run_begins}
use Rattle.dp_tree.proofs.Heads.{standing_to_do}

module _ (p : Program) (input : List ℤ) (fuel : ℕ) where
  -- the machine at the start of the program
  pub behind_start : IsInlined p → (m : MachineState) →
      m ≡ record { program = p; input = input; config = begin p; steps = 0; fuel = fuel; current = None; spoiled = false } →
      Behind p input fuel (source_run p input fuel) 0 m
  behind_start h m is = subst (Behind p input fuel (source_run p input fuel) 0) (sym is) (record {
    begins = record { from = begin p; steps = fuel; stands = begins_in_main p; within = omega arith; run_is = refl };
    program_is = refl;
    input_is = refl;
    fuel_is = refl;
    passed = subst (λ (rest : Run). HasPassed (source_run p input fuel) rest 1) (sym all) (passed_none (source_run p input fuel) 1);
    left = let none : length p.regions - 0 ≡ length p.regions = omega arith in
        ap regions_left (standing_to_do p p.main (start_cells p.vars)) ∙ regions_numbered p h ∙ ap (numbers_from 1) (sym none);
    between = refl;
    sound = refl;
  })
    where
      all : run_of p input (fuel - 0) (begin p) ≡ source_run p input fuel
      all = let e : fuel - 0 ≡ fuel = omega arith in ap (λ (n : ℕ). run_of p input n (begin p)) e

module _ (p : Program) (input : List ℤ) (fuel : ℕ) (run : Run) where
  -- The run is over where the machine stands.
  pub over_at : (n left k : ℕ) (m : MachineState) (why : End) → HasPassed run (rest_of_run m) k → rest_of_run m ≡ ended left m.config why →
      ((r : ℕ) → n < r → starts run r ≡ []) → Over run n m why
  over_at n left k m why a e none = record {
    end_is = a.piece.end ∙ ap (λ (u : Run). u.end) e;
    no_step = ap (λ (u : Run). u.trace) e;
    cells_are = cells_at_end run (rest_of_run m) a.events a.configs a.piece m.config (ap (λ (u : Run). u.trace) e) (ap (λ (u : Run). u.configs) e);
    unreached = none;
  }

  -- .. in a plain part or behind the last statement
  over_plain : (n left : ℕ) (m : MachineState) (why : End) → Behind p input fuel run n m → rest_of_run m ≡ ended left m.config why →
      ((r : ℕ) → not (stands_at_head r m.config) ≡ true) → Over run n m why
  over_plain n left m why b e off = over_at n left (suc n) m why b.passed e
      (λ r h. b.passed.ahead r h ∙ ap (map (beyond (length b.passed.events))) (no_start (rest_of_run m) r left m.config why e (off r)))

  -- Nothing is left to do.
  pub over_done : (n : ℕ) (m : MachineState) → Behind p input fuel run n m → part_of m.config.to_do ≡ part.Finished → Over run n m how.Done
  over_done n m b e = over_plain n (fuel_left m) m how.Done b (run_over m.program m.input (fuel_left m) m.config e) (λ r. off_finished r m.config e)

  module _ (n turns : ℕ) (old new : MachineState) (before after : List ℤ) (b : Behind p input fuel run n old) where
    -- A call runs a plain part, whatever its end.
    pub part_behind : (end : PartEnd) → PartRun turns old new before after end → Behind p input fuel run n new
    part_behind end call = record {
      begins = b.begins;
      program_is = call.went.moved.program ∙ b.program_is;
      input_is = call.went.moved.input ∙ b.input_is;
      fuel_is = call.went.moved.fuel ∙ b.fuel_is;
      passed = passed_on run (rest_of_run old) (rest_of_run new) (suc n) (suc n) (omega arith) b.passed call.went.events call.went.configs call.went.moved.run
          (λ r h. starts_behind (rest_of_run old) (rest_of_run new) r call.went.events call.went.configs call.went.moved.run
          (off_plain_part r call.went.configs call.went.plain));
      left = sym (left_from_region new.config.to_do) ∙ ap regions_left call.went.behind ∙ left_from_region old.config.to_do ∙ b.left;
      between = call.went.current ∙ b.between;
      sound = call.went.spoiled ∙ b.sound;
    }

    plain_at : (end : PartEnd) (call : PartRun turns old new before after end) → next_part new ≡ part.Plain → part_of new.config.to_do ≡ part.Plain
    plain_at end call e = ap (λ (o : Option ℕ). part_at o new.config.to_do) (sym (call.went.current ∙ b.between)) ∙ e

    pub part_done : PartRun turns old new before after part_end.Done → Leads p input fuel run n new None
    part_done call = record { behind = part_behind part_end.Done call; over = call.stops.part }

    pub part_fault : (fault : FaultAt) → PartRun turns old new before after (part_end.Fault fault) → Leads p input fuel run n new (Some (how.Fault fault))
    part_fault fault call = over_plain n (fuel_left new) new (how.Fault fault) (part_behind (part_end.Fault fault) call) call.stops.2.ends
        (λ r. off_plain r new.config (plain_at (part_end.Fault fault) call call.stops.0))

    pub part_fuel : PartRun turns old new before after part_end.Fuel → Leads p input fuel run n new (Some how.Fuel)
    part_fuel call = over_plain n 0 new how.Fuel (part_behind part_end.Fuel call) call.stops.1.ends
        (λ r. off_plain r new.config (plain_at part_end.Fuel call call.stops.0))

  module _ (n : ℕ) (m : MachineState) (b : Between p input fuel run n m) where
    part_here : next_part m ≡ part_of m.config.to_do
    part_here = ap (λ (o : Option ℕ). part_at o m.config.to_do) b.behind.between

    next_here : Next m.config.to_do
    next_here = next_of m.config.to_do (λ e. b.over (part_here ∙ e))

    -- the next region has the next number
    pub region_next : (k : ℕ) → length p.regions - n ≡ suc k → part_of m.config.to_do ≡ part.Region (suc n)
    region_next k more = by next_here
      where
        by : Next m.config.to_do → part_of m.config.to_do ≡ part.Region (suc n)
        by (region q e) =
            let ns : q ∷ regions_left (drop 1 m.config.to_do) ≡ suc n ∷ numbers_from (suc n + 1) k = sym (left_at_region q m.config.to_do e) ∙ b.behind.left
            ∙ ap (numbers_from (suc n)) more in
            let number : q ≡ suc n = cc in e ∙ ap part.Region number
        by (nothing e) =
            let ns : [] ≡ suc n ∷ numbers_from (suc n + 1) k = sym (left_finished m.config.to_do e) ∙ b.behind.left ∙ ap (numbers_from (suc n)) more in
            absurd (cc ns)

    -- no region is left: nothing is
    pub finished_next : length p.regions - n ≡ 0 → part_of m.config.to_do ≡ part.Finished
    finished_next none = by next_here
      where
        by : Next m.config.to_do → part_of m.config.to_do ≡ part.Finished
        by (region q e) =
            let ns : q ∷ regions_left (drop 1 m.config.to_do) ≡ [] = sym (left_at_region q m.config.to_do e) ∙ b.behind.left ∙ ap (numbers_from (suc n)) none in
            absurd (cc ns)
        by (nothing e) = e

    pub next_is : (q : Part) → part_of m.config.to_do ≡ q → next_part m ≡ q
    next_is q e = part_here ∙ e

  module _ (n : ℕ) (m : MachineState) (b : Behind p input fuel run n m) where
    -- the configuration is one of the run's
    config_there : slice_get run.configs (length b.passed.events + 0) ≡ Some m.config
    config_there =
        let begins = run_begins m.program m.input (fuel_left m) m.config in
        config_at run (rest_of_run m) b.passed.events b.passed.configs b.passed.piece 0 ∙ ap (λ (cs : List Config). slice_get cs 0) begins.1

    stands_there : IsInlined p → StandsInMain p m.config
    stands_there h =
        let start = b.begins in
        stays_in_main p input h.regions start.steps (length b.passed.events + 0) start.from m.config start.stands
        (subst (λ (u : Run). slice_get u.configs (length b.passed.events + 0) ≡ Some m.config) start.run_is config_there)

    -- .. and it stands so in the run that begins with it
    pub behind_own : IsInlined p → Behind p input fuel (rest_of_run m) n m
    behind_own h = record {
      begins = record {
        from = m.config;
        steps = fuel_left m;
        stands = stands_there h;
        within = omega (arith, b.fuel_is);
        run_is = ap (λ (q : Program). run_of q m.input (fuel_left m) m.config) b.program_is
            ∙ ap (λ (xs : List ℤ). run_of p xs (fuel_left m) m.config) b.input_is;
      };
      program_is = b.program_is;
      input_is = b.input_is;
      fuel_is = b.fuel_is;
      passed = passed_none (rest_of_run m) (suc n);
      left = b.left;
      between = b.between;
      sound = b.sound;
    }

  module _ (n : ℕ) (m : MachineState) (b : Between p input fuel run n m) where
    pub config_here : slice_get run.configs (length b.behind.passed.events + 0) ≡ Some m.config
    config_here = config_there n m b.behind

    pub stands_here : IsInlined p → StandsInMain p m.config
    stands_here h = stands_there n m b.behind h
