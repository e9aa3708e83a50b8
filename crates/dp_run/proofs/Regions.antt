-- A region that comes next, and where its run leads.
use Rattle.std.proofs.Common.{◌≡◌, ◌≢◌, sym, ap, ◌∙◌, ℕ, suc, ◌+◌, ◌-◌, ◌≤◌, drop, List, ◌∷◌, ℤ, length, map, arith}
use Rattle.dp_base.specs.declared.End.{End}
use Rattle.dp_base.specs.declared.End.TheVariants as how
use Rattle.dp_tree.specs.declared.Program.{Program}
use Rattle.dp_tree.specs.Numbering.{numbers_from}
use Rattle.dp_tree.specs.Trace.{Run, ended}
use Rattle.dp_tree.specs.Iteration.{begun_count}
use Rattle.dp_tree.specs.IterationLaws.{events_of_first}
use Rattle.dp_plan.specs.declared.Plan.{Plan}
use Rattle.dp_meaning.specs.declared.ends.Part.TheVariants as part
use Rattle.dp_meaning.specs.MachineState.{MachineState, fuel_left, rest_of_run, part_of}
use Rattle.dp_epoch.specs.declared.ends.RegionEnd.{RegionEnd}
use Rattle.dp_epoch.specs.declared.ends.RegionEnd.TheVariants.{Closed, Fault, Fuel}
use Rattle.dp_epoch.specs.RegionRun.{IsPlanned, RegionStart, RegionRan, RegionMade, RegionStops, beyond, region_run}
use Rattle.dp_run.specs.Regions.{regions_left}
use Rattle.dp_run.specs.Stretches.{Between, Over, AfterRegion}
use Rattle.dp_run.proofs.RegionsLeft.{left_at_region}
use Rattle.dp_run.proofs.Passing.{passed_on}
use Rattle.dp_run.proofs.Leading.{region_next, next_is, stands_here, over_at}

module _ (p : Program) (plan : Plan) (input : List ℤ) (fuel : ℕ) (run : Run) (n : ℕ) (m : MachineState) (planned : IsPlanned p plan)
    (number : plan.region ≡ suc n) (b : Between p input fuel run n m) where
  more : length p.regions - n ≡ suc (length p.regions - suc n)
  more = omega (arith, planned.known, number)

  pub comes : part_of m.config.to_do ≡ part.Region (suc n)
  comes = region_next p input fuel run n m b (length p.regions - suc n) more

  pub region_start : RegionStart p plan input m
  region_start = record {
    program_is = b.behind.program_is;
    input_is = b.behind.input_is;
    stands = stands_here p input fuel run n m b planned.inlined;
    next = next_is p input fuel run n m b (part.Region (suc n)) comes ∙ ap part.Region (sym number);
    between = b.behind.between;
    sound = b.behind.sound;
  }

  -- what is left behind it
  left_behind : regions_left (drop 1 m.config.to_do) ≡ numbers_from (suc (suc n)) (length p.regions - suc n)
  left_behind =
      let ns : suc n ∷ regions_left (drop 1 m.config.to_do) ≡ suc n ∷ numbers_from (suc n + 1) (length p.regions - suc n) =
      sym (left_at_region (suc n) m.config.to_do comes) ∙ b.behind.left ∙ ap (numbers_from (suc n)) more in
      let up : suc n + 1 ≡ suc (suc n) = omega arith in
      let rest : regions_left (drop 1 m.config.to_do) ≡ numbers_from (suc n + 1) (length p.regions - suc n) = cc in
      rest ∙ ap (λ (k : ℕ). numbers_from k (length p.regions - suc n)) up

  other : (r : ℕ) → suc (suc n) ≤ r → r ≢ plan.region
  other r h = λ e. absurd (omega (arith, e, h, number))

  module _ (last : MachineState) where
    region_over : (left : ℕ) (why : End) → RegionMade p plan m last → RegionStops plan m → rest_of_run last ≡ ended left last.config why →
        Over run (suc n) last why
    region_over left why made stops e =
        over_at p input fuel run (suc n) left (suc (suc n)) last why
        (passed_on run (rest_of_run m) (rest_of_run last) (suc n) (suc (suc n)) (omega arith) b.behind.passed
        (events_of_first (region_run m) plan.region (begun_count (region_run m) plan.region)) made.configs made.piece (λ r h. made.others r (other r h)))
        e (λ r h. b.behind.passed.ahead r (omega (arith, h)) ∙ ap (map (beyond (length b.behind.passed.events))) (stops.others r (other r h)))

    pub after_region : (end : RegionEnd) → RegionRan p plan m last end → AfterRegion p input fuel run (suc n) last end
    after_region Closed ran = record {
      begins = b.behind.begins;
      program_is = ran.made.program ∙ b.behind.program_is;
      input_is = ran.made.input ∙ b.behind.input_is;
      fuel_is = ran.made.fuel ∙ b.behind.fuel_is;
      passed = passed_on run (rest_of_run m) (rest_of_run last) (suc n) (suc (suc n)) (omega arith) b.behind.passed
          (events_of_first (region_run m) plan.region (begun_count (region_run m) plan.region)) ran.made.configs ran.made.piece
          (λ r h. ran.made.others r (other r h));
      left = ap regions_left ran.ends.left ∙ left_behind;
      between = ran.ends.between;
      sound = ran.made.sound;
    }
    after_region (Fault fault) ran = region_over (fuel_left last) (how.Fault fault) ran.made ran.ends.0 ran.ends.1.ends
    after_region Fuel ran = region_over 0 how.Fuel ran.made ran.ends.0 ran.ends.1.ends
