-- The region's own run goes on from what is committed as the rest of the machine's run, with the same iterations.
use Rattle.std.proofs.Common.{◌≡◌, sym, ap, ◌∙◌, subst, ℕ, ◌+◌, ◌-◌, List, ◌∷◌, ℤ, Some, None, if◌then◌else◌, slice_get, arith}
use Rattle.dp_tree.specs.declared.Program.{Program}
use Rattle.dp_tree.specs.Step.{Config}
use Rattle.dp_tree.specs.Trace.{Run, run_of}
use Rattle.dp_tree.specs.Iteration.{start}
use Rattle.dp_tree.specs.GoesOn.{GoesOnAs}
use Rattle.dp_tree.proofs.GoesOn.{goes_on_from}
use Rattle.dp_meaning.specs.declared.ends.Part.TheVariants as part
use Rattle.dp_meaning.specs.MachineState.{MachineState, fuel_left, rest_of_run, part_at, part_of}
use Rattle.dp_commit.specs.CommittedState.{CommittedState, IsOpen, HoldsCommitted, region_run, steps_of_first}
use Rattle.dp_commit.proofs.Lists.{get_at_seam}
use Rattle.dp_commit.proofs.Parts.{on_region, run_begins}

-- the rest of the run from here on
pub rest_is : (first m : MachineState) (made : ℕ) → m.program ≡ first.program → m.input ≡ first.input → m.fuel ≡ first.fuel → m.steps ≡ first.steps + made →
    run_of first.program first.input (fuel_left first - made) m.config ≡ rest_of_run m
rest_is first m made p i f s =
    let left : fuel_left first - made ≡ fuel_left m = omega (arith, f, s) in
    ap (λ (n : ℕ). run_of first.program first.input n m.config) left ∙ ap (λ (q : Program). run_of q first.input (fuel_left m) m.config) (sym p)
    ∙ ap (λ (is : List ℤ). run_of m.program is (fuel_left m) m.config) (sym i)

-- the region's condition comes next
pub at_head : (c : CommittedState) → IsOpen c → part_of c.machine.config.to_do ≡ part.Region c.region
at_head c o = sym (ap (λ k. part_at k c.machine.config.to_do) o.between) ∙ o.next

module _ (first : MachineState) (c : CommittedState) (h : HoldsCommitted first c) (o : IsOpen c) where
  abbrev run : Run
  run = region_run first

  abbrev made : ℕ
  made = steps_of_first (region_run first) c.region c.count

  pub started : start run c.region c.count ≡ Some made
  started = h.reached ∙ ap (λ t. if t then Some made else None) (on_region c.region c.machine.config (at_head c o))

  begins : (more : List Config) × ((rest_of_run c.machine).configs ≡ c.machine.config ∷ more)
  begins = run_begins c.machine.program c.machine.input (fuel_left c.machine) c.machine.config

  here : slice_get run.configs made ≡ Some c.machine.config
  here = ap (λ (cs : List Config). slice_get cs made) h.piece.configs ∙ get_at_seam h.configs (rest_of_run c.machine).configs made c.machine.config begins.0
      (sym h.piece.paired) begins.1

  both : GoesOnAs c.region c.count made run (rest_of_run c.machine) × (start (rest_of_run c.machine) c.region 0 ≡ Some 0)
  both = subst (λ (rest : Run). GoesOnAs c.region c.count made run rest × (start rest c.region 0 ≡ Some 0))
      (rest_is first c.machine made h.program h.input h.fuel h.steps)
      (goes_on_from first.program first.input (fuel_left first) made c.region c.count first.config c.machine.config here started)

  pub goes : GoesOnAs c.region c.count made run (rest_of_run c.machine)
  goes = both.0

  pub starts_at_once : start (rest_of_run c.machine) c.region 0 ≡ Some 0
  starts_at_once = both.1
