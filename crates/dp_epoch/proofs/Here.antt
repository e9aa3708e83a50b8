-- Where a region stands between two iterations, in its own run.
use Rattle.std.proofs.Common.{◌≡◌, refl, sym, ap, ◌∙◌, subst, ℕ, suc, ◌+◌, ◌-◌, true, false, List, [], ◌∷◌, Some, slice_get, arith}
use Rattle.dp_epoch.specs.declared.account.Account.{Account}
use Rattle.dp_tree.specs.declared.Stmt.{Stmt, out-Stmt}
use Rattle.dp_tree.specs.declared.Stmt.TheOpen.{Stmt-F, Assign, Store, Print, If, While, Region, Break, Call}
use Rattle.dp_tree.specs.GoesOn.{GoesOnAs}
use Rattle.dp_tree.specs.InMain.{StandsInMain}
use Rattle.dp_tree.specs.Step.{Config}
use Rattle.dp_tree.specs.Trace.{Run}
use Rattle.dp_tree.specs.Iteration.{start, has_ended, is_closing, memory_after}
use Rattle.dp_tree.proofs.InMain.{stays_in_main}
use Rattle.dp_plan.specs.declared.Plan.{Plan}
use Rattle.dp_semantics.specs.Verdict.{Follows}
use Rattle.dp_theorem.proofs.Fitting.{fitting_closes, fitting_leads}
use Rattle.dp_meaning.specs.declared.ends.Part.TheVariants as part
use Rattle.dp_meaning.specs.MachineState.{MachineState, fuel_left, rest_of_run, part_from, part_of, from_region}
use Rattle.dp_commit.specs.CommittedState.{CommittedState, ClosesOnce, HoldsCommitted, region_run, steps_of_first}
use Rattle.dp_commit.proofs.Going as going
use Rattle.dp_commit.proofs.Lists.{get_at_seam}
use Rattle.dp_commit.proofs.Parts.{run_begins}
use Rattle.dp_theorem.proofs.Central.{fuel_is}
use Rattle.dp_epoch.specs.Progress.{Progress, RegionBegins}

pub rest_fuel : (m : MachineState) → (rest_of_run m).fuel ≡ m.fuel - m.steps
rest_fuel m = fuel_is m.program m.input (fuel_left m) m.config

-- a region at the head is the first one
region_first : (xs : List Stmt) (r : ℕ) → part_of xs ≡ part.Region r → from_region xs ≡ xs
region_first [] r e = absurd (cc)
region_first (s ∷ rest) r e = by (out-Stmt s) refl e
  where
    by : (x : Stmt-F Stmt) → out-Stmt s ≡ x → part_from x ≡ part.Region r → from_region (s ∷ rest) ≡ s ∷ rest
    by (Region q site cond a) is e = rw is refl
    by (Assign site v w) is e = absurd (cc)
    by (Store site v index w) is e = absurd (cc)
    by (Print site w) is e = absurd (cc)
    by (If site cond a b) is e = absurd (cc)
    by (While site cond a) is e = absurd (cc)
    by (Break site cond) is e = absurd (cc)
    by (Call g line args) is e = absurd (cc)

-- the region isn't reached again once it closed
pub closes_once : (plan : Plan) (first : MachineState) → RegionBegins plan first → ClosesOnce first plan.region
closes_once plan first s i k here closing =
    (let e : i + 1 ≡ suc i = omega arith in ap (start (region_run first) plan.region) e)
    ∙ (fitting_closes first.program plan s.fits first.input (fuel_left first) first.config s.stands i k here closing).unreached

-- the machine behind a piece of the run stands in `main`
pub stands_there : (plan : Plan) (first : MachineState) → RegionBegins plan first → (c : CommittedState) → HoldsCommitted first c →
    StandsInMain first.program c.machine.config
stands_there plan first s c h =
    let begins = run_begins c.machine.program c.machine.input (fuel_left c.machine) c.machine.config in
    let made = steps_of_first (region_run first) c.region c.count in
    let here : slice_get (region_run first).configs made ≡ Some c.machine.config =
    ap (λ (cs : List Config). slice_get cs made) h.piece.configs ∙ get_at_seam h.configs (rest_of_run c.machine).configs made c.machine.config begins.0
    (sym h.piece.paired) begins.1 in
    stays_in_main first.program first.input s.tops (fuel_left first) made first.config c.machine.config s.stands here

module _ (plan : Plan) (first : MachineState) (c : CommittedState) (account : Account) (g : Progress plan first c account) where
  abbrev pub run : Run
  run = region_run first

  abbrev pub made : ℕ
  made = steps_of_first (region_run first) plan.region c.count

  pub at_head : part_of c.machine.config.to_do ≡ part.Region plan.region
  at_head = going.at_head c g.is_open ∙ ap (λ (r : ℕ). part.Region r) g.region

  pub first_there : from_region c.machine.config.to_do ≡ first.config.to_do
  first_there = region_first c.machine.config.to_do plan.region at_head ∙ g.left

  -- iteration `count` starts where the machine stands
  pub starts_here : start run plan.region c.count ≡ Some made
  starts_here = subst (λ (r : ℕ). start run r c.count ≡ Some (steps_of_first run r c.count)) g.region (going.started first c g.holds g.is_open)

  pub goes_here : GoesOnAs plan.region c.count made run (rest_of_run c.machine)
  goes_here = subst (λ (r : ℕ). GoesOnAs r c.count (steps_of_first run r c.count) run (rest_of_run c.machine)) g.region (going.goes first c g.holds g.is_open)

  pub at_once : start (rest_of_run c.machine) plan.region 0 ≡ Some 0
  at_once = subst (λ (r : ℕ). start (rest_of_run c.machine) r 0 ≡ Some 0) g.region (going.starts_at_once first c g.holds g.is_open)

  pub steps_are : c.machine.steps ≡ first.steps + made
  steps_are = g.holds.steps ∙ ap (λ (r : ℕ). first.steps + steps_of_first run r c.count) g.region

  pub memory_is : c.machine.config.cells ≡ memory_after run plan.region c.count
  memory_is = g.holds.memory ∙ ap (λ (r : ℕ). memory_after run r c.count) g.region

  pub leads_here : has_ended run plan.region c.count ≡ true → is_closing run plan.region c.count ≡ false → Follows first.program plan.region run c.count made
  leads_here ended going_on =
      fitting_leads first.program plan g.start.fits first.input (fuel_left first) first.config g.start.stands c.count made starts_here ended going_on

  pub once : ClosesOnce first c.region
  once = subst (ClosesOnce first) (sym g.region) (closes_once plan first g.start)
