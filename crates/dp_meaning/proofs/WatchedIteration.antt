-- One step of an iteration, and why the iteration stops behind it.
use Rattle.dp_meaning.proofs.Names.{◌≡◌, ◌≢◌, refl, sym, ◌∙◌, ap, subst, ℕ, ◌+◌, ◌<◌, ◌==◌, Bool, true, false, inl, inr, Ok, List, ℤ, arith, cases_Bool, eq-eqb}
use Rattle.dp_meaning.proofs.Names.{Fault, SiteId, Part, IsAnyRegion, MachineState, part_of, next_part, IterationRun, Seen, StepTaken, TurnTaken, UnderWay}
use Rattle.std.proofs.lemmas.Bool.{cases_eq, ne_eqb}
use Rattle.dp_meaning.specs.declared.ends.Part.TheVariants as part
use Rattle.dp_meaning.specs.declared.turn.Turn.TheVariants as turn
use Rattle.dp_meaning.specs.declared.ends.IterEnd.TheVariants as end
use Rattle.dp_meaning.specs.steps.Stretch.{Stretch, end_behind, end_by, is_plain}
use Rattle.dp_meaning.proofs.ShapeLemmas.{not_plain}
use Rattle.dp_meaning.proofs.StretchLemmas.{closes_now, ends_now, faulted, fuel_spent, no_turn, one_more, starts_unfinished, unfinished}
use Rattle.dp_meaning.proofs.StretchEnds.{as_iteration, some_region}

over_region : (q : Part) (r : ℕ) → q ≡ part.Region r → q ≢ part.Plain
over_region q r e f = absurd (cc)

over_end : (q : Part) → q ≡ part.Finished → q ≢ part.Plain
over_end q e f = absurd (cc)

region_left : (q : Part) (r : ℕ) → q ≡ part.Region r → q ≢ part.Finished
region_left q r e f = absurd (cc)

-- A step ends the stretch, or the fuel or the turn is spent behind it.
pub one_turn : (left : Bool) (m n : MachineState) (x y : List ℤ) → part_of m.config.to_do ≢ part.Finished → m.steps < m.fuel → StepTaken left m n x y →
    Stretch 1 m n x y (end_behind left n)
one_turn true m n x y some fuel s = closes_now true m n x y some fuel s 0 refl
one_turn false m n x y some fuel s = by (part_of n.config.to_do) refl
  where
    by : (q : Part) → part_of n.config.to_do ≡ q → Stretch 1 m n x y (end_by false (is_plain q) (n.steps == n.fuel))
    by (part.Region r) e = ends_now false m n x y some fuel s 0 refl (over_region (part_of n.config.to_do) r e)
    by part.Finished e = ends_now false m n x y some fuel s 0 refl (over_end (part_of n.config.to_do) e)
    by part.Plain e = elim (cases_eq n.steps n.fuel) [
      | inl spent ↦ subst (λ (b : Bool). Stretch 1 m n x y (end_by false true b)) (sym (eq-eqb n.steps n.fuel spent))
          (one_more false m n x y some fuel s refl e 0 n y end.Fuel (fuel_spent 0 n y (unfinished (part_of n.config.to_do) e) spent))
      | inr more ↦ subst (λ (b : Bool). Stretch 1 m n x y (end_by false true b)) (sym (ne_eqb n.steps n.fuel more))
          (one_more false m n x y some fuel s refl e 0 n y end.Going (no_turn 0 n y (let steps = ap (λ (o : MachineState). o.steps) s.rest in
          let all = ap (λ (o : MachineState). o.fuel) s.rest in omega (arith, steps, all, fuel, more)) refl))
    ]

-- a statement is left where an iteration goes on
pub some_next : (m : MachineState) → UnderWay m.current m.config.to_do → IsAnyRegion (next_part m) → part_of m.config.to_do ≢ part.Finished
some_next m u next = let r = some_region (next_part m) next in starts_unfinished m.current m.config.to_do u (region_left (next_part m) r.0 r.1)

module _ (region : ℕ) (m n : MachineState) (x y : List ℤ) (u : UnderWay m.current m.config.to_do) (next : next_part m ≡ part.Region region) where
  some : part_of m.config.to_do ≢ part.Finished
  some = starts_unfinished m.current m.config.to_do u (region_left (next_part m) region next)

  pub spent_run : m.steps ≡ m.fuel → IterationRun region 1 m m x x end.Fuel
  spent_run e = as_iteration region 1 m m x x u next end.Fuel (fuel_spent 1 m x some e)

  pub fault_run : (fault : Fault) → m.steps < m.fuel → TurnTaken (turn.Fault fault) m n x y → IterationRun region 1 m n x y (end.Fault fault)
  fault_run fault less taken = as_iteration region 1 m n x y u next (end.Fault fault) (faulted 1 m x fault n y less (omega arith) taken)

  pub step_run : (left : Bool) (site : SiteId) (seen : Seen) → m.steps < m.fuel → TurnTaken (turn.Made left site seen) m n x y →
      IterationRun region 1 m n x y (end_behind left n)
  step_run left site seen less taken = as_iteration region 1 m n x y u next (end_behind left n) (one_turn left m n x y some less taken.0)
