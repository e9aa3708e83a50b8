-- What a watched step is of the run.
use Rattle.dp_meaning.proofs.Names.{Spoiled, ◌≡◌, ◌≢◌, refl, sym, ◌∙◌, ap, subst, append-nil, append_assoc, ℕ, zero, suc, ◌<◌, Bool, false, true, List, [], ◌∷◌}
use Rattle.dp_meaning.proofs.Names.{◌++◌, ℤ, arith, End, Fault, SiteId, Stmt, out-Stmt, Stmt-F, Program, Load, Config, Step, Faulted, step, Run, run_of, ended}
use Rattle.dp_meaning.proofs.Names.{prints, ToldLoads, Loads, Seen, Turn, MachineState, fuel_left, rest_of_run, part_from, part_of, TurnTaken, notes, cells_of}
use Rattle.dp_meaning.proofs.Names.{effect_prints, sight_prints, TellsLoads, Ends, WatchSpoiled, WatchedStep}
use Rattle.dp_meaning.proofs.StretchLemmas.{wanting, already_spoiled}
use Rattle.dp_meaning.specs.declared.ends.Part.TheVariants as part
use Rattle.dp_meaning.specs.declared.turn.Turn.TheVariants as turn
use Rattle.dp_base.specs.declared.End.TheVariants as how
use Rattle.dp_tree.specs.declared.Stmt.TheOpen.{Region}
use Rattle.dp_meaning.specs.declared.sight.Sight.TheVariants as sight
use Rattle.dp_meaning.proofs.MovedLemmas.{moved_step}
use Rattle.dp_meaning.proofs.StepLemmas.{printed_so}
use Rattle.dp_meaning.proofs.StopLemmas.{spent_fuel, faults_next}

-- the cells that were told stand behind the others
pub told_cells : (loads : List Load) (old new : Loads) → ToldLoads notes old loads new → new.wanting ≡ false → (old.wanting ≡ false)
    × (new.cells ≡ old.cells ++ cells_of loads)
told_cells [] old new same whole = (subst (λ (l : Loads). l.wanting ≡ false) same whole, ap (λ (l : Loads). l.cells) same ∙ sym (append-nil old.cells))
told_cells (load ∷ rest) old new many whole =
    let later = told_cells rest many.0 new many.2 whole in
    let first = many.1 later.0 in
    (first.0, later.1 ∙ ap (λ (cs : List ℕ). cs ++ cells_of rest) first.1 ∙ append_assoc old.cells (load.cell ∷ []) (cells_of rest))

pub part_finished : (to_do : List Stmt) → part_of to_do ≡ part.Finished → to_do ≡ []
part_finished [] e = refl
part_finished (s ∷ rest) e = absurd (by (out-Stmt s) e)
  where
    by : (h : Stmt-F Stmt) → part_from h ≡ part.Finished → ⊥
    by (Region r site cond a) e = cc e
    by _ e = cc e

done_run : (p : Program) (input cells : List ℤ) (n : ℕ) → run_of p input n (record { to_do = []; cells = cells }) ≡ ended n
    (record { to_do = []; cells = cells }) how.Done
unfolding run_of
done_run p input cells zero = refl
done_run p input cells (suc n) = refl

ends_run : (m : MachineState) (n : ℕ) (end : End) → rest_of_run m ≡ ended n m.config end → Ends end m m
ends_run m n end e = record { trace = ap (λ (r : Run). r.trace) e; end = ap (λ (r : Run). r.end) e; same = refl }

pub ends_fuel : (m : MachineState) → part_of m.config.to_do ≢ part.Finished → m.steps ≡ m.fuel → Ends how.Fuel m m
ends_fuel m some e = ends_run m 0 how.Fuel (spent_fuel m some e).ends

pub nothing_left : (m : MachineState) → part_of m.config.to_do ≡ part.Finished → Ends how.Done m m
nothing_left m over =
    let none : m.config ≡ record { to_do = []; cells = m.config.cells } = ap (λ (xs : List Stmt). record { to_do = xs; cells = m.config.cells })
    (part_finished m.config.to_do over) in
    ends_run m (fuel_left m) how.Done
    (subst (λ (c : Config). run_of m.program m.input (fuel_left m) c ≡ ended (fuel_left m) c how.Done) (sym none)
    (done_run m.program m.input m.config.cells (fuel_left m)))

-- a fault was found
pub faulted_so : (m new : MachineState) (fault : Fault) (cells : List ℕ) → m.steps < m.fuel → step m.program m.input m.config ≡ Faulted fault → new ≡ m →
    WatchedStep (sight.Fault fault) cells m new
faulted_so m new fault cells less e same =
    subst (λ (n : MachineState). Ends (how.Fault fault) m n) (sym same) (ends_run m (fuel_left m) (how.Fault fault) (faults_next m fault less e).ends)

-- a step was made
pub stepped_so : (m new : MachineState) (left : Bool) (site : SiteId) (seen : Seen) (before after : List ℤ) (old loads : Loads) → m.steps < m.fuel →
    TurnTaken (turn.Made left site seen) m new before after →
    TellsLoads notes (step m.program m.input m.config) old loads → old.cells ≡ [] → loads.wanting ≡ false → WatchedStep (sight.Step site seen) loads.cells m new
stepped_so m new left site seen before after old loads less (taken, shows) tells none whole =
    let heard : ToldLoads notes old taken.event.loads loads = subst (λ (st : Step). TellsLoads notes st old loads) taken.stepped tells in
    let run = (moved_step left m new before after less taken).run in
    record {
      event = taken.event;
      site_is = shows.0;
      effect_is = shows.1;
      cells_are = (told_cells taken.event.loads old loads heard whole).1 ∙ ap (λ (cs : List ℕ). cs ++ cells_of taken.event.loads) none;
      trace = run.trace;
      end = run.end;
      steps = ap (λ (n : MachineState). n.steps) taken.rest;
      rest = taken.rest ∙ (λ i. record m {
        config = new.config;
        steps = sym (ap (λ (n : MachineState). n.steps) taken.rest) i;
        current = sym (ap
            (λ (n : MachineState). n.current) taken.rest) i;
      });
    }

pub step_printed : (m new : MachineState) (left : Bool) (site : SiteId) (seen : Seen) (before after : List ℤ) →
    TurnTaken (turn.Made left site seen) m new before after → after ≡ before ++ sight_prints (sight.Step site seen)
step_printed m new left site seen before after (taken, shows) =
    taken.printed ∙ ap (λ xs. before ++ xs) (sym (printed_so taken.event.effect taken.event refl) ∙ ap effect_prints (sym shows.1))

-- a step is to be made, which the fuel lets be made
abbrev IsNext : MachineState → Type 0
IsNext m = (m.steps < m.fuel) × (part_of m.config.to_do ≢ part.Finished)

watch_spoiled : (m new : MachineState) (before after : List ℤ) → (m.spoiled ≡ false → IsNext m) → Spoiled 1 m new before after → WatchSpoiled m new before after
watch_spoiled m new before after left s =
    record { events = s.events; configs = s.configs; moved = s.moved; within = (let few = s.within in omega (arith, few)); spoiled = s.spoiled; left = left }

-- a machine that was spoiled before makes no step
pub watches_no_more : (m : MachineState) (out : List ℤ) → m.spoiled ≡ true → WatchSpoiled m m out out
watches_no_more m out h =
    watch_spoiled m m out out (λ fresh. (let clash : true ≡ false = sym h ∙ fresh in absurd (cc clash))) (already_spoiled 1 m out (omega arith) h)

-- memory was wanting for the next step
pub step_unmade : (m new : MachineState) (before after : List ℤ) → m.steps < m.fuel → part_of m.config.to_do ≢ part.Finished →
    new ≡ record m { spoiled = true } → after ≡ before → WatchSpoiled m new before after
step_unmade m new before after less some is same =
    watch_spoiled m new before after (λ fresh. (less, some)) (wanting 1 m before new after (omega arith) (λ fresh. less) is same)

-- memory was wanting for what is told of the step
pub step_untold : (m new : MachineState) (t : Turn) (before after : List ℤ) → m.steps < m.fuel → part_of m.config.to_do ≢ part.Finished →
    TurnTaken t m new before after → WatchSpoiled m (record new { spoiled = true }) before after
step_untold m new (turn.Made left site seen) before after less some (taken, shows) =
    let step = moved_step left m new before after less taken in
    record {
      events = taken.event ∷ [];
      configs = m.config ∷ [];
      moved = record { run = step.run; prints = step.prints; steps = step.steps; program = step.program; input = step.input; fuel = step.fuel };
      within = omega arith;
      spoiled = refl;
      left = λ fresh. (less, some);
    }
step_untold m new (turn.Fault fault) before after less some t =
    step_unmade m (record new { spoiled = true }) before after less some (ap (λ (n : MachineState). record n { spoiled = true }) t.1) t.2
