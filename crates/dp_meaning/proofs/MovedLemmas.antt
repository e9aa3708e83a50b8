-- What one step, or two pieces one after the other, do to a machine.
use Rattle.dp_meaning.proofs.Names.{◌≡◌, refl, sym, ◌∙◌, ap, subst, ℕ, suc, Bool, ◌+◌, ◌-◌, ◌<◌, List, [], ◌∷◌, ◌++◌, append_assoc, append-nil, length-append}
use Rattle.dp_meaning.proofs.Names.{ℤ, arith, filter_map-append, Config, Event, run_of, prints, printed_by, MachineState, fuel_left, rest_of_run, Continues}
use Rattle.dp_meaning.proofs.Names.{Moved, StepTaken}
use Rattle.dp_meaning.proofs.TurnLemmas.{stepped_to}
use Rattle.dp_meaning.proofs.ContinuesLemmas.{continues_none, continues_join, continues_step}

pub prints-append : (es fs : List Event) → prints (es ++ fs) ≡ prints es ++ prints fs
prints-append es fs = filter_map-append (λ (e : Event). printed_by e.effect) es fs

pub moved_none : (m : MachineState) (out : List ℤ) → Moved m m out out [] []
moved_none m out = record {
  run = continues_none (rest_of_run m);
  prints = sym (append-nil out);
  steps = omega arith;
  program = refl;
  input = refl;
  fuel = refl;
}

pub moved_join : (a b c : MachineState) (x y z : List ℤ) (es fs : List Event) (cs ds : List Config) → Moved a b x y es cs → Moved b c y z fs ds →
    Moved a c x z (es ++ fs) (cs ++ ds)
moved_join a b c x y z es fs cs ds h k = record {
  run = continues_join (rest_of_run a) (rest_of_run b) (rest_of_run c) es fs cs ds h.run k.run;
  prints = k.prints ∙ ap (λ xs. xs ++ prints fs) h.prints ∙ append_assoc x (prints es) (prints fs) ∙ ap (λ xs. x ++ xs) (sym (prints-append es fs));
  steps = let e = length-append es fs in let f = h.steps in let g = k.steps in omega arith;
  program = k.program ∙ h.program;
  input = k.input ∙ h.input;
  fuel = k.fuel ∙ h.fuel;
}

-- one step, to this machine
pub moved_step : (left : Bool) (m n : MachineState) (x z : List ℤ) → m.steps < m.fuel → (s : StepTaken left m n x z) →
    Moved m n x z (s.event ∷ []) (m.config ∷ [])
moved_step left m n x z h s =
    let room : fuel_left m ≡ suc (m.fuel - (m.steps + 1)) = omega (arith, h) in
    let From : ℕ → Type 0 = λ k. Continues (run_of m.program m.input k m.config) (s.event ∷ []) (m.config ∷ []) (rest_of_run (stepped_to left m n.config)) in
    let run = subst From (sym room) (continues_step m.program m.input (m.fuel - (m.steps + 1)) m.config n.config s.event s.stepped) in
    let moved : Moved m (stepped_to left m n.config) x z (s.event ∷ []) (m.config ∷ []) =
    record { run = run; prints = s.printed; steps = refl; program = refl; input = refl; fuel = refl } in
    subst (λ (t : MachineState). Moved m t x z (s.event ∷ []) (m.config ∷ [])) (sym s.rest) moved
