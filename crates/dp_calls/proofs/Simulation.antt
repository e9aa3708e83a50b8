-- Frames and the expanded program do the same, step by step, and so for every fuel.
use Rattle.std.proofs.Common.{◌≡◌, refl, sym, ap, ap₂, ◌∙◌, subst, ℕ, zero, suc, List, [], ◌∷◌, ◌++◌, ℤ, length, take, Option, Some, None}
use Rattle.std.proofs.lemmas.List.{take_at}
use Rattle.std.specs.List.{cons_option}
use Rattle.dp_base.specs.declared.End.{End}
use Rattle.dp_base.specs.declared.End.TheVariants.{Done, Fault, Fuel}
use Rattle.dp_base.specs.declared.VarId.{VarId}
use Rattle.dp_tree.specs.declared.Expr.{Expr}
use Rattle.dp_tree.specs.declared.Stmt.{Stmt}
use Rattle.dp_tree.specs.declared.Program.{Program}
use Rattle.dp_tree.specs.Event.{Event}
use Rattle.dp_tree.specs.Step.{Config, Step, step, step_from}
use Rattle.dp_tree.specs.Trace.{Run, run_of, run_by, end_at, extended, printed_by, prints}
use Rattle.dp_tree.specs.Iteration.{cells_after}
use Rattle.dp_calls.specs.Frame.{Frame, State, global_count}
use Rattle.dp_calls.specs.FrameStep.{FrameStep, step_frames}
use Rattle.dp_calls.specs.Frames.{CallsOutcome, frames_end, with_step, outcome_by, frames_from}
use Rattle.dp_calls.specs.Meaning.{outcome_of_run}
use Rattle.dp_calls.proofs.Relation.{Env, Laid, Binds, binds}
use Rattle.dp_calls.proofs.Stacks.{Sim, ends, acting, leaving, binding, Alike}
use Rattle.dp_calls.proofs.Acting.{StepsAlike, both_end, both_fault, both_go, acting_steps}
use Rattle.dp_calls.proofs.Leaving.{leaving_steps}
use Rattle.dp_calls.proofs.Binding.{binding_steps}

module _ (p q : Program) (laid : Laid p q) (input : List ℤ) where
  sim_steps : (c : State) (h : List ℤ) → length c.globals ≡ global_count p → (frames : List Frame) (code : List Stmt) → Sim p q h frames code →
      StepsAlike p q (step_frames p input c frames) (step_from q input (c.globals ++ h) code)
  sim_steps c h whole frames code ends = both_end
  sim_steps c h whole frames code (acting {s = s} {t = t} {statements = statements} {text = text} ready callee is acts todo code_is) =
      acting_steps p q laid ready callee c.globals input c s t statements text code refl whole is acts todo code_is
  sim_steps c h whole frames code (leaving {s = s} {t = t} ready callee is tries todo facts left code_is) =
      leaving_steps p q laid ready callee c.globals whole facts input c s t code refl is tries todo left code_is
  sim_steps c h whole frames code (binding {s = s} ready is is_call filling todo code_is) =
      binding_steps p q laid ready filling todo input c whole s code is is_call code_is

  -- one step of both
  pub steps_alike : (c : State) (d : Config) → Alike p q c d → StepsAlike p q (step_frames p input c c.frames) (step q input d)
  steps_alike c d alike =
      subst (λ (m : List ℤ). StepsAlike p q (step_frames p input c c.frames) (step_from q input m d.to_do)) (sym alike.cells)
      (sim_steps c alike.own alike.whole c.frames d.to_do alike.sim)

  end_bound : {e g : Env} {visible : List ℕ} {line : ℕ} {x : VarId} {params : List VarId} {a : Expr} {args : List Expr} {bindings : List Stmt}
      (rest : List Stmt) → Binds p q e g visible line (x ∷ params) (a ∷ args) bindings →
      Fuel ≡ end_at (bindings ++ rest)
  end_bound rest (binds _ _ _ _ _) = refl

  -- both are done, or both have something left
  sim_end : (h : List ℤ) (frames : List Frame) (code : List Stmt) → Sim p q h frames code → frames_end frames ≡ end_at code
  sim_end h frames code ends = refl
  sim_end h frames code (acting _ _ _ _ _ is) = sym (ap end_at is)
  sim_end h frames code (leaving _ _ _ _ _ _ _ is) = sym (ap end_at is)
  sim_end h frames code (binding _ _ _ filling _ is) = end_bound _ filling.binds ∙ sym (ap end_at is)

  module _ (same : global_count q ≡ global_count p) where
    globals_are : (c : State) (d : Config) → Alike p q c d → c.globals ≡ take (global_count q) d.cells
    globals_are c d alike =
        sym (ap (take (global_count q)) alike.cells ∙ take_at c.globals alike.own (global_count q) (alike.whole ∙ sym same))

    abbrev outcome_as : List ℤ → List ℤ → ℕ → End → CallsOutcome
    outcome_as printed globals steps end = record { prints = printed; globals = globals; steps = steps; end = end }

    stepped_outcome : Option ℤ → Run → CallsOutcome
    stepped_outcome z run =
        outcome_as (cons_option z (prints run.trace)) (take (global_count q) (cells_after run (length run.trace))) (suc (length run.trace)) run.end

    with_step_is : (z : Option ℤ) (run : Run) → with_step z (outcome_of_run q run) ≡ stepped_outcome z run
    unfolding stepped_outcome
    with_step_is None run = refl
    with_step_is (Some z) run = refl

    -- one step more on both sides
    stepped_as : (z : Option ℤ) (d : Config) (event : Event) (n : ℕ) (run : Run) (outcome : CallsOutcome) → printed_by event.effect ≡ z →
        outcome ≡ outcome_of_run q run →
        with_step z outcome ≡ outcome_of_run q (extended n d event run)
    unfolding stepped_outcome
    stepped_as z d event n run outcome printed is =
        ap (λ (w : CallsOutcome). with_step z w) is ∙ with_step_is z run ∙ ap (λ (w : Option ℤ). stepped_outcome w run) (sym printed)

    outcomes_by : (n : ℕ) (go : (c : State) (d : Config) → Alike p q c d → frames_from p input n c ≡ outcome_of_run q (run_of q input n d)) (c : State)
        (d : Config) → Alike p q c d →
        (s : FrameStep) (t : Step) → StepsAlike p q s t → outcome_by (frames_from p input n) c s ≡ outcome_of_run q (run_by (run_of q input n) (suc n) d t)
    outcomes_by n go c d alike s t both_end = ap (λ (g : List ℤ). outcome_as [] g 0 Done) (globals_are c d alike)
    outcomes_by n go c d alike s t (both_fault fault) = ap (λ (g : List ℤ). outcome_as [] g 0 (Fault fault)) (globals_are c d alike)
    outcomes_by n go c d alike s t (both_go {z = z} {c = after} {event = event} {d = next} printed behind) =
        stepped_as z d event (suc n) (run_of q input n next) (frames_from p input n after) printed (go after next behind)

    -- the outcome from alike states on
    pub outcomes_alike : (n : ℕ) (c : State) (d : Config) → Alike p q c d → frames_from p input n c ≡ outcome_of_run q (run_of q input n d)
    unfolding run_of
    outcomes_alike zero c d alike =
        ap₂ (λ (g : List ℤ) (end : End). outcome_as [] g 0 end) (globals_are c d alike) (sim_end alike.own c.frames d.to_do alike.sim)
    outcomes_alike (suc n) c d alike = outcomes_by n (outcomes_alike n) c d alike (step_frames p input c c.frames) (step q input d) (steps_alike c d alike)
