-- One step of a program with calls: an evaluation of the running frame, or the binding of one argument.
use Rattle.std.specs.Prelude.{ℕ, suc, ◌-◌, List, [], ◌∷◌, ◌++◌, length, take, drop, ℤ, Option, Some, None, Ok, Err, slice_get, slice_set}
use Rattle.dp_base.specs.declared.Fault.{Fault as FaultAt}
use Rattle.dp_base.specs.declared.VarId.{VarId}
use Rattle.dp_tree.specs.declared.Expr.{Expr}
use Rattle.dp_tree.specs.declared.Stmt.{Stmt, out-Stmt}
use Rattle.dp_tree.specs.declared.Stmt.TheVariants as tree
use Rattle.dp_tree.specs.declared.Stmt.TheOpen.{Stmt-F, Call}
use Rattle.dp_tree.specs.declared.Program.{Program}
use Rattle.dp_tree.specs.Eval.{Evaluated, eval, first_cell}
use Rattle.dp_tree.specs.Step.{Step, Finished, Faulted, Stepped, step}
use Rattle.dp_tree.specs.Trace.{printed_by}
use Rattle.dp_tree.specs.Functions.{body_in, params_in}
use Rattle.dp_calls.specs.Frame.{Frame, State, global_count, fresh_frame, new_frame, frames_settled}

-- nothing is left to evaluate, the evaluation faults, or the printed value, if any, and what follows
pub data FrameStep : Type 0 where
  Ends : FrameStep
  Faults : FaultAt → FrameStep
  Goes : Option ℤ → State → FrameStep

-- what the running frame sees: the file-scope variables and its own
abbrev pub frame_cells : State → Frame → List ℤ
frame_cells c f = c.globals ++ f.locals

-- a step of the running frame's own
abbrev pub frame_step : Program → Frame → List Frame → Step → FrameStep
frame_step p f below Finished = Ends
frame_step p f below (Faulted fault) = Faults fault
frame_step p f below (Stepped event c) = Goes (printed_by event.effect) (record {
  globals = take (global_count p) c.cells;
  frames = frames_settled p (record f { to_do = c.to_do; locals = drop (global_count p) c.cells } ∷ below);
})

-- the value in the parameter's cell
abbrev pub bound_to : Program → Option VarId → List ℤ → ℤ → List ℤ
bound_to p None callee z = callee
bound_to p (Some x) callee z = slice_set callee (first_cell p x - global_count p) z

-- the callee's variables with this argument bound to its parameter, where `left` more are to come
abbrev pub bound : Program → List VarId → ℕ → List ℤ → ℤ → List ℤ
bound p params left callee z = bound_to p (slice_get params (length params - suc left)) callee z

-- the frames after an argument is bound: after the last one the function's body begins
abbrev pub call_frames : Program → Frame → List Frame → List Stmt → ℕ → ℕ → List Expr → List ℤ → List Frame
call_frames p f below rest g line [] callee =
    record (new_frame p (body_in (slice_get p.functions g))) { locals = callee } ∷ record f { to_do = rest; callee = fresh_frame p } ∷ below
call_frames p f below rest g line (a ∷ args) callee = record f { to_do = tree.Call g line (a ∷ args) ∷ rest; callee = callee } ∷ below

-- the step of an argument; its fault has the line of the call's name
abbrev pub call_step : Program → State → Frame → List Frame → List Stmt → ℕ → ℕ → List Expr → Evaluated ℤ → FrameStep
call_step p c f below rest g line args (Err kind) = Faults (record { kind = kind; line = line })
call_step p c f below rest g line args (Ok v) = Goes None (record {
  globals = c.globals;
  frames = frames_settled p (call_frames p f below rest g line args
      (bound p (params_in (slice_get p.functions g)) (length args) f.callee v.value));
})

-- the step at the head of the running frame
abbrev pub step_head : Program → List ℤ → State → Frame → List Frame → List Stmt → Stmt-F Stmt → FrameStep
step_head p input c f below rest (Call g line []) = Ends
step_head p input c f below rest (Call g line (a ∷ args)) = call_step p c f below rest g line args (eval p input (frame_cells c f) a)
step_head p input c f below rest _ = frame_step p f below (step p input (record { to_do = f.to_do; cells = frame_cells c f }))

-- the same from what the frame has to do
abbrev pub step_frame : Program → List ℤ → State → Frame → List Frame → List Stmt → FrameStep
step_frame p input c f below [] = Ends
step_frame p input c f below (s ∷ rest) = step_head p input c f below rest (out-Stmt s)

-- one step of these frames, which are settled
abbrev pub step_frames : Program → List ℤ → State → List Frame → FrameStep
step_frames p input c [] = Ends
step_frames p input c (f ∷ below) = step_frame p input c f below f.to_do
