-- Call frames: each call under way has statements to do and variables of its own.
use Rattle.std.specs.Prelude.{ℕ, zero, suc, ◌-◌, List, [], ◌∷◌, ◌++◌, length, drop, replicate, ℤ, pos, Option, Some, None, slice_get}
use Rattle.dp_tree.specs.declared.Stmt.{Stmt, out-Stmt}
use Rattle.dp_tree.specs.declared.Stmt.TheOpen.{Stmt-F, Call}
use Rattle.dp_tree.specs.declared.Program.{Program}
use Rattle.dp_tree.specs.Step.{cleared_at}
use Rattle.dp_tree.specs.Functions.{body_in}
use Rattle.dp_tree.specs.Globals.{globals_in}
use Rattle.dp_tree.specs.Trace.{start_cells}

-- the statements still to do, the frame's own variables, and those of the frame that a call under way fills
pub record Frame : Type 0 where
  pub to_do : List Stmt
  pub locals : List ℤ
  pub callee : List ℤ

-- the file-scope variables, and the frames, the running one first
pub record State : Type 0 where
  pub globals : List ℤ
  pub frames : List Frame

-- the number of their cells, which come first
abbrev pub global_count : Program → ℕ
global_count p = length (start_cells (globals_in p.vars))

-- the variables of a new frame, in the places of the program's cells behind the file-scope ones
abbrev pub fresh_frame : Program → List ℤ
fresh_frame p = replicate (length (start_cells p.vars) - global_count p) (pos 0)

-- a frame that is to do this, with fresh variables
abbrev pub new_frame : Program → List Stmt → Frame
new_frame p body = record { to_do = body; locals = fresh_frame p; callee = fresh_frame p }

-- the body that a call without arguments enters; it evaluates nothing itself
abbrev pub entered : Program → Stmt-F Stmt → Option (List Stmt)
entered p (Call f line []) = Some (body_in (slice_get p.functions f))
entered p (Call f line (a ∷ rest)) = None
entered p _ = None

-- a frame with this statement at the head; a region at the head finds its body locals 0
abbrev pub standing_frame : Program → Frame → Stmt → List Stmt → Frame
standing_frame p f s rest = record f {
  to_do = s ∷ rest;
  locals = drop (global_count p) (cleared_at p (out-Stmt s) (replicate (global_count p) (pos 0) ++ f.locals));
}

-- the frames of a call that has something to evaluate, or what comes after it
abbrev pub or_after : Option (List Frame) → (List Frame → Option (List Frame)) → List Frame → Option (List Frame)
or_after (Some frames) after below = Some frames
or_after None after below = after below

-- the same at a statement: a call that evaluates nothing is entered, and `after` gives what comes behind it
abbrev pub resumed_at : (Frame → List Frame → Option (List Frame)) → Program → Frame → Stmt → List Stmt → (List Frame → Option (List Frame)) →
    Option (List Stmt) → List Frame → Option (List Frame)
resumed_at enter p f s rest after None below = Some (standing_frame p f s rest ∷ below)
resumed_at enter p f s rest after (Some body) below = or_after (enter (new_frame p body) (record f { to_do = rest } ∷ below)) after below

-- The frames from the next evaluation on, if this frame has one left. Calls before it that evaluate nothing are made by the way.
abbrev pub resumed_with : (Frame → List Frame → Option (List Frame)) → Program → Frame → List Stmt → List Frame → Option (List Frame)
resumed_with enter p f [] below = None
resumed_with enter p f (s ∷ rest) below = resumed_at enter p f s rest (resumed_with enter p f rest) (entered p (out-Stmt s)) below

-- no call is entered
abbrev pub no_frames : Frame → List Frame → Option (List Frame)
no_frames f below = None

-- the same, where calls nest at most so deep
abbrev pub resumed : Program → ℕ → Frame → List Frame → Option (List Frame)
resumed p zero f below = resumed_with no_frames p f f.to_do below
resumed p (suc depth) f below = resumed_with (resumed p depth) p f f.to_do below

-- these frames, or the ones below
abbrev pub or_below : Option (List Frame) → List Frame → List Frame
or_below (Some frames) below = frames
or_below None below = below

-- Finished frames are given up. A call leads to an earlier function, so calls nest at most as deep as there are functions.
abbrev pub frames_settled : Program → List Frame → List Frame
frames_settled p [] = []
frames_settled p (f ∷ below) = or_below (resumed p (length p.functions) f below) (frames_settled p below)
