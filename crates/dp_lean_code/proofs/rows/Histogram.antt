-- The code of stages of a histogram, op by op, and a run of one.
use Rattle.std.proofs.Common.{◌≡◌, refl, ℕ, ◌==◌, if◌then◌else◌, Bool, true, false, List, [], ◌∷◌, ℤ, pos, Option, Some, None, get_or}
use Rattle.dp_base.specs.declared.BinOp.TheVariants.{Add, Mul, Rem}
use Rattle.dp_tree.proofs.Build.{tree_opened}
use Rattle.dp_tree.proofs.Programs.{histogram}
use Rattle.dp_tree.specs.declared.Stmt.{Stmt}
use Rattle.dp_tree.specs.Step.{Stored}
use Rattle.dp_plan.proofs.Plans.{histogram_plan}
use Rattle.dp_net.specs.NetItems.{Marks, Item, Net}
use Rattle.dp_net.specs.Hidden.{marks_of}
use Rattle.dp_code.specs.declared.Op.TheVariants as op
use Rattle.dp_code.specs.Code.{expr_code}
use Rattle.dp_lean.specs.Queues.{Told, Did, DidBlock, with_queue}
use Rattle.dp_lean.specs.LeanTurn.{LeanEnd, Arrived, BrokenOff}
use Rattle.dp_lean_code.specs.declared.LeanOp.TheVariants.{Plain, Begin, Finish, Meet}
use Rattle.dp_lean_code.specs.LeanHeld.{flat_begin}
use Rattle.dp_lean_code.specs.LeanFlat.{lean_flat}
use Rattle.dp_lean_code.specs.LeanCode.{stmt_code, lean_code}

abbrev marks : Bool → Marks
marks blocks = marks_of histogram histogram_plan (λ (block : List Stmt). blocks)

-- Stage 2 takes the condition and what the block of the sites 3 and 4 stored, and tells its own block.
second : lean_code histogram histogram_plan 2 (marks true)
    ≡ Plain (op.ConsumeBranch (record { 0 = 2 }) 12) ∷ Meet (record { 0 = 3 }) ∷ Begin (record { 0 = 5 }) ∷ Plain (op.Load (record { 0 = 5 }))
    ∷ Plain (op.Push (pos 5)) ∷ Plain (op.Binary Mul)
    ∷ Plain (op.Push (pos 3)) ∷ Plain (op.Binary Add) ∷ Plain (op.Push (pos 4)) ∷ Plain (op.Binary Rem) ∷ Plain (op.Store (record { 0 = 5 }) (record { 0 = 6 }))
    ∷ Finish ∷ Plain op.End ∷ []
unfolding tree_opened expr_code stmt_code
second = refl

-- without blocks it takes x alone, and not i
second_alone : lean_code histogram histogram_plan 2 (marks false)
    ≡ Plain (op.ConsumeBranch (record { 0 = 2 }) 10) ∷ Plain (op.Consume (record { 0 = 3 }) (record { 0 = 5 }) 1) ∷ Plain (op.Load (record { 0 = 5 }))
    ∷ Plain (op.Push (pos 5)) ∷ Plain (op.Binary Mul)
    ∷ Plain (op.Push (pos 3)) ∷ Plain (op.Binary Add) ∷ Plain (op.Push (pos 4)) ∷ Plain (op.Binary Rem)
    ∷ Plain (op.Store (record { 0 = 5 }) (record { 0 = 6 })) ∷ Plain op.End ∷ []
unfolding tree_opened expr_code stmt_code
second_alone = refl

abbrev queues : ℕ → List Told
queues y = if y == 2 then Did 0 (pos 1) ∷ [] else if y == 3 then DidBlock (Stored 5 (pos 7) ∷ Stored 4 (pos 1) ∷ []) ∷ [] else []

abbrev told_of : Option LeanEnd → Option (List Item × ℤ × Bool)
told_of (Some (Arrived f)) = Some (f.turn.own, get_or f.turn.cells 6 (pos 9), f.turn.closing)
told_of _ = None

abbrev ran : (ℕ → List Told) → ℕ → Option LeanEnd
ran q n = lean_flat histogram histogram_plan (marks true) [] (lean_code histogram histogram_plan 2 (marks true)) n
    (flat_begin (pos 0 ∷ pos 0 ∷ pos 0 ∷ pos 0 ∷ pos 0 ∷ pos 0 ∷ pos 0 ∷ []) q)

-- x is 7, and y (7 * 5 + 3) % 4
told : told_of (ran queues 13) ≡ Some (Net 5 1 (Stored 6 (pos 2) ∷ []) ∷ [], pos 2, false)
unfolding tree_opened expr_code stmt_code lean_flat
told = refl

-- at a condition of 0 nothing is left to do
closed : told_of (ran (with_queue queues 2 (Did 0 (pos 0) ∷ [])) 2) ≡ Some ([], pos 0, true)
unfolding tree_opened expr_code stmt_code lean_flat
closed = refl

empty : ran (with_queue queues 3 []) 2 ≡ Some BrokenOff
unfolding tree_opened expr_code stmt_code lean_flat
empty = refl
