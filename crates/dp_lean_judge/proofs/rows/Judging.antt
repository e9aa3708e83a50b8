-- The judge's code of a loop with a checked site, op by op, runs of it, and what is known of its places.
use Rattle.std.proofs.Common.{◌≡◌, refl, ℕ, Bool, true, false, List, [], ◌∷◌, ◌==◌, if◌then◌else◌, ℤ, pos, Option, Some, None}
use Rattle.dp_base.specs.declared.SiteId.{SiteId}
use Rattle.dp_base.specs.declared.CellId.{CellId}
use Rattle.dp_base.specs.declared.StoreOf.{StoreOf}
use Rattle.dp_tree.proofs.Build.{tree_opened}
use Rattle.dp_tree.proofs.Programs.{stale_step}
use Rattle.dp_tree.specs.Eval.{Load}
use Rattle.dp_tree.specs.Step.{Stored}
use Rattle.dp_tree.specs.declared.Stmt.{Stmt}
use Rattle.dp_plan.specs.declared.Plan.{Plan}
use Rattle.dp_plan.proofs.Plans.{stale_step_plan}
use Rattle.dp_semantics.specs.Judge.{last}
use Rattle.dp_code.specs.declared.Op.TheVariants as op
use Rattle.dp_code.specs.Code.{expr_code}
use Rattle.dp_net.specs.NetItems.{Marks}
use Rattle.dp_net.specs.Hidden.{marks_of}
use Rattle.dp_lean.specs.Queues.{Told, Did, DidBlock}
use Rattle.dp_lean_code.specs.declared.LeanOp.{LeanOp}
use Rattle.dp_lean_code.specs.declared.LeanOp.TheVariants.{Plain, Meet}
use Rattle.dp_lean_code.specs.LeanCode.{stmt_code, lean_code}
use Rattle.dp_lean_judge.specs.JudgeState.{Gathered, JudgeEnd, Holds, Differs, judge_begin}
use Rattle.dp_lean_judge.specs.JudgeFlat.{judge_flat}
use Rattle.dp_lean_judge.specs.Collecting.{undone}
use Rattle.dp_lean_judge.specs.Ready.{landing, entry_of}
use Rattle.dp_lean_judge.specs.declared.ready.Entry.TheVariants.{Scalar, Element, Choice, Block, End}

abbrev step_plan : Plan
step_plan = stale_step_plan 64

abbrev marks : Bool → Marks
marks blocks = marks_of stale_step step_plan (λ (block : List Stmt). blocks)

abbrev site : ℕ → SiteId
site n = record { 0 = n }

abbrev cell : ℕ → CellId
cell n = record { 0 = n }

-- the code of the judge: the site 5 in the loop is checked
abbrev code : List LeanOp
code = lean_code stale_step step_plan (last step_plan) (marks false)

code_is : code ≡ Plain (op.ConsumeBranch (site 2) 8) ∷ Plain (op.Consume (site 3) (cell 3) 1) ∷ Plain (op.ConsumeBranch (site 4) 5)
    ∷ Plain (op.Consume (site 5) (cell 3) 1) ∷ Plain (op.Jump 2) ∷ Plain (op.Consume (site 6) (cell 1) 1) ∷ Plain (op.Consume (site 7) (cell 0) 1)
    ∷ Plain (op.Consume (site 8) (cell 2) 1) ∷ Plain op.End ∷ []
unfolding tree_opened expr_code stmt_code
code_is = refl

-- .. where runs of quiet statements are blocks: the checked site stays alone
abbrev blocks : List LeanOp
blocks = lean_code stale_step step_plan (last step_plan) (marks true)

blocks_are : blocks ≡ Plain (op.ConsumeBranch (site 2) 7) ∷ Meet (site 3) ∷ Plain (op.ConsumeBranch (site 4) 5) ∷ Plain (op.Consume (site 5) (cell 3) 1)
    ∷ Plain (op.Jump 2) ∷ Meet (site 6) ∷ Meet (site 8) ∷ Plain op.End ∷ []
unfolding tree_opened expr_code stmt_code
blocks_are = refl

abbrev queues : List Told → ℕ → List Told
queues inner y = if y == 2 then Did 0 (pos 1) ∷ [] else if y == 3 then Did 3 (pos 0) ∷ [] else if y == 4 then Did 0 (pos 1) ∷ Did 0 (pos 0) ∷ []
    else if y == 5 then inner else if y == 6 then Did 1 (pos 3) ∷ [] else if y == 7 then Did 0 (pos 2) ∷ [] else if y == 8 then Did 2 (pos 2)
    ∷ Did 2 (pos 9) ∷ [] else []

-- j and the step, as site 5 loaded them
abbrev loads : ℕ → ℕ → List (List Load)
loads step y = if y == 5 then (record { cell = 3; value = pos 0 } ∷ record { cell = 0; value = pos step } ∷ []) ∷ [] else []

abbrev base : List ℤ
base = pos 2 ∷ pos 1 ∷ pos 1 ∷ pos 9 ∷ []

abbrev told_of : Option JudgeEnd → Option (Option (List ℤ × Gathered × Bool × List Told))
told_of (Some (Holds c)) = Some (Some (c.cells, c.gathered, c.closing, c.queues 8))
told_of (Some Differs) = Some None
told_of None = None

abbrev ran : List LeanOp → List ℤ → (ℕ → List Told) → (ℕ → List (List Load)) → ℕ → Option (Option (List ℤ × Gathered × Bool × List Told))
ran ops cells q l n = told_of (judge_flat stale_step step_plan ops n (judge_begin cells q l))

abbrev store : ℕ → ℕ → StoreOf
store c z = record { cell = cell c; value = pos z }

abbrev gathered : Gathered
gathered = record { stores = store 3 0 ∷ store 3 2 ∷ store 1 3 ∷ store 0 2 ∷ store 2 2 ∷ []; prints = [] }

-- ten ops, and what is told of the next iteration stays
holds : ran code base (queues (Did 3 (pos 2) ∷ [])) (loads 2) 10 ≡ Some (Some (pos 2 ∷ pos 3 ∷ pos 2 ∷ pos 2 ∷ [], gathered, false, Did 2 (pos 9) ∷ []))
unfolding tree_opened expr_code stmt_code judge_flat
holds = refl

goes_on : ran code base (queues (Did 3 (pos 2) ∷ [])) (loads 2) 9 ≡ None
unfolding tree_opened expr_code stmt_code judge_flat
goes_on = refl

-- the step that was loaded isn't what the memory holds, no loads were told, or a store to another cell was
stale : ran code base (queues (Did 3 (pos 2) ∷ [])) (loads 0) 4 ≡ Some None
unfolding tree_opened expr_code stmt_code judge_flat
stale = refl

unloaded : ran code base (queues (Did 3 (pos 2) ∷ [])) (λ y. []) 4 ≡ Some None
unfolding tree_opened expr_code stmt_code judge_flat
unloaded = refl

outside : ran code base (queues (Did 2 (pos 2) ∷ [])) (loads 2) 4 ≡ Some None
unfolding tree_opened expr_code stmt_code judge_flat
outside = refl

-- blocks are told by their net stores
abbrev block_queues : ℕ → List Told
block_queues y = if y == 2 then Did 0 (pos 1) ∷ [] else if y == 3 then DidBlock (Stored 3 (pos 0) ∷ []) ∷ [] else if y == 4 then Did 0 (pos 1)
    ∷ Did 0 (pos 0) ∷ []
    else if y == 5 then Did 3 (pos 2) ∷ [] else if y == 6 then DidBlock (Stored 1 (pos 3) ∷ Stored 0 (pos 2) ∷ []) ∷ [] else if y == 8
    then DidBlock (Stored 2 (pos 2) ∷ []) ∷ [] else []

by_blocks : ran blocks base block_queues (loads 2) 9 ≡ Some (Some (pos 2 ∷ pos 3 ∷ pos 2 ∷ pos 2 ∷ [], gathered, false, []))
unfolding tree_opened expr_code stmt_code judge_flat
by_blocks = refl

-- at a 0 of the region's condition it is left
closed : ran code base (λ y. if y == 2 then Did 0 (pos 0) ∷ [] else []) (λ y. []) 2 ≡ Some
    (Some (base, record { stores = []; prints = [] }, true, []))
unfolding tree_opened expr_code stmt_code judge_flat
closed = refl

-- .. and at an end before the last op; a print is collected
left : ran (Plain (op.ConsumePrint (site 6)) ∷ Plain (op.ConsumeBranch (site 4) 3) ∷ Plain op.End ∷ Plain op.End ∷ []) base
    (λ y. if y == 6 then Did 0 (pos 8) ∷ [] else if y == 4 then Did 0 (pos 5) ∷ [] else []) (λ y. []) 3
    ≡ Some (Some (base, record { stores = []; prints = pos 8 ∷ [] }, true, []))
unfolding tree_opened judge_flat
left = refl

-- behind the checked site a jump leads to the loop's condition
checked_entry : entry_of stale_step step_plan code 4 (Plain (op.Consume (site 5) (cell 3) 1))
    ≡ Scalar (record { reader = 0; column = 3; checked = true; opens = false; compares = true }) (cell 3) 2
unfolding tree_opened expr_code stmt_code landing
checked_entry = refl

condition_entry : entry_of stale_step step_plan code 1 (Plain (op.ConsumeBranch (site 2) 8))
    ≡ Choice (record { reader = 0; column = 0; checked = false; opens = true; compares = true }) 8 1
unfolding tree_opened expr_code stmt_code landing
condition_entry = refl

block_entry : entry_of stale_step step_plan blocks 6 (Meet (site 6))
    ≡ Block (record { reader = 1; column = 4; checked = false; opens = false; compares = true }) 6
unfolding tree_opened expr_code stmt_code landing
block_entry = refl

array_entry : entry_of stale_step step_plan code 7 (Plain (op.Consume (site 6) (cell 1) 3)) ≡ Element
    (record { reader = 1; column = 4; checked = false; opens = false; compares = true }) (cell 1) 3 7
unfolding tree_opened expr_code stmt_code landing
array_entry = refl

last_entry : entry_of stale_step step_plan code 9 (Plain op.End) ≡ End false
unfolding tree_opened expr_code stmt_code landing
last_entry = refl

-- the first note is restored last
restored : undone (store 1 5 ∷ store 1 7 ∷ []) (pos 0 ∷ pos 9 ∷ []) ≡ pos 0 ∷ pos 5 ∷ []
restored = refl
