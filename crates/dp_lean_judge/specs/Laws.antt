-- The law of the judge's code.
use Rattle.std.specs.Prelude.{◌≡◌, ℕ, Bool, List, ℤ, Some, filter_map}
use Rattle.dp_tree.specs.declared.Stmt.{Stmt}
use Rattle.dp_tree.specs.declared.Program.{Program}
use Rattle.dp_tree.specs.Eval.{Load}
use Rattle.dp_tree.specs.Trace.{printed_by}
use Rattle.dp_plan.specs.declared.Plan.{Plan}
use Rattle.dp_semantics.specs.Judge.{last}
use Rattle.dp_semantics.specs.Told.{store_made}
use Rattle.dp_net.specs.NetItems.{Marks}
use Rattle.dp_net.specs.Hidden.{marks_of}
use Rattle.dp_lean.specs.Queues.{Told}
use Rattle.dp_lean.specs.LeanJudge.{LeanJudging, LeanJudgement, JudgesIn, lean_judging}
use Rattle.dp_lean.specs.LeanJudge as lean
use Rattle.dp_lean_code.specs.LeanCode.{lean_code}
use Rattle.dp_lean_judge.specs.JudgeState.{LeanState, JudgeEnd, Holds, Differs, judge_begin}
unfoldable use Rattle.dp_lean_judge.specs.JudgeFlat.{judge_flat}

-- Both left the same: the memory, each queue, whether the region is left, and what is to be committed.
pub record LeavesSame (c : LeanState) (f : LeanJudging) : Type 0 where
  pub cells : c.cells ≡ f.turn.turn.cells
  pub closing : c.closing ≡ f.turn.turn.closing
  pub queues : c.queues ≡ f.turn.queues
  pub loads : c.loads ≡ f.loads
  pub stores : c.gathered.stores ≡ filter_map store_made f.effects
  pub prints : c.gathered.prints ≡ filter_map printed_by f.effects

-- .. or both say that nothing may be committed
abbrev pub SaysSame : JudgeEnd → LeanJudgement → Type 0
SaysSame (Holds c) (lean.Holds f) = LeavesSame c f
SaysSame Differs lean.Differs = Unit {0}
SaysSame _ _ = ⊥

module _ (p : Program) (plan : Plan) where
  -- From each memory and queues the code comes to the end that the lean judging comes to.
  abbrev pub IsJudgeCode : Marks → Type 0
  IsJudgeCode m = (cells : List ℤ) (queues : ℕ → List Told) (loads : ℕ → List (List Load)) (end : LeanJudgement) →
      JudgesIn p plan m (lean_judging p plan m cells queues loads) end →
      (n : ℕ) × (e : JudgeEnd) × (judge_flat p plan (lean_code p plan (last plan) m) n (judge_begin cells queues loads) ≡ Some e) × SaysSame e end

  -- So it does whichever runs of quiet statements are taken for blocks.
  abbrev pub JudgeCodeIsRight : Type 0
  JudgeCodeIsRight = (pays : List Stmt → Bool) → IsJudgeCode (marks_of p plan pays)
