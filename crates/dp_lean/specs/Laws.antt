-- The laws: a lean turn is the turn over items, and a lean judging is the judging of the packet, where the packet follows the text.
use Rattle.std.specs.Prelude.{◌≡◌, ℕ, zero, suc, ◌<◌, ◌≤◌, Bool, true, false, List, [], ◌++◌, ℤ, pos, Option, Some, None, length, get_or, filter_map}
use Rattle.std.specs.List.{flat_map}
use Rattle.dp_tree.specs.declared.Stmt.{Stmt}
use Rattle.dp_tree.specs.declared.Program.{Program}
use Rattle.dp_tree.specs.Eval.{Load}
use Rattle.dp_tree.specs.Step.{clear_locals}
use Rattle.dp_tree.specs.Trace.{printed_by}
use Rattle.dp_plan.specs.declared.Plan.{Plan}
use Rattle.dp_plan.specs.Access.{accesses, is_replicated, region_statement}
use Rattle.dp_plan.specs.Checked.{is_checked, has_site}
use Rattle.dp_semantics.specs.Project.{project_all}
use Rattle.dp_semantics.specs.Words.{is_cell_of}
use Rattle.dp_semantics.specs.Verdict.{applied}
use Rattle.dp_semantics.specs.Told.{store_made, with_stores}
use Rattle.dp_semantics.specs.Judge.{last}
use Rattle.dp_semantics.specs.EpochKey.{EpochKey, epoch_of}
use Rattle.dp_net.specs.NetItems.{Marks, Item, item_list}
use Rattle.dp_net.specs.NetRun.{NetEnded, net_run}
use Rattle.dp_net.specs.NetPackets.{NetPacket, net_passed}
use Rattle.dp_net.specs.NetJudge.{NetAgreed, net_judge}
use Rattle.dp_net.specs.Follows.{FollowsText, is_void}
use Rattle.dp_net.specs.Hidden.{marks_of}
use Rattle.dp_lean.specs.Needed.{wanted}
use Rattle.dp_lean.specs.LeanText.{lean_text}
use Rattle.dp_lean.specs.Queues.{Told, queue_of, load_queue_of, all_steps, are_of_text}
use Rattle.dp_lean.specs.LeanTurn.{LeanTurn, LeanEnd, Arrived, BrokenOff, EndsIn, lean_begin}
use Rattle.dp_lean.specs.LeanJudge.{LeanJudging, LeanJudgement, Holds, Differs, JudgesIn, lean_judging}

module _ (p : Program) (plan : Plan) where
  -- Memories of one size with the same values in the cells of the variables that stage s wants.
  pub record AgreesOn (s : ℕ) (a b : List ℤ) : Type 0 where
    pub size : length b ≡ length a
    pub same : (x c : ℕ) → wanted p plan s x ≡ true → is_cell_of p (record { 0 = x }) c ≡ true → get_or b c (pos 0) ≡ get_or a c (pos 0)

  -- the text that is followed by the lists that come to stage s
  abbrev pub came_text : ℕ → List Stmt
  came_text zero = []
  came_text (suc zero) = []
  came_text (suc (suc t)) = project_all p plan (suc t) (region_statement p plan)

  module _ (m : Marks) where
    -- The lists that come to stage s follow the text of the stage before, and load and store what the text does.
    pub record Came (s : ℕ) (lists : List (List Item)) : Type 0 where
      pub size : suc (length lists) ≡ s
      pub follows : FollowsText p plan m (came_text s) (item_list lists)
      pub of_text : are_of_text p plan m lists ≡ true

    -- the site stands in the lean text
    abbrev pub is_read : ℕ → ℕ → Bool
    is_read s y = has_site y (flat_map accesses (lean_text p plan m s))

    -- The queue of each site of the lean text begins with what these lists tell of it.
    abbrev pub Queued : ℕ → List (List Item) → (ℕ → List Told) → (ℕ → List Told) → Type 0
    Queued s lists queues more = (y : ℕ) → is_read s y ≡ true → queues y ≡ queue_of p plan (item_list lists) y ++ more y

    -- Both turns told the same, and closed or not, and their memories agree. Each queue that is read is used up.
    pub record EndsAlike (s : ℕ) (more : ℕ → List Told) (e : NetEnded) (f : LeanTurn) : Type 0 where
      pub own : f.turn.own ≡ e.own
      pub closing : f.turn.closing ≡ e.closing
      pub cells : AgreesOn s e.cells f.turn.cells
      pub left : (y : ℕ) → is_read s y ≡ true → f.queues y ≡ more y

    -- .. or both broke off
    abbrev pub TurnsAlike : ℕ → (ℕ → List Told) → Option NetEnded → LeanEnd → Type 0
    TurnsAlike s more (Some e) (Arrived f) = EndsAlike s more e f
    TurnsAlike s more None BrokenOff = Unit {0}
    TurnsAlike s more _ _ = ⊥

    -- the lean turn of stage s comes to an end, as the turn over items does
    abbrev pub RunsAlike : List ℤ → ℕ → (ℕ → List Told) → (ℕ → List Told) → Option NetEnded → List ℤ → Type 0
    RunsAlike input s queues more o mem = (end : LeanEnd) × EndsIn p plan m input s (lean_begin p plan m s mem queues) end × TurnsAlike s more o end

    -- the loads of each checked site of the judge's lean text stand in its queue
    abbrev pub LoadsQueued : List (List Item) → (ℕ → List (List Load)) → (ℕ → List (List Load)) → Type 0
    LoadsQueued lists loads more = (y : ℕ) → is_read (last plan) y ≡ true → is_checked p plan y ≡ true →
        loads y ≡ load_queue_of p plan (item_list lists) y ++ more y

    -- Both say the same: the prints, whether the region is left, and stores that leave the same memory where the next iteration starts.
    -- The steps are those that the lists stand for.
    pub record JudgedAlike (lists : List (List Item)) (more : ℕ → List Told) (more_loads : ℕ → List (List Load)) (cells : List ℤ)
        (a : NetAgreed) (f : LeanJudging) : Type 0 where
      pub prints : filter_map printed_by f.effects ≡ filter_map printed_by a.effects
      pub closing : f.turn.turn.closing ≡ a.closing
      pub steps : a.steps ≡ all_steps lists
      pub stores : (from : List ℤ) → clear_locals plan.region p.vars (with_stores (filter_map store_made f.effects) from)
          ≡ clear_locals plan.region p.vars (with_stores (filter_map store_made a.effects) from)
      pub memory : AgreesOn (last plan) (applied a.effects cells) f.turn.turn.cells
      pub left : (y : ℕ) → is_read (last plan) y ≡ true → f.turn.queues y ≡ more y
      pub loads_left : (y : ℕ) → is_read (last plan) y ≡ true → is_checked p plan y ≡ true → f.loads y ≡ more_loads y

    -- The packet is judged unclean where its steps pass the limit, or the lean judging finds a load that doesn't hold; and else both say the same.
    pub data JudgesAlike (limit : ℕ) (lists : List (List Item)) (more : ℕ → List Told) (more_loads : ℕ → List (List Load)) (cells : List ℤ) :
        Option NetAgreed → LeanJudgement → Type 0 where
      spent : {end : LeanJudgement} → limit < all_steps lists → JudgesAlike limit lists more more_loads cells None end
      differs : JudgesAlike limit lists more more_loads cells None Differs
      alike : {a : NetAgreed} {f : LeanJudging} → all_steps lists ≤ limit → JudgedAlike lists more more_loads cells a f →
          JudgesAlike limit lists more more_loads cells (Some a) (Holds f)

-- Memories that agree where a turn ends do so where the next iteration starts.
-- Those of a stage before a replicated one agree on what its workers want, which begin with them.
abbrev pub MemoriesGoOn : Program → Plan → Type 0
MemoriesGoOn p plan = (s : ℕ) (a b : List ℤ) → AgreesOn p plan s a b →
    AgreesOn p plan s (clear_locals plan.region p.vars a) (clear_locals plan.region p.vars b)
    × (suc s ≤ length plan.stages → is_replicated plan (suc s) ≡ true → AgreesOn p plan (suc s) a b)

-- What comes to a stage, or to the judge, and isn't void, follows the text.
abbrev pub PacketsCome : Program → Plan → Type 0
PacketsCome p plan = (key : EpochKey) → key.program ≡ p → key.plan ≡ plan → (pays : List Stmt → Bool) (s n : ℕ) →
    is_void (net_passed (marks_of p plan pays) (epoch_of key) s n).packet.status ≡ false →
    Came p plan (marks_of p plan pays) (suc s) (net_passed (marks_of p plan pays) (epoch_of key) s n).packet.lists

-- Where the lists follow the text, the memories agree on what the stage wants, and the queues have what the lists tell,
-- a lean turn comes to the end that the turn over items comes to.
abbrev pub LeanTurnsAreTurns : Program → Plan → Type 0
LeanTurnsAreTurns p plan = (pays : List Stmt → Bool) (input : List ℤ) (s : ℕ) → 0 < s → s ≤ length plan.stages →
    (lists : List (List Item)) → Came p plan (marks_of p plan pays) s lists → (cells mem : List ℤ) → AgreesOn p plan s cells mem →
    (queues more : ℕ → List Told) → Queued p plan (marks_of p plan pays) s lists queues more →
    RunsAlike p plan (marks_of p plan pays) input s queues more (net_run p plan (marks_of p plan pays) input s cells lists) mem

-- .. and a lean judging says what the judgement of the packet says.
abbrev pub LeanJudgesAreJudges : Program → Plan → Type 0
LeanJudgesAreJudges p plan = (pays : List Stmt → Bool) (limit : ℕ) (packet : NetPacket) → is_void packet.status ≡ false →
    Came p plan (marks_of p plan pays) (last plan) packet.lists → (cells mem : List ℤ) → AgreesOn p plan (last plan) cells mem →
    (queues more : ℕ → List Told) → Queued p plan (marks_of p plan pays) (last plan) packet.lists queues more →
    (loads more_loads : ℕ → List (List Load)) → LoadsQueued p plan (marks_of p plan pays) packet.lists loads more_loads →
    (end : LeanJudgement) × JudgesIn p plan (marks_of p plan pays) (lean_judging p plan (marks_of p plan pays) mem queues loads) end
    × JudgesAlike p plan (marks_of p plan pays) limit packet.lists more more_loads cells (net_judge p plan (marks_of p plan pays) limit cells packet) end
