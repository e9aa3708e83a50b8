-- The judgement on a packet: all stages' words are followed in the source's committed memory, as the stage after the last one would.
use Rattle.std.specs.Prelude.{ℕ, if◌then◌else◌, zero, suc, Bool, true, ◌&&◌, List, [], ◌∷◌, ◌++◌, length, ℤ, pos, Option, Some, None, Result, Ok, Err, get_or}
use Rattle.std.specs.Ordering.{int_eq}
use Rattle.dp_base.specs.declared.Word.{Word}
use Rattle.dp_tree.specs.declared.Stmt.{Stmt, out-Stmt}
use Rattle.dp_tree.specs.declared.Stmt.TheOpen.{Stmt-F}
use Rattle.dp_tree.specs.declared.Program.{Program}
use Rattle.dp_plan.specs.declared.Plan.{Plan}
use Rattle.dp_tree.specs.Step.{Effect, site_of}
use Rattle.dp_semantics.specs.Clean.{as_assumed}
use Rattle.dp_semantics.specs.Words.{Taken, Void, is_load_of, taken_from}
use Rattle.dp_semantics.specs.StageRun.{Turn, consumed, words_left, turn_begin}
use Rattle.dp_semantics.specs.Packets.{Status, Going, Closing, Broken, Packet}

-- a turn over the words, and what was done in it so far, and at which sites
pub record Judging : Type 0 where
  pub turn : Turn
  pub effects : List Effect
  pub sites : List ℕ

-- what may be committed: the stores, prints and conditions in order, the site of each, and whether the region's condition was 0 or a break was taken
pub record Agreed : Type 0 where
  pub effects : List Effect
  pub sites : List ℕ
  pub closing : Bool

-- what is decided of a packet
pub data Judgement : Type 0 where
  Clean : Agreed → Judgement
  Unclean : Judgement

-- each load of the site at the front of the words gave what the memory holds
abbrev pub loads_hold : ℕ → List ℤ → List Word → Bool
loads_hold site cells [] = true
loads_hold site cells (w ∷ rest) =
    if is_load_of site w then int_eq (get_or cells w.index (pos 0)) w.value && loads_hold site cells rest else true

-- the judging after the words of the statement at the head
abbrev pub judged : Program → Plan → Judging → Stmt → List Stmt → Stmt-F Stmt → Taken → Judging
judged p plan c x rest head w =
    record { turn = consumed p plan c.turn x rest head w; effects = c.effects ++ w.effect ∷ []; sites = c.sites ++ (site_of head).0 ∷ [] }

-- it goes on where the loads hold, the words are the site's, and what they say goes as assumed
abbrev pub judged_by : Program → Plan → Judging → Stmt → List Stmt → Stmt-F Stmt → Bool → Result Taken Void → Option Judging
judged_by p plan c x rest head held (Err why) = None
judged_by p plan c x rest head held (Ok w) =
    if held && as_assumed p plan (site_of head).0 w.effect then Some (judged p plan c x rest head w) else None

-- one step at the head
abbrev pub judge_step : Program → Plan → Judging → Stmt → List Stmt → Stmt-F Stmt → Option Judging
judge_step p plan c x rest head =
    judged_by p plan c x rest head (loads_hold (site_of head).0 c.turn.cells (words_left p plan c.turn head))
    (taken_from p head (words_left p plan c.turn head))

-- it goes on, or is Unclean
abbrev pub judge_by : (Judging → Judgement) → Option Judging → Judgement
judge_by go (Some next) = go next
judge_by go None = Unclean

-- Clean at the end of the region's text
abbrev pub judge_at : Program → Plan → (Judging → Judgement) → Judging → List Stmt → Judgement
judge_at p plan go c [] = Clean (record { effects = c.effects; sites = c.sites; closing = c.turn.closing })
judge_at p plan go c (x ∷ rest) = judge_by go (judge_step p plan c x rest (out-Stmt x))

-- .. and Unclean before it where no step is left
abbrev pub judge_spent : Judging → List Stmt → Judgement
judge_spent c [] = Clean (record { effects = c.effects; sites = c.sites; closing = c.turn.closing })
judge_spent c (x ∷ rest) = Unclean

-- the judgement from here, of at most n steps
unfoldable pub judge_from : Program → Plan → ℕ → Judging → Judgement
judge_from p plan zero c = judge_spent c c.turn.to_do
judge_from p plan (suc n) c = judge_at p plan (judge_from p plan n) c c.turn.to_do

-- the stage after the last one
abbrev pub last : Plan → ℕ
last plan = suc (length plan.stages)

-- all stages' words, judged in the source's memory where `left` steps of the fuel are left
abbrev pub judge_lists : Program → Plan → ℕ → List ℤ → List (List Word) → Judgement
judge_lists p plan left cells lists = judge_from p plan left (record { turn = turn_begin p plan (last plan) cells lists; effects = []; sites = [] })

-- the judgement of the words, unless the packet is void
abbrev pub judge_status : Judgement → Status → Judgement
judge_status judgement Going = judgement
judge_status judgement Closing = judgement
judge_status judgement (Broken s why) = Unclean

-- a void packet is Unclean
abbrev pub judge : Program → Plan → ℕ → List ℤ → Packet → Judgement
judge p plan left cells packet = judge_status (judge_lists p plan left cells packet.lists) packet.status
