-- The judgement on a packet of items: they are followed in the source's committed memory, as the stage after the last one would.
use Rattle.std.specs.Prelude.{ℕ, zero, suc, if◌then◌else◌, ◌+◌, ◌-◌, ◌==◌, Bool, true, ◌&&◌, List, [], ◌∷◌, ◌++◌, length, drop, ℤ, pos, Option, Some, None}
use Rattle.std.specs.Prelude.{get_or, slice_set, nat_le, nat_lt}
use Rattle.std.specs.Ordering.{int_eq}
use Rattle.dp_tree.specs.declared.Stmt.{Stmt, out-Stmt}
use Rattle.dp_tree.specs.declared.Stmt.TheOpen.{Stmt-F}
use Rattle.dp_tree.specs.declared.Program.{Program}
use Rattle.dp_tree.specs.Step.{Effect, site_of}
use Rattle.dp_plan.specs.declared.Plan.{Plan}
use Rattle.dp_plan.specs.Access.{stage_of}
use Rattle.dp_semantics.specs.Clean.{as_assumed}
use Rattle.dp_semantics.specs.Words.{is_load_of}
use Rattle.dp_semantics.specs.Judge.{last}
use Rattle.dp_semantics.specs.Verdict.{applied}
use Rattle.dp_net.specs.NetItems.{Marks, Item, Said, Net, NetTaken, net_taken_from}
use Rattle.dp_net.specs.NetRun.{NetTurn, items_left, net_consumed, net_past, net_begin}
use Rattle.dp_net.specs.NetPackets.{NetStatus, NetGoing, NetClosing, NetVoid, NetPacket}

-- a turn over the items, and what was done in it so far, with the net stores of a block in its place; at which sites, and in how many steps
pub record NetJudging : Type 0 where
  pub turn : NetTurn
  pub effects : List Effect
  pub sites : List ℕ
  pub steps : ℕ

-- what may be committed: what was done, the site of each effect, the number of steps, and whether the region is left
pub record NetAgreed : Type 0 where
  pub effects : List Effect
  pub sites : List ℕ
  pub steps : ℕ
  pub closing : Bool

-- each load of the site at the front gave what the memory holds
abbrev pub net_loads_hold : ℕ → List ℤ → List Item → Bool
net_loads_hold site cells [] = true
net_loads_hold site cells (Net f count stores ∷ rest) = true
net_loads_hold site cells (Said w ∷ rest) =
    if is_load_of site w then int_eq (get_or cells w.index (pos 0)) w.value && net_loads_hold site cells rest else true

-- one site for each of these effects
abbrev pub sites_for : ℕ → List Effect → List ℕ
sites_for site [] = []
sites_for site (effect ∷ rest) = site ∷ sites_for site rest

module _ (p : Program) (plan : Plan) where
  -- the judging after the words of the statement at the head
  abbrev pub net_judged : NetJudging → Stmt → List Stmt → Stmt-F Stmt → NetTaken → NetJudging
  net_judged c x rest head w = record {
    turn = net_consumed p plan c.turn x rest head w;
    effects = c.effects ++ w.effect ∷ [];
    sites = c.sites ++ (site_of head).0 ∷ [];
    steps = c.steps + 1;
  }

  -- it goes on where the loads hold, the words are the site's, and what they say goes as assumed
  abbrev pub net_judged_by : NetJudging → Stmt → List Stmt → Stmt-F Stmt → Bool → Option NetTaken → Option NetJudging
  net_judged_by c x rest head held None = None
  net_judged_by c x rest head held (Some w) =
      if held && as_assumed p plan (site_of head).0 w.effect then Some (net_judged c x rest head w) else None

  -- a site outside of the blocks wants one step of the limit
  abbrev pub word_judged : ℕ → NetJudging → Stmt → List Stmt → Stmt-F Stmt → Option NetJudging
  word_judged limit c x rest head =
      if nat_le (c.steps + 1) limit
      then net_judged_by c x rest head (net_loads_hold (site_of head).0 c.turn.cells (items_left p plan c.turn (site_of head).0))
      (net_taken_from p head (items_left p plan c.turn (site_of head).0))
      else None

  -- the judging after a block's item
  abbrev pub block_done : NetJudging → ℕ → List Stmt → ℕ → List Effect → List Item → NetJudging
  block_done c site rest count stores more = record {
    turn = net_past p plan c.turn rest (applied stores c.turn.cells) (slice_set c.turn.lists (stage_of p plan site - 1) more) c.turn.own;
    effects = c.effects ++ stores;
    sites = c.sites ++ sites_for site stores;
    steps = c.steps + count;
  }

  -- a block wants as many steps as it stands for words
  abbrev pub block_judged : ℕ → NetJudging → ℕ → List Stmt → List Item → Option NetJudging
  block_judged limit c site rest (Net f count stores ∷ more) =
      if ((f == site) && nat_lt 0 count) && nat_le (c.steps + count) limit then Some (block_done c site rest count stores more) else None
  block_judged limit c site rest _ = None

  -- .. by whether a block begins at the site
  abbrev pub net_judge_step_by : ℕ → NetJudging → Stmt → List Stmt → Stmt-F Stmt → List Stmt → Option NetJudging
  net_judge_step_by limit c x rest head [] = word_judged limit c x rest head
  net_judge_step_by limit c x rest head (y ∷ ys) = block_judged limit c (site_of head).0 (drop (length ys) rest) (items_left p plan c.turn (site_of head).0)

  -- one step at the head
  abbrev pub net_judge_step : Marks → ℕ → NetJudging → Stmt → List Stmt → Option NetJudging
  net_judge_step m limit c x rest = net_judge_step_by limit c x rest (out-Stmt x) (m.block_at (site_of (out-Stmt x)).0)

  -- it goes on, or nothing may be committed
  abbrev pub net_judge_by : (NetJudging → Option NetAgreed) → Option NetJudging → Option NetAgreed
  net_judge_by go (Some next) = go next
  net_judge_by go None = None

  -- what may be committed at the end
  abbrev pub net_agreed : NetJudging → NetAgreed
  net_agreed c = record { effects = c.effects; sites = c.sites; steps = c.steps; closing = c.turn.closing }

  -- it ends with the region's text
  abbrev pub net_judge_at : Marks → ℕ → (NetJudging → Option NetAgreed) → NetJudging → List Stmt → Option NetAgreed
  net_judge_at m limit go c [] = Some (net_agreed c)
  net_judge_at m limit go c (x ∷ rest) = net_judge_by go (net_judge_step m limit c x rest)

  -- the judgement from here, within this limit of steps, of at most n steps of its own
  unfoldable pub net_judge_from : Marks → ℕ → ℕ → NetJudging → Option NetAgreed
  net_judge_from m limit zero c = None
  net_judge_from m limit (suc n) c = net_judge_at m limit (net_judge_from m limit n) c c.turn.to_do

  -- the start, in this memory
  abbrev pub net_judging : List ℤ → List (List Item) → NetJudging
  net_judging cells lists = record { turn = net_begin p plan (last plan) cells lists; effects = []; sites = []; steps = 0 }

  -- all stages' items, judged where `left` steps of the fuel are left
  abbrev pub net_judge_lists : Marks → ℕ → List ℤ → List (List Item) → Option NetAgreed
  net_judge_lists m left cells lists = net_judge_from m left (left + 1) (net_judging cells lists)

  -- the judgement of the items, unless the packet is void
  abbrev pub net_judge_status : Option NetAgreed → NetStatus → Option NetAgreed
  net_judge_status judgement NetGoing = judgement
  net_judge_status judgement NetClosing = judgement
  net_judge_status judgement NetVoid = None

  -- the judgement on a packet
  abbrev pub net_judge : Marks → ℕ → List ℤ → NetPacket → Option NetAgreed
  net_judge m left cells packet = net_judge_status (net_judge_lists m left cells packet.lists) packet.status
