-- One turn of a stage that tells its quiet blocks by their net stores, and breaks off where an own site goes against an assumption.
use Rattle.std.specs.Prelude.{ℕ, zero, suc, if◌then◌else◌, ◌+◌, ◌-◌, ◌==◌, Bool, false, ◌&&◌, ◌||◌, List, [], ◌∷◌, ◌++◌, length, drop, map, ℤ, Option, Some}
use Rattle.std.specs.Prelude.{None, Ok, Err, slice_set, sum_by, nat_le, nat_lt}
use Rattle.dp_tree.specs.declared.Stmt.{Stmt, out-Stmt}
use Rattle.dp_tree.specs.declared.Stmt.TheOpen.{Stmt-F}
use Rattle.dp_tree.specs.declared.Program.{Program}
use Rattle.dp_tree.specs.Eval.{Evaluated}
use Rattle.dp_tree.specs.Step.{Event, Effect, value_of, stored, site_of, evaluated, followed}
use Rattle.dp_plan.specs.declared.Plan.{Plan}
use Rattle.dp_plan.specs.Access.{stage_of, first_site, region_statement}
use Rattle.dp_semantics.specs.Project.{project_all}
use Rattle.dp_semantics.specs.Clean.{event_as_assumed}
use Rattle.dp_semantics.specs.Words.{words_of}
use Rattle.dp_semantics.specs.StageRun.{closes_at}
use Rattle.dp_semantics.specs.Verdict.{applied, effect_in}
use Rattle.dp_net.specs.Quiet.{BlockOutcome, Through, Broke}
unfoldable use Rattle.dp_net.specs.Quiet.{quiet_from}
use Rattle.dp_net.specs.NetItems.{Marks, Item, Net, net_of, weights, said_all, item_list, NetTaken, net_taken_from}

-- the statements still to do, the memory, the items left of each earlier stage, the stage's own items, and whether the region is left
pub record NetTurn : Type 0 where
  pub to_do : List Stmt
  pub cells : List ℤ
  pub lists : List (List Item)
  pub own : List Item
  pub closing : Bool

-- a turn that came to its end: the stage's items, its memory, and whether the region is left
pub record NetEnded : Type 0 where
  pub own : List Item
  pub cells : List ℤ
  pub closing : Bool

module _ (p : Program) (plan : Plan) where
  -- the turn after this effect of statement x at the head, with these own items and these lists
  abbrev pub net_turned : NetTurn → Stmt → List Stmt → Stmt-F Stmt → Effect → List Item → List (List Item) → NetTurn
  net_turned c x rest head effect own lists = record {
    to_do = followed x rest head (value_of effect);
    cells = stored effect c.cells;
    lists = lists;
    own = own;
    closing = c.closing || closes_at (first_site p plan) (site_of head).0 effect;
  }

  -- an own site's words are added, where it went as assumed and they fit
  abbrev pub net_produced : NetTurn → Stmt → List Stmt → Stmt-F Stmt → Event → Option NetTurn
  net_produced c x rest head event =
      if event_as_assumed p plan event && nat_le (weights c.own + length (words_of p plan event)) plan.words
      then Some (net_turned c x rest head event.effect (c.own ++ said_all (words_of p plan event)) c.lists)
      else None

  -- an own site is evaluated
  abbrev pub net_own_step : NetTurn → Stmt → List Stmt → Stmt-F Stmt → Evaluated Effect → Option NetTurn
  net_own_step c x rest head (Err kind) = None
  net_own_step c x rest head (Ok v) = net_produced c x rest head (record { site = (site_of head).0; loads = v.loads; effect = v.value })

  -- the statement does what the words of its stage say
  abbrev pub net_consumed : NetTurn → Stmt → List Stmt → Stmt-F Stmt → NetTaken → NetTurn
  net_consumed c x rest head w = net_turned c x rest head w.effect c.own (slice_set c.lists (stage_of p plan (site_of head).0 - 1) w.rest)

  -- .. where those words are the site's
  abbrev pub net_consumed_step : NetTurn → Stmt → List Stmt → Stmt-F Stmt → Option NetTaken → Option NetTurn
  net_consumed_step c x rest head None = None
  net_consumed_step c x rest head (Some w) = Some (net_consumed c x rest head w)

  -- the items that are left of a site's stage
  abbrev pub items_left : NetTurn → ℕ → List Item
  items_left c site = item_list c.lists (stage_of p plan site)

  -- the turn behind a block
  abbrev pub net_past : NetTurn → List Stmt → List ℤ → List (List Item) → List Item → NetTurn
  net_past c rest cells lists own = record { to_do = rest; cells = cells; lists = lists; own = own; closing = c.closing }

  -- an own block is run, and told by its net stores; where it faults or doesn't end within the words that are left, the turn breaks off
  abbrev pub net_made : Marks → ℕ → NetTurn → List Stmt → BlockOutcome → Option NetTurn
  net_made m site c rest Broke = None
  net_made m site c rest (Through events cells) =
      Some (net_past c rest cells c.lists (c.own ++ Net site (length events) (net_of (m.hides (stage_of p plan site)) (map effect_in events)) ∷ []))

  -- another stage's block does what its item says; an item stands for a word at least
  abbrev pub net_met : ℕ → NetTurn → List Stmt → List Item → Option NetTurn
  net_met site c rest (Net f count stores ∷ more) =
      if (f == site) && nat_lt 0 count then Some (net_past c rest (applied stores c.cells) (slice_set c.lists (stage_of p plan site - 1) more) c.own) else None
  net_met site c rest _ = None

  module _ (m : Marks) (input : List ℤ) (s : ℕ) where
    -- stage s at a site outside of the blocks: it evaluates its own, and takes the words of another
    abbrev pub word_step : NetTurn → Stmt → List Stmt → Stmt-F Stmt → Option NetTurn
    word_step c x rest head =
        if stage_of p plan (site_of head).0 == s then net_own_step c x rest head (evaluated p input c.cells head)
        else net_consumed_step c x rest head (net_taken_from p head (items_left c (site_of head).0))

    -- .. and at a block that begins at the site
    abbrev pub block_step : NetTurn → ℕ → List Stmt → List Stmt → Option NetTurn
    block_step c site block rest =
        if stage_of p plan site == s then net_made m site c rest (quiet_from p input (plan.words - weights c.own) block c.cells)
        else net_met site c rest (items_left c site)

    -- .. by whether a block begins there
    abbrev pub net_step_by : NetTurn → Stmt → List Stmt → Stmt-F Stmt → List Stmt → Option NetTurn
    net_step_by c x rest head [] = word_step c x rest head
    net_step_by c x rest head (y ∷ ys) = block_step c (site_of head).0 (y ∷ ys) (drop (length ys) rest)

    -- one step at the head: a block, if one begins there, or a statement
    abbrev pub net_step : NetTurn → Stmt → List Stmt → Option NetTurn
    net_step c x rest = net_step_by c x rest (out-Stmt x) (m.block_at (site_of (out-Stmt x)).0)

    -- it goes on, or breaks off
    abbrev pub net_by : (NetTurn → Option NetEnded) → Option NetTurn → Option NetEnded
    net_by go (Some next) = go next
    net_by go None = None

    -- it ends with the region's text
    abbrev pub net_at : (NetTurn → Option NetEnded) → NetTurn → List Stmt → Option NetEnded
    net_at go c [] = Some (record { own = c.own; cells = c.cells; closing = c.closing })
    net_at go c (x ∷ rest) = net_by go (net_step c x rest)

  -- the turn of stage s from here, of at most n steps
  unfoldable pub net_from : Marks → List ℤ → ℕ → ℕ → NetTurn → Option NetEnded
  net_from m input s zero c = None
  net_from m input s (suc n) c = net_at m input s (net_from m input s n) c c.to_do

  -- the start of the turn of stage s, from a memory and the earlier stages' items
  abbrev pub net_begin : ℕ → List ℤ → List (List Item) → NetTurn
  net_begin s cells lists = record { to_do = project_all p plan s (region_statement p plan); cells = cells; lists = lists; own = []; closing = false }

  -- the turn of stage s: each step adds one of the plan's words or takes one that the lists stand for
  abbrev pub net_run : Marks → List ℤ → ℕ → List ℤ → List (List Item) → Option NetEnded
  net_run m input s cells lists = net_from m input s (plan.words + sum_by weights lists + 1) (net_begin s cells lists)
