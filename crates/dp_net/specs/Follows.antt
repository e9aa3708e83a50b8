-- What a packet's lists are: what following the text asks for, so that a reader of the text needs no tags.
use Rattle.std.specs.Prelude.{◌≡◌, ℕ, ◌<◌, Bool, true, false, List, [], ◌∷◌, ◌++◌, Some, length, ◌≤◌}
use Rattle.std.specs.List.{list_all}
use Rattle.dp_tree.specs.declared.Stmt.{Stmt, out-Stmt}
use Rattle.dp_tree.specs.declared.Stmt.TheOpen.{Stmt-F}
use Rattle.dp_tree.specs.declared.Program.{Program}
use Rattle.dp_tree.specs.Step.{Event, Effect, site_of, value_of, followed}
use Rattle.dp_plan.specs.declared.Plan.{Plan}
use Rattle.dp_plan.specs.Access.{stage_of, region_statement}
use Rattle.dp_semantics.specs.Clean.{event_as_assumed}
use Rattle.dp_semantics.specs.Project.{project_all}
use Rattle.dp_semantics.specs.Words.{words_of, done_word, effect_by}
use Rattle.dp_semantics.specs.EpochKey.{EpochKey, epoch_of}
use Rattle.dp_net.specs.NetItems.{Marks, Item, Net, said_all, item_list, is_store}
use Rattle.dp_net.specs.Hidden.{marks_of}
use Rattle.dp_net.specs.NetPackets.{NetPacket, NetStatus, NetVoid, net_passed}

-- The words of an event at the statement's site stand in front: what it did is the statement's to do, and goes as assumed.
pub record Says (p : Program) (plan : Plan) (head : Stmt-F Stmt) (event : Event) (items rest : List Item) : Type 0 where
  pub site : event.site ≡ (site_of head).0
  pub does : effect_by p head (done_word event.site event.effect) ≡ Some event.effect
  pub assumed : event_as_assumed p plan event ≡ true
  pub front : items ≡ said_all (words_of p plan event) ++ rest

-- only the list of stage u is another
abbrev pub Others : ℕ → (ℕ → List Item) → (ℕ → List Item) → Type 0
Others u left next = (t : ℕ) → (t ≡ u → ⊥) → next t ≡ left t

-- What is left of each stage's list is what following these statements asks for. At a site its words stand in front of its stage's list,
-- and say how the text goes on; at a block its item does, with stores alone; and where nothing is left to do, nothing is left of any list.
pub data FollowsText (p : Program) (plan : Plan) (m : Marks) : List Stmt → (ℕ → List Item) → Type 0 where
  ended : {left : ℕ → List Item} → ((t : ℕ) → left t ≡ []) → FollowsText p plan m [] left
  told : {x : Stmt} {rest : List Stmt} {left next : ℕ → List Item} (event : Event) → m.block_at (site_of (out-Stmt x)).0 ≡ [] →
      Says p plan (out-Stmt x) event (left (stage_of p plan (site_of (out-Stmt x)).0)) (next (stage_of p plan (site_of (out-Stmt x)).0)) →
      Others (stage_of p plan (site_of (out-Stmt x)).0) left next → FollowsText p plan m (followed x rest (out-Stmt x) (value_of event.effect)) next →
      FollowsText p plan m (x ∷ rest) left
  met : {x : Stmt} {b rest behind : List Stmt} {left next : ℕ → List Item} (count : ℕ) (stores : List Effect) →
      m.block_at (site_of (out-Stmt x)).0 ≡ x ∷ b → behind ≡ b ++ rest → 0 < count → list_all is_store stores ≡ true →
      left (stage_of p plan (site_of (out-Stmt x)).0) ≡ Net (site_of (out-Stmt x)).0 count stores ∷ next (stage_of p plan (site_of (out-Stmt x)).0) →
      Others (stage_of p plan (site_of (out-Stmt x)).0) left next → FollowsText p plan m rest next →
      FollowsText p plan m (x ∷ behind) left

-- a turn broke off
abbrev pub is_void : NetStatus → Bool
is_void NetVoid = true
is_void _ = false

-- The packet has a list of each stage up to s, and these are what following the text of stage s asks for.
pub record PacketFollows (p : Program) (plan : Plan) (m : Marks) (s : ℕ) (packet : NetPacket) : Type 0 where
  pub size : length packet.lists ≡ s
  pub follows : FollowsText p plan m (project_all p plan s (region_statement p plan)) (item_list packet.lists)

-- So it is of each packet that isn't void: no item is passed over, and none is left at the end.
abbrev pub ItemsFollow : Program → Plan → Type 0
ItemsFollow p plan = (key : EpochKey) → key.program ≡ p → key.plan ≡ plan → (pays : List Stmt → Bool) (s n : ℕ) → 0 < s →
    is_void (net_passed (marks_of p plan pays) (epoch_of key) s n).packet.status ≡ false →
    PacketFollows p plan (marks_of p plan pays) s (net_passed (marks_of p plan pays) (epoch_of key) s n).packet

-- An earlier stage has the same part of a later one's text as of the region. So a reader of that text begins with lists that follow it.
abbrev pub TextsNest : Program → Plan → Type 0
TextsNest p plan = (s t : ℕ) → 0 < s → s ≤ t →
    project_all p plan s (project_all p plan t (region_statement p plan)) ≡ project_all p plan s (region_statement p plan)
