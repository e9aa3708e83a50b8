-- What the counters stand for, after some events, the latest first.
use Rattle.std.specs.Prelude.{◌≡◌, ◌≢◌, ℕ, suc, ◌+◌, ◌*◌, ◌≤◌, ◌==◌, if◌then◌else◌, Bool, List, [], ◌∷◌, length, Some, slice_get}
use Rattle.dp_room.specs.OneIf.{one_if}
use Rattle.dp_tree.specs.declared.Program.{Program}
use Rattle.dp_tree.specs.Step.{Event}
use Rattle.dp_profile.specs.declared.sites.RegionSite.{RegionSite}
use Rattle.dp_profile.specs.Sites.{regions, has_numbered_site}
use Rattle.dp_profile.specs.Observed.{begins_iteration, stores_to_cell, is_body_cell, shown_back, counts_of_site}
use Rattle.dp_observe.specs.declared.board.Board.{Board}
use Rattle.dp_observe.specs.declared.counter.Counter.{Counter}
use Rattle.dp_observe.specs.declared.frame.Frame.{Frame}
use Rattle.dp_observe.specs.declared.frame.Writer.{Writer}
use Rattle.dp_observe.specs.declared.tally.Tally.{Tally}
use Rattle.dp_observe.specs.steps.Frames.{nobody}
use Rattle.dp_observe.specs.steps.Columns.{at_column}
use Rattle.dp_observe.specs.Sparse.{at}

-- who stored into the cell last
abbrev pub writer_of : ℕ → List Event → Writer
writer_of cell [] = nobody
writer_of cell (e ∷ before) =
    if stores_to_cell cell e.effect then record { site = record { 0 = e.site }; after = suc (length before) } else writer_of cell before

-- how many events came before the region's start
abbrev pub since : List RegionSite → List Event → ℕ
since sites [] = 0
since sites (e ∷ before) = if has_numbered_site e.site sites then since sites before else suc (length before)

-- and how many before its last iteration
abbrev pub begun : List RegionSite → List Event → ℕ
begun sites [] = 0
begun sites (e ∷ before) =
    if has_numbered_site e.site sites then (if begins_iteration sites e then length before else begun sites before) else suc (length before)

-- the sites are numbered one by one from this number on
abbrev pub InOrder : ℕ → List RegionSite → Type 0
InOrder n [] = Unit {0}
InOrder n (s ∷ rest) = (s.site.0 ≡ n) × InOrder (suc n) rest

-- where the run stands in the region
pub record FrameFits (sites : List RegionSite) (past : List Event) (f : Frame) : Type 0 where
  pub first : InOrder f.first.0 sites
  pub within : f.last ≤ length past
  pub inside : f.last ≡ length past → (f.since ≡ since sites past) × (f.begun ≡ begun sites past)
  pub outside : f.last ≢ length past → (since sites past ≡ length past) × (begun sites past ≡ length past)

-- what was counted at a site
pub record TallyFits (p : Program) (region : ℕ) (sites : List RegionSite) (past : List Event) (s : RegionSite) (t : Tally) : Type 0 where
  pub count : t.count ≡ counts_of_site past s
  pub shown : (place : ℕ) (d : RegionSite) (carried : Bool) → slice_get sites place ≡ Some d → at_column t.shown (2 * place + one_if carried) ≡ shown_back p
      region sites d.site.0 s.site.0 carried past

-- what was counted in a region
pub record CounterFits (p : Program) (region : ℕ) (sites : List RegionSite) (past : List Event) (c : Counter) : Type 0 where
  pub frame : FrameFits sites past c.frame
  pub locals : (k : ℕ) → at c.locals k ≡ is_body_cell p region k
  pub size : length c.tallies ≡ length sites
  pub tallies : (place : ℕ) (s : RegionSite) (t : Tally) → slice_get sites place ≡ Some s → slice_get c.tallies place ≡ Some t →
      TallyFits p region sites past s t

-- what was counted in all regions
pub record BoardFits (p : Program) (past : List Event) (b : Board) : Type 0 where
  pub writers : (k : ℕ) → at b.writers k ≡ writer_of k past
  pub owners : (n place : ℕ) (sites : List RegionSite) → slice_get (regions p) place ≡ Some sites → has_numbered_site n sites ≡ (at b.owners n == place)
  pub size : length b.counters ≡ length (regions p)
  pub counters : (place : ℕ) (sites : List RegionSite) (c : Counter) → slice_get (regions p) place ≡ Some sites → slice_get b.counters place ≡ Some c →
      CounterFits p (place + 1) sites past c
