-- What earlier stages told, site by site: a queue for each site, without tags, in the order in which its statement was executed.
use Rattle.std.specs.Prelude.{ℕ, if◌then◌else◌, ◌==◌, Bool, true, false, ◌&&◌, List, [], ◌∷◌, ◌++◌, ℤ, Option, Some, None, filter_map, sum_by}
use Rattle.std.specs.List.{list_all, list_any, flat_map}
use Rattle.dp_base.specs.declared.Word.{Word}
use Rattle.dp_base.specs.declared.WordKind.TheVariants as word
use Rattle.dp_tree.specs.declared.Stmt.{Stmt}
use Rattle.dp_tree.specs.declared.Stmt.TheOpen.{Stmt-F}
use Rattle.dp_tree.specs.declared.Program.{Program}
use Rattle.dp_tree.specs.Eval.{Load}
use Rattle.dp_tree.specs.Step.{Effect, Stored, Printed, Decided, Tried, site_of}
use Rattle.dp_plan.specs.declared.Plan.{Plan}
use Rattle.dp_plan.specs.Access.{Access, accesses, stage_of, region_accesses}
use Rattle.dp_semantics.specs.Words.{is_load, is_load_of, is_done_of, is_cell_of, effect_by}
use Rattle.dp_net.specs.NetItems.{Marks, Item, Said, Net}

-- what a site did, by the cell of a store and the value; or, where a block begins at the site, the block's net stores
pub data Told : Type 0 where
  Did : (cell : ℕ) (value : ℤ) → Told
  DidBlock : (stores : List Effect) → Told

-- what the item tells of the site
abbrev pub told_at : ℕ → Item → Option Told
told_at site (Said w) = if is_done_of site w then Some (Did w.index w.value) else None
told_at site (Net f count stores) = if f == site then Some (DidBlock stores) else None

-- .. and these items
abbrev pub told_in : ℕ → List Item → List Told
told_in site items = filter_map (told_at site) items

-- the load that the word tells
abbrev pub load_in : Word → Load
load_in w = record { cell = w.index; value = w.value }

-- what the site loaded, event by event, behind these loads of the first event
abbrev pub loads_told : ℕ → List Load → List Item → List (List Load)
loads_told site before [] = []
loads_told site before (Net f count stores ∷ rest) = loads_told site before rest
loads_told site before (Said w ∷ rest) =
    if is_load_of site w then loads_told site (before ++ load_in w ∷ []) rest
    else if is_done_of site w then before ∷ loads_told site [] rest
    else loads_told site before rest

module _ (p : Program) (plan : Plan) where
  -- the queue of a site, where `left` has what is left of each stage's items
  abbrev pub queue_of : (ℕ → List Item) → ℕ → List Told
  queue_of left site = told_in site (left (stage_of p plan site))

  -- .. and of its loads
  abbrev pub load_queue_of : (ℕ → List Item) → ℕ → List (List Load)
  load_queue_of left site = loads_told site [] (left (stage_of p plan site))

-- what the statement did, unless it is told of a block, or of a store outside of the statement's variable
abbrev pub effect_told : Program → Stmt-F Stmt → Told → Option Effect
effect_told p head (Did cell value) = effect_by p head (record { site = site_of head; kind = word.Done; index = cell; value = value })
effect_told p head (DidBlock stores) = None

-- the number of steps that an item stands for: the word of a load is of the step of its site's other word
abbrev pub steps_in : Item → ℕ
steps_in (Said w) = if is_load w.kind then 0 else 1
steps_in (Net site count stores) = count

-- .. and that all lists do
abbrev pub all_steps : List (List Item) → ℕ
all_steps lists = sum_by (sum_by steps_in) lists

-- a queue for each site, but that this site has another one
abbrev pub with_queue : {X : Type 0} → (ℕ → List X) → ℕ → List X → ℕ → List X
with_queue queues site queue y = if y == site then queue else queues y

module _ (p : Program) (plan : Plan) where
  -- the cell is one of these variables'
  abbrev pub is_cell_among : List ℕ → ℕ → Bool
  is_cell_among variables c = list_any (λ (x : ℕ). is_cell_of p (record { 0 = x }) c) variables

  -- this is the word's site, and it loads the variable of the word's cell
  abbrev pub loads_cell : Word → Access → Bool
  loads_cell w a = (a.site == w.site.0) && is_cell_among a.loads w.index

  -- the site stores the variable of the cell
  abbrev pub stores_cell : ℕ → Access → Bool
  stores_cell c a = cell_of_store a.stores
    where
      cell_of_store : Option ℕ → Bool
      cell_of_store None = false
      cell_of_store (Some x) = is_cell_of p (record { 0 = x }) c

  -- the effect stores into a variable of these sites
  abbrev pub stores_among : List Access → Effect → Bool
  stores_among all (Stored c value) = list_any (stores_cell c) all
  stores_among all (Printed value) = false
  stores_among all (Decided value) = false
  stores_among all (Tried value) = false

  -- A load is of a variable that its site loads by the text, and a block stores into its own statements' variables.
  abbrev pub is_of_text : Marks → Item → Bool
  is_of_text m (Said w) = if is_load w.kind then list_any (loads_cell w) (region_accesses p plan) else true
  is_of_text m (Net f count stores) = list_all (stores_among (flat_map accesses (m.block_at f))) stores

  -- .. each item of these lists
  abbrev pub are_of_text : Marks → List (List Item) → Bool
  are_of_text m lists = list_all (list_all (is_of_text m)) lists
