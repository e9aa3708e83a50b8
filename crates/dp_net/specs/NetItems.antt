-- What a stage tells where its quiet blocks are told by their net stores: words and blocks, and how a site's words are taken from them.
use Rattle.std.specs.Prelude.{ℕ, zero, suc, if◌then◌else◌, ◌==◌, Bool, true, false, not, List, [], ◌∷◌, ℤ, Option, Some, None, slice_get, sum_by}
use Rattle.dp_base.specs.declared.Word.{Word}
use Rattle.dp_tree.specs.declared.Stmt.{Stmt}
use Rattle.dp_tree.specs.declared.Stmt.TheOpen.{Stmt-F}
use Rattle.dp_tree.specs.declared.Program.{Program}
use Rattle.dp_tree.specs.Step.{Effect, Stored, Printed, Decided, Tried, site_of}
use Rattle.dp_semantics.specs.Words.{is_load_of, is_done_of, effect_by}

-- Where blocks stand, and what they leave out: the statements of the block that begins at a site, or none;
-- and the cells whose stores the blocks of a stage don't tell.
pub record Marks : Type 0 where
  pub block_at : ℕ → List Stmt
  pub hides : ℕ → ℕ → Bool

-- there are no statements
abbrev pub is_nil : List Stmt → Bool
is_nil [] = true
is_nil (x ∷ rest) = false

-- a block begins at the site
abbrev pub begins : Marks → ℕ → Bool
begins m site = not (is_nil (m.block_at site))

-- the effect stores into cell c
abbrev pub stores_into : ℕ → Effect → Bool
stores_into c (Stored d value) = d == c
stores_into c (Printed value) = false
stores_into c (Decided value) = false
stores_into c (Tried value) = false

-- the effect is a store
abbrev pub is_store : Effect → Bool
is_store (Stored c value) = true
is_store (Printed value) = false
is_store (Decided value) = false
is_store (Tried value) = false

-- the store takes the place of an earlier one into its cell, or stands behind the others
abbrev pub put : ℕ → ℤ → List Effect → List Effect
put c value [] = Stored c value ∷ []
put c value (effect ∷ rest) = if stores_into c effect then Stored c value ∷ rest else effect ∷ put c value rest

-- the stores that are told, after one more effect
abbrev pub told_after : (ℕ → Bool) → List Effect → Effect → List Effect
told_after hidden told (Stored c value) = if hidden c then told else put c value told
told_after hidden told (Printed value) = told
told_after hidden told (Decided value) = told
told_after hidden told (Tried value) = told

-- .. and after several
abbrev pub net_behind : (ℕ → Bool) → List Effect → List Effect → List Effect
net_behind hidden told [] = told
net_behind hidden told (effect ∷ rest) = net_behind hidden (told_after hidden told effect) rest

-- the net stores of effects: the last value of each cell that isn't hidden, in the order in which the cells are first stored
abbrev pub net_of : (ℕ → Bool) → List Effect → List Effect
net_of hidden effects = net_behind hidden [] effects

-- a word, or a block: its first site, the number of words that it stands for, and its net stores
pub data Item : Type 0 where
  Said : Word → Item
  Net : (site count : ℕ) (stores : List Effect) → Item

-- the number of words that an item stands for
abbrev pub weight : Item → ℕ
weight (Said w) = 1
weight (Net site count stores) = count

-- .. and that several stand for
abbrev pub weights : List Item → ℕ
weights items = sum_by weight items

-- these words as items
abbrev pub said_all : List Word → List Item
said_all [] = []
said_all (w ∷ rest) = Said w ∷ said_all rest

-- the list, or none
abbrev pub items_in : Option (List Item) → List Item
items_in None = []
items_in (Some items) = items

-- the list of stage t; stages count from 1
abbrev pub item_list : List (List Item) → ℕ → List Item
item_list lists zero = []
item_list lists (suc t) = items_in (slice_get lists t)

-- the items after the site's loads at the front
abbrev pub behind_loads : ℕ → List Item → List Item
behind_loads site [] = []
behind_loads site (Net f count stores ∷ rest) = Net f count stores ∷ rest
behind_loads site (Said w ∷ rest) = if is_load_of site w then behind_loads site rest else Said w ∷ rest

-- what was done at a site by its words, and the items after them
pub record NetTaken : Type 0 where
  pub effect : Effect
  pub rest : List Item

-- what was taken, where the word fits the statement
abbrev pub net_taken_by : List Item → Option Effect → Option NetTaken
net_taken_by rest None = None
net_taken_by rest (Some effect) = Some (record { effect = effect; rest = rest })

-- the word of what the site did is taken from the front
abbrev pub net_done_from : Program → Stmt-F Stmt → List Item → Option NetTaken
net_done_from p head [] = None
net_done_from p head (Net f count stores ∷ rest) = None
net_done_from p head (Said w ∷ rest) = if is_done_of (site_of head).0 w then net_taken_by rest (effect_by p head w) else None

-- the site's words are taken from the front: its loads, and then what it did
abbrev pub net_taken_from : Program → Stmt-F Stmt → List Item → Option NetTaken
net_taken_from p head items = net_done_from p head (behind_loads (site_of head).0 items)
