-- The words that a stage sends for each event at its sites, and how a later stage takes them.
use Rattle.std.specs.Prelude.{ℕ, if◌then◌else◌, zero, suc, ◌+◌, ◌==◌, Bool, true, false, ◌&&◌, List, [], ◌∷◌, ◌++◌, Option, Some, None, Result, Ok, Err}
use Rattle.std.specs.Prelude.{slice_get, nat_lt, nat_le}
use Rattle.dp_base.specs.declared.Fault.{Fault as FaultAt}
use Rattle.dp_base.specs.declared.VarId.{VarId}
use Rattle.dp_base.specs.declared.Word.{Word}
use Rattle.dp_base.specs.declared.WordKind.{WordKind}
use Rattle.dp_base.specs.declared.WordKind.TheVariants as word
use Rattle.dp_tree.specs.declared.Stmt.{Stmt}
use Rattle.dp_tree.specs.declared.Stmt.TheOpen.{Stmt-F, Assign, Store, Print, Break}
use Rattle.dp_tree.specs.declared.Program.{Program}
use Rattle.dp_plan.specs.declared.Plan.{Plan}
use Rattle.dp_tree.specs.Eval.{Load, first_cell, cell_count}
use Rattle.dp_tree.specs.Step.{Event, Effect, Stored, Printed, Decided, Tried, value_of, site_of}
use Rattle.dp_plan.specs.Checked.{is_checked}

-- why a turn breaks off: an own evaluation faults, the words would pass the plan's number, or another word or none stands at a site
pub data Void : Type 0 where
  Faults : FaultAt → Void
  Full : Void
  Astray : (site : ℕ) (found : Option Word) → Void

-- the word of a load
abbrev pub load_word : ℕ → Load → Word
load_word site l = record { site = record { 0 = site }; kind = word.Load; index = l.cell; value = l.value }

-- those of several loads, in order
abbrev pub load_words : ℕ → List Load → List Word
load_words site [] = []
load_words site (l ∷ rest) = load_word site l ∷ load_words site rest

-- the cell of a store, and 0 of any other effect
abbrev pub cell_of : Effect → ℕ
cell_of (Stored cell value) = cell
cell_of (Printed value) = 0
cell_of (Decided value) = 0
cell_of (Tried value) = 0

-- the word of what the site did
abbrev pub done_word : ℕ → Effect → Word
done_word site effect = record { site = record { 0 = site }; kind = word.Done; index = cell_of effect; value = value_of effect }

-- the words of an event: its loads, where the site is checked, and then what it did
abbrev pub words_of : Program → Plan → Event → List Word
words_of p plan event =
    (if is_checked p plan event.site then load_words event.site event.loads else []) ++ done_word event.site event.effect ∷ []

-- the word is of a load
abbrev pub is_load : WordKind → Bool
is_load word.Load = true
is_load word.Done = false

-- the word is of what a site did
abbrev pub is_done : WordKind → Bool
is_done word.Load = false
is_done word.Done = true

-- it is a load of this site's
abbrev pub is_load_of : ℕ → Word → Bool
is_load_of site w = (w.site.0 == site) && is_load w.kind

-- it is what this site did
abbrev pub is_done_of : ℕ → Word → Bool
is_done_of site w = (w.site.0 == site) && is_done w.kind

-- the words after the site's loads at the front
abbrev pub after_loads_of : ℕ → List Word → List Word
after_loads_of site [] = []
after_loads_of site (w ∷ rest) = if is_load_of site w then after_loads_of site rest else w ∷ rest

-- the cell is one of the variable's
abbrev pub is_cell_of : Program → VarId → ℕ → Bool
is_cell_of p x c = nat_le (first_cell p x) c && nat_lt c (first_cell p x + cell_count p x)

-- the word's store, where its cell is the variable's
abbrev pub store_by : Program → VarId → Word → Option Effect
store_by p x w = if is_cell_of p x w.index then Some (Stored w.index w.value) else None

-- what the word says that the statement did, unless it stores outside the statement's variable
abbrev pub effect_by : Program → Stmt-F Stmt → Word → Option Effect
effect_by p (Assign site x e) w = store_by p x w
effect_by p (Store site x index e) w = store_by p x w
effect_by p (Print site e) w = Some (Printed w.value)
effect_by p (Break site cond) w = Some (Tried w.value)
effect_by p _ w = Some (Decided w.value)

-- what was done at a site by its words, and the words after them
pub record Taken : Type 0 where
  pub effect : Effect
  pub rest : List Word

-- what was taken, where the word fits the statement
abbrev pub taken_by : ℕ → Word → List Word → Option Effect → Result Taken Void
taken_by site w rest None = Err (Astray site (Some w))
taken_by site w rest (Some effect) = Ok (record { effect = effect; rest = rest })

-- the word of what the site did is taken from the front
abbrev pub done_from : Program → Stmt-F Stmt → List Word → Result Taken Void
done_from p head [] = Err (Astray (site_of head).0 None)
done_from p head (w ∷ rest) =
    if is_done_of (site_of head).0 w then taken_by (site_of head).0 w rest (effect_by p head w)
    else Err (Astray (site_of head).0 (Some w))

-- the site's words are taken from the front: its loads, and then what it did
abbrev pub taken_from : Program → Stmt-F Stmt → List Word → Result Taken Void
taken_from p head words = done_from p head (after_loads_of (site_of head).0 words)

-- the list, or none
abbrev pub words_in : Option (List Word) → List Word
words_in None = []
words_in (Some words) = words

-- the list of stage t; stages count from 1
abbrev pub word_list : List (List Word) → ℕ → List Word
word_list lists zero = []
word_list lists (suc t) = words_in (slice_get lists t)
