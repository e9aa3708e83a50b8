-- The variables whose stores blocks don't tell, and the blocks of a plan.
use Rattle.std.specs.Prelude.{ℕ, if◌then◌else◌, ◌==◌, Bool, true, false, not, ◌&&◌, ◌||◌, List, [], ◌∷◌, length}
use Rattle.std.specs.List.{list_all, list_any}
use Rattle.dp_tree.specs.declared.Stmt.{Stmt, out-Stmt}
use Rattle.dp_tree.specs.declared.Stmt.TheOpen.{Stmt-F, Assign, If, While}
use Rattle.dp_tree.specs.declared.Program.{Program}
use Rattle.dp_tree.specs.Eval.{first_cell}
use Rattle.dp_tree.specs.Numbering.{numbers_from}
use Rattle.dp_plan.specs.declared.Plan.{Plan}
use Rattle.dp_plan.specs.Access.{Access, stage_of, stores_var, is_body_local, region_statement, region_accesses}
use Rattle.dp_plan.specs.Checked.{is_checked}
use Rattle.dp_semantics.specs.Fits.{has_cell}
use Rattle.dp_net.specs.NetItems.{Marks}
use Rattle.dp_net.specs.BlockText.{own_site, sought_inside}

module _ (p : Program) (plan : Plan) where
  -- the site loads variable x
  abbrev pub loads_var : ℕ → Access → Bool
  loads_var x a = list_any (λ y. y == x) a.loads

  -- the stage of the first of these sites that passes the test, or another
  abbrev pub first_stage : (Access → Bool) → ℕ → List Access → ℕ
  first_stage test other [] = other
  first_stage test other (a ∷ rest) = if test a then stage_of p plan a.site else first_stage test other rest

  -- the stage that loads the variable first in the text, or else the one that stores it first
  abbrev pub home : ℕ → ℕ
  home x = first_stage (loads_var x) (first_stage (stores_var x) 0 (region_accesses p plan)) (region_accesses p plan)

  -- the site doesn't load the variable, or is of its home and isn't checked
  abbrev pub at_home : ℕ → Access → Bool
  at_home x a = not (loads_var x a) || ((stage_of p plan a.site == home x) && not (is_checked p plan a.site))

  -- a body local that one stage alone loads, and no checked site
  abbrev pub is_private : ℕ → Bool
  is_private x = (is_body_local p plan x && has_cell p x) && list_all (at_home x) (region_accesses p plan)

  -- the cell of such a variable whose home is stage u
  abbrev pub is_hidden_by : ℕ → ℕ → ℕ → Bool
  is_hidden_by u c x = is_private x && ((home x == u) && (first_cell p (record { 0 = x }) == c))

  -- the blocks of stage u needn't tell what they store there: no other stage and no check of a load asks for it, and it doesn't outlive the iteration
  abbrev pub is_hidden : ℕ → ℕ → Bool
  is_hidden u c = list_any (is_hidden_by u c) (numbers_from 0 (length p.vars))

  module _ (pays : List Stmt → Bool) where
    -- the block that begins at site f inside the region
    abbrev pub block_in : ℕ → List Stmt → List Stmt
    block_in f [] = []
    block_in f (x ∷ rest) = if f == own_site p plan x then [] else sought_inside p plan pays f x

    -- the blocks of the plan's region
    abbrev pub marks_of : Marks
    marks_of = record { block_at = λ f. block_in f (region_statement p plan); hides = is_hidden }

-- the statement has an event that tells no store: a choice, or an assignment to a hidden variable
abbrev pub gains_at : Program → (ℕ → Bool) → Stmt-F Stmt → Bool
gains_at p hidden (Assign site x e) = hidden (first_cell p x)
gains_at p hidden (If site cond a b) = true
gains_at p hidden (While site cond a) = true
gains_at p hidden _ = false

-- .. of the statement itself
abbrev pub gains : Program → (ℕ → Bool) → Stmt → Bool
gains p hidden x = gains_at p hidden (out-Stmt x)

-- A run is told as a block where one of its statements gains: its item with its net stores then takes no more room than its words.
abbrev pub pays_off : Program → Plan → List Stmt → Bool
pays_off p plan [] = false
pays_off p plan (x ∷ rest) = list_any (gains p (is_hidden p plan (stage_of p plan (own_site p plan x)))) (x ∷ rest)
