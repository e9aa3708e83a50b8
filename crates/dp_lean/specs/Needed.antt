-- What a stage needs of what earlier stages do, and what the judge needs of all of them.
use Rattle.std.specs.Prelude.{ℕ, suc, if◌then◌else◌, ◌==◌, Bool, false, not, ◌&&◌, ◌||◌, List, [], ◌∷◌, length, Option, Some, None, nat_lt}
use Rattle.std.specs.List.{list_any, flat_map}
use Rattle.dp_tree.specs.declared.Stmt.{Stmt}
use Rattle.dp_tree.specs.declared.Program.{Program}
use Rattle.dp_plan.specs.declared.Plan.{Plan}
use Rattle.dp_plan.specs.Access.{Access, accesses, stage_of, is_replicated, is_body_local, first_site, region_accesses}
use Rattle.dp_plan.specs.Checked.{is_checked}
use Rattle.dp_net.specs.Hidden.{loads_var}
use Rattle.dp_net.specs.BlockText.{own_site}

module _ (p : Program) (plan : Plan) where
  -- the number behind the plan's stages stands for the judge
  abbrev pub is_judge : ℕ → Bool
  is_judge s = nat_lt (length plan.stages) s

  -- the site is of stage t and loads the variable
  abbrev pub loads_in : ℕ → ℕ → Access → Bool
  loads_in t x a = (stage_of p plan a.site == t) && loads_var p plan x a

  -- .. some site of stage t does
  abbrev pub is_loaded_in : ℕ → ℕ → Bool
  is_loaded_in t x = list_any (loads_in t x) (region_accesses p plan)

  -- the site is checked and loads the variable
  abbrev pub compares : ℕ → Access → Bool
  compares x a = is_checked p plan a.site && loads_var p plan x a

  -- Stage s loads the variable, or its workers do, which begin with the memory that it had before the iteration.
  -- The judge compares what checked sites loaded of it.
  abbrev pub wanted : ℕ → ℕ → Bool
  wanted s x =
      if is_judge s then list_any (compares x) (region_accesses p plan)
      else is_loaded_in s x || (is_replicated plan (suc s) && is_loaded_in (suc s) x)

  module _ (s : ℕ) where
    -- a store to the variable is done: its value is wanted, or the judge has it committed, since the variable outlives the iteration
    abbrev pub is_done_to : ℕ → Bool
    is_done_to x = wanted s x || (is_judge s && not (is_body_local p plan x))

    -- .. to the stored variable, if any
    abbrev pub does_store : Option ℕ → Bool
    does_store None = false
    does_store (Some x) = is_done_to x

    -- .. at one of the sites of these statements
    abbrev pub store_inside : List Stmt → Bool
    store_inside block = list_any (λ (a : Access). does_store a.stores) (flat_map accesses block)

    -- The site itself asks that its statement is kept: it is the stage's own or the region's condition, or the judge compares its loads.
    abbrev pub is_kept_site : ℕ → Bool
    is_kept_site site = (stage_of p plan site == s) || ((site == first_site p plan) || (is_judge s && is_checked p plan site))

    -- a block is kept where it is the stage's own, or one of its stores is done
    abbrev pub is_kept_block : List Stmt → Bool
    is_kept_block [] = false
    is_kept_block (x ∷ rest) = (stage_of p plan (own_site p plan x) == s) || store_inside (x ∷ rest)
