-- What is asked of the sites of a region, as the definitions have them.
use Rattle.std.specs.Prelude.{ℕ, suc, if◌then◌else◌, ◌==◌, Bool, not, ◌&&◌, ◌||◌, List, map, Option, Some, None}
use Rattle.std.specs.List.{list_all, list_any}
use Rattle.dp_tree.specs.declared.Program.{Program}
use Rattle.dp_plan.specs.declared.Plan.{Plan}
use Rattle.dp_plan.specs.Access.{Access, stage_of, stores_var, is_replicated, is_body_local}
use Rattle.dp_plan.specs.Checked.{is_checked}
use Rattle.dp_semantics.specs.Fits.{has_cell}
use Rattle.dp_net.specs.Hidden.{loads_var, first_stage}
use Rattle.dp_lean.specs.Needed.{is_judge, loads_in, compares}
use Rattle.dp_lean_code.specs.steps.Accesses.{SiteAccess, access_of}

-- the sites that the code keeps
abbrev pub accesses_in : List SiteAccess → List Access
accesses_in rows = map access_of rows

module _ (p : Program) (plan : Plan) (all : List Access) where
  -- the stage, or its workers, want the variable because of these sites
  abbrev pub wanted_among : ℕ → ℕ → Bool
  wanted_among s x =
      if is_judge p plan s then list_any (compares p plan x) all
      else list_any (loads_in p plan s x) all || (is_replicated plan (suc s) && list_any (loads_in p plan (suc s) x) all)

  -- .. and so stores to it are done
  abbrev pub done_among : ℕ → ℕ → Bool
  done_among s x = wanted_among s x || (is_judge p plan s && not (is_body_local p plan x))

  -- the stage that loads the variable first among them, or else the one that stores it first
  abbrev pub home_among : ℕ → ℕ
  home_among x = first_stage p plan (loads_var p plan x) (first_stage p plan (stores_var x) 0 all) all

  -- the site doesn't load the variable, or is of this stage and isn't checked
  abbrev pub keeps_to : ℕ → ℕ → Access → Bool
  keeps_to u x a = not (loads_var p plan x a) || ((stage_of p plan a.site == u) && not (is_checked p plan a.site))

  -- the variable's home, where it is private among them
  abbrev pub private_home : ℕ → Option ℕ
  private_home x =
      if (is_body_local p plan x && has_cell p x) && list_all (keeps_to (home_among x) x) all then Some (home_among x) else None
