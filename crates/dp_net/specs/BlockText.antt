-- Where the quiet blocks of a region stand: the longest runs of statements that are quiet in one stage.
use Rattle.std.specs.Prelude.{ℕ, if◌then◌else◌, ◌+◌, ◌==◌, Bool, false, List, [], ◌∷◌, length, Option, Some, None, nat_lt}
use Rattle.dp_tree.specs.declared.Stmt.{Stmt, out-Stmt, Row_of-Stmt, end_of-Stmt, more_of-Stmt}
use Rattle.dp_tree.specs.declared.Stmt.TheVariants.{If', While', Region'}
use Rattle.dp_tree.specs.declared.Program.{Program}
use Rattle.dp_tree.specs.Step.{site_of}
use Rattle.dp_tree.specs.Statements.{listed}
use Rattle.dp_plan.specs.declared.Plan.{Plan}
use Rattle.dp_plan.specs.Access.{stage_of, accesses, accesses_in}
use Rattle.dp_net.specs.Quiet.{is_quiet}

module _ (p : Program) (plan : Plan) where
  -- the statement's own site
  abbrev pub own_site : Stmt → ℕ
  own_site x = (site_of (out-Stmt x)).0

  -- .. and the stage of it
  abbrev pub own_stage : Stmt → ℕ
  own_stage x = stage_of p plan (own_site x)

  -- quiet in the stage of its own site
  abbrev pub is_quiet_own : Stmt → Bool
  is_quiet_own x = is_quiet p plan (own_stage x) x

  -- the front that is quiet in stage t
  abbrev pub run : ℕ → List Stmt → List Stmt
  run t [] = []
  run t (x ∷ rest) = if is_quiet p plan t x then x ∷ run t rest else []

  -- .. and what is behind it
  abbrev pub past_run : ℕ → List Stmt → List Stmt
  past_run t [] = []
  past_run t (x ∷ rest) = if is_quiet p plan t x then past_run t rest else x ∷ rest

  -- the stage of the run that the statement is of
  abbrev pub run_behind : Stmt → Option ℕ
  run_behind x = if is_quiet_own x then Some (own_stage x) else None

  -- the first site behind the statement
  abbrev pub site_past : Stmt → ℕ
  site_past x = own_site x + length (accesses x)

  -- a statement that is quiet in stage t joins the run in front of it, if that is of the same stage
  abbrev pub joins_run : ℕ → Option ℕ → Bool
  joins_run t None = false
  joins_run t (Some u) = t == u

module _ (p : Program) (plan : Plan) (pays : List Stmt → Bool) where
  -- the run, where it pays to tell it as a block
  abbrev pub if_pays : List Stmt → List Stmt
  if_pays block = if pays block then block else []

  -- the block that begins with the statement, behind one of a run of this stage
  abbrev pub block_from : Option ℕ → Stmt → List Stmt → List Stmt
  block_from before x rest =
      if is_quiet_own p plan x then (if joins_run p plan (own_stage p plan x) before then [] else if_pays (x ∷ run p plan (own_stage p plan x) rest))
      else []

  module _ (f : ℕ) where
    abbrev mutual
      -- the block that begins at site f inside the statement
      pub sought_inside : Stmt → List Stmt
      sought_inside (If' site cond _ a _ b) = if nat_lt f (site.0 + 1 + length (accesses_in a)) then sought None a else sought None b
      sought_inside (While' site cond _ a) = sought None a
      sought_inside (Region' r site cond _ a) = sought None a
      sought_inside _ = []

      -- .. and among these statements, behind one of a run of this stage
      pub sought : {n : _} → Option ℕ → Row_of-Stmt n → List Stmt
      sought before end_of-Stmt = []
      sought before (more_of-Stmt x rest) =
          if nat_lt f (site_past p plan x)
          then (if f == own_site p plan x then block_from before x (listed rest) else (if is_quiet_own p plan x then [] else sought_inside x))
          else sought (run_behind p plan x) rest
