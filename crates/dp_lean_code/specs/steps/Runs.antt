-- Runs of quiet statements as the code finds them: what is checked is looked up, and so are the homes of private variables.
use Rattle.std.specs.Prelude.{ℕ, if◌then◌else◌, ◌+◌, ◌==◌, Bool, true, false, not, ◌&&◌, ◌||◌, List, [], ◌∷◌, ◌++◌, length, map, Option, Some, None, slice_set}
use Rattle.std.specs.List.{list_all, list_any}
use Rattle.dp_tree.specs.declared.Expr.{Expr}
use Rattle.dp_tree.specs.declared.Stmt.{Stmt, Row_of-Stmt, end_of-Stmt, more_of-Stmt}
use Rattle.dp_tree.specs.declared.Stmt.TheVariants.{Assign, Store, If', While', Region'}
use Rattle.dp_tree.specs.declared.Program.{Program}
use Rattle.dp_tree.specs.Eval.{first_cell}
use Rattle.dp_tree.specs.Statements.{asked, everywhere, listed}
use Rattle.dp_plan.specs.declared.Plan.{Plan}
use Rattle.dp_plan.specs.Access.{Access, access_at, stage_of, first_site, loaded_by}
use Rattle.dp_plan.specs.CheckedTable.{table_says}
use Rattle.dp_semantics.specs.Fits.{has_cell, stores_known}
use Rattle.dp_net.specs.Quiet.{is_assumed_at}
use Rattle.dp_net.specs.BlockText.{own_stage}
use Rattle.dp_net.specs.Hidden.{gains}

-- no block begins at the statement's own site
unfoldable pub none_at : Stmt → List ℕ
none_at x = map (λ (a : Access). 0) (access_at x)

-- the variable's home is this stage
abbrev pub is_home : ℕ → Option ℕ → Bool
is_home u None = false
is_home u (Some v) = v == u

-- a statement that is quiet in stage t joins the run in front of it, if that is of the same stage
abbrev pub joins : ℕ → Option ℕ → Bool
joins t None = false
joins t (Some u) = t == u

module _ (p : Program) (plan : Plan) where
  -- the variables that the expression loads have cells
  unfoldable pub known_in : Expr → Bool
  known_in e = list_all (has_cell p) (loaded_by e)

  -- the site is quiet in stage t
  abbrev pub quiet_site : ℕ → ℕ → Bool
  quiet_site t site =
      (stage_of p plan site == t) && (not (table_says p plan site) && (not (site == first_site p plan) && not (list_any (is_assumed_at site) plan.assume)))

  -- .. and the variables that it names have cells
  abbrev pub quiet_access : ℕ → ℕ → List ℕ → Option ℕ → Bool
  quiet_access t site loads stores = quiet_site t site && (list_all (has_cell p) loads && stores_known p stores)

  -- the statement itself is quiet
  abbrev pub quiet_here : ℕ → Stmt → Bool
  quiet_here t (Assign site x e) = quiet_access t site.0 (loaded_by e) (Some x.0)
  quiet_here t (Store site x index e) = quiet_access t site.0 (loaded_by index ++ loaded_by e) (Some x.0)
  quiet_here t (If' site cond _ a _ b) = quiet_access t site.0 (loaded_by cond) None
  quiet_here t (While' site cond _ a) = quiet_access t site.0 (loaded_by cond) None
  quiet_here t _ = false

  -- .. and so are all those inside it
  unfoldable pub quiet_in : ℕ → Stmt → Bool
  quiet_in t x = everywhere (quiet_here t) x

  -- .. and those of several
  unfoldable pub all_quiet_in : ℕ → List Stmt → Bool
  all_quiet_in t xs = list_all (everywhere (quiet_here t)) xs

  -- the front that is quiet in stage t
  unfoldable pub run_in : ℕ → List Stmt → List Stmt
  run_in t [] = []
  run_in t (x ∷ rest) = if quiet_in t x then x ∷ run_in t rest else []

  -- a private variable from the k-th on has the cell, and its home is stage u
  unfoldable pub hides_from : ℕ → ℕ → ℕ → List (Option ℕ) → Bool
  hides_from u c k [] = false
  hides_from u c k (home ∷ homes) = (is_home u home && (first_cell p (record { 0 = k }) == c)) || hides_from u c (k + 1) homes

  module _ (homes : List (Option ℕ)) where
    -- the statement has an event that tells no store of the stage's blocks
    unfoldable pub gains_in : ℕ → Stmt → Bool
    gains_in t x = gains p (λ c. hides_from t c 0 homes) x

    -- it pays to tell the run as a block
    abbrev pub pays_in : ℕ → List Stmt → Bool
    pays_in t block = list_any (gains_in t) block

    -- the number of the statements of the block that begins at the front, behind a run of this stage
    abbrev pub count_in : Option ℕ → ℕ → List Stmt → ℕ
    count_in before t xs = if joins t before then 0 else if pays_in t (run_in t xs) then length (run_in t xs) else 0

    -- the run that a statement is of
    abbrev pub behind_in : Stmt → Option ℕ
    behind_in x = if quiet_in (own_stage p plan x) x then Some (own_stage p plan x) else None

    -- the numbers at the sites of a statement, those inside it given
    abbrev pub head_counts : Bool → Option ℕ → Stmt → List Stmt → List ℕ → List ℕ
    head_counts true before x rest inner = slice_set (asked none_at x) 0 (count_in before (own_stage p plan x) (x ∷ rest))
    head_counts false before x rest inner = none_at x ++ inner

    unfoldable mutual
      -- the numbers at the sites inside a statement that isn't quiet
      pub inner_counts : Stmt → List ℕ
      inner_counts (If' site cond _ a _ b) = row_counts None a ++ row_counts None b
      inner_counts (While' site cond _ a) = row_counts None a
      inner_counts (Region' r site cond _ a) = row_counts None a
      inner_counts _ = []

      -- .. and at those of several statements, behind one of a run of this stage
      pub row_counts : {n : _} → Option ℕ → Row_of-Stmt n → List ℕ
      row_counts before end_of-Stmt = []
      row_counts before (more_of-Stmt x rest) =
          head_counts (quiet_in (own_stage p plan x) x) before x (listed rest) (inner_counts x) ++ row_counts (behind_in x) rest

    -- the same of a list
    unfoldable pub list_counts : Option ℕ → List Stmt → List ℕ
    list_counts before [] = []
    list_counts before (x ∷ rest) = head_counts (quiet_in (own_stage p plan x) x) before x rest (inner_counts x) ++ list_counts (behind_in x) rest

    -- the numbers at the sites of a region, at whose own site no block begins
    unfoldable pub region_counts : Stmt → List ℕ
    region_counts x = none_at x ++ inner_counts x
