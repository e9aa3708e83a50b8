-- The sites of a stage's lean text as the walk over the region's statements finds them, with what is known of the region looked up.
use Rattle.std.specs.Prelude.{ℕ, zero, suc, if◌then◌else◌, ◌==◌, Bool, true, false, ◌&&◌, ◌||◌, List, [], ◌∷◌, ◌++◌, take, map, Option, Some, None}
use Rattle.std.specs.List.{list_any, flat_map}
use Rattle.dp_base.specs.declared.SiteId.{SiteId}
use Rattle.dp_tree.specs.declared.Stmt.{Stmt, out-Stmt, Row_of-Stmt, end_of-Stmt, more_of-Stmt}
use Rattle.dp_tree.specs.declared.Stmt.TheVariants.{Assign, Store, Print, If', While', Region', Break, Call}
use Rattle.dp_tree.specs.declared.Program.{Program}
use Rattle.dp_tree.specs.Numbering.{numbers_from}
use Rattle.dp_tree.specs.Statements.{listed}
use Rattle.dp_tree.specs.Step.{site_of}
use Rattle.dp_plan.specs.declared.Plan.{Plan}
use Rattle.dp_plan.specs.Access.{accesses, stage_of, region_statement}
use Rattle.dp_plan.specs.Written.{access_site}
use Rattle.dp_semantics.specs.Project.{assumed_in}
use Rattle.dp_lean.specs.Needed.{is_judge}
use Rattle.dp_lean_code.specs.declared.tables.LeanTables.{LeanTables}
use Rattle.dp_lean_code.specs.steps.Looked.{known_of}
use Rattle.dp_lean_code.specs.steps.Walked.{Known, reaches, keeps, stored_inside}

-- the number is among them
abbrev pub has_number : ℕ → List ℕ → Bool
has_number y numbers = list_any (λ (n : ℕ). n == y) numbers

-- there are some
abbrev pub has_any : List ℕ → Bool
has_any [] = false
has_any (n ∷ numbers) = true

-- the site, where it is read
abbrev pub site_when : Bool → SiteId → List ℕ
site_when reads site = if reads then site.0 ∷ [] else []

module _ (p : Program) (plan : Plan) (s : ℕ) (k : Known) where
  -- a statement with no others inside, which is kept because of its site or for another reason
  abbrev pub leaf_read : SiteId → Bool → List ℕ
  leaf_read site also = site_when (reaches p plan s k site && (keeps p plan s k site || also)) site

  -- a choice or a loop with these sites inside it
  abbrev pub choice_read : SiteId → List ℕ → List ℕ
  choice_read site inner = inner ++ site_when (keeps p plan s k site || has_any inner) site

  -- the branch that is assumed
  abbrev pub assumed_read : Option Bool → List ℕ → List ℕ → List ℕ
  assumed_read None a b = []
  assumed_read (Some taken) a b = if taken then a else b

  -- a block that is reached is kept, where it is an own one, or another stage's of which a store is done
  abbrev pub keeps_block : SiteId → List Stmt → Bool
  keeps_block site block = reaches p plan s k site && ((stage_of p plan site.0 == s) || stored_inside p plan s k block)

  -- .. and then all its sites are read
  abbrev pub block_read : SiteId → List Stmt → List ℕ
  block_read site block = if keeps_block site block then map access_site (flat_map accesses block) else []

  -- the head of a row: a statement outside of blocks, or a block of so many statements; `onward` leaves out so many
  abbrev pub head_read : ℕ → Stmt → List Stmt → List ℕ → (ℕ → List ℕ) → List ℕ
  head_read zero x rest alone onward = alone ++ onward zero
  head_read (suc n) x rest alone onward = block_read (site_of (out-Stmt x)) (x ∷ take n rest) ++ onward n

  unfoldable mutual
    -- the sites that are read of a statement outside of blocks
    pub read : Stmt → List ℕ
    read (Assign site x e) = leaf_read site (k.done x.0)
    read (Store site x index e) = leaf_read site (k.done x.0)
    read (Print site e) = leaf_read site (is_judge p plan s)
    read (If' site cond _ a _ b) =
        if reaches p plan s k site then choice_read site (row_read zero a ++ row_read zero b)
        else assumed_read (assumed_in plan.assume site.0) (row_read zero a) (row_read zero b)
    read (While' site cond _ a) = if reaches p plan s k site then choice_read site (row_read zero a) else []
    read (Region' r site cond _ a) = choice_read site (row_read zero a)
    read (Break site cond) = site_when (reaches p plan s k site) site
    read (Call f line args) = []

    -- .. and of several, but for so many at the front
    pub row_read : {n : _} → ℕ → Row_of-Stmt n → List ℕ
    row_read skipped end_of-Stmt = []
    row_read (suc skipped) (more_of-Stmt x rest) = row_read skipped rest
    row_read zero (more_of-Stmt x rest) = head_read (k.count (site_of (out-Stmt x)).0) x (listed rest) (read x) (λ n. row_read n rest)

  -- the same of a list
  unfoldable pub list_read : ℕ → List Stmt → List ℕ
  list_read skipped [] = []
  list_read (suc skipped) (x ∷ rest) = list_read skipped rest
  list_read zero (x ∷ rest) = head_read (k.count (site_of (out-Stmt x)).0) x rest (read x) (λ n. list_read n rest)

  -- the sites of a loop that is reached: those in its body, and its own
  abbrev pub loop_read : SiteId → List Stmt → List ℕ
  loop_read site body = choice_read site (list_read zero body)

module _ (p : Program) (plan : Plan) (tables : LeanTables) where
  -- the sites that stage s reads
  unfoldable pub stage_read : ℕ → List ℕ
  stage_read s = flat_map (read p plan s (known_of p plan tables s)) (region_statement p plan)

  -- .. and that so many stages from s on read
  abbrev pub stages_read : ℕ → ℕ → List ℕ
  stages_read s n = flat_map stage_read (numbers_from s n)
