-- The lean text: what of a stage's text is left to it, where statements of earlier stages that it needs nothing of are left out.
use Rattle.std.specs.Prelude.{ℕ, zero, suc, if◌then◌else◌, Bool, false, not, ◌||◌, List, [], ◌∷◌, ◌++◌, length}
use Rattle.dp_tree.specs.declared.Stmt.{Stmt, Row_of-Stmt, end_of-Stmt, more_of-Stmt}
use Rattle.dp_tree.specs.declared.Stmt.TheVariants.{Assign, Store, Print, If, If', While, While', Region', Break, Call}
use Rattle.dp_tree.specs.declared.Program.{Program}
use Rattle.dp_plan.specs.declared.Plan.{Plan}
use Rattle.dp_plan.specs.Access.{region_statement}
use Rattle.dp_semantics.specs.Project.{project_all}
use Rattle.dp_net.specs.NetItems.{Marks, is_nil}
use Rattle.dp_net.specs.BlockText.{own_site}
use Rattle.dp_lean.specs.Needed.{is_judge, is_done_to, is_kept_site, is_kept_block}

-- the statement, where it is kept
abbrev pub kept_when : Bool → Stmt → List Stmt
kept_when keeps x = if keeps then x ∷ [] else []

module _ (p : Program) (plan : Plan) (m : Marks) (s : ℕ) where
  -- The statement at the head, where a block begins there or not: a block is kept whole or not at all.
  -- `alone` is what is left of the statement outside of blocks, and `onward` goes on, with so many statements of a block still to come, kept or not.
  abbrev pub left_of_head : List Stmt → Stmt → List Stmt → (ℕ → Bool → List Stmt) → List Stmt
  left_of_head [] x alone onward = alone ++ onward zero false
  left_of_head (y ∷ ys) x alone onward =
      kept_when (is_kept_block p plan s (y ∷ ys)) x ++ onward (length ys) (is_kept_block p plan s (y ∷ ys))

  -- a choice is kept where something in it is
  abbrev pub has_some : List Stmt → List Stmt → Bool
  has_some a b = not (is_nil a) || not (is_nil b)

  abbrev mutual
    -- What is left of a statement outside of blocks. Breaks stay, and of the earlier stages' prints those to the judge.
    pub lean : Stmt → List Stmt
    lean (Assign site x e) = kept_when (is_kept_site p plan s site.0 || is_done_to p plan s x.0) (Assign site x e)
    lean (Store site x index e) = kept_when (is_kept_site p plan s site.0 || is_done_to p plan s x.0) (Store site x index e)
    lean (Print site e) = kept_when (is_kept_site p plan s site.0 || is_judge p plan s) (Print site e)
    lean (If' site cond _ a _ b) =
        kept_when (is_kept_site p plan s site.0 || has_some (lean_row zero false a) (lean_row zero false b))
        (If site cond (lean_row zero false a) (lean_row zero false b))
    lean (While' site cond _ a) =
        kept_when (is_kept_site p plan s site.0 || has_some (lean_row zero false a) []) (While site cond (lean_row zero false a))
    lean (Region' r site cond h a) = Region' r site cond h a ∷ []
    lean (Break site cond) = Break site cond ∷ []
    lean (Call f line args) = Call f line args ∷ []

    -- .. of statements one after the other, the first of which may be the rest of a block
    pub lean_row : {n : _} → ℕ → Bool → Row_of-Stmt n → List Stmt
    lean_row left kept end_of-Stmt = []
    lean_row (suc left) kept (more_of-Stmt x rest) = kept_when kept x ++ lean_row left kept rest
    lean_row zero kept (more_of-Stmt x rest) = left_of_head (m.block_at (own_site p plan x)) x (lean x) (λ n b. lean_row n b rest)

  -- the same of a list
  abbrev pub lean_list : ℕ → Bool → List Stmt → List Stmt
  lean_list left kept [] = []
  lean_list (suc left) kept (x ∷ rest) = kept_when kept x ++ lean_list left kept rest
  lean_list zero kept (x ∷ rest) = left_of_head (m.block_at (own_site p plan x)) x (lean x) (λ n b. lean_list n b rest)

  -- .. which begins outside of blocks
  abbrev pub lean_all : List Stmt → List Stmt
  lean_all statements = lean_list zero false statements

  -- the lean text of stage s
  abbrev pub lean_text : List Stmt
  lean_text = lean_all (project_all p plan s (region_statement p plan))
