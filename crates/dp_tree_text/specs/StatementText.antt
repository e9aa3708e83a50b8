-- The lines of statements, in the order of the text.
use Rattle.std.specs.Prelude.{ℕ, List, [], ◌∷◌, ◌++◌, codes}
use Rattle.dp_base.specs.declared.SiteId.{SiteId}
use Rattle.dp_base.specs.declared.VarId.{VarId}
use Rattle.dp_text.specs.Labels.{labelled}
use Rattle.dp_tree.specs.declared.Expr.{Expr}
use Rattle.dp_tree.specs.declared.Stmt.{Stmt, Row_of-Stmt, end_of-Stmt, more_of-Stmt}
use Rattle.dp_tree.specs.declared.Stmt.TheVariants.{Assign, Store, Print, If', While', Region', Break, Call}
use Rattle.dp_report.specs.Lines.{line}
use Rattle.dp_tree_text.specs.ExprText.{expr_text}

-- a word, a site and what is evaluated there
abbrev pub evaluated_text : List ℕ → SiteId → Expr → List ℕ
evaluated_text word site e = line (labelled word site.0 ++ expr_text e)

-- an assignment: its site, its variable and the value
abbrev pub assign_text : SiteId → VarId → Expr → List ℕ
assign_text site x e = line (labelled (codes "assign ") site.0 ++ labelled (codes " ") x.0 ++ expr_text e)

-- a store to an element: .. the index and the value
abbrev pub store_text : SiteId → VarId → Expr → Expr → List ℕ
store_text site x index e = line (labelled (codes "store ") site.0 ++ labelled (codes " ") x.0 ++ expr_text index ++ expr_text e)

-- the head of a region: its number, its site and the condition
abbrev pub region_text : ℕ → SiteId → Expr → List ℕ
region_text r site cond = labelled (codes "region ") r ++ evaluated_text (codes " ") site cond

unfoldable mutual
  -- A statement's line, the lines of what stands inside it, and their end. An inlined program has no call.
  pub statement_text : Stmt → List ℕ
  statement_text (Assign site x e) = assign_text site x e
  statement_text (Store site x index e) = store_text site x index e
  statement_text (Print site e) = evaluated_text (codes "print ") site e
  statement_text (Break site cond) = evaluated_text (codes "break ") site cond
  statement_text (If' site cond _ then_part _ else_part) =
      evaluated_text (codes "if ") site cond ++ (rows_text then_part ++ (line (codes "else") ++ (rows_text else_part ++ line (codes "end"))))
  statement_text (While' site cond _ body) = evaluated_text (codes "while ") site cond ++ (rows_text body ++ line (codes "end"))
  statement_text (Region' r site cond _ body) = region_text r site cond ++ (rows_text body ++ line (codes "end"))
  statement_text (Call f at args) = []

  -- the lines of several
  pub rows_text : {n : _} → Row_of-Stmt n → List ℕ
  rows_text end_of-Stmt = []
  rows_text (more_of-Stmt s rest) = statement_text s ++ rows_text rest

-- the same of a list
unfoldable pub statement_texts : List Stmt → List ℕ
statement_texts [] = []
statement_texts (s ∷ rest) = statement_text s ++ statement_texts rest
