-- Visible names read off the text: a flat text of names, declarations and block marks, and what is visible at each name.
use Rattle.std.specs.Prelude.{ℕ, zero, suc, ◌+◌, List, [], ◌∷◌, ◌++◌, length}
use Rattle.dp_tree.specs.declared.raw.Name.{Name}
use Rattle.dp_tree.specs.declared.raw.RawExpr.{RawExpr, end_of-RawExpr, more_of-RawExpr}
use Rattle.dp_tree.specs.declared.raw.RawExpr.TheVariants as expr
use Rattle.dp_tree.specs.declared.raw.RawStmt.{RawStmt, Row_of-RawStmt, end_of-RawStmt, more_of-RawStmt}
use Rattle.dp_tree.specs.declared.raw.RawStmt.TheVariants.{Declare, Assign, Store, Call, Print, If', While', For', Break}
use Rattle.dp_tree.specs.declared.raw.RawItem.{RawItem}
use Rattle.dp_tree.specs.declared.raw.RawItem.TheVariants as item
use Rattle.dp_tree.specs.declared.raw.RawProgram.{RawProgram}
use Rattle.dp_check.specs.declared.names.Meaning.{Meaning}
use Rattle.dp_check.specs.declared.names.Meaning.TheVariants.{Scalar, Array, Function}
use Rattle.dp_check.specs.Names.{Named, predeclared}
use Rattle.dp_check.specs.Offence.{Token, Use, Declares, Reads, ReadsElement, Assigns, AssignsElement, Calls}
use Rattle.dp_check.specs.Place.{parts, parts_in, parts_all, local_count}
use Rattle.dp_check.specs.Tables.{globals, function_parts}

-- what matters of a text: a name that is written, the end of a declaration, the begin and the end of a block
pub data Mark : Type 0 where
  Writes : Use → Name → Mark
  Declared : Name → Meaning → Mark
  Opens : Mark
  Closes : Mark

-- The names that are visible behind marks, the nearest mark first, where the next d blocks that open have been closed: each
-- declaration that stands in none of those blocks counts.
abbrev pub names_seen : ℕ → List Mark → List Named
names_seen d [] = predeclared
names_seen d (Writes purpose name ∷ before) = names_seen d before
names_seen zero (Declared name meaning ∷ before) = names_seen zero before ++ record { name = name.text; meaning = meaning } ∷ []
names_seen (suc d) (Declared name meaning ∷ before) = names_seen (suc d) before
names_seen zero (Opens ∷ before) = names_seen zero before
names_seen (suc d) (Opens ∷ before) = names_seen d before
names_seen d (Closes ∷ before) = names_seen (suc d) before

-- the names of a text in their order, each with what is visible behind the marks before it, the nearest mark first
abbrev pub read_off : List Mark → List Mark → List Token
read_off before [] = []
read_off before (Writes purpose name ∷ rest) =
    record { name = name; purpose = purpose; visible = names_seen zero before } ∷ read_off (Writes purpose name ∷ before) rest
read_off before (Declared name meaning ∷ rest) = read_off (Declared name meaning ∷ before) rest
read_off before (Opens ∷ rest) = read_off (Opens ∷ before) rest
read_off before (Closes ∷ rest) = read_off (Closes ∷ before) rest

-- the marks of an expression
abbrev pub expr_marks : RawExpr → List Mark
expr_marks (expr.Number n) = []
expr_marks (expr.Scalar name) = Writes Reads name ∷ []
expr_marks (expr.Element' name _ (more_of-RawExpr e end_of-RawExpr)) = Writes ReadsElement name ∷ expr_marks e
expr_marks (expr.Unary' op _ (more_of-RawExpr a end_of-RawExpr)) = expr_marks a
expr_marks (expr.Binary' op _ (more_of-RawExpr a end_of-RawExpr) _ (more_of-RawExpr b end_of-RawExpr)) = expr_marks a ++ expr_marks b
expr_marks (expr.And' _ (more_of-RawExpr a end_of-RawExpr) _ (more_of-RawExpr b end_of-RawExpr)) = expr_marks a ++ expr_marks b
expr_marks (expr.Or' _ (more_of-RawExpr a end_of-RawExpr) _ (more_of-RawExpr b end_of-RawExpr)) = expr_marks a ++ expr_marks b

-- the marks of arguments, from left to right
abbrev pub args_marks : List RawExpr → List Mark
args_marks [] = []
args_marks (e ∷ rest) = expr_marks e ++ args_marks rest

-- marks within a block
abbrev pub block : List Mark → List Mark
block inside = Opens ∷ (inside ++ Closes ∷ [])

-- a scalar is declared, and has this number
abbrev pub declared : Name → ℕ → List Mark
declared name number = Declared name (Scalar (record { 0 = number })) ∷ []

abbrev mutual
  -- A statement, where the next local has this number. The names of a `for`'s initialiser are those of a block round the
  -- `for`, and its step is a block of its own before the body.
  pub marks : ℕ → RawStmt → List Mark
  marks next (Declare line name value) = Writes Declares name ∷ (expr_marks value ++ declared name next)
  marks next (Assign name value) = Writes Assigns name ∷ expr_marks value
  marks next (Store name index value) = Writes AssignsElement name ∷ (expr_marks index ++ expr_marks value)
  marks next (Call name args) = Writes (Calls (length args)) name ∷ args_marks args
  marks next (Print line value) = expr_marks value
  marks next (If' line cond _ then_part _ else_part) =
      expr_marks cond ++ (block (marks_in next then_part) ++ block (marks_in (next + local_count (parts_in then_part)) else_part))
  marks next (While' line marked cond _ body) = expr_marks cond ++ block (marks_in next body)
  marks next (For' line marked _ first cond _ step _ body) =
      block (marks_in next first ++ (expr_marks cond
      ++ (block (marks_in ((next + local_count (parts_in first)) + local_count (parts_in body)) step)
      ++ block (marks_in (next + local_count (parts_in first)) body))))
  marks next (Break line cond) = expr_marks cond

  -- the same of the statements of a block
  pub marks_in : {n : _} → ℕ → Row_of-RawStmt n → List Mark
  marks_in next end_of-RawStmt = []
  marks_in next (more_of-RawStmt s rest) = marks next s ++ marks_in (next + local_count (parts s)) rest

-- the same of a list
abbrev pub marks_all : ℕ → List RawStmt → List Mark
marks_all next [] = []
marks_all next (s ∷ rest) = marks next s ++ marks_all (next + local_count (parts s)) rest

-- the parameters of a function, where the next local has this number
abbrev pub params_marks : ℕ → List Name → List Mark
params_marks next [] = []
params_marks next (x ∷ rest) = Writes Declares x ∷ (declared x next ++ params_marks (next + 1) rest)

-- The items, where the next file-scope variable, function and local have these numbers. A function's parameters are names of
-- its block.
abbrev pub items_marks : ℕ → ℕ → ℕ → List RawItem → List Mark
items_marks global function next [] = []
items_marks global function next (item.Scalar name start ∷ rest) = Writes Declares name ∷ (declared name global ++ items_marks (global + 1) function next rest)
items_marks global function next (item.Array name size ∷ rest) =
    Writes Declares name ∷ (Declared name (Array (record { 0 = global })) ∷ items_marks (global + 1) function next rest)
items_marks global function next (item.Function name params body ∷ rest) =
    Writes Declares name ∷ (block (params_marks next params ++ marks_all (next + length params) body)
    ++ Declared name (Function function (length params)) ∷ items_marks global (function + 1) (next + local_count (function_parts params body)) rest)

-- a program: its locals are numbered behind the file-scope variables, those of `main` first
abbrev pub text_marks : RawProgram → List Mark
text_marks raw =
    items_marks 0 0 (length (globals raw.items) + local_count (parts_all raw.main)) raw.items ++ block (marks_all (length (globals raw.items)) raw.main)
