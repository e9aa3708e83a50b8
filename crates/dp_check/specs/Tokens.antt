-- The names of a text in their order, each with the names that are visible there.
use Rattle.std.specs.Prelude.{List, [], ◌∷◌, ◌++◌, length}
use Rattle.dp_tree.specs.declared.raw.Name.{Name}
use Rattle.dp_tree.specs.declared.raw.RawExpr.{RawExpr, end_of-RawExpr, more_of-RawExpr}
use Rattle.dp_tree.specs.declared.raw.RawExpr.TheVariants as expr
use Rattle.dp_tree.specs.declared.raw.RawStmt.{RawStmt, Row_of-RawStmt, end_of-RawStmt, more_of-RawStmt}
use Rattle.dp_tree.specs.declared.raw.RawStmt.TheVariants.{Declare, Assign, Store, Call, Print, If', While', For', Break}
use Rattle.dp_check.specs.declared.place.Place.{Place}
use Rattle.dp_check.specs.Names.{Named}
use Rattle.dp_check.specs.Offence.{Token, Use, Declares, Reads, ReadsElement, Assigns, AssignsElement, Calls}
use Rattle.dp_check.specs.Place.{sited, place_passed, parts_in, place_after, after_in, with_scalar}

-- a name with what it is written for, and the names that are visible there
abbrev pub token : List Named → Use → Name → Token
token visible purpose name = record { name = name; purpose = purpose; visible = visible }

-- the names of an expression, from left to right
abbrev pub expr_tokens : List Named → RawExpr → List Token
expr_tokens names (expr.Number n) = []
expr_tokens names (expr.Scalar name) = token names Reads name ∷ []
expr_tokens names (expr.Element' name _ (more_of-RawExpr e end_of-RawExpr)) = token names ReadsElement name ∷ expr_tokens names e
expr_tokens names (expr.Unary' op _ (more_of-RawExpr a end_of-RawExpr)) = expr_tokens names a
expr_tokens names (expr.Binary' op _ (more_of-RawExpr a end_of-RawExpr) _ (more_of-RawExpr b end_of-RawExpr)) = expr_tokens names a ++ expr_tokens names b
expr_tokens names (expr.And' _ (more_of-RawExpr a end_of-RawExpr) _ (more_of-RawExpr b end_of-RawExpr)) = expr_tokens names a ++ expr_tokens names b
expr_tokens names (expr.Or' _ (more_of-RawExpr a end_of-RawExpr) _ (more_of-RawExpr b end_of-RawExpr)) = expr_tokens names a ++ expr_tokens names b

-- the names of arguments, from left to right
abbrev pub args_tokens : List Named → List RawExpr → List Token
args_tokens names [] = []
args_tokens names (e ∷ rest) = expr_tokens names e ++ args_tokens names rest

abbrev mutual
  -- A name that is declared isn't visible in its own initialiser. The names of a block are visible to its end, and those of a
  -- `for`'s initialiser to the end of the `for`. Its step stands before its body, whose numbers come first.
  pub tokens : Place → RawStmt → List Token
  tokens p (Declare line name value) = token p.names Declares name ∷ expr_tokens p.names value
  tokens p (Assign name value) = token p.names Assigns name ∷ expr_tokens p.names value
  tokens p (Store name index value) = token p.names AssignsElement name ∷ (expr_tokens p.names index ++ expr_tokens p.names value)
  tokens p (Call name args) = token p.names (Calls (length args)) name ∷ args_tokens p.names args
  tokens p (Print line value) = expr_tokens p.names value
  tokens p (If' line cond _ then_part _ else_part) =
      expr_tokens p.names cond ++ (tokens_in (sited p) then_part ++ tokens_in (place_passed (sited p) (parts_in then_part)) else_part)
  tokens p (While' line marked cond _ body) = expr_tokens p.names cond ++ tokens_in (sited p) body
  tokens p (For' line marked _ first cond _ step _ body) =
      tokens_in p first ++ (expr_tokens (after_in p first).names cond
      ++ (tokens_in (place_passed (sited (after_in p first)) (parts_in body)) step ++ tokens_in (sited (after_in p first)) body))
  tokens p (Break line cond) = expr_tokens p.names cond

  -- the same of the statements of a block
  pub tokens_in : {n : _} → Place → Row_of-RawStmt n → List Token
  tokens_in p end_of-RawStmt = []
  tokens_in p (more_of-RawStmt s rest) = tokens p s ++ tokens_in (place_after p s) rest

-- the same of a list
abbrev pub tokens_all : Place → List RawStmt → List Token
tokens_all p [] = []
tokens_all p (s ∷ rest) = tokens p s ++ tokens_all (place_after p s) rest

-- a parameter is visible to the parameters after it
abbrev pub params_tokens : Place → List Name → List Token
params_tokens p [] = []
params_tokens p (x ∷ rest) = token p.names Declares x ∷ params_tokens (with_scalar p x) rest
