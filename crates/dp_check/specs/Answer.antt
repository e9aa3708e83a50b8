-- What is answered for a part of a tree: its first offence, or else what it stands for.
use Rattle.std.specs.Prelude.{ℕ, List, [], ◌∷◌, ◌++◌, ◌≡◌, ◌≢◌, map, Option, Some, None, Result, Ok, Err}
use Rattle.dp_base.specs.declared.VarId.{VarId}
use Rattle.dp_tree.specs.declared.Expr.{Expr}
use Rattle.dp_tree.specs.declared.Function.{Function}
use Rattle.dp_tree.specs.declared.Stmt.{Stmt}
use Rattle.dp_tree.specs.declared.raw.Name.{Name}
use Rattle.dp_tree.specs.declared.raw.RawExpr.{RawExpr}
use Rattle.dp_tree.specs.declared.raw.RawStmt.{RawStmt}
use Rattle.dp_check.specs.declared.fail.CheckFail.{CheckFail}
use Rattle.dp_check.specs.declared.fail.CheckFail.TheVariants.{NoMemory}
use Rattle.dp_check.specs.declared.place.Place.{Place}
use Rattle.dp_check.specs.Names.{Named}
use Rattle.dp_check.specs.Offence.{Declares, offence, first_offence}
use Rattle.dp_check.specs.Place.{after_params, parts_all, place_passed, sited}
use Rattle.dp_check.specs.Tokens.{token, expr_tokens, args_tokens, tokens, tokens_all, params_tokens}
use Rattle.dp_check.specs.Resolved.{resolved_expr, resolved, resolved_all, with_loop_step, stepped_region, resolved_top, resolved_main, param_variables}
use Rattle.dp_check.specs.Resolved.{next_variable}

-- the answer, unless this cause for a refusal stands
abbrev pub unless : {X : Type 0} → Option CheckFail → Result X CheckFail → Result X CheckFail
unless (Some e) answer = Err e
unless None answer = answer

-- the value, unless this offence stands
abbrev pub answer : {X : Type 0} → Option CheckFail → X → Result X CheckFail
answer offence x = unless offence (Ok x)

-- what is answered for the rest of a list, behind what is done
unfoldable pub onto : {X : Type 0} → List X → Result (List X) CheckFail → Result (List X) CheckFail
onto done (Ok more) = Ok (done ++ more)
onto done (Err e) = Err e

-- one statement more behind those that are done, unless it is refused
abbrev pub with_last : List Stmt → Result Stmt CheckFail → Result (List Stmt) CheckFail
with_last done (Ok s) = Ok (done ++ s ∷ [])
with_last done (Err e) = Err e

-- all statements that are done, unless one is refused
abbrev pub with_all : List Stmt → Result (Unit {0}) CheckFail → Result (List Stmt) CheckFail
with_all done (Ok _) = Ok done
with_all done (Err e) = Err e

-- the outcome is the expected one; that memory was wanting says nothing
abbrev pub GivesChecked : {X : Type 0} → Result X CheckFail → Result X CheckFail → Type 0
GivesChecked expected (Ok x) = expected ≡ Ok x
GivesChecked expected (Err e) = e ≢ NoMemory → expected ≡ Err e

-- what is answered for an expression where these names are visible
unfoldable pub expr_answer : List Named → RawExpr → Result Expr CheckFail
expr_answer names e = answer (first_offence (expr_tokens names e)) (resolved_expr names e)

-- what is answered for arguments, from left to right
unfoldable pub args_answer : List Named → List RawExpr → Result (List Expr) CheckFail
args_answer names args = answer (first_offence (args_tokens names args)) (map (resolved_expr names) args)

-- what is answered for a statement at a place
unfoldable pub statement_answer : Place → RawStmt → Result (List Stmt) CheckFail
statement_answer p s = answer (first_offence (tokens p s)) (resolved p s)

-- what is answered for the statements of a block
unfoldable pub block_answer : Place → List RawStmt → Result (List Stmt) CheckFail
block_answer p all = answer (first_offence (tokens_all p all)) (resolved_all p all)

-- what is answered for the body and the step of a loop, from the place behind its condition: the step is read first
unfoldable pub loop_answer : Place → List RawStmt → List RawStmt → Result (List Stmt) CheckFail
loop_answer p step body = answer (first_offence (tokens_all (place_passed p (parts_all body)) step ++ tokens_all p body)) (with_loop_step p step body)

-- what is answered for a region whose body ends with a step, where region r is the next one
unfoldable pub stepped_answer : Place → ℕ → RawExpr → List RawStmt → List RawStmt → Result Stmt CheckFail
stepped_answer p r cond step body =
    answer (first_offence (expr_tokens p.names cond ++ (tokens_all (place_passed (sited p) (parts_all body)) step ++ tokens_all (sited p) body)))
    (stepped_region p r cond step body)

-- what is answered for a statement at the top of `main`, where region r is the next one
unfoldable pub top_answer : Place → ℕ → RawStmt → Result (List Stmt) CheckFail
top_answer p r s = answer (first_offence (tokens p s)) (resolved_top p r s)

-- what is answered for `main`, where region r is the next one
unfoldable pub main_answer : Place → ℕ → List RawStmt → Result (List Stmt) CheckFail
main_answer p r all = answer (first_offence (tokens_all p all)) (resolved_main p r all)

-- what is answered for a parameter
unfoldable pub param_answer : Place → Name → Result VarId CheckFail
param_answer p name = answer (offence (token p.names Declares name)) (next_variable p)

-- what is answered for a function's parameters
unfoldable pub params_answer : Place → List Name → Result (List VarId) CheckFail
params_answer p params = answer (first_offence (params_tokens p params)) (param_variables p params)

-- what is answered for a function whose name may be declared
unfoldable pub body_answer : Place → List Name → List RawStmt → Result Function CheckFail
body_answer p params body =
    answer (first_offence (params_tokens p params ++ tokens_all (after_params p params) body))
    (record { params = param_variables p params; body = resolved_all (after_params p params) body })
