-- Which of several offences is given: each name of the text is unknown, and stands on a line of its own.
use Rattle.std.proofs.Common.{◌≡◌, ◌≢◌, refl, ℕ, zero, suc, false, List, [], ◌∷◌, ◌++◌, map, pos, Result, Ok, Err, codes}
use Rattle.dp_base.specs.declared.Quantity.TheVariants.{Functions, Cells}
use Rattle.dp_base.specs.declared.UnOp.TheVariants as unary
use Rattle.dp_base.specs.declared.BinOp.TheVariants as op
use Rattle.dp_base.specs.Counts.{reported_count}
use Rattle.dp_tree.specs.declared.Program.{Program}
use Rattle.dp_tree.specs.declared.raw.RawExpr.{RawExpr}
use Rattle.dp_tree.specs.declared.raw.RawExpr.TheVariants as expr
use Rattle.dp_tree.specs.declared.raw.RawStmt.{RawStmt}
use Rattle.dp_tree.specs.declared.raw.RawStmt.TheVariants as stmt
use Rattle.dp_tree.specs.declared.raw.RawItem.{RawItem}
use Rattle.dp_tree.specs.declared.raw.RawItem.TheVariants as item
use Rattle.dp_check.specs.declared.fail.CheckFail.{CheckFail}
use Rattle.dp_check.specs.declared.fail.CheckFail.TheVariants.{Unknown, Twice, Arguments, Limit, NoMemory}
use Rattle.dp_check.specs.Offence.{Token}
use Rattle.dp_check.specs.Tokens.{expr_tokens, tokens_all}
use Rattle.dp_check.specs.Answer.{GivesChecked}
use Rattle.dp_check.specs.CheckAnswer.{check_answer}
use Rattle.dp_check.proofs.rows.Build.{on, var, num, add, declare, set, say, names_opened}

abbrev lines_of : List Token → List ℕ
lines_of tokens = map (λ t. t.name.line) tokens

abbrev x : ℕ → RawExpr
x line = var line (codes "x")

-- every operand, from left to right, and an array's name before its index
operands : lines_of (expr_tokens [] (expr.Or (expr.And (x 1) (expr.Unary unary.Not (x 2))) (expr.Binary op.Lt (expr.Element (on 3 (codes "a")) (x 4))
    (add (x 5) (num 1))))) ≡ 1 ∷ 2 ∷ 3 ∷ 4 ∷ 5 ∷ []
unfolding names_opened
operands = refl

abbrev text : List RawStmt
text = declare 1 2 (codes "d") (x 3) ∷ set 4 (codes "e") (x 5) ∷ stmt.Store (on 6 (codes "a")) (x 7) (x 8) ∷ stmt.Call (on 9 (codes "f"))
    (x 10 ∷ x 11 ∷ []) ∷ say 12 (x 13)
    ∷ stmt.If 14 (x 15) (set 16 (codes "x") (x 17) ∷ set 18 (codes "x") (num 0) ∷ []) (say 19 (x 20) ∷ []) ∷ stmt.While 21 false (x 22)
    (say 23 (x 24) ∷ []) ∷ []

statements : lines_of (tokens_all (record { names = []; variable = 0; site = 1 }) text) ≡ 2 ∷ 3 ∷ 4 ∷ 5 ∷ 6 ∷ 7 ∷ 8 ∷ 9 ∷ 10 ∷ 11 ∷ 13 ∷ 15 ∷ 16 ∷ 17
    ∷ 18 ∷ 20 ∷ 22 ∷ 24 ∷ []
unfolding names_opened
statements = refl

-- so many functions, each name one byte longer than the one before it
abbrev functions : ℕ → List RawItem
functions zero = []
functions (suc n) = functions n ++ item.Function (on 1 (102 ∷ n ∷ [])) [] [] ∷ []

abbrev answer : List RawItem → List RawStmt → Result Program CheckFail
answer items main = check_answer (record { items = items; main = main })

abbrev large : List RawItem
large = item.Array (on 1 (codes "a")) (pos 65530) ∷ item.Scalar (on 1 (codes "s")) (pos 3) ∷ item.Array (on 1 (codes "b")) (pos 6) ∷ []

too_many_cells : answer large [] ≡ Err (Limit Cells 65537)
unfolding names_opened
too_many_cells = refl

too_many_functions : answer (functions 65) [] ≡ Err (Limit Functions 65)
unfolding names_opened
too_many_functions = refl

-- functions come before cells
both : answer (large ++ functions 66) [] ≡ Err (Limit Functions 66)
unfolding names_opened
both = refl

-- .. and a name that offends before either, on its own line and not on that of its statement
a_name_first : answer (large ++ functions 66) (declare 1 2 (codes "a") (num 0) ∷ []) ≡ Err (Twice 2)
unfolding names_opened
a_name_first = refl

-- a count is reported up to 1,000,000
greatest_reported : map reported_count (65537 ∷ 999999 ∷ 1000000 ∷ 1000001 ∷ []) ≡ 65537 ∷ 999999 ∷ 1000000 ∷ 1000000 ∷ []
greatest_reported = refl

-- the first offence of the text is given, whatever its kind
first_of_two : answer [] (set 2 (codes "x") (num 0) ∷ declare 3 3 (codes "input") (num 0) ∷ say 4 (var 4 (codes "y")) ∷ []) ≡ Err (Unknown 2)
unfolding names_opened
first_of_two = refl

-- a function has as many parameters as its text says, and is visible from its end on
abbrev calling : ℕ → List RawExpr → RawStmt
calling line args = stmt.Call (on line (codes "f")) args

parameters : answer (item.Function (on 1 (codes "f")) (on 1 (codes "p") ∷ on 1 (codes "q") ∷ []) [] ∷ item.Function (on 2 (codes "g")) []
    (calling 3 (num 1 ∷ num 2 ∷ []) ∷ calling 4 (num 1 ∷ []) ∷ []) ∷ []) [] ≡ Err (Arguments 4)
unfolding names_opened
parameters = refl

calls_itself : answer (item.Function (on 1 (codes "f")) [] (stmt.Call (on 2 (codes "f")) [] ∷ []) ∷ []) [] ≡ Err (Unknown 2)
unfolding names_opened
calls_itself = refl

-- what an outcome says of the answer, written out
module _ (expected : Result Program CheckFail) (p : Program) (e : CheckFail) where
  gives_a_program : GivesChecked expected (Ok p) → expected ≡ Ok p
  gives_a_program is = is

  gives_a_refusal : GivesChecked expected (Err e) → e ≢ NoMemory → expected ≡ Err e
  gives_a_refusal is = is
