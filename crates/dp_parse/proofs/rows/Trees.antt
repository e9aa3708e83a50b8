-- Trees of short texts, read by the descent.
use Rattle.std.proofs.Common.{◌≡◌, refl, ℕ, true, false, List, [], ◌∷◌, pos, negsuc, codes, Ok}
use Rattle.dp_base.specs.declared.BinOp.TheVariants as op
use Rattle.dp_base.specs.declared.UnOp.TheVariants as unary
use Rattle.dp_lex.specs.Characters.{Text}
use Rattle.dp_tree.specs.declared.raw.Name.{Name}
use Rattle.dp_tree.specs.declared.raw.RawExpr.{RawExpr}
use Rattle.dp_tree.specs.declared.raw.RawExpr.TheVariants as expr
use Rattle.dp_tree.specs.declared.raw.RawStmt.{RawStmt}
use Rattle.dp_tree.specs.declared.raw.RawStmt.TheVariants as stmt
use Rattle.dp_tree.specs.declared.raw.RawItem.TheVariants as item
use Rattle.dp_tree.specs.declared.raw.RawProgram.{RawProgram}
use Rattle.dp_tokens.specs.Steps.{Outcome}
use Rattle.dp_parse.specs.steps.Expressions.{whole}
use Rattle.dp_parse.specs.steps.Programs.{program}
use Rattle.dp_parse.proofs.rows.Build.{split}

-- what opens where a text is read: `unfolding reading_opened`
unfoldable pub reading_opened : Unit {0}
unfolding
    Rattle.dp_tokens.specs.Symbols.symbol Rattle.dp_tokens.specs.Symbols.symbol_at Rattle.dp_tokens.specs.Steps.same_symbol
    Rattle.dp_parse.specs.steps.Operators.same_level
    Rattle.dp_parse.specs.steps.Operators.join_at Rattle.dp_parse.specs.steps.Operators.prefix_at Rattle.dp_tokens.specs.Steps.rest
    Rattle.dp_tokens.specs.Steps.sees_symbol
    Rattle.dp_tokens.specs.Steps.after Rattle.dp_tokens.specs.Steps.expect Rattle.dp_tokens.specs.Steps.name Rattle.dp_tokens.specs.Numbers.number_value
    Rattle.dp_tokens.specs.Numbers.number Rattle.dp_tokens.specs.Numbers.number_in_front Rattle.dp_tokens.specs.Numbers.sees_zero
    Rattle.dp_tokens.specs.Numbers.negated Rattle.dp_tokens.specs.Steps.separated Rattle.dp_tokens.specs.Steps.many
    Rattle.dp_parse.specs.steps.Expressions.chain Rattle.dp_parse.specs.steps.Expressions.variable Rattle.dp_parse.specs.steps.Expressions.parenthesized
    Rattle.dp_parse.specs.steps.Expressions.primary
    Rattle.dp_parse.specs.steps.Expressions.level_of Rattle.dp_parse.specs.steps.Expressions.expression Rattle.dp_parse.specs.steps.Expressions.nested
    Rattle.dp_parse.specs.steps.Expressions.whole
    Rattle.dp_parse.specs.steps.Expressions.list Rattle.dp_parse.specs.steps.Statements.condition Rattle.dp_parse.specs.steps.Heads.value
    Rattle.dp_parse.specs.steps.Heads.declare
    Rattle.dp_parse.specs.steps.Heads.store Rattle.dp_parse.specs.steps.Heads.assign Rattle.dp_parse.specs.steps.Heads.simple
    Rattle.dp_parse.specs.steps.Heads.first Rattle.dp_parse.specs.steps.Heads.head
    Rattle.dp_parse.specs.steps.Statements.declaration Rattle.dp_parse.specs.steps.Statements.counted Rattle.dp_parse.specs.steps.Regions.repeated
    Rattle.dp_parse.specs.steps.Regions.counted
    Rattle.dp_parse.specs.steps.Statements.arguments Rattle.dp_parse.specs.steps.Statements.call Rattle.dp_parse.specs.steps.Statements.named
    Rattle.dp_parse.specs.steps.Statements.print Rattle.dp_parse.specs.steps.Statements.block Rattle.dp_parse.specs.steps.Statements.repeated
    Rattle.dp_parse.specs.steps.Statements.otherwise
    Rattle.dp_parse.specs.steps.Statements.choice Rattle.dp_parse.specs.steps.Statements.statement Rattle.dp_parse.specs.steps.Programs.start
    Rattle.dp_parse.specs.steps.Programs.array
    Rattle.dp_parse.specs.steps.Programs.variable Rattle.dp_parse.specs.steps.Programs.param Rattle.dp_parse.specs.steps.Programs.params
    Rattle.dp_parse.specs.steps.Programs.function
    Rattle.dp_parse.specs.steps.Programs.top Rattle.dp_parse.specs.steps.Programs.returned Rattle.dp_parse.specs.steps.Programs.end
    Rattle.dp_parse.specs.steps.Programs.ends
    Rattle.dp_parse.specs.steps.Programs.main_part Rattle.dp_parse.specs.steps.Programs.part Rattle.dp_parse.specs.steps.Programs.program_from
    Rattle.dp_parse.specs.steps.Programs.program
    Rattle.dp_parse.specs.steps.Regions.bare Rattle.dp_parse.specs.steps.Regions.braced Rattle.dp_parse.specs.steps.Regions.leads_out
    Rattle.dp_parse.specs.steps.Regions.branches Rattle.dp_parse.specs.steps.Regions.tested Rattle.dp_parse.specs.steps.Regions.branch
    Rattle.dp_parse.specs.steps.Regions.inside Rattle.dp_parse.specs.steps.Regions.body Rattle.dp_parse.specs.steps.Regions.region
    Rattle.dp_lex.specs.Scan.is_one_of Rattle.dp_base.specs.Arithmetic.is_zero
reading_opened = tt

abbrev pub called : ℕ → Text → Name
called line text = record { text = text; line = line }

abbrev v : Text → RawExpr
v text = expr.Scalar (called 1 text)

abbrev pub num : ℕ → RawExpr
num n = expr.Number (pos n)

abbrev expression : Text → Outcome RawExpr
expression text = whole (split text)

-- each level binds tighter than the one before it
levels : expression (codes "a || b && c == d < e + f * - g") ≡ Ok (
  expr.Or (v (codes "a")) (expr.And (v (codes "b")) (expr.Binary op.Eq (v (codes "c"))
      (expr.Binary op.Lt (v (codes "d")) (expr.Binary op.Add (v (codes "e")) (expr.Binary op.Mul (v (codes "f")) (expr.Unary unary.Neg (v (codes "g")))))))),
  [],
)
unfolding reading_opened
levels = refl

-- operators of one level group from the left, and what follows is left
from_the_left : expression (codes "a - b + c * d / e % 2 ; x") ≡ Ok (
  expr.Binary op.Add (expr.Binary op.Sub (v (codes "a")) (v (codes "b")))
      (expr.Binary op.Rem (expr.Binary op.Div (expr.Binary op.Mul (v (codes "c")) (v (codes "d"))) (v (codes "e"))) (num 2)),
  split (codes "; x"),
)
unfolding reading_opened
from_the_left = refl

-- a sign takes the next operand alone, an index and parentheses a whole expression
inner : expression (codes "! - a [ b || c ] != ( d >= 9223372036854775807 ) > x <= 1") ≡ Ok (
  expr.Binary op.Ne (expr.Unary unary.Not (expr.Unary unary.Neg
      (expr.Element (called 1 (codes "a")) (expr.Or (v (codes "b")) (v (codes "c"))))))
      (expr.Binary op.Le (expr.Binary op.Gt (expr.Binary op.Ge (v (codes "d")) (num 9223372036854775807)) (v (codes "x"))) (num 1)),
  [],
)
unfolding reading_opened
inner = refl

abbrev pub at : ℕ → Text → RawExpr
at line text = expr.Scalar (called line text)

abbrev pub read : Text → Outcome RawProgram
read text = program (split text)

-- the program whose `main` is so
abbrev pub of_main : List RawStmt → Outcome RawProgram
of_main main = Ok (record { items = []; main = main }, [])

file_scope : read (codes "int n = - 3 ; int z ; int a [ 7 ] ; int s = 9 ; int main ( ) { }")
    ≡ Ok (
      record {
        items = item.Scalar (called 1 (codes "n")) (negsuc 2) ∷ item.Scalar (called 1 (codes "z")) (pos 0) ∷ item.Array (called 1 (codes "a")) (pos
            7) ∷ item.Scalar (called 1 (codes "s")) (pos 9) ∷ [];
        main = [];
      },
      [],
    )
unfolding reading_opened
file_scope = refl

function : read (codes "void f ( int p , int\nq ) { a [ p ] = q ; }\nvoid g ( void ) { } void h ( ) { } int main ( void ) { return 0 ; }")
    ≡ Ok (
      record {
        items = item.Function (called 1 (codes "f")) (called 1 (codes "p") ∷ called 2 (codes "q") ∷ []) (stmt.Store (called 2 (codes "a")) (at 2 (codes "p"))
            (at 2 (codes "q")) ∷ [])
            ∷ item.Function (called 3 (codes "g")) [] [] ∷ item.Function (called 3 (codes "h")) [] [] ∷ [];
        main = [];
      },
      [],
    )
unfolding reading_opened
function = refl

declared : read (codes "int main ( ) { int\ni = 5 ; x = i ; }") ≡ of_main (stmt.Declare 1 (called 2 (codes "i")) (num 5) ∷ stmt.Assign (called 2 (codes "x"))
    (at 2 (codes "i")) ∷ [])
unfolding reading_opened
declared = refl

called_and_printed : read (codes "int main ( ) {\nf ( 1 , x , 3 ) ; g ( ) ;\nprint ( 4 ) ; }")
    ≡ of_main (stmt.Call (called 2 (codes "f")) (num 1 ∷ at 2 (codes "x") ∷ num 3 ∷ []) ∷ stmt.Call (called 2 (codes "g")) [] ∷ stmt.Print 3 (num 4) ∷ [])
unfolding reading_opened
called_and_printed = refl

looped : read (codes "int main ( ) { #\nwhile ( 1 ) { x = 2 ; y = 3 ; }\nwhile ( 4 ) { } }")
    ≡ of_main (stmt.While 2 true (num 1) (stmt.Assign (called 2 (codes "x")) (num 2) ∷ stmt.Assign (called 2 (codes "y")) (num 3) ∷ [])
    ∷ stmt.While 3 false (num 4) [] ∷ [])
unfolding reading_opened
looped = refl

chosen : read (codes "int main ( ) { if ( 1 ) { f ( ) ; } else if ( 2 )\n{ } else { n = 3 ; } }")
    ≡ of_main (stmt.If 1 (num 1) (stmt.Call (called 1 (codes "f")) [] ∷ []) (stmt.If 1 (num 2) [] (stmt.Assign (called 2 (codes "n")) (num 3) ∷ []) ∷ []) ∷ [])
unfolding reading_opened
chosen = refl
