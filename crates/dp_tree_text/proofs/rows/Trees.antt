-- Texts of expressions, of statements and of a whole program.
use Rattle.std.proofs.Common.{◌≡◌, refl, [], ◌∷◌, pos, negsuc, codes}
use Rattle.dp_base.specs.declared.BinOp.TheVariants.{Mul, Div, Rem, Add, Sub, Lt, Le, Gt, Ge, Eq, Ne}
use Rattle.dp_base.specs.declared.UnOp.TheVariants.{Neg, Not}
use Rattle.dp_text.specs.Labels.{labelled}
use Rattle.dp_tree.specs.declared.Expr.TheVariants as tree
use Rattle.dp_tree.specs.declared.Stmt.TheVariants as stmt
use Rattle.dp_tree.specs.declared.SiteKind.TheVariants as kind
use Rattle.dp_tree.specs.declared.VarScope.TheVariants.{Global, Outer, Body}
use Rattle.dp_tree.proofs.Build.{array, at, bin, loop, num, program, region, say, scalar, set, set_at, site, var, when}
use Rattle.dp_tree_text.specs.ExprText.{expr_text, number_text}
use Rattle.dp_tree_text.specs.StatementText.{statement_text, statement_texts}
use Rattle.dp_tree_text.specs.TreeText.{tree_bytes}
use Rattle.dp_tree_text.proofs.Opened.{opened}

-- (v2 * 5 + 3) % v1, each operand in its place
sums : expr_text (bin Rem (bin Add (bin Mul (var 2) (num 5)) (num 3)) (var 1)) ≡ codes " % + * scalar 2 number 5 number 3 scalar 1"
unfolding expr_text number_text labelled opened Rattle.std.specs.Fmt.digits
sums = refl

-- a[input[v0 - 1]] / -v3 || !(input_len < -7) && 10 <= a[0]
others : expr_text (tree.Or (bin Div (at 4 (tree.Input (bin Sub (var 0) (num 1)))) (tree.Unary Neg (var 3)))
    (tree.And (tree.Unary Not (bin Lt tree.InputLen (tree.Number (negsuc 6)))) (bin Le (num 10) (at 4 (num 0)))))
    ≡ codes " || / element 4 input - scalar 0 number 1 negate scalar 3 && ! < input_len number -7 <= number 10 element 4 number 0"
unfolding expr_text number_text labelled opened Rattle.std.specs.Fmt.digits
others = refl

comparisons : expr_text (bin Eq (bin Gt (num 1) (num 2)) (bin Ne (bin Ge (num 3) (num 4)) (num 5))) ≡ codes
    " == > number 1 number 2 != >= number 3 number 4 number 5"
unfolding expr_text number_text labelled opened Rattle.std.specs.Fmt.digits
comparisons = refl

-- an `if` with both parts, and an inner `while` with an empty body
inner : statement_texts (stmt.If (record { 0 = 3 }) (var 0) (set 4 1 (num 8) ∷ loop 5 (var 2) [] ∷ []) (say 6 (num 9) ∷ []) ∷ when 7 (num 0) [] ∷ [])
    ≡ codes "if 3 scalar 0\nassign 4 1 number 8\nwhile 5 scalar 2\nend\nelse\nprint 6 number 9\nend\nif 7 number 0\nelse\nend\n"
unfolding statement_texts statement_text expr_text number_text labelled opened Rattle.std.specs.Fmt.digits
inner = refl

-- int x = 5; int a[3]; int i of `main`; a region that breaks, stores and prints with a local t of its body
whole : tree_bytes (program (record (scalar 0 (pos 5) Global) { name = codes "x" } ∷ record (array 1 3) { name = codes "a" } ∷ record (scalar 4 (pos 0) Outer)
    { name = codes "i" } ∷ record (scalar 5 (pos 0) (Body 1)) { name = codes "t" } ∷ [])
    (site 4 kind.Assign 0 ∷ site 6 kind.While 1 ∷ site 7 kind.Break 1 ∷ site 8 kind.Assign 1 ∷ site 9 kind.Print 1 ∷ [])
    (record { line = 6; first = record { 0 = 2 }; last = record { 0 = 5 } } ∷ [])
    (set 1 2 (tree.Number (negsuc 0)) ∷ region 1 2 (bin Lt (var 2) tree.InputLen) (stmt.Break (record { 0 = 3 }) (var 0) ∷ set_at 4 1 (var 2) (var 3)
    ∷ say 5 (at 1 (num 2)) ∷ []) ∷ []))
    ≡ codes "ok\nregion 1 line 6 sites 2 to 5\nsite 1 line 4 assign\nsite 2 line 6 while\nsite 3 line 7 break\nsite 4 line 8 assign\nsite 5 line 9 print\nvar 0 x scalar first 0 length 1 start 5 global\nvar 1 a array first 1 length 3 start 0 global\nvar 2 i scalar first 4 length 1 start 0 outer\nvar 3 t scalar first 5 length 1 start 0 body 1\nmain\nassign 1 2 number -1\nregion 1 2 < scalar 2 input_len\nbreak 3 scalar 0\nstore 4 1 scalar 2 scalar 3\nprint 5 element 1 number 2\nend\nend\n"
unfolding statement_texts statement_text expr_text number_text labelled opened Rattle.std.specs.Fmt.digits
whole = refl
