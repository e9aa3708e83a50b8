-- Trees of `for`, and of regions with early exits.
use Rattle.std.proofs.Common.{◌≡◌, refl, true, false, [], ◌∷◌, codes, Ok}
use Rattle.dp_base.specs.declared.BinOp.TheVariants as op
use Rattle.dp_tree.specs.declared.raw.RawExpr.TheVariants as expr
use Rattle.dp_tree.specs.declared.raw.RawStmt.TheVariants as stmt
use Rattle.dp_tree.specs.declared.raw.RawItem.TheVariants as item
use Rattle.dp_parse.proofs.rows.Trees.{reading_opened, called, num, at, read, of_main}

-- the line is that of the word, the initialiser and the step have their own
declaring : read (codes "int main ( ) {\nfor (\nint i = 0 ; i < 7\n; j = 2 ) { x = 3 ; y = 4 ; } }")
    ≡ of_main (
    stmt.For 2 false (stmt.Declare 3 (called 3 (codes "i")) (num 0) ∷ []) (expr.Binary op.Lt (at 3 (codes "i")) (num 7))
    (stmt.Assign (called 4 (codes "j")) (num 2) ∷ [])
    (stmt.Assign (called 4 (codes "x")) (num 3) ∷ stmt.Assign (called 4 (codes "y")) (num 4) ∷ []) ∷ []
    )
unfolding reading_opened
declaring = refl

assigning : read (codes "int main ( ) { for ( i = 1 ; 2 ; a [ 3 ] = 4 ) { } for ( a [ 5 ] = 6 ; 7 ; i = 8 ) { } }")
    ≡ of_main (
    stmt.For 1 false (stmt.Assign (called 1 (codes "i")) (num 1) ∷ []) (num 2) (stmt.Store (called 1 (codes "a")) (num 3) (num 4) ∷ []) []
    ∷ stmt.For 1 false (stmt.Store (called 1 (codes "a")) (num 5) (num 6) ∷ []) (num 7) (stmt.Assign (called 1 (codes "i")) (num 8) ∷ []) [] ∷ []
    )
unfolding reading_opened
assigning = refl

-- a marked one leaves its loop in both ways, and the one in it isn't marked
marked : read (codes "int main ( ) { #\nfor ( i = 1 ; 2 ; j = 3 ) {\nif ( 4 ) break ;\nif ( 5 ) { break ; } for ( k = 6 ; 7 ; l = 8 ) { } } }")
    ≡ of_main (
    stmt.For 2 true (stmt.Assign (called 2 (codes "i")) (num 1) ∷ []) (num 2) (stmt.Assign (called 2 (codes "j")) (num 3) ∷ [])
    (stmt.Break 3 (num 4) ∷ stmt.Break 4 (num 5) ∷ stmt.For 4 false (stmt.Assign (called 4 (codes "k")) (num 6) ∷ []) (num 7)
    (stmt.Assign (called 4 (codes "l")) (num 8) ∷ []) [] ∷ []) ∷ []
    )
unfolding reading_opened
marked = refl

-- it may stand in a function, and in the block of an `if`
nested : read (codes "void f ( ) { if ( 1 ) { for ( i = 2 ; 3 ; j = 4 ) { while ( 5 ) { } } } } int main ( ) { }")
    ≡ Ok (
      record {
        items = item.Function (called 1 (codes "f")) []
            (stmt.If 1 (num 1) (stmt.For 1 false (stmt.Assign (called 1 (codes "i")) (num 2) ∷ []) (num 3) (stmt.Assign (called 1 (codes "j")) (num 4) ∷ [])
            (stmt.While 1 false (num 5) [] ∷ []) ∷ []) [] ∷ []) ∷ [];
        main = [];
      },
      [],
    )
unfolding reading_opened
nested = refl

-- an `if` of a region's body goes on as elsewhere, and statements stand between the exits
left : read (codes "int main ( ) { # while ( 1 ) { if ( 2 ) { } else { x = 3 ; }\nif ( 4 ) break ; y = 5 ;\nif ( 6 ) { break ; } } # while ( 7 ) { } }")
    ≡ of_main (
    stmt.While 1 true (num 1) (stmt.If 1 (num 2) [] (stmt.Assign (called 1 (codes "x")) (num 3) ∷ []) ∷ stmt.Break 2 (num 4)
    ∷ stmt.Assign (called 2 (codes "y")) (num 5) ∷ stmt.Break 3 (num 6) ∷ [])
    ∷ stmt.While 3 true (num 7) [] ∷ []
    )
unfolding reading_opened
left = refl
