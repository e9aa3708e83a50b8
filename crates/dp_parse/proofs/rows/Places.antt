-- The first token that doesn't fit, of texts that end too soon and of wrong ones.
use Rattle.std.proofs.Common.{◌≡◌, refl, ℕ, ◌-◌, length, [], ◌∷◌, map, Option, None, codes, Ok, Some, Err}
use Rattle.dp_lex.specs.Characters.{Text}
use Rattle.dp_tree.specs.declared.raw.RawProgram.{RawProgram}
use Rattle.dp_tokens.specs.Steps.{Outcome}
use Rattle.dp_parse.specs.steps.Programs.{program}
use Rattle.dp_parse.proofs.rows.Build.{split}
use Rattle.dp_parse.proofs.rows.Trees.{reading_opened}

-- the place of a refusal among the tokens
abbrev place_of : ℕ → Outcome RawProgram → Option ℕ
place_of tokens (Ok p) = None
place_of tokens (Err left) = Some (tokens - length left)

abbrev refused_at : Text → Option ℕ
refused_at text = place_of (length (split text)) (program (split text))

-- the nearest wrong texts
refused : map refused_at (codes "int main ( ) { return 1 ; }" ∷ codes "int a [ 0 ] ; int main ( ) { }" ∷ codes "int main ( ) { } ;"
    ∷ codes "int main ( int x ) { }" ∷ codes "int main ( ) { # x = 1 ; }"
    ∷ codes "int main ( ) { if ( 1 ) { # while ( 1 ) { } } }" ∷ codes "int main ( ) { x = 1 }" ∷ codes "int main ( ) { f ( 1 , ) ; }"
    ∷ codes "int x = - - 1 ; int main ( ) { }" ∷ codes "int x ;" ∷ codes "void f ( void , int a ) { } int main ( ) { }" ∷ [])
    ≡ Some 6 ∷ Some 3 ∷ Some 6 ∷ Some 3 ∷ Some 6 ∷ Some 10 ∷ Some 8 ∷ Some 9 ∷ Some 4 ∷ Some 3 ∷ Some 4 ∷ []
unfolding reading_opened
refused = refl

-- texts that end too soon, and others
places : map refused_at (codes "int main ( ) { x =" ∷ codes "int a [ 1 ] ; int main ( ) { a [ 0 ] = 2 }" ∷ codes "int main ( ) { # while ( 1 ) { #"
    ∷ codes "int main ( ) { if ( x ) { } else y" ∷ codes "int main ( ) { while ( 1 ) { # while ( 0 ) { } } }" ∷ codes "int x ; int main ( ) { x = -- x ; }"
    ∷ codes "int x = 1 2" ∷ codes "void f ( int a ,  b" ∷ [])
    ≡ Some 7 ∷ Some 17 ∷ Some 11 ∷ Some 12 ∷ Some 10 ∷ Some 10 ∷ Some 4 ∷ Some 6 ∷ []
unfolding reading_opened
places = refl

-- a `break` stands in a region's own body alone, behind an `if` that has nothing else
exits : map refused_at (codes "int main ( ) { while ( 1 ) { if ( 1 ) break ; } }" ∷ codes "int main ( ) { # while ( 1 ) { if ( 2 ) { x = 3 ; break ; } } }"
    ∷ codes "int main ( ) { # while ( 1 ) { if ( 2 ) break ; else" ∷ codes "int main ( ) { # while ( 1 ) { if ( 2 ) { break ; x"
    ∷ codes "int main ( ) { # while ( 1 ) { if ( 2 ) { break }" ∷ codes "int main ( ) { # while ( 1 ) { while ( 2 ) { break"
    ∷ codes "int main ( ) { # while ( 1 ) { break" ∷ codes "int main ( ) { # while ( 1 ) { # while" ∷ codes "int main ( ) { if ( 1 ) break" ∷ [])
    ≡ Some 14 ∷ Some 20 ∷ Some 17 ∷ Some 18 ∷ Some 17 ∷ Some 16 ∷ Some 11 ∷ Some 11 ∷ Some 9 ∷ []
unfolding reading_opened
exits = refl

-- .. also where a `for` is the loop
exits_of_for : map refused_at (codes "void f ( ) { for ( i = 1 ; 2 ; i = 3 ) { if ( 4 ) { break"
    ∷ codes "int main ( ) { # while ( 1 ) { for ( i = 1 ; 2 ; i = 3 ) { if ( 4 ) break"
    ∷ codes "int main ( ) { # for ( i = 1 ; 2 ; i = 3 ) { if ( 4 ) { break ; } else" ∷ codes "int main ( ) { # if"
    ∷ codes "int main ( ) { if ( 1 ) { # for" ∷ [])
    ≡ Some 23 ∷ Some 28 ∷ Some 27 ∷ Some 6 ∷ Some 10 ∷ []
unfolding reading_opened
exits_of_for = refl

-- the initialiser of a `for` declares or assigns, its step assigns
heads : map refused_at (codes "int main ( ) { for ( ; 1" ∷ codes "int main ( ) { for ( int i = 1 , j" ∷ codes "int main ( ) { for ( int i ;"
    ∷ codes "int main ( ) { for ( int a [ 1" ∷ codes "int main ( ) { for ( f ( 1" ∷ codes "int main ( ) { for ( a [ 1 ] ;"
    ∷ codes "int main ( ) { for ( i = 1 ; ;" ∷ codes "int main ( ) { for ( i = 1 ; 2 )" ∷ [])
    ≡ Some 7 ∷ Some 11 ∷ Some 9 ∷ Some 9 ∷ Some 8 ∷ Some 11 ∷ Some 11 ∷ Some 12 ∷ []
unfolding reading_opened
heads = refl

-- .. and a block follows
steps : map refused_at (codes "int main ( ) { for ( i = 1 ; 2 ; )" ∷ codes "int main ( ) { for ( i = 1 ; 2 ; int"
    ∷ codes "int main ( ) { for ( i = 1 ; 2 ; i = 3 ;" ∷ codes "int main ( ) { for ( i = 1 ; 2 ; a [ 3 ] )" ∷ codes "int main ( ) { for ( i = 1 ; 2 ; i = 3 ) x"
    ∷ codes "int main ( ) { for i" ∷ codes "for (" ∷ [])
    ≡ Some 13 ∷ Some 13 ∷ Some 16 ∷ Some 17 ∷ Some 17 ∷ Some 6 ∷ Some 0 ∷ []
unfolding reading_opened
steps = refl
