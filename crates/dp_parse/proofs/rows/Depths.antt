-- The three counts over the tokens of a program.
use Rattle.std.proofs.Common.{◌≡◌, refl, ℕ, List, [], ◌∷◌, ◌++◌, map, replicate, Some, None, codes}
use Rattle.std.specs.List.{flat_map}
use Rattle.dp_base.specs.declared.Quantity.TheVariants.{Nesting, Operators, ElseIf}
use Rattle.dp_lex.specs.Spelling.{signs}
use Rattle.dp_lex.specs.Scan.{is_one_of}
use Rattle.dp_lex.specs.Token.{Lexeme}
use Rattle.dp_tokens.specs.Symbols.{symbol}
use Rattle.dp_parse.specs.Depth.{nesting, operators, else_if, depth_fault}
use Rattle.dp_parse.proofs.rows.Build.{token, split}

-- ++ -- + - * / % ! < <= > >= == != && || = ( ) [ ] { } , ;
counted_signs : map (λ w. operators (token 1 w ∷ [])) signs
    ≡ 0 ∷ 0 ∷ 1 ∷ 1 ∷ 1 ∷ 1 ∷ 1 ∷ 1 ∷ 1 ∷ 1 ∷ 1 ∷ 1 ∷ 1 ∷ 1 ∷ 1 ∷ 1 ∷ 0 ∷ 1 ∷ 0 ∷ 1 ∷ 0 ∷ 0 ∷ 0 ∷ 0 ∷ 0 ∷ []
unfolding operators symbol is_one_of
counted_signs = refl

-- no other token counts
words_do_not_count : operators (split (codes "int x # 7 while return main print if else void")) ≡ 0
unfolding operators symbol is_one_of
words_do_not_count = refl

-- braces and semicolons begin anew, and nothing else does
separators : map (λ text. operators (split text)) (codes "+ + ; + + +" ∷ codes "+ + { +" ∷ codes "+ } + +" ∷ codes "+ + , + +" ∷ codes "+ ) + +"
    ∷ codes "+ = + x + #" ∷ [])
    ≡ 3 ∷ 2 ∷ 2 ∷ 4 ∷ 3 ∷ 3 ∷ []
unfolding operators symbol is_one_of
separators = refl

-- the most braces that are open, also where more were closed before; the place behind the last token counts
braces : map (λ text. nesting (split text)) (codes "{ { } {" ∷ codes "} { {" ∷ codes "} } } {" ∷ codes "{ { { } } }" ∷ codes "{" ∷ codes "x ( (" ∷ [] ∷ []) ≡ 2
    ∷ 1 ∷ 0 ∷ 3 ∷ 1 ∷ 0 ∷ 0 ∷ []
unfolding nesting symbol is_one_of
braces = refl

-- an `else` counts where an `if` stands right behind it, wherever that is
else_ifs : map (λ text. else_if (split text)) (codes "else if else { } else if if else" ∷ codes "if else" ∷ codes "else else if" ∷ codes "else { if" ∷ [])
    ≡ 2 ∷ 0 ∷ 1 ∷ 0 ∷ []
unfolding else_if symbol is_one_of
else_ifs = refl

abbrev times : ℕ → List Lexeme → List Lexeme
times n tokens = flat_map (λ t. t) (replicate n tokens)

abbrev braced : ℕ → List Lexeme
braced n = times n (split (codes "{"))

abbrev signed : ℕ → List Lexeme
signed n = times n (split (codes "!"))

abbrev branching : ℕ → List Lexeme
branching n = times n (split (codes "else if"))

-- each count at its number
at_the_limits : map depth_fault (braced 64 ∷ signed 64 ∷ branching 256 ∷ []) ≡ None ∷ None ∷ None ∷ []
unfolding depth_fault nesting operators else_if symbol is_one_of
at_the_limits = refl

-- .. and one above it
past_the_limits : map depth_fault (braced 65 ∷ signed 65 ∷ branching 257 ∷ []) ≡ Some (Nesting, 65) ∷ Some (Operators, 65) ∷ Some (ElseIf, 257) ∷ []
unfolding depth_fault nesting operators else_if symbol is_one_of
past_the_limits = refl

-- where several are above theirs, nesting comes first, then operators
first_limit : map depth_fault ((branching 257 ++ signed 66 ++ braced 67) ∷ (branching 257 ++ signed 66) ∷ []) ≡ Some (Nesting, 67) ∷ Some (Operators, 66) ∷ []
unfolding depth_fault nesting operators else_if symbol is_one_of
first_limit = refl
