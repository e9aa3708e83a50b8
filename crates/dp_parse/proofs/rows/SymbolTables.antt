-- The symbol that each word, each sign and each other token is.
use Rattle.std.proofs.Common.{◌≡◌, refl, [], ◌∷◌, map, codes}
use Rattle.dp_lex.specs.Spelling.{signs}
use Rattle.dp_lex.specs.Scan.{is_one_of}
use Rattle.dp_tokens.specs.declared.symbol.Symbol.TheVariants as symbol
use Rattle.dp_tokens.specs.Symbols.{symbol, symbol_at}
use Rattle.dp_parse.proofs.rows.Build.{token, split}

-- ++ -- + - * / % ! < <= > >= == != && || = ( ) [ ] { } , ;
signs_are : map (λ w. symbol (token 1 w)) signs
    ≡ symbol.Other ∷ symbol.Other ∷ symbol.Plus ∷ symbol.Minus ∷ symbol.Star ∷ symbol.Slash ∷ symbol.Percent ∷ symbol.Not
    ∷ symbol.Less ∷ symbol.LessEqual ∷ symbol.Greater ∷ symbol.GreaterEqual ∷ symbol.Equal ∷ symbol.NotEqual ∷ symbol.And ∷ symbol.Or ∷ symbol.Assign
    ∷ symbol.OpenParen ∷ symbol.CloseParen ∷ symbol.OpenBracket ∷ symbol.CloseBracket ∷ symbol.OpenBrace ∷ symbol.CloseBrace ∷ symbol.Comma
    ∷ symbol.Semicolon ∷ []
unfolding symbol is_one_of
signs_are = refl

words_are : map symbol (split (codes "main print int void return while if else do for break x 7 #"))
    ≡ symbol.Main ∷ symbol.Print ∷ symbol.Int ∷ symbol.Void ∷ symbol.Return ∷ symbol.While ∷ symbol.If ∷ symbol.Else
    ∷ symbol.Other ∷ symbol.For ∷ symbol.Break ∷ symbol.Name ∷ symbol.Number ∷ symbol.Mark ∷ []
unfolding symbol is_one_of
words_are = refl

no_token : symbol_at [] ≡ symbol.End
unfolding symbol_at
no_token = refl
