-- What stands at the front of short texts, the lines of their places, and which answers are a lexer's last.
use Rattle.std.proofs.Common.{◌≡◌, refl, [], ◌∷◌, length, map, Some, None, Ok, Err, codes}
use Rattle.dp_lex.specs.declared.LexRefused.{LexRefused}
use Rattle.dp_lex.specs.declared.TokenKind.TheVariants.{Name, Reserved, Number, Mark, Sign}
use Rattle.dp_lex.specs.Spelling.{signs}
use Rattle.dp_lex.specs.Scan.{is_one_of, opens_comment, closing, skipped, word, fits_number, number_scanned, is_pragma, is_named, mark, sign, front}
use Rattle.dp_lex.specs.Tokens.{line_at, IsLastAnswer}

white_space : map skipped (codes " x" ∷ codes "\tx" ∷ codes "\rx" ∷ codes "\n\n" ∷ (11 ∷ []) ∷ (12 ∷ []) ∷ codes "x " ∷ [] ∷ []) ≡ 1 ∷ 1 ∷ 1 ∷ 1
    ∷ 0 ∷ 0 ∷ 0 ∷ 0 ∷ []
unfolding skipped opens_comment
white_space = refl

-- a comment goes up to the end of its line, but not past it; a CR ends no line
line_comments : map skipped (codes "//a\rb\nc" ∷ codes "//" ∷ codes "//*\n*/" ∷ codes "/ /" ∷ codes "/" ∷ []) ≡ 5 ∷ 2 ∷ 3 ∷ 0 ∷ 0 ∷ []
unfolding skipped opens_comment
line_comments = refl

-- the two bytes that open it don't close it, and the first `*/` does
block_comments : map skipped (codes "/**/x" ∷ codes "/*/a/*/b" ∷ codes "/*a\n**/*/" ∷ codes "/*//*/" ∷ codes "/*" ∷ codes "/*/" ∷ codes "/*a*" ∷ []) ≡ 4 ∷ 7 ∷ 7
    ∷ 6 ∷ 0 ∷ 0 ∷ 0 ∷ []
unfolding skipped opens_comment closing
block_comments = refl

comments_are_no_tokens : map front (codes "//" ∷ codes "/*" ∷ codes "/ /" ∷ codes "/=" ∷ codes "*/" ∷ []) ≡ None ∷ None ∷ Some (Sign, 1) ∷ Some (Sign, 1)
    ∷ Some (Sign, 1) ∷ []
unfolding front opens_comment word number_scanned mark sign is_one_of
comments_are_no_tokens = refl

words : map front (codes "int1" ∷ codes "int(" ∷ codes "main_" ∷ codes "_" ∷ codes "a$" ∷ codes "_Bool;" ∷ codes "goto" ∷ codes "Do9"
    ∷ codes "$" ∷ codes "@" ∷ [])
    ≡ Some (Name, 4) ∷ Some (Reserved, 3) ∷ Some (Name, 5) ∷ Some (Name, 1) ∷ Some (Name, 1) ∷ Some (Reserved, 5) ∷ Some (Reserved, 4)
    ∷ Some (Name, 3) ∷ None ∷ None ∷ []
unfolding front opens_comment word number_scanned mark sign is_one_of
words = refl

numbers : map front (codes "0;" ∷ codes "10 " ∷ codes "9223372036854775807-" ∷ codes "1.5" ∷ []) ≡ Some (Number, 1) ∷ Some (Number, 2) ∷ Some (Number, 19)
    ∷ Some (Number, 1) ∷ []
unfolding front opens_comment word number_scanned fits_number mark sign is_one_of
numbers = refl

-- a run of digits counts whole
no_numbers : map front (codes "00" ∷ codes "07" ∷ codes "9223372036854775808" ∷ codes "12ab" ∷ codes "1_" ∷ codes "0x1" ∷ []) ≡ None ∷ None ∷ None
    ∷ None ∷ None ∷ None ∷ []
unfolding front opens_comment word number_scanned fits_number mark sign is_one_of
no_numbers = refl

marks : map front (codes "#pragma dswp" ∷ codes "#pragma \t dswp\n" ∷ codes "#pragma dswp#" ∷ []) ≡ Some (Mark, 12) ∷ Some (Mark, 14) ∷ Some (Mark, 12) ∷ []
unfolding front opens_comment word number_scanned mark is_pragma is_named sign is_one_of
marks = refl

no_marks : map front (codes "#pragma dswp_" ∷ codes "#pragma dswp1" ∷ codes "#pragmadswp" ∷ codes "#pragma\ndswp" ∷ codes "#pragma\rdswp"
    ∷ codes "# pragma dswp" ∷ codes "#pragma dsw" ∷ codes "#pragma DSWP" ∷ codes "#" ∷ [])
    ≡ None ∷ None ∷ None ∷ None ∷ None ∷ None ∷ None ∷ None ∷ None ∷ []
unfolding front opens_comment word number_scanned mark is_pragma is_named sign is_one_of
no_marks = refl

-- the longest sign is taken
longest_signs : map front (codes "+++" ∷ codes "<<=" ∷ codes "<==" ∷ codes "!!=" ∷ codes "&&&" ∷ codes "=!" ∷ []) ≡ Some (Sign, 2) ∷ Some (Sign, 1)
    ∷ Some (Sign, 2) ∷ Some (Sign, 1) ∷ Some (Sign, 2) ∷ Some (Sign, 1) ∷ []
unfolding front opens_comment word number_scanned mark sign is_one_of
longest_signs = refl

each_sign_alone : map front signs ≡ map (λ w. Some (Sign, length w)) signs
unfolding front opens_comment word number_scanned mark sign is_one_of
each_sign_alone = refl

no_tokens : map front (codes "&" ∷ codes "|x" ∷ codes "." ∷ codes "?" ∷ codes ":" ∷ codes "^" ∷ codes "~" ∷ codes "'" ∷ (92 ∷ []) ∷ (128 ∷ []) ∷ (255 ∷ [])
    ∷ (0 ∷ []) ∷ [] ∷ [])
    ≡ None ∷ None ∷ None ∷ None ∷ None ∷ None ∷ None ∷ None ∷ None ∷ None ∷ None ∷ None ∷ None ∷ []
unfolding front opens_comment word number_scanned mark sign is_one_of
no_tokens = refl

-- lines count from 1, and each LF before a place ends one
lines : map (line_at (codes "a\n\r\nb\rc\n")) (0 ∷ 1 ∷ 2 ∷ 3 ∷ 4 ∷ 6 ∷ 8 ∷ []) ≡ 1 ∷ 1 ∷ 2 ∷ 2 ∷ 3 ∷ 3 ∷ 4 ∷ []
lines = refl

-- the law of last answers speaks of the end and of each refusal
last_answers : IsLastAnswer (Ok None) × ((refused : LexRefused) → IsLastAnswer (Err refused))
last_answers = (tt, λ refused. tt)
