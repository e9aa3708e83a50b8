-- The program that is made: one text for all, and words by a linear congruence.
use Rattle.std.specs.Prelude.{ℕ, zero, suc, ◌+◌, ◌*◌, ◌%◌, ℤ, pos, List, [], ◌∷◌, codes}

-- a histogram of the words' rests, with a region of four mixing steps
unfoldable pub made_text : List ℕ
made_text = codes "int hist[16];\nint sum;\nint main() {\n  int i = 0;\n  #pragma dswp\n  while (i < input_len) {\n    int x = input[i];\n    i = i + 1;\n    int a = x % 16;\n    int b = (a * 5 + 3) % 16;\n    int c = (b * 5 + 3) % 16;\n    int d = (c * 5 + 3) % 16;\n    int y = (d * 5 + 3) % 16;\n    hist[y] = hist[y] + 1;\n    sum = sum + y;\n  }\n}\n"

-- the number behind this one
abbrev pub next_number : ℕ → ℕ
next_number x = (x * 1103515245 + 12345) % 2147483648

-- so many words behind this number
abbrev pub words_after : ℕ → ℕ → List ℤ
words_after x zero = []
words_after x (suc n) = pos (next_number x) ∷ words_after (next_number x) n
