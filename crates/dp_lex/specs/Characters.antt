-- Classes of bytes, by their codes in ASCII.
use Rattle.std.specs.Prelude.{ℕ, Bool, ◌||◌, ◌==◌, List, count_by}
use Rattle.std.specs.Char.{is_ascii_alphabetic, is_ascii_digit}

-- a text is the list of its bytes
abbrev pub Text : Type 0
Text = List ℕ

-- a line ends with LF
abbrev pub is_line_end : ℕ → Bool
is_line_end b = b == 10

-- a space or a tab
abbrev pub is_gap : ℕ → Bool
is_gap b = b == 32 || b == 9

-- space, tab, CR and LF
abbrev pub is_white : ℕ → Bool
is_white b = is_gap b || b == 13 || is_line_end b

-- a letter or `_`
abbrev pub is_letter : ℕ → Bool
is_letter b = is_ascii_alphabetic b || b == 95

-- a letter, a digit or `_`
abbrev pub is_word : ℕ → Bool
is_word b = is_letter b || is_ascii_digit b

-- how many lines end in the text
abbrev pub line_ends : Text → ℕ
line_ends z = count_by is_line_end z
