-- What tells the kinds of tokens apart: the first byte, and the table of reserved words.
use Rattle.std.proofs.Common.{◌≡◌, ℕ, suc, ◌<◌, true, false, not, cond, ◌||◌, if◌then◌else◌, ◌==◌, nat_lt, [], ◌∷◌, ◌++◌, length, slice_index, get_or, codes}
use Rattle.std.proofs.Common.{Contains, All, refl, sym, ◌∙◌, ap, arith}
use Rattle.std.specs.Char.{is_ascii_digit}
use Rattle.std.specs.List.{list_all}
use Rattle.std.proofs.lemmas.Bool.{not-true, false_from_ne_true, ltb-true}
use Rattle.std.proofs.lemmas.Bool.Decides.{nat_tests}
use Rattle.std.proofs.lemmas.List.Sums.{AllPass-from_list_all, sum_by-cons, sum_by-append}
use Rattle.dp_lex.specs.declared.TokenKind.{TokenKind}
use Rattle.dp_lex.specs.declared.TokenKind.TheVariants.{Name, Reserved, Number, Mark, Sign}
use Rattle.dp_lex.specs.Characters.{Text, is_gap, is_white, is_letter, is_word, is_line_end, line_ends}
use Rattle.dp_lex.specs.Spelling.{reserved_words, signs, IsMark, IsSpelled}
use Rattle.dp_lex.specs.Scan.{is_one_of}
use Rattle.dp_lex.proofs.Membership.{contains_from_test, test_from_contains, table_has}

-- the kind that a token's first byte and the table of reserved words tell
unfoldable pub kind_of : Text → TokenKind
kind_of w =
    if is_letter (slice_index w 0) then (if is_one_of reserved_words w then Reserved else Name)
    else (if is_ascii_digit (slice_index w 0) then Number
    else (if slice_index w 0 == 35 then Mark else Sign))

pub digit_no_letter : (b : ℕ) → is_ascii_digit b ≡ true → is_letter b ≡ false
digit_no_letter b h = grind (arith, nat_tests)

letter_no_white : (b : ℕ) → is_letter b ≡ true → is_white b ≡ false
letter_no_white b h = grind (arith, nat_tests)

digit_no_white : (b : ℕ) → is_ascii_digit b ≡ true → is_white b ≡ false
digit_no_white b h = grind (arith, nat_tests)

word_no_line_end : (b : ℕ) → is_word b ≡ true → is_line_end b ≡ false
word_no_line_end b h = grind (arith, nat_tests)

digit_no_line_end : (b : ℕ) → is_ascii_digit b ≡ true → is_line_end b ≡ false
digit_no_line_end b h = grind (arith, nat_tests)

gap_no_line_end : (b : ℕ) → is_gap b ≡ true → is_line_end b ≡ false
gap_no_line_end b h = grind (arith, nat_tests)

pub digit_is_word : (b : ℕ) → is_ascii_digit b ≡ true → is_word b ≡ true
digit_is_word b h = grind (arith, nat_tests)

pub letter_is_word : (b : ℕ) → is_letter b ≡ true → is_word b ≡ true
letter_is_word b h = rw h

-- of each reserved word: its first byte
reserved_first : list_all (λ w. is_letter (slice_index w 0)) reserved_words ≡ true
reserved_first = refl

pub mark_first : (w : Text) → IsMark w → slice_index w 0 ≡ 35
mark_first w m = ap (λ (x : Text). slice_index x 0) m.spelled

-- a token's spelling tells its kind
pub spelled_kind : (kind : TokenKind) (w : Text) → IsSpelled kind w → kind_of w ≡ kind
unfolding kind_of
spelled_kind Name w s =
    let apart = false_from_ne_true (is_one_of reserved_words w) (λ t. s.free (contains_from_test reserved_words w t)) in
    rw (s.first, apart)
spelled_kind Reserved w s =
    let first : is_letter (slice_index w 0) ≡ true = table_has (λ v. is_letter (slice_index v 0)) reserved_words w reserved_first s in
    rw (first, test_from_contains reserved_words w s)
spelled_kind Number w s =
    let digit : is_ascii_digit (slice_index w 0) ≡ true = s.digits 0 0 s.some in
    rw (digit_no_letter (slice_index w 0) digit, digit)
spelled_kind Mark w s = rw (mark_first w s)
spelled_kind Sign w s =
    let letter = not-true _ (table_has (λ v. not (is_letter (slice_index v 0))) signs w refl s) in
    let digit = not-true _ (table_has (λ v. not (is_ascii_digit (slice_index v 0))) signs w refl s) in
    let mark = not-true _ (table_has (λ v. not (slice_index v 0 == 35)) signs w refl s) in
    rw (letter, digit, mark)

-- one spelling, one kind
pub kinds_same : (j k : TokenKind) (w : Text) → IsSpelled j w → IsSpelled k w → j ≡ k
kinds_same j k w s t = sym (spelled_kind j w s) ∙ spelled_kind k w t

-- no token begins with white space
pub spelled_no_white : (kind : TokenKind) (w : Text) → IsSpelled kind w → is_white (slice_index w 0) ≡ false
spelled_no_white Name w s = letter_no_white (slice_index w 0) s.first
spelled_no_white Reserved w s = letter_no_white (slice_index w 0) (table_has (λ v. is_letter (slice_index v 0)) reserved_words w reserved_first s)
spelled_no_white Number w s = digit_no_white (slice_index w 0) (s.digits 0 0 s.some)
spelled_no_white Mark w s = rw (mark_first w s)
spelled_no_white Sign w s = not-true _ (table_has (λ v. not (is_white (slice_index v 0))) signs w refl s)

-- a token has a byte
pub spelled_some : (kind : TokenKind) (w : Text) → IsSpelled kind w → 0 < length w
spelled_some Name [] s = absurd (cc s.first)
spelled_some Name (b ∷ w) s = omega arith
spelled_some Reserved w s = ltb-true 0 (length w) (table_has (λ v. nat_lt 0 (length v)) reserved_words w refl s)
spelled_some Number w s = s.some
spelled_some Mark w s = rw s.spelled (omega arith)
spelled_some Sign w s = ltb-true 0 (length w) (table_has (λ v. nat_lt 0 (length v)) signs w refl s)

pub reserved_is_word : (w : Text) → Contains reserved_words w → All (λ b. is_word b ≡ true) w
reserved_is_word w s = AllPass-from_list_all is_word w (table_has (list_all is_word) reserved_words w refl s)

no_line_end : (w : Text) → All (λ b. is_line_end b ≡ false) w → line_ends w ≡ 0
no_line_end [] all = refl
no_line_end (b ∷ w) all =
    let here : is_line_end b ≡ false = all 0 b (omega arith) in
    sum_by-cons (λ x. cond (is_line_end x) 1 0) b w ∙ rw here (omega (arith, no_line_end w (λ k d h. all (suc k) d (omega (arith, h)))))

-- no line ends within a token
pub spelled_one_line : (kind : TokenKind) (w : Text) → IsSpelled kind w → line_ends w ≡ 0
spelled_one_line Name w s = no_line_end w (λ k d h. word_no_line_end (get_or w k d) (s.others k d h))
spelled_one_line Reserved w s = no_line_end w (λ k d h. word_no_line_end (get_or w k d) (reserved_is_word w s k d h))
spelled_one_line Number w s = no_line_end w (λ k d h. digit_no_line_end (get_or w k d) (s.digits k d h))
spelled_one_line Mark w s =
    let gap : line_ends s.gap ≡ 0 = no_line_end s.gap (λ k d h. gap_no_line_end (get_or s.gap k d) (s.blanks k d h)) in
    let f : ℕ → ℕ = λ x. cond (is_line_end x) 1 0 in
    rw s.spelled (omega (arith, gap, sum_by-append f (codes "#pragma") (s.gap ++ codes "dswp"), sum_by-append f s.gap (codes "dswp")))
spelled_one_line Sign w s =
    let all = AllPass-from_list_all (λ b. not (is_line_end b)) w (table_has (list_all (λ b. not (is_line_end b))) signs w refl s) in
    no_line_end w (λ k d h. not-true _ (all k d h))

pub sign_short : (w : Text) → Contains signs w → (length w == 1 || length w == 2) ≡ true
sign_short w s = table_has (λ v. length v == 1 || length v == 2) signs w refl s
