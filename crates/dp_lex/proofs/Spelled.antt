-- The word, the sign and the mark at the front of a text are the longest tokens there.
use Rattle.std.proofs.Common.{◌≡◌, ◌≤◌, Bool, true, false, ◌⊎◌, if◌then◌else◌, inl, inr, length, take, drop, slice_index, All, refl, sym, take-append-drop}
use Rattle.std.proofs.Common.{get_or-take, ℕ, ◌&&◌, ◌==◌, nat_le, [], ◌∷◌, Some, None, length-append, take_at, arith, ◌+◌, ◌<◌, nat_lt, ◌++◌, codes, lt-ltb}
use Rattle.std.proofs.Common.{ltb-true, ◌∙◌, ap, append_assoc, length-take-le, drop_at, get_or-drop}
use Rattle.std.specs.List.{prefix_len}
use Rattle.std.proofs.lemmas.Bool.{both_ways, and_parts, and_from, or_cases, eqb-true, leb-true, le-leb, cond_both, not-true, not_from_false}
use Rattle.std.proofs.lemmas.List.Sums.{prefix_len-le-length}
use Rattle.dp_lex.specs.declared.TokenKind.{TokenKind}
use Rattle.dp_lex.specs.declared.TokenKind.TheVariants.{Name, Reserved, Number, Mark, Sign}
use Rattle.dp_lex.specs.Characters.{Text, is_letter, is_word, is_gap}
use Rattle.dp_lex.specs.Spelling.{reserved_words, IsSpelled, MayPrecede, signs, IsMark}
use Rattle.dp_lex.specs.Front.{CanStand}
use Rattle.dp_lex.specs.Scan.{is_one_of, word, sign, is_pragma, is_named, mark}
use Rattle.dp_lex.proofs.Runs.{run_passes, run_reaches, run_some, run_exact}
use Rattle.dp_lex.proofs.Membership.{contains_from_test, test_from_contains}
use Rattle.dp_lex.proofs.Apart.{letter_is_word, reserved_is_word, sign_short}
use Rattle.dp_lex.proofs.Standing.{IsFound, first_kind}
use Rattle.std.specs.Char.{is_ascii_digit}
use Rattle.std.proofs.lemmas.Slice.Eq.{bytes_eq-Decides}

word_or_name : (t : Bool) (kind : TokenKind) → kind ≡ (if t then Reserved else Name) → (kind ≡ Reserved) ⊎ (kind ≡ Name)
word_or_name true kind e = inl e
word_or_name false kind e = inr e

word_kind : (kind : TokenKind) (w z : Text) → CanStand kind w z → is_letter (slice_index z 0) ≡ true → (kind ≡ Reserved) ⊎ (kind ≡ Name)
word_kind kind w z s letter = word_or_name (is_one_of reserved_words w) kind (rw letter at (first_kind kind w z s))

word_bytes : (kind : TokenKind) (w : Text) → (kind ≡ Reserved) ⊎ (kind ≡ Name) → IsSpelled kind w → All (λ b. is_word b ≡ true) w
word_bytes Name w e s = s.others
word_bytes Reserved w e s = reserved_is_word w s
word_bytes Number w (inl e) s = absurd (cc e)
word_bytes Number w (inr e) s = absurd (cc e)
word_bytes Mark w (inl e) s = absurd (cc e)
word_bytes Mark w (inr e) s = absurd (cc e)
word_bytes Sign w (inl e) s = absurd (cc e)
word_bytes Sign w (inr e) s = absurd (cc e)

word_bound : (kind : TokenKind) (w z : Text) → CanStand kind w z → is_letter (slice_index z 0) ≡ true → length w ≤ prefix_len is_word z
word_bound kind w z s letter = rw s.splits (run_reaches is_word w s.rest (word_bytes kind w (word_kind kind w z s letter) s.spelled))

word_spelled : (w : Text) (t : Bool) → is_one_of reserved_words w ≡ t → is_letter (slice_index w 0) ≡ true → All (λ b. is_word b ≡ true) w →
    IsSpelled (if t then Reserved else Name) w
word_spelled w true e letter all = contains_from_test reserved_words w e
word_spelled w false e letter all = record { first = letter; others = all; free = λ h. both_ways _ e (test_from_contains reserved_words w h) }

word_follows : (t : Bool) (rest : Text) → MayPrecede (if t then Reserved else Name) rest
word_follows true rest = tt
word_follows false rest = tt

pub word_found : (z : Text) → is_letter (slice_index z 0) ≡ true → IsFound z (word z)
unfolding word
word_found z letter =
    let n = prefix_len is_word z in
    let some : 1 ≤ n = run_some is_word z refl (letter_is_word (slice_index z 0) letter) in
    let within = prefix_len-le-length is_word z in
    let first : is_letter (slice_index (take n z) 0) ≡ true = rw (get_or-take n z 0 0 some) letter in (
      record {
        rest = drop n z;
        splits = sym (take-append-drop n z);
        spelled = word_spelled (take n z) (is_one_of reserved_words (take n z)) refl first (run_passes is_word z n refl);
        alone = word_follows (is_one_of reserved_words (take n z)) (drop n z);
      },
      λ kind w s. word_bound kind w z s letter,
      within,
    )

sign_kind : (kind : TokenKind) (w z : Text) → CanStand kind w z → is_letter (slice_index z 0) ≡ false → is_ascii_digit (slice_index z 0) ≡ false →
    (slice_index z 0 == 35) ≡ false → kind ≡ Sign
sign_kind kind w z s letter digit mark = rw (letter, digit, mark) at (first_kind kind w z s)

-- what begins neither a word nor a number nor a mark can begin signs alone
pub record IsOther (z : Text) : Type 0 where
  pub letter : is_letter (slice_index z 0) ≡ false
  pub digit : is_ascii_digit (slice_index z 0) ≡ false
  pub mark : (slice_index z 0 == 35) ≡ false

-- a sign at the front has one byte or two, and the scan finds it in the table
record IsShort (w z : Text) : Type 0 where
  long : (length w ≡ 1) ⊎ (length w ≡ 2)
  front : take (length w) z ≡ w
  fits : length w ≤ length z
  listed : is_one_of signs w ≡ true

sign_only : (kind : TokenKind) (w z : Text) → IsOther z → CanStand kind w z → IsShort w z
sign_only Sign w z o s =
    record {
      long = elim (or_cases (length w == 1) (length w == 2) (sign_short w s.spelled)) [ inl h ↦ inl (eqb-true _ 1 h) | inr h ↦ inr (eqb-true _ 2 h) ];
      front = rw s.splits (take_at w s.rest (length w) refl);
      fits = rw s.splits (omega (arith, length-append w s.rest));
      listed = test_from_contains signs w s.spelled;
    }
sign_only kind w z o s = absurd (cc (sign_kind kind w z s o.letter o.digit o.mark))

-- the scan finds a sign of two bytes where one stands
two_found : (w z : Text) → IsShort w z → length w ≡ 2 → (nat_le 2 (length z) && is_one_of signs (take 2 z)) ≡ true
two_found w z s two =
    let front : take 2 z ≡ w = rw two at s.front in
    and_from _ _ (le-leb 2 (length z) (omega (arith, s.fits, two))) (rw front s.listed)

one_found : (w z : Text) → IsShort w z → length w ≡ 1 → is_one_of signs (take 1 z) ≡ true
one_found w z s one =
    let front : take 1 z ≡ w = rw one at s.front in
    rw front s.listed

within_two : (w z : Text) → IsShort w z → length w ≤ 2
within_two w z s = elim s.long [ inl h ↦ omega (arith, h) | inr h ↦ omega (arith, h) ]

within_one : (w z : Text) → IsShort w z → (nat_le 2 (length z) && is_one_of signs (take 2 z)) ≡ false → length w ≤ 1
within_one w z s other = elim s.long [ inl h ↦ omega (arith, h) | inr h ↦ absurd (both_ways _ other (two_found w z s h)) ]

not_short : (w z : Text) → (nat_le 2 (length z) && is_one_of signs (take 2 z)) ≡ false → is_one_of signs (take 1 z) ≡ false → ¬ IsShort w z
not_short w z two one s = elim s.long [ inl h ↦ both_ways _ one (one_found w z s h) | inr h ↦ both_ways _ two (two_found w z s h) ]

sign_stands : (n : ℕ) (z : Text) → is_one_of signs (take n z) ≡ true → CanStand Sign (take n z) z
sign_stands n z listed = record { rest = drop n z; splits = sym (take-append-drop n z); spelled = contains_from_test signs (take n z) listed; alone = tt }

one_within : (z : Text) → is_one_of signs (take 1 z) ≡ true → 1 ≤ length z
unfolding is_one_of
one_within [] listed = absurd (cc listed)
one_within (b ∷ z) listed = omega arith

pub sign_found : (z : Text) → IsOther z → IsFound z (sign z)
unfolding sign
sign_found z o =
    cond_both (nat_le 2 (length z) && is_one_of signs (take 2 z)) (Some (Sign, 2)) (if is_one_of signs (take 1 z) then Some (Sign, 1) else None) (IsFound z)
    (λ two. let parts = and_parts _ _ two in
    (sign_stands 2 z parts.1, λ kind w s. within_two w z (sign_only kind w z o s), leb-true 2 (length z) parts.0))
    (λ other. cond_both (is_one_of signs (take 1 z)) (Some (Sign, 1)) None (IsFound z)
    (λ one. (sign_stands 1 z one, λ kind w s. within_one w z (sign_only kind w z o s) other, one_within z one))
    (λ none kind w s. not_short w z other none (sign_only kind w z o s)))

mark_kind : (kind : TokenKind) (w z : Text) → CanStand kind w z → slice_index z 0 ≡ 35 → kind ≡ Mark
mark_kind kind w z s first = rw first at (first_kind kind w z s)

-- the mark that can stand at the front passes the scan's test, which also gives its length
record IsRun (w z : Text) : Type 0 where
  long : 11 + prefix_len is_gap (drop 7 z) ≡ length w
  test : (is_pragma z && (nat_lt 0 (prefix_len is_gap (drop 7 z)) && is_named (drop (prefix_len is_gap (drop 7 z)) (drop 7 z)))) ≡ true

mark_run_at : (gap rest : Text) → 0 < length gap → All (λ b. is_gap b ≡ true) gap → is_word (slice_index rest 0) ≡ false →
    IsRun (codes "#pragma" ++ (gap ++ codes "dswp")) (codes "#pragma" ++ (gap ++ (codes "dswp" ++ rest)))
unfolding is_pragma is_named
mark_run_at gap rest some blanks alone =
    let n : prefix_len is_gap (gap ++ (codes "dswp" ++ rest)) ≡ length gap = run_exact is_gap gap (codes "dswp" ++ rest) blanks refl in
    let name : drop (length gap) (gap ++ (codes "dswp" ++ rest)) ≡ codes "dswp" ++ rest = drop_at gap (codes "dswp" ++ rest) (length gap) refl in
    record {
      long = omega (arith, n, length-append gap (codes "dswp"));
      test = rw (n, name) (and_from _ _ (lt-ltb 0 (length gap) some) (not_from_false _ alone));
    }

mark_run : (w rest : Text) → IsMark w → is_word (slice_index rest 0) ≡ false → IsRun w (w ++ rest)
mark_run w rest m alone = rw (m.spelled, append_assoc m.gap (codes "dswp") rest) (mark_run_at m.gap rest m.some m.blanks alone)

mark_only : (kind : TokenKind) (w z : Text) → slice_index z 0 ≡ 35 → CanStand kind w z → IsRun w z
mark_only Mark w z first s = rw s.splits (mark_run w s.rest s.spelled s.alone)
mark_only kind w z first s = absurd (cc (mark_kind kind w z s first))

-- the scan's mark, as it is spelled
record IsMarked (n : ℕ) (z : Text) : Type 0 where
  splits : z ≡ (codes "#pragma" ++ (take n (drop 7 z) ++ codes "dswp")) ++ drop 4 (drop n (drop 7 z))
  some : 0 < n
  alone : is_word (slice_index (drop n (drop 7 z)) 4) ≡ false

marked : (n : ℕ) (z : Text) → (is_pragma z && (nat_lt 0 n && is_named (drop n (drop 7 z)))) ≡ true → IsMarked n z
unfolding is_pragma is_named
marked n z test =
    let r = drop 7 z in let m = drop n r in let parts = and_parts _ _ test in let more = and_parts _ _ parts.1 in
    let named = and_parts _ _ more.1 in
    let front : codes "#pragma" ≡ take 7 z = (bytes_eq-Decides (codes "#pragma") (take 7 z)).0 parts.0 in
    let name : codes "dswp" ≡ take 4 m = (bytes_eq-Decides (codes "dswp") (take 4 m)).0 named.0 in
    let tail : (take n r ++ codes "dswp") ++ drop 4 m ≡ r = append_assoc (take n r) (codes "dswp") (drop 4 m)
    ∙ (ap (λ (x : Text). take n r ++ (x ++ drop 4 m)) name ∙ (ap (λ (x : Text). take n r ++ x) (take-append-drop 4 m) ∙ take-append-drop n r)) in
    record {
      splits = sym (take-append-drop 7 z) ∙ (ap (λ (x : Text). x ++ r) (sym front) ∙ ap (λ (x : Text). codes "#pragma" ++ x) (sym tail));
      some = ltb-true 0 n more.0;
      alone = not-true _ named.1;
    }

mark_stands : (z : Text) → IsMarked (prefix_len is_gap (drop 7 z)) z → CanStand Mark (take (11 + prefix_len is_gap (drop 7 z)) z) z
    × (11 + prefix_len is_gap (drop 7 z) ≤ length z)
mark_stands z k =
    let r = drop 7 z in let n = prefix_len is_gap r in let w = codes "#pragma" ++ (take n r ++ codes "dswp") in
    let rest = drop 4 (drop n r) in
    let gap : length (take n r) ≡ n = length-take-le n r (prefix_len-le-length is_gap r) in
    let long : length w ≡ 11 + n = omega (arith, gap, length-append (take n r) (codes "dswp")) in
    let front : take (11 + n) z ≡ w = ap (λ (x : Text). take (11 + n) x) k.splits ∙ take_at w rest (11 + n) long in
    let whole : length z ≡ length w + length rest = ap length k.splits ∙ length-append w rest in (
      rw front (record {
        rest = rest;
        splits = k.splits;
        spelled = record { gap = take n r; some = omega (arith, gap, k.some); blanks = run_passes is_gap r n refl; spelled = refl };
        alone = rw (get_or-drop 4 (drop n r) 0 0) k.alone;
      }),
      omega (arith, whole, long),
    )

pub mark_found : (z : Text) → slice_index z 0 ≡ 35 → IsFound z (mark z)
unfolding mark
mark_found z first =
    let n = prefix_len is_gap (drop 7 z) in
    cond_both (is_pragma z && (nat_lt 0 n && is_named (drop n (drop 7 z)))) (Some (Mark, 11 + n)) None (IsFound z)
    (λ test. let stands = mark_stands z (marked n z test) in
    (stands.0, λ kind w s. omega (arith, (mark_only kind w z first s).long), stands.1))
    (λ test kind w s. both_ways _ test (mark_only kind w z first s).test)
