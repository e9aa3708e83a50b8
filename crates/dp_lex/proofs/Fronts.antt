-- The token that the scan finds at the front of a text is the one that begins there, and no other does.
use Rattle.std.proofs.Common.{◌≡◌, ℕ, ◌<◌, ◌≤◌, true, false, ◌⊎◌, ◌==◌, if◌then◌else◌, inl, inr, ◌++◌, length, take, slice_index, Some, None, refl, sym, ◌∙◌}
use Rattle.std.proofs.Common.{length-take-le, take_at, arith}
use Rattle.std.specs.Char.{is_ascii_digit}
use Rattle.std.proofs.lemmas.Bool.{eqb-true, both_ways, false_from_ne_true, cond_both}
use Rattle.dp_lex.specs.declared.TokenKind.{TokenKind}
use Rattle.dp_lex.specs.Characters.{Text, is_white, is_letter}
use Rattle.dp_lex.specs.Front.{OpensComment, IsSkipped, Skips, BeginsWithToken}
use Rattle.dp_lex.specs.Scan.{opens_comment, word, number_scanned, mark, sign, front}
use Rattle.dp_lex.proofs.Apart.{kinds_same, spelled_no_white, spelled_some}
use Rattle.dp_lex.proofs.Pieces.{opens_from_test, test_from_opens}
use Rattle.dp_lex.proofs.Standing.{IsFound, first_same}
use Rattle.dp_lex.proofs.Spelled.{word_found, mark_found, sign_found}
use Rattle.dp_lex.proofs.Numerals.{number_found}

front_found : (z : Text) → opens_comment z ≡ false → IsFound z (front z)
unfolding front
front_found z closed =
    let b = slice_index z 0 in
    cond_both (opens_comment z) None (if is_letter b then word z else (if is_ascii_digit b then number_scanned z else (if b == 35 then mark z else sign z)))
    (IsFound z)
    (λ opens. absurd (both_ways _ closed opens))
    (λ _. cond_both (is_letter b) (word z) (if is_ascii_digit b then number_scanned z else (if b == 35 then mark z else sign z)) (IsFound z)
    (λ letter. word_found z letter)
    (λ letter. cond_both (is_ascii_digit b) (number_scanned z) (if b == 35 then mark z else sign z) (IsFound z)
    (λ digit. number_found z digit)
    (λ digit. cond_both (b == 35) (mark z) (sign z) (IsFound z)
    (λ first. mark_found z (eqb-true b 35 first))
    (λ first. sign_found z (record { letter = letter; digit = digit; mark = first })))))

front_closed : (z : Text) (kind : TokenKind) (n : ℕ) → front z ≡ Some (kind, n) → opens_comment z ≡ false
unfolding front
front_closed z kind n e = false_from_ne_true (opens_comment z) (λ opens. let f = rw opens at e in cc f)

-- what the scan finds begins at the front
pub front_begins : (z : Text) (kind : TokenKind) (n : ℕ) → front z ≡ Some (kind, n) → BeginsWithToken z kind (take n z) × (n ≤ length z)
front_begins z kind n e =
    let closed = front_closed z kind n e in
    let found : IsFound z (Some (kind, n)) = rw e at (front_found z closed) in (
      record {
        no_comment = λ opens. both_ways (opens_comment z) closed (test_from_opens z opens);
        stands = found.0;
        longest = λ other v s. omega (arith, found.1 other v s, length-take-le n z found.2);
      },
      found.2,
    )

-- where the scan finds nothing, no token begins
pub front_none : (z : Text) → front z ≡ None → (kind : TokenKind) (w : Text) → ¬ BeginsWithToken z kind w
front_none z e kind w b =
    let closed = false_from_ne_true (opens_comment z) (λ opens. b.no_comment (opens_from_test z opens)) in
    let found : IsFound z None = rw e at (front_found z closed) in
    found kind w b.stands

-- one token begins at a place
pub begins_once : (z : Text) (j k : TokenKind) (v w : Text) → BeginsWithToken z j v → BeginsWithToken z k w → (j ≡ k) × (v ≡ w)
begins_once z j k v w b c =
    let long : length v ≡ length w = omega (arith, b.longest k w c.stands, c.longest j v b.stands) in
    let left : take (length v) z ≡ v = rw b.stands.splits (take_at v b.stands.rest (length v) refl) in
    let right : take (length v) z ≡ w = rw c.stands.splits (take_at w c.stands.rest (length v) (sym long)) in
    let same : v ≡ w = sym left ∙ right in
    (kinds_same j k w (rw same at b.stands.spelled) c.stands.spelled, same)

skipped_first : (c rest : Text) → IsSkipped c rest → (is_white (slice_index (c ++ rest) 0) ≡ true) ⊎ OpensComment (c ++ rest)
skipped_first c rest (inl b) = rw b.spelled (inl b.white)
skipped_first c rest (inr (inl l)) = rw l.spelled (inr (refl, inl refl))
skipped_first c rest (inr (inr k)) = rw k.spelled (inr (refl, inr refl))

-- no token begins where something is skipped
pub skips_begins : (z c : Text) (kind : TokenKind) (w : Text) → Skips z c → ¬ BeginsWithToken z kind w
skips_begins z c kind w s b =
    elim (skipped_first c s.rest s.skipped) [
      | inl white ↦
          let first = first_same kind w z b.stands in
          let here : is_white (slice_index z 0) ≡ true = rw s.splits white in
          both_ways (is_white (slice_index w 0)) (spelled_no_white kind w b.stands.spelled) (rw first at here)
      | inr opens ↦ b.no_comment (rw s.splits opens)
    ]

-- a token has a byte
pub begins_some : (z : Text) (kind : TokenKind) (w : Text) → BeginsWithToken z kind w → 0 < length w
begins_some z kind w b = spelled_some kind w b.stands.spelled
