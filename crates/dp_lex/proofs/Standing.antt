-- Tokens that can stand at the front of a text.
use Rattle.std.proofs.Common.{◌≡◌, ◌≤◌, ◌==◌, if◌then◌else◌, length, take, slice_index, Some, None, sym}
use Rattle.std.specs.Char.{is_ascii_digit}
use Rattle.std.proofs.lemmas.List.Prefix.{front_reads}
use Rattle.dp_lex.specs.declared.TokenKind.{TokenKind}
use Rattle.dp_lex.specs.declared.TokenKind.TheVariants.{Name, Reserved, Number, Mark, Sign}
use Rattle.dp_lex.specs.Characters.{Text, is_letter}
use Rattle.dp_lex.specs.Spelling.{reserved_words}
use Rattle.dp_lex.specs.Front.{CanStand}
use Rattle.dp_lex.specs.Scan.{Found, is_one_of}
use Rattle.dp_lex.proofs.Apart.{kind_of, spelled_kind, spelled_some}

-- the longest token that can stand at the front of z, or that none can
abbrev pub IsFound : Text → Found → Type 0
IsFound z None = (kind : TokenKind) (w : Text) → ¬ CanStand kind w z
IsFound z (Some found) =
    CanStand found.0 (take found.1 z) z × ((kind : TokenKind) (w : Text) → CanStand kind w z → length w ≤ found.1) × (found.1 ≤ length z)

-- a token's first byte is its text's
pub first_same : (kind : TokenKind) (w z : Text) → CanStand kind w z → slice_index z 0 ≡ slice_index w 0
first_same kind w z s = front_reads 0 z w s.rest s.splits 0 (spelled_some kind w s.spelled)

-- so the first byte of the text tells its kind
pub first_kind : (kind : TokenKind) (w z : Text) → CanStand kind w z →
    kind ≡ (if is_letter (slice_index z 0) then (if is_one_of reserved_words w then Reserved else Name) else (if is_ascii_digit (slice_index z 0) then Number
    else (if slice_index z 0 == 35 then Mark else Sign)))
unfolding kind_of
first_kind kind w z s = rw (first_same kind w z s) (sym (spelled_kind kind w s.spelled))
