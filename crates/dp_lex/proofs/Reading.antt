-- Reading on from what was read.
use Rattle.std.proofs.Common.{◌≡◌, ℕ, ◌+◌, ◌<◌, ◌≤◌, List, [], ◌∷◌, ◌++◌, length, take, drop, Some, None, sym, ap, length-take-le, length-drop, take-add, cond}
use Rattle.std.proofs.Common.{arith}
use Rattle.std.proofs.lemmas.List.Sums.{sum_by-append}
use Rattle.dp_lex.specs.declared.TokenKind.{TokenKind}
use Rattle.dp_lex.specs.Characters.{Text, is_line_end, line_ends}
use Rattle.dp_lex.specs.Token.{Lexeme}
use Rattle.dp_lex.specs.Front.{IsStuck}
use Rattle.dp_lex.specs.Tokens.{ReadsTokens, stays, skips, takes, line_at, IsInText}
use Rattle.dp_lex.specs.Scan.{skipped, front}
use Rattle.dp_lex.proofs.Apart.{spelled_one_line}
use Rattle.dp_lex.proofs.Skipping.{skips_len}
use Rattle.dp_lex.proofs.Pieces.{skipped_skips}
use Rattle.dp_lex.proofs.Fronts.{front_begins, front_none}

-- tokens read up to a place, and those read from there
pub reads-append : {text : Text} {start mid end : ℕ} {ts us : List Lexeme} → ReadsTokens text start ts mid → ReadsTokens text mid us end →
    ReadsTokens text start (ts ++ us) end
reads-append stays more = more
reads-append (skips c s reads) more = skips c s (reads-append reads more)
reads-append (takes kind w b reads) more = takes kind w b (reads-append reads more)

-- one more piece is skipped
pub reads_skip : (text : Text) (start mid : ℕ) → ReadsTokens text start [] mid → 0 < skipped (drop mid text) →
    ReadsTokens text start [] (mid + skipped (drop mid text))
reads_skip text start mid reads more =
    let z = drop mid text in let piece = skipped_skips z more in
    let long : length (take (skipped z) z) ≡ skipped z = sym (skips_len z (take (skipped z) z) piece).0 in
    rw (← long) (reads-append reads (skips (take (skipped z) z) piece stays))

-- one more token is taken
pub reads_take : (text : Text) (start mid : ℕ) (kind : TokenKind) (n : ℕ) → ReadsTokens text start [] mid → front (drop mid text) ≡ Some (kind, n) →
    ReadsTokens text start (record { kind = kind; text = take n (drop mid text); line = line_at text mid } ∷ []) (mid + n)
reads_take text start mid kind n reads found =
    let z = drop mid text in let token = front_begins z kind n found in
    let long : length (take n z) ≡ n = length-take-le n z token.1 in
    reads-append reads (takes kind (take n z) token.0 (rw long stays))

-- the same, as a lexer says it
pub reads_token : (text : Text) (start mid : ℕ) (kind : TokenKind) (n : ℕ) → ReadsTokens text start [] mid → front (drop mid text) ≡ Some (kind, n) →
    (w : Text) (line place : ℕ) → w ≡ take n (drop mid text) → line ≡ line_at text mid → place ≡ mid →
    ReadsTokens text start (record { kind = kind; text = w; line = line } ∷ []) (place + n)
reads_token text start mid kind n reads found w line place same_text same_line same_place =
    rw (same_text, same_line, same_place) (reads_take text start mid kind n reads found)

-- the line after n more bytes
line_after : (text : Text) (place n : ℕ) → line_at text (place + n) ≡ line_at text place + line_ends (take n (drop place text))
line_after text place n =
    let f : ℕ → ℕ = λ b. cond (is_line_end b) 1 0 in
    rw (take-add place n text) (omega (arith, sum_by-append f (take place text) (take n (drop place text))))

pub inside_skip : (text : Text) (place line n : ℕ) → IsInText text place line → n ≤ length (drop place text) →
    IsInText text (place + n) (line + line_ends (take n (drop place text)))
inside_skip text place line n i within = record {
  short = i.short;
  inside = omega (arith, i.inside, within, length-drop place text);
  counted = omega (arith, i.counted, line_after text place n);
}

pub inside_take : (text : Text) (place line : ℕ) (kind : TokenKind) (n : ℕ) → IsInText text place line → front (drop place text) ≡ Some (kind, n) →
    IsInText text (place + n) line
inside_take text place line kind n i found =
    let z = drop place text in let token = front_begins z kind n found in
    let one_line : line_ends (take n z) ≡ 0 = spelled_one_line kind (take n z) token.0.stands.spelled in
    record {
      short = i.short;
      inside = omega (arith, i.inside, token.1, length-drop place text);
      counted = omega (arith, i.counted, line_after text place n, one_line);
    }

-- no token begins where the scan skips nothing and finds none
pub stuck_from_scan : (z : Text) → 0 < length z → skipped z ≡ 0 → front z ≡ None → IsStuck z
stuck_from_scan z some skip found = record {
  more = λ e. omega (arith, some, ap length e);
  not_skipped = λ c s. omega (arith, skip, (skips_len z c s).0, (skips_len z c s).1);
  no_token = front_none z found;
}
