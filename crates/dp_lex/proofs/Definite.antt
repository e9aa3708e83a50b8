-- A text is read in one way only.
use Rattle.std.proofs.Common.{◌≡◌, ℕ, zero, suc, ◌+◌, ◌-◌, ◌<◌, ◌≤◌, ◌⊎◌, inl, inr, List, [], ◌∷◌, length, take, drop, Some, None, refl, sym, ◌∙◌, ap}
use Rattle.std.proofs.Common.{length-append, length-drop, arith}
use Rattle.std.proofs.lemmas.Bool.{cases_eq, cases_lt}
use Rattle.std.proofs.lemmas.List.{drop_all}
use Rattle.dp_lex.specs.declared.TokenKind.{TokenKind}
use Rattle.dp_lex.specs.Characters.{Text}
use Rattle.dp_lex.specs.Token.{Lexeme}
use Rattle.dp_lex.specs.Front.{Skips, BeginsWithToken, IsStuck}
use Rattle.dp_lex.specs.Tokens.{ReadsTokens, stays, skips, takes, line_at, Tokens, RefusedAt}
use Rattle.dp_lex.specs.Scan.{Found, skipped, front}
use Rattle.dp_lex.proofs.Skipping.{skips_len, skips_once}
use Rattle.dp_lex.proofs.Pieces.{skipped_skips}
use Rattle.dp_lex.proofs.Fronts.{front_begins, begins_once, begins_some, skips_begins}
use Rattle.dp_lex.proofs.Reading.{stuck_from_scan}

-- nothing is skipped and no token begins
pub record IsLast (z : Text) : Type 0 where
  pub not_skipped : (c : Text) → ¬ Skips z c
  pub no_token : (kind : TokenKind) (w : Text) → ¬ BeginsWithToken z kind w

pub last_at_end : (text : Text) → IsLast (drop (length text) text)
last_at_end text =
    let none : drop (length text) text ≡ [] = drop_all (length text) text (omega arith) in
    rw none (record {
      not_skipped = λ c s. omega (arith, ap length s.splits, length-append c s.rest, (skips_len [] c s).1);
      no_token = λ kind w b. omega (arith, ap length b.stands.splits, length-append w b.stands.rest, begins_some [] kind w b);
    })

pub last_when_stuck : (z : Text) → IsStuck z → IsLast z
last_when_stuck z s = record { not_skipped = s.not_skipped; no_token = s.no_token }

-- ---- what reading on from a place comes to

after_last : {text : Text} {start end : ℕ} {ts : List Lexeme} → ReadsTokens text start ts end → IsLast (drop start text) → (ts ≡ []) × (end ≡ start)
after_last stays last = (refl, refl)
after_last (skips c s reads) last = absurd (last.not_skipped c s)
after_last (takes kind w b reads) last = absurd (last.no_token kind w b)

after_skip : {text : Text} {start end : ℕ} {ts : List Lexeme} (c : Text) → Skips (drop start text) c → IsLast (drop end text) → ReadsTokens text start ts end →
    ReadsTokens text (start + length c) ts end
after_skip c s last stays = absurd (last.not_skipped c s)
after_skip {text} {start} {end} {ts} c s last (skips d t reads) = rw (skips_once (drop start text) c d s t) reads
after_skip c s last (takes kind w b reads) = absurd (skips_begins _ c kind w s b)

after_take : {text : Text} {start end : ℕ} {ts : List Lexeme} (kind : TokenKind) (w : Text) → BeginsWithToken (drop start text) kind w →
    IsLast (drop end text) → ReadsTokens text start ts end → (us : List Lexeme) × (ts ≡ record { kind = kind; text = w; line = line_at text start } ∷ us)
    × ReadsTokens text (start + length w) us end
after_take kind w b last stays = absurd (last.no_token kind w b)
after_take kind w b last (skips c s reads) = absurd (skips_begins _ c kind w s b)
after_take kind w b last (takes {tokens = us} other v d reads) =
    let same = begins_once _ other kind v w d b in
    (us, rw (same.0, same.1), rw (← same.1) reads)

-- from a place up to where nothing is left, one list of tokens is read
pub reads_once : {text : Text} {start end other : ℕ} {ts us : List Lexeme} → ReadsTokens text start ts end → ReadsTokens text start us other →
    IsLast (drop end text) → IsLast (drop other text) → (ts ≡ us) × (end ≡ other)
reads_once stays also last done = let same = after_last also last in (sym same.0, sym same.1)
reads_once (skips c s reads) also last done = reads_once reads (after_skip c s done also) last done
reads_once {text} {start} (takes kind w b reads) also last done =
    let more = after_take kind w b done also in let rest = reads_once reads more.2 last done in
    (ap (λ (ts : List Lexeme). record { kind = kind; text = w; line = line_at text start } ∷ ts) rest.0 ∙ sym more.1, rest.1)

-- ---- every text is read up to its end or to a place where it is stuck

-- from a place on, the text is read up to the end or to a place where no token begins
pub record Ends (text : Text) (start : ℕ) : Type 0 where
  pub tokens : List Lexeme
  pub end : ℕ
  pub reads : ReadsTokens text start tokens end
  pub stop : (end ≡ length text) ⊎ IsStuck (drop end text)

ends_after_skip : (text c : Text) (start : ℕ) → Skips (drop start text) c → Ends text (start + length c) → Ends text start
ends_after_skip text c start s e = record { tokens = e.tokens; end = e.end; reads = skips c s e.reads; stop = e.stop }

ends_after_take : (text w : Text) (start : ℕ) (kind : TokenKind) → BeginsWithToken (drop start text) kind w → Ends text (start + length w) → Ends text start
ends_after_take text w start kind b e =
    record { tokens = record { kind = kind; text = w; line = line_at text start } ∷ e.tokens; end = e.end; reads = takes kind w b e.reads; stop = e.stop }

found_cases : (found : Found) → ((kind : TokenKind) × (n : ℕ) × (found ≡ Some (kind, n))) ⊎ (found ≡ None)
found_cases (Some f) = inl (f.0, f.1, refl)
found_cases None = inr refl

-- something stands at a place before the end: a piece that is skipped, a token, or what no token begins
next_piece : (z : Text) → 0 < length z → ((c : Text) × Skips z c) ⊎ (((kind : TokenKind) × (w : Text) × BeginsWithToken z kind w) ⊎ IsStuck z)
next_piece z some =
    elim (cases_lt 0 (skipped z)) [
      | inl more ↦ inl (take (skipped z) z, skipped_skips z more)
      | inr none ↦
          elim (found_cases (front z)) [
            | inl found ↦ inr (inl (found.0, take found.1 z, (front_begins z found.0 found.1 found.2).0))
            | inr absent ↦ inr (inr (stuck_from_scan z some (omega (arith, none)) absent))
          ]
    ]

pub ends_from : (fuel : ℕ) (text : Text) (start : ℕ) → start ≤ length text → length text - start ≤ fuel → Ends text start
ends_from zero text start within few = record { tokens = []; end = start; reads = stays; stop = inl (omega arith) }
ends_from (suc fuel) text start within few =
    let z = drop start text in let left = length-drop start text in
    elim (cases_eq start (length text)) [
      | inl e ↦ record { tokens = []; end = start; reads = stays; stop = inl e }
      | inr other ↦
          elim (next_piece z (omega (arith, left, within, other))) [
            | inl p ↦
                let c = p.0 in let some = (skips_len z c p.1).1 in
                let fits : length c ≤ length z = omega (arith, ap length p.1.splits, length-append c p.1.rest) in
                ends_after_skip text c start p.1 (ends_from fuel text (start + length c) (omega (arith, fits, left, within)) (omega (arith, some, few)))
            | inr p ↦
                elim p [
                  | inl t ↦
                      let w = t.1 in let some = begins_some z t.0 w t.2 in
                      let fits : length w ≤ length z = omega (arith, ap length t.2.stands.splits, length-append w t.2.stands.rest) in
                      ends_after_take text w start t.0 t.2 (ends_from fuel text (start + length w) (omega (arith, fits, left, within))
                      (omega (arith, some, few)))
                  | inr stuck ↦ record { tokens = []; end = start; reads = stays; stop = inr stuck }
                ]
          ]
    ]

-- ---- the law

either : (text : Text) → Ends text 0 → ((tokens : List Lexeme) × Tokens text tokens) ⊎ ((place : ℕ) × RefusedAt text place)
either text e =
    elim e.stop [
      | inl last ↦ inl (e.tokens, rw (← last) e.reads)
      | inr stuck ↦ inr (e.end, record { before = e.tokens; reads = e.reads; stuck = stuck })
    ]

-- a text has its tokens or is refused
pub tokens_or_refused : (text : Text) → ((tokens : List Lexeme) × Tokens text tokens) ⊎ ((place : ℕ) × RefusedAt text place)
tokens_or_refused text = either text (ends_from (length text) text 0 (omega arith) (omega arith))

-- but not both
pub tokens_not_refused : (text : Text) (tokens : List Lexeme) (place : ℕ) → Tokens text tokens → ¬ RefusedAt text place
tokens_not_refused text tokens place t r =
    let same = (reads_once t r.reads (last_at_end text) (last_when_stuck _ r.stuck)).1 in
    r.stuck.more (drop_all place text (omega (arith, same)))

pub tokens_once : (text : Text) (ts us : List Lexeme) → Tokens text ts → Tokens text us → ts ≡ us
tokens_once text ts us t u = (reads_once t u (last_at_end text) (last_at_end text)).0

pub refused_once : (text : Text) (p q : ℕ) → RefusedAt text p → RefusedAt text q → p ≡ q
refused_once text p q r s = (reads_once r.reads s.reads (last_when_stuck _ r.stuck) (last_when_stuck _ s.stuck)).1

-- where nothing is left nothing more is read
pub reads_nothing : (text : Text) (start end : ℕ) (tokens : List Lexeme) → IsLast (drop start text) → ReadsTokens text start tokens end →
    (tokens ≡ []) × (end ≡ start)
reads_nothing text start end tokens last reads = after_last reads last
