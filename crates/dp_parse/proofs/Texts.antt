-- Reading a text's tokens one after the other.
use Rattle.std.proofs.Common.{◌≡◌, ap, ◌∙◌, sym, subst, ℕ, ◌+◌, ◌-◌, ◌<◌, ◌≤◌, List, [], ◌∷◌, ◌++◌, map, drop, length, length-append, length-drop, arith}
use Rattle.std.proofs.lemmas.List.{append-nil, map-append, length-map}
use Rattle.dp_lex.specs.declared.Token.{Token}
use Rattle.dp_lex.specs.Characters.{Text}
use Rattle.dp_lex.specs.Token.{Lexeme}
use Rattle.dp_lex.specs.Front.{IsStuck}
use Rattle.dp_lex.specs.Tokens.{ReadsTokens, stays, skips, takes, Tokens, RefusedAt, lexeme}
use Rattle.dp_lex.proofs.Fronts.{begins_some}
use Rattle.dp_lex.proofs.Reading.{reads-append}

-- each token takes a byte of the text
pub reads_length : {text : Text} {start end : ℕ} {tokens : List Lexeme} → ReadsTokens text start tokens end → start ≤ length text →
    (length tokens + start ≤ end) × (end ≤ length text)
reads_length stays within = (omega arith, within)
reads_length {text} {start} (skips c s r) within =
    let room : length c + length s.rest ≡ length text - start = sym (length-append c s.rest) ∙ ap length (sym s.splits) ∙ length-drop start text in
    let h = reads_length r (omega arith) in let a = h.0 in
    (omega arith, h.1)
reads_length {text} {start} (takes kind w b r) within =
    let room : length w + length b.stands.rest ≡ length text - start = sym (length-append w b.stands.rest) ∙ ap length (sym b.stands.splits)
    ∙ length-drop start text in
    let some = begins_some (drop start text) kind w b in let h = reads_length r (omega arith) in let a = h.0 in
    (omega arith, h.1)

-- a text has no more tokens than bytes
pub few_tokens : (text : Text) (tokens : List Token) → Tokens text (map lexeme tokens) → length tokens ≤ length text
few_tokens text tokens r = let h = reads_length r (omega arith) in let a = h.0 in let b = h.1 in let same = length-map tokens lexeme in omega arith

module _ (text other : Text) (same : other ≡ text) (before : List Token) (place after : ℕ) (reads : ReadsTokens text 0 (map lexeme before) place)
    (within : place ≤ length text) where
  pub next_token : (t : Token) → ReadsTokens other place (lexeme t ∷ []) after → ReadsTokens text 0 (map lexeme (before ++ t ∷ [])) after
  next_token t r =
      subst (λ (ts : List Lexeme). ReadsTokens text 0 ts after) (sym (map-append lexeme before (t ∷ [])))
      (reads-append reads (subst (λ (x : Text). ReadsTokens x place (lexeme t ∷ []) after) same r))

  pub next_within : (t : Token) → ReadsTokens other place (lexeme t ∷ []) after → (place < after) × (after ≤ length text)
  next_within t r =
      let h = reads_length (subst (λ (x : Text). ReadsTokens x place (lexeme t ∷ []) after) same r) within in let a = h.0 in (omega arith, h.1)

  pub last_token : ReadsTokens other place [] after → ReadsTokens text 0 (map lexeme before) after
  last_token r = subst (λ (ts : List Lexeme). ReadsTokens text 0 ts after) (append-nil (map lexeme before))
      (reads-append reads (subst (λ (x : Text). ReadsTokens x place [] after) same r))

  pub all_tokens : ReadsTokens other place [] after → after ≡ length other → Tokens text (map lexeme before)
  all_tokens r end = subst (λ (k : ℕ). ReadsTokens text 0 (map lexeme before) k) (end ∙ ap length same) (last_token r)

  pub refused_token : (at : ℕ) → ReadsTokens other place [] after → IsStuck (drop after other) → after ≡ at → RefusedAt text at
  refused_token at r stuck is =
      let here : RefusedAt text after = record {
        before = map lexeme before;
        reads = last_token r;
        stuck = subst (λ (x : Text). IsStuck
            (drop after x)) same stuck;
      } in
      subst (RefusedAt text) is here
