-- Lists of parts: a turn of a loop, and its end; and what lists read, from what their items do.
use Rattle.std.proofs.Common.{◌≡◌, refl, ap, ◌∙◌, sym, append_assoc, ℕ, zero, suc, ◌-◌, ◌<◌, ◌≤◌, Bool, true, false, List, [], ◌∷◌, ◌++◌, length, Ok, Err}
use Rattle.std.proofs.Common.{arith}
use Rattle.std.proofs.lemmas.List.{append-nil}
use Rattle.dp_lex.specs.Token.{Lexeme}
use Rattle.dp_tokens.specs.declared.symbol.Symbol.TheVariants.{Comma, CloseBrace}
use Rattle.dp_tokens.specs.Symbols.{symbol_at, Is}
use Rattle.dp_tokens.specs.Steps.{Outcome, Parser, parse_then, ◌>>=◌, eat, sees_symbol, after, separated_by, separated, many_by, many}
use Rattle.dp_parse.proofs.StepLemmas.{pair, is_same, seen_some, then_of, same_pair, Ate, passed, stayed, ate, moved}

module _ {A : Type 0} (item : Parser A) where
  pub separated_turn : (k : ℕ) (found : List A) (ts middle : List Lexeme) (x : A) → item ts ≡ Ok (x, middle) → length middle < length ts → length ts ≤ k →
      separated item k found ts ≡ separated_by (separated item (k - 1)) (found ++ x ∷ []) (sees_symbol Comma middle) (after Comma middle)
  unfolding separated
  separated_turn zero found ts middle x e less fits = absurd (omega arith)
  separated_turn (suc k) found ts middle x e less fits =
      let same : suc k - 1 ≡ k = omega arith in
      rw (same) (ap (λ (o : Outcome A). parse_then o (λ x. eat Comma >>= separated_by (separated item k) (found ++ x ∷ []))) e)

  pub separated_none : (empty : item [] ≡ Err []) (k : ℕ) (found : List A) (ts left : List Lexeme) → item ts ≡ Err left → length ts ≤ k →
      separated item k found ts ≡ Err left
  unfolding separated
  separated_none empty zero found [] left e fits = ap Err (cc (empty, e))
  separated_none empty zero found (t ∷ ts) left e fits = absurd (omega arith)
  separated_none empty (suc k) found ts left e fits =
      ap (λ (o : Outcome A). parse_then o (λ x. eat Comma >>= separated_by (separated item k) (found ++ x ∷ []))) e

  module _ (stops : List Lexeme → Bool) where
    pub many_turn : (k : ℕ) (found : List A) (ts middle : List Lexeme) (x : A) → stops ts ≡ false → item ts ≡ Ok (x, middle) →
        length middle < length ts → length ts ≤ k →
        many stops item k found ts ≡ many stops item (k - 1) (found ++ x ∷ []) middle
    unfolding many
    many_turn zero found ts middle x goes e less fits = absurd (omega arith)
    many_turn (suc k) found ts middle x goes e less fits =
        let same : suc k - 1 ≡ k = omega arith in
        rw (same) (ap (λ (b : Bool). many_by item (many stops item k) found b ts) goes
        ∙ ap (λ (o : Outcome A). parse_then o (λ x. many stops item k (found ++ x ∷ []))) e)

    pub many_none : (empty : item [] ≡ Err []) (k : ℕ) (found : List A) (ts left : List Lexeme) → stops ts ≡ false → item ts ≡ Err left → length ts ≤ k →
        many stops item k found ts ≡ Err left
    unfolding many
    many_none empty zero found [] left goes e fits = ap Err (cc (empty, e))
    many_none empty zero found (t ∷ ts) left goes e fits = absurd (omega arith)
    many_none empty (suc k) found ts left goes e fits =
        ap (λ (b : Bool). many_by item (many stops item k) found b ts) goes ∙ ap (λ (o : Outcome A). parse_then o (λ x. many stops item k (found ++ x ∷ []))) e

    pub many_end : (k : ℕ) (found : List A) (ts : List Lexeme) → stops ts ≡ true → 0 < length ts → length ts ≤ k → many stops item k found ts ≡ Ok (found, ts)
    unfolding many
    many_end zero found ts over some fits = absurd (omega arith)
    many_end (suc k) found ts over some fits = ap (λ (b : Bool). many_by item (many stops item k) found b ts) over

    -- one part, and then the rest
    pub many_more : (k : ℕ) (found : List A) (ts middle to : List Lexeme) (x : A) (rest : List A) → stops ts ≡ false → item ts ≡ Ok (x, middle) →
        length middle < length ts → length ts ≤ k →
        many stops item (k - 1) (found ++ x ∷ []) middle ≡ Ok ((found ++ x ∷ []) ++ rest, to) → many stops item k found ts ≡ Ok (found ++ x ∷ rest, to)
    many_more k found ts middle to x rest goes e less fits later =
        many_turn k found ts middle x goes e less fits ∙ later ∙ ap (λ (all : List A). Ok (pair all to)) (append_assoc found (x ∷ []) rest)

    pub many_over : (k : ℕ) (found : List A) (ts : List Lexeme) → stops ts ≡ true → 0 < length ts → length ts ≤ k →
        many stops item k found ts ≡ Ok (found ++ [], ts)
    many_over k found ts over some fits = many_end k found ts over some fits ∙ ap (λ (all : List A). Ok (pair all ts)) (sym (append-nil found))

  -- up to a brace
  pub many_closed : (k : ℕ) (found : List A) (ts : List Lexeme) → symbol_at ts ≡ CloseBrace → length ts ≤ k →
      many (sees_symbol CloseBrace) item k found ts ≡ Ok (found ++ [], ts)
  unfolding sees_symbol
  many_closed k found ts at fits = let seen = is_same (symbol_at ts) CloseBrace at in
      many_over (sees_symbol CloseBrace) k found ts seen (seen_some CloseBrace ts (λ e. cc) seen) fits

  pub separated_on : (k : ℕ) (found : List A) (ts middle : List Lexeme) (x : A) → item ts ≡ Ok (x, middle) → length middle < length ts → length ts ≤ k →
      sees_symbol Comma middle ≡ true →
      separated item k found ts ≡ separated item (k - 1) (found ++ x ∷ []) (after Comma middle)
  separated_on k found ts middle x e less fits seen =
      separated_turn k found ts middle x e less fits ∙ ap (λ (b : Bool). separated_by (separated item (k - 1)) (found ++ x ∷ []) b (after Comma middle)) seen

  pub separated_off : (k : ℕ) (found : List A) (ts middle : List Lexeme) (x : A) → item ts ≡ Ok (x, middle) → length middle < length ts → length ts ≤ k →
      sees_symbol Comma middle ≡ false →
      separated item k found ts ≡ Ok (found ++ x ∷ [], after Comma middle)
  separated_off k found ts middle x e less fits seen =
      separated_turn k found ts middle x e less fits ∙ ap (λ (b : Bool). separated_by (separated item (k - 1)) (found ++ x ∷ []) b (after Comma middle)) seen

module _ {A : Type 0} (item : Parser A) (R : List Lexeme → List Lexeme → List A → Type 0) where
  -- the rest of a list, after those that were found
  abbrev Listed : List Lexeme → List Lexeme → List A → List A → Type 0
  Listed from to found out = (rest : List A) × (out ≡ found ++ rest) × R from to rest

  module _ (stops : List Lexeme → Bool) (none : (to : List Lexeme) → R to to [])
      (more : (from middle to : List Lexeme) (x : A) (rest : List A) → item from ≡ Ok (x, middle) → R middle to rest → R from to (x ∷ rest)) where
    many_at : (again : List A → Parser (List A))
        (goes : (from to : List Lexeme) (found out : List A) → again found from ≡ Ok (out, to) → Listed from to found out)
        (from to : List Lexeme) (found out : List A) (b : Bool) → many_by item again found b from ≡ Ok (out, to) → Listed from to found out
    many_at again goes from to found out true e =
        let parts = same_pair {a = found} {b = out} {x = from} {y = to} e in
        ([], sym parts.0 ∙ sym (append-nil found), moved R refl (sym parts.1) refl (none from))
    many_at again goes from to found out false e =
        let o = then_of (item from) (λ x. again (found ++ x ∷ [])) out to e in
        let others = goes o.middle to (found ++ o.value ∷ []) out o.second in
        (o.value ∷ others.0, others.1 ∙ append_assoc found (o.value ∷ []) others.0, more from o.middle to o.value others.0 o.first others.2)

    pub many_sound : (n : ℕ) (from to : List Lexeme) (found out : List A) → many stops item n found from ≡ Ok (out, to) → Listed from to found out
    unfolding many
    many_sound zero from to found out h = absurd (cc)
    many_sound (suc n) from to found out h = many_at (many stops item n) (many_sound n) from to found out (stops from) h

  module _ (one : (from to : List Lexeme) (x : A) → item from ≡ Ok (x, to) → R from to (x ∷ []))
      (more : (from left to : List Lexeme) (t : Lexeme) (x : A) (rest : List A) → item from ≡ Ok (x, t ∷ left) → Is Comma t → R left to rest → R from to (x
      ∷ rest)) where
    next_at : (again : List A → Parser (List A))
        (goes : (from to : List Lexeme) (found out : List A) → again found from ≡ Ok (out, to) → Listed from to found out)
        (from middle to : List Lexeme) (found out : List A) (x : A) → item from ≡ Ok (x, middle) →
        Ate Comma (separated_by again (found ++ x ∷ [])) middle out to → Listed from to found out
    next_at again goes from middle to found out x h (passed t left is splits e) =
        let others = goes left to (found ++ x ∷ []) out e in (
          x ∷ others.0,
          others.1 ∙ append_assoc found (x ∷ []) others.0,
          more from left to t x others.0 (h
              ∙ ap (λ (ts : List Lexeme). Ok (pair x ts)) splits) is others.2,
        )
    next_at again goes from middle to found out x h (stayed other e) =
        let parts = same_pair {a = found ++ x ∷ []} {b = out} {x = middle} {y = to} e in
        (x ∷ [], sym parts.0, one from to x (h ∙ ap (λ (ts : List Lexeme). Ok (pair x ts)) parts.1))

    pub separated_sound : (n : ℕ) (from to : List Lexeme) (found out : List A) → separated item n found from ≡ Ok (out, to) → Listed from to found out
    unfolding separated
    separated_sound zero from to found out h = absurd (cc)
    separated_sound (suc n) from to found out h =
        let o = then_of (item from) (λ x. eat Comma >>= separated_by (separated item n) (found ++ x ∷ [])) out to h in
        next_at (separated item n) (separated_sound n) from o.middle to found out o.value o.first
        (ate Comma (separated_by (separated item n) (found ++ o.value ∷ [])) out to o.middle (λ k. cc) o.second)
