-- The first tokens of what begins a part begin it too.
use Rattle.std.proofs.Common.{ℕ, zero, suc, ◌≤◌, List, length, arith, ◌⊎◌, inl, inr}
use Rattle.dp_lex.specs.Token.{Lexeme}
use Rattle.dp_parse.specs.Rules.{Nonterminal, Part}
use Rattle.dp_parse.specs.Begins.{Begins, BeginsParts}
use Rattle.dp_parse.specs.Begins as begins
use Rattle.dp_parse.proofs.Spans.{Back, here, further, back_order, back_same, Spans, SpansParts, by, end, token, part, derived_spans, spans_back}

order : (x middle : List Lexeme) → (length middle ≤ length x) ⊎ (length x ≤ length middle)
order x middle = by_test (length middle) (length x)
  where
    by_test : (a b : ℕ) → (a ≤ b) ⊎ (b ≤ a)
    by_test zero b = inl (omega arith)
    by_test (suc a) zero = inr (omega arith)
    by_test (suc a) (suc b) = next (by_test a b)
      where
        next : (a ≤ b) ⊎ (b ≤ a) → (suc a ≤ suc b) ⊎ (suc b ≤ suc a)
        next (inl h) = inl (omega arith)
        next (inr h) = inr (omega arith)

mutual
  spans_front : {n : Nonterminal} {from to : List Lexeme} → Spans n from to → (x : List Lexeme) → Back from x → length to ≤ length x → Begins n from x
  spans_front (by r s) x b le = begins.by r (parts_front s x b le)

  parts_front : {parts : List Part} {from to : List Lexeme} → SpansParts parts from to → (x : List Lexeme) → Back from x → length to ≤ length x →
      BeginsParts parts from x
  parts_front (end {to}) x b le = let same = back_same b le in rw same begins.none
  parts_front (token a s) x here le = begins.none
  parts_front (token a s) x (further b) le = begins.token a (parts_front s x b le)
  parts_front (part {middle} d s rest) x b le =
      elim (order x middle) [ inl h ↦ begins.within (spans_front s x b h) | inr h ↦ begins.past d (parts_front rest x (back_order (spans_back s) b h) le) ]

mutual
  -- the first tokens begin the same
  pub front : {n : Nonterminal} {from to : List Lexeme} → Begins n from to → (x : List Lexeme) → Back from x → length to ≤ length x → Begins n from x
  front (begins.nothing {to}) x b le = let same = back_same b le in rw same begins.nothing
  front (begins.by r s) x b le = begins.by r (front_parts s x b le)

  front_parts : {parts : List Part} {from to : List Lexeme} → BeginsParts parts from to → (x : List Lexeme) → Back from x → length to ≤ length x →
      BeginsParts parts from x
  front_parts (begins.none {to}) x b le = let same = back_same b le in rw same begins.none
  front_parts (begins.within s) x b le = begins.within (front s x b le)
  front_parts (begins.token a s) x here le = begins.none
  front_parts (begins.token a s) x (further b) le = begins.token a (front_parts s x b le)
  front_parts (begins.past {n} {from = from} {middle = middle} d rest) x b le =
      let s = derived_spans n {from = from} {to = middle} d in
      elim (order x middle) [ inl h ↦ begins.within (spans_front s x b h) | inr h ↦ begins.past d (front_parts rest x (back_order (spans_back s) b h) le) ]
