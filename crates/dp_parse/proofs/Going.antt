-- The same relation without the lists of no token: each part that is begun has a token.
use Rattle.std.proofs.Common.{◌≡◌, refl, ap, ◌<◌, ◌⊎◌, inl, inr, true, List, [], ◌∷◌, length, arith}
use Rattle.dp_lex.specs.Token.{Lexeme}
use Rattle.dp_tokens.specs.declared.symbol.Symbol.{Symbol}
use Rattle.dp_tokens.specs.Symbols.{symbol_at, Is}
use Rattle.dp_parse.specs.Rules.{Nonterminal, Part, Word, Number, Length, Zero, Of, Rule}
use Rattle.dp_parse.specs.Begins.{Allows, Derived, Begins, BeginsParts}
use Rattle.dp_parse.specs.Begins as begins
use Rattle.dp_parse.proofs.Spans.{Spans, SpansParts, derived_spans, solid, shorter}
use Rattle.dp_parse.proofs.Spans as spans

mutual
  pub data Goes : Nonterminal → List Lexeme → List Lexeme → Type 0 where
    by : {n : Nonterminal} {p : Part} {parts : List Part} {from to : List Lexeme} → Rule n (p ∷ parts) → GoesParts (p ∷ parts) from to → Goes n from to

  -- with one constructor for each kind of part, so that a match on them has the cases that a rule has
  pub data GoesParts : List Part → List Lexeme → List Lexeme → Type 0 where
    last : {s : Symbol} {parts : List Part} {t : Lexeme} {to : List Lexeme} → Is s t → GoesParts (Word s ∷ parts) (t ∷ to) to
    token : {s : Symbol} {p : Part} {parts : List Part} {t : Lexeme} {from to : List Lexeme} → Is s t → GoesParts (p ∷ parts) from to →
        GoesParts (Word s ∷ p ∷ parts) (t ∷ from) to
    last_number : {parts : List Part} {t : Lexeme} {to : List Lexeme} → Allows Number t → GoesParts (Number ∷ parts) (t ∷ to) to
    next_number : {p : Part} {parts : List Part} {t : Lexeme} {from to : List Lexeme} → Allows Number t → GoesParts (p ∷ parts) from to →
        GoesParts (Number ∷ p ∷ parts) (t ∷ from) to
    last_size : {parts : List Part} {t : Lexeme} {to : List Lexeme} → Allows Length t → GoesParts (Length ∷ parts) (t ∷ to) to
    next_size : {p : Part} {parts : List Part} {t : Lexeme} {from to : List Lexeme} → Allows Length t → GoesParts (p ∷ parts) from to →
        GoesParts (Length ∷ p ∷ parts) (t ∷ from) to
    last_zero : {parts : List Part} {t : Lexeme} {to : List Lexeme} → Allows Zero t → GoesParts (Zero ∷ parts) (t ∷ to) to
    next_zero : {p : Part} {parts : List Part} {t : Lexeme} {from to : List Lexeme} → Allows Zero t → GoesParts (p ∷ parts) from to →
        GoesParts (Zero ∷ p ∷ parts) (t ∷ from) to
    within : {n : Nonterminal} {parts : List Part} {from to : List Lexeme} → Goes n from to → GoesParts (Of n ∷ parts) from to
    past : {n : Nonterminal} {p : Part} {parts : List Part} {from middle to : List Lexeme} → Derived n from middle → GoesParts (p ∷ parts) middle to →
        GoesParts (Of n ∷ p ∷ parts) from to

abbrev pub OrNone : List Lexeme → List Lexeme → Type 0 → Type 0
OrNone from to R = (from ≡ to) ⊎ R

-- the first symbol of what goes on with a word
pub word_first : {s : Symbol} {parts : List Part} {from to : List Lexeme} → GoesParts (Word s ∷ parts) from to → symbol_at from ≡ s
unfolding symbol_at
word_first (last a) = a
word_first (token a g) = a

pub no_goes : {from to : List Lexeme} → GoesParts [] from to → ⊥
no_goes g = elim g [ ]

by_rule : {n : Nonterminal} {parts : List Part} {from to : List Lexeme} → Rule n parts → OrNone from to (GoesParts parts from to) →
    OrNone from to (Goes n from to)
by_rule r (inl e) = inl e
by_rule {parts = []} r (inr g) = absurd (no_goes g)
by_rule {parts = p ∷ parts} r (inr g) = inr (by r g)

inside : {n : Nonterminal} {parts : List Part} {from to : List Lexeme} → OrNone from to (Goes n from to) → OrNone from to (GoesParts (Of n ∷ parts) from to)
inside (inl e) = inl e
inside (inr g) = inr (within g)

alone : (p : Part) {parts : List Part} {t : Lexeme} {to : List Lexeme} → Allows p t → GoesParts (p ∷ parts) (t ∷ to) to
alone (Word s) a = last a
alone Number a = last_number a
alone Length a = last_size a
alone Zero a = last_zero a
alone (Of n) a = absurd a

before : (p : Part) {q : Part} {parts : List Part} {t : Lexeme} {from to : List Lexeme} → Allows p t → GoesParts (q ∷ parts) from to →
    GoesParts (p ∷ q ∷ parts) (t ∷ from) to
before (Word s) a g = token a g
before Number a g = next_number a g
before Length a g = next_size a g
before Zero a g = next_zero a g
before (Of n) a g = absurd a

one_token : {p : Part} {parts : List Part} {t : Lexeme} {from to : List Lexeme} → Allows p t → OrNone from to (GoesParts parts from to) →
    GoesParts (p ∷ parts) (t ∷ from) to
one_token {p} {parts} {t} {from} {to} a (inl e) = rw e (alone p {parts = parts} {t = t} {to = to} a)
one_token {parts = []} a (inr g) = absurd (no_goes g)
one_token {p} {parts = q ∷ parts} a (inr g) = before p a g

derived_then : {n : Nonterminal} {parts : List Part} {from middle to : List Lexeme} → Derived n from middle → OrNone from middle (Goes n from middle) →
    OrNone middle to (GoesParts parts middle to) →
    OrNone from to (GoesParts (Of n ∷ parts) from to)
derived_then {n} {parts} {from} {middle} {to} d h (inl e) = rw (← e) (inside h)
derived_then {parts = []} d h (inr g) = absurd (no_goes g)
derived_then {parts = p ∷ parts} d h (inr g) = inr (past d g)

-- ---- what is derived goes to its end

mutual
  spans_go : {n : Nonterminal} {from to : List Lexeme} → Spans n from to → OrNone from to (Goes n from to)
  spans_go (spans.by r s) = by_rule r (parts_go s)

  parts_go : {parts : List Part} {from to : List Lexeme} → SpansParts parts from to → OrNone from to (GoesParts parts from to)
  parts_go spans.end = inl refl
  parts_go (spans.token a s) = inr (one_token a (parts_go s))
  parts_go (spans.part d s rest) = derived_then d (spans_go s) (parts_go rest)

some : {n : Nonterminal} {from to : List Lexeme} → length to < length from → OrNone from to (Goes n from to) → Goes n from to
some less (inl e) = let same = ap length e in absurd (omega arith)
some less (inr g) = g

pub goes_whole : (n : Nonterminal) {from to : List Lexeme} → solid n ≡ true → Derived n from to → Goes n from to
goes_whole n {from} {to} h d = some (shorter n from to h d) (spans_go (derived_spans n {from = from} {to = to} d))

-- ---- what begins goes there

mutual
  pub normal : {n : Nonterminal} {from to : List Lexeme} → Begins n from to → OrNone from to (Goes n from to)
  normal begins.nothing = inl refl
  normal (begins.by r b) = by_rule r (normal_parts b)

  normal_parts : {parts : List Part} {from to : List Lexeme} → BeginsParts parts from to → OrNone from to (GoesParts parts from to)
  normal_parts begins.none = inl refl
  normal_parts (begins.within b) = inside (normal b)
  normal_parts (begins.token a b) = inr (one_token a (normal_parts b))
  normal_parts (begins.past {n} {from = from} {middle = middle} d b) =
      derived_then d (spans_go (derived_spans n {from = from} {to = middle} d)) (normal_parts b)
