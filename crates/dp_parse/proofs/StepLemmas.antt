-- The steps of a descent: what each gives where it answers, and that it answers.
use Rattle.std.proofs.Common.{◌≡◌, refl, ap, ◌∙◌, sym, ◌≤◌, ◌<◌, length, arith, Bool, true, false, List, [], ◌∷◌, Option, Some, None, Ok, Err, if◌then◌else◌}
use denote.Enum.Bare.{same_true, true_same, false_same, same_false}
use Rattle.dp_lex.specs.Token.{Lexeme}
use Rattle.dp_tokens.specs.declared.symbol.Symbol.{Symbol}
use Rattle.dp_tokens.specs.declared.symbol.Symbol.TheVariants.{End}
use Rattle.dp_tokens.specs.contracts.symbol.Symbol as symbols
use Rattle.dp_parse.specs.declared.level.Level.{Level}
use Rattle.dp_parse.specs.contracts.level.Level as levels
use Rattle.dp_tokens.specs.Symbols.{symbol, symbol_at, Is}
use Rattle.dp_tokens.specs.Steps.{Outcome, Parser, parse_then, ◌>>=◌, pure, given, same_symbol, sees_symbol, after, rest, eat, expect}
use Rattle.dp_parse.specs.steps.Operators.{same_level}

abbrev pub pair : {A : Type 0} → A → List Lexeme → A × List Lexeme
pair a ts = (a, ts)

-- a step that answered, and the one after it
pub record Then {A B : Type 0} (o : Outcome A) (f : A → Parser B) (b : B) (left : List Lexeme) : Type 0 where
  pub value : A
  pub middle : List Lexeme
  pub first : o ≡ Ok (value, middle)
  pub second : f value middle ≡ Ok (b, left)

pub then_of : {A B : Type 0} (o : Outcome A) (f : A → Parser B) (b : B) (left : List Lexeme) → parse_then o f ≡ Ok (b, left) → Then o f b left
then_of (Ok p) f b left e = record { value = p.0; middle = p.1; first = refl; second = e }
then_of (Err stuck) f b left e = absurd (cc)

pub same_is : (a b : Symbol) → same_symbol a b ≡ true → a ≡ b
unfolding same_symbol
same_is a b e = same_true symbols.the_type tt a b e

pub is_same : (a b : Symbol) → a ≡ b → same_symbol a b ≡ true
unfolding same_symbol
is_same a b e = true_same symbols.the_type a b e

pub not_same : (a b : Symbol) → (a ≡ b → ⊥) → same_symbol a b ≡ false
unfolding same_symbol
not_same a b f = false_same symbols.the_type tt a b f

pub differs : (a b : Symbol) → same_symbol a b ≡ false → a ≡ b → ⊥
unfolding same_symbol
differs a b e = same_false symbols.the_type a b e

pub level_is : (a b : Level) → same_level a b ≡ true → a ≡ b
unfolding same_level
level_is a b e = same_true levels.the_type tt a b e

pub same_levels : (a b : Level) → a ≡ b → same_level a b ≡ true
unfolding same_level
same_levels a b e = true_same levels.the_type a b e

pub other_levels : (a b : Level) → (a ≡ b → ⊥) → same_level a b ≡ false
unfolding same_level
other_levels a b f = false_same levels.the_type tt a b f

-- the token was the symbol
pub record Took (s : Symbol) (ts : List Lexeme) (t : Lexeme) (left : List Lexeme) : Type 0 where
  pub is : Is s t
  pub splits : ts ≡ t ∷ left

-- what `expect` answers by its test
abbrev pub taking : Bool → Lexeme → List Lexeme → Outcome Lexeme
taking b u us = if b then Ok (u, us) else Err (u ∷ us)

module _ {A : Type 0} where
  abbrev both : A → List Lexeme → A × List Lexeme
  both a x = (a, x)

  abbrev read_as : A → List Lexeme → Outcome A
  read_as a x = Ok (both a x)

  -- what is equal in two outcomes
  pub same_pair : {a b : A} {x y : List Lexeme} → read_as a x ≡ read_as b y → (a ≡ b) × (x ≡ y)
  same_pair {a} {b} {x} {y} e = let h : both a x ≡ both b y = cc e in (ap (λ p. p.0) h, ap (λ p. p.1) h)

took_by : (s : Symbol) (u : Lexeme) (us : List Lexeme) (t : Lexeme) (left : List Lexeme) (b : Bool) → same_symbol (symbol u) s ≡ b →
    taking b u us ≡ Ok (t, left) → Took s (u ∷ us) t left
took_by s u us t left true same e =
    let parts : (u ≡ t) × (us ≡ left) = same_pair e in
    record { is = ap symbol (sym parts.0) ∙ same_is (symbol u) s same; splits = cc (parts.0, parts.1) }
took_by s u us t left false same e = absurd (cc)

pub took : (s : Symbol) (ts : List Lexeme) (t : Lexeme) (left : List Lexeme) → expect s ts ≡ Ok (t, left) → Took s ts t left
unfolding expect
took s [] t left e = absurd (cc)
took s (u ∷ us) t left e = took_by s u us t left (same_symbol (symbol u) s) refl e

-- a symbol was expected there and came, and what follows it answered
pub record Takes {B : Type 0} (s : Symbol) (ts : List Lexeme) (f : Lexeme → Parser B) (b : B) (left : List Lexeme) : Type 0 where
  pub value : Lexeme
  pub middle : List Lexeme
  pub is : Is s value
  pub splits : ts ≡ value ∷ middle
  pub second : f value middle ≡ Ok (b, left)

pub takes : {B : Type 0} (s : Symbol) (ts : List Lexeme) (f : Lexeme → Parser B) (b : B) (left : List Lexeme) →
    parse_then (expect s ts) f ≡ Ok (b, left) → Takes s ts f b left
takes s ts f b left e =
    let o = then_of (expect s ts) f b left e in let t = took s ts o.value o.middle o.first in
    record { value = o.value; middle = o.middle; is = t.is; splits = t.splits; second = o.second }

pub expects : (s : Symbol) (t : Lexeme) (ts : List Lexeme) → Is s t → expect s (t ∷ ts) ≡ Ok (t, ts)
unfolding expect
expects s t ts h = ap (λ (b : Bool). taking b t ts) (is_same (symbol t) s h)

-- what an `eat` tells
pub sees_is : (s : Symbol) (t : Lexeme) (ts : List Lexeme) → Is s t → sees_symbol s (t ∷ ts) ≡ true
unfolding sees_symbol symbol_at
sees_is s t ts h = is_same (symbol t) s h

pub sees_other : (s : Symbol) (ts : List Lexeme) → (symbol_at ts ≡ s → ⊥) → sees_symbol s ts ≡ false
unfolding sees_symbol
sees_other s ts f = not_same (symbol_at ts) s f

pub after_is : (s : Symbol) (t : Lexeme) (ts : List Lexeme) → Is s t → after s (t ∷ ts) ≡ ts
unfolding after rest
after_is s t ts h = ap (λ (b : Bool). if b then ts else t ∷ ts) (sees_is s t ts h)

pub after_other : (s : Symbol) (ts : List Lexeme) → sees_symbol s ts ≡ false → after s ts ≡ ts
unfolding after
after_other s ts h = ap (λ (b : Bool). if b then rest ts else ts) h

-- after an `eat`: the symbol was passed, or it didn't come next
pub data Ate {B : Type 0} (s : Symbol) (f : Bool → Parser B) (ts : List Lexeme) (b : B) (left : List Lexeme) : Type 0 where
  passed : (t : Lexeme) (middle : List Lexeme) → Is s t → ts ≡ t ∷ middle → f true middle ≡ Ok (b, left) → Ate s f ts b left
  stayed : (symbol_at ts ≡ s → ⊥) → f false ts ≡ Ok (b, left) → Ate s f ts b left

module _ {B : Type 0} (s : Symbol) (f : Bool → Parser B) where
  ate_by : (b : B) (left ts : List Lexeme) (real : End ≡ s → ⊥) (there : Bool) → sees_symbol s ts ≡ there →
      f there (after s ts) ≡ Ok (b, left) → Ate s f ts b left
  unfolding sees_symbol symbol_at
  ate_by b left [] real true h e = absurd (real (same_is End s h))
  ate_by b left (t ∷ ts) real true h e =
      let is : Is s t = same_is (symbol t) s h in passed t ts is refl (ap (f true) (sym (after_is s t ts is)) ∙ e)
  ate_by b left ts real false h e = stayed (differs (symbol_at ts) s h) (ap (f false) (sym (after_other s ts h)) ∙ e)

  pub ate : (b : B) (left ts : List Lexeme) (real : End ≡ s → ⊥) → (eat s >>= f) ts ≡ Ok (b, left) → Ate s f ts b left
  ate b left ts real e = ate_by b left ts real (sees_symbol s ts) refl e

  pub eats : (t : Lexeme) (ts : List Lexeme) → Is s t → (eat s >>= f) (t ∷ ts) ≡ f true ts
  eats t ts h = ap (λ (b : Bool). f b (after s (t ∷ ts))) (sees_is s t ts h) ∙ ap (f true) (after_is s t ts h)

  pub stays : (ts : List Lexeme) → (symbol_at ts ≡ s → ⊥) → (eat s >>= f) ts ≡ f false ts
  stays ts h = ap (λ (b : Bool). f b (after s ts)) (sees_other s ts h) ∙ ap (f false) (after_other s ts (sees_other s ts h))

module _ {A : Type 0} where
  abbrev pub Sound : Parser A → (List Lexeme → List Lexeme → A → Type 0) → Type 0
  Sound p R = (from to : List Lexeme) (a : A) → p from ≡ Ok (a, to) → R from to a

  -- what `given` gives
  pub gave : (o : Option A) (a : A) (ts left : List Lexeme) → given o ts ≡ Ok (a, left) → (o ≡ Some a) × (ts ≡ left)
  gave None a ts left e = absurd (cc)
  gave (Some b) a ts left e = let parts = same_pair {a = b} {b = a} {x = ts} {y = left} e in (ap Some parts.0, parts.1)

-- what stands before a symbol that closes it
pub record Closed {A B : Type 0} (p : Parser A) (s : Symbol) (f : A → B) (b : B) (from to : List Lexeme) : Type 0 where
  pub value : A
  pub closing : Lexeme
  pub first : p from ≡ Ok (value, closing ∷ to)
  pub is : Is s closing
  pub made : b ≡ f value

module _ {A B : Type 0} where
  pub closed : (p : Parser A) (s : Symbol) (f : A → B) (b : B) (from to : List Lexeme) → (p >>= (λ x. expect s >>= (λ _. pure (f x)))) from ≡ Ok (b, to) →
      Closed p s f b from to
  closed p s f b from to e =
      let h = then_of (p from) (λ x. expect s >>= (λ _. pure (f x))) b to e in
      let g = takes s h.middle (λ _. pure (f h.value)) b to h.second in
      let parts = same_pair {a = f h.value} {b = b} {x = g.middle} {y = to} g.second in
      record {
        value = h.value;
        closing = g.value;
        first = h.first ∙ ap (λ (ts : List Lexeme). Ok (both h.value ts)) (g.splits ∙ ap (λ (ts : List Lexeme). g.value ∷ ts) parts.1);
        is = g.is;
        made = sym parts.0;
      }

after-le_by : (ts : List Lexeme) (b : Bool) → length (if b then rest ts else ts) ≤ length ts
unfolding rest
after-le_by [] true = omega arith
after-le_by (t ∷ ts) true = omega arith
after-le_by ts false = omega arith

-- passing a symbol leaves no more tokens
pub after-le : (s : Symbol) (ts : List Lexeme) → length (after s ts) ≤ length ts
unfolding after
after-le s ts = after-le_by ts (sees_symbol s ts)

pub rest-le : (ts : List Lexeme) → length (rest ts) ≤ length ts
unfolding rest
rest-le [] = omega arith
rest-le (t ∷ ts) = omega arith

module _ {A : Type 0} where
  -- a derivation along equations
  pub moved : (R : List Lexeme → List Lexeme → A → Type 0) {from other to left : List Lexeme} {a b : A} → from ≡ other → to ≡ left → a ≡ b →
      R other left b → R from to a
  moved R p q r d = rw (p, q, r) d

pub taken : (t : Lexeme) {ts us : List Lexeme} → ts ≡ us → t ∷ ts ≡ t ∷ us
taken t e = ap (λ (xs : List Lexeme). t ∷ xs) e

pub saw : (s : Symbol) (ts : List Lexeme) → sees_symbol s ts ≡ true → symbol_at ts ≡ s
unfolding sees_symbol
saw s ts h = same_is (symbol_at ts) s h

-- what was seen is a token
pub seen_some : (s : Symbol) (ts : List Lexeme) → (End ≡ s → ⊥) → sees_symbol s ts ≡ true → 0 < length ts
unfolding sees_symbol symbol_at
seen_some s [] real h = absurd (real (same_is End s h))
seen_some s (t ∷ ts) real h = omega arith

-- a token with another symbol than this one
pub unlike : (t : Lexeme) (ts : List Lexeme) (s k : Symbol) → Is s t → (s ≡ k → ⊥) → symbol_at (t ∷ ts) ≡ k → ⊥
unfolding symbol_at
unlike t ts s k h f at = f (sym h ∙ at)
