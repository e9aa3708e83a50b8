-- Where a step of the descent is stuck, the tokens before that place begin the part that it reads.
use Rattle.std.proofs.Common.{◌≡◌, refl, ap, ◌∙◌, sym, ℕ, zero, suc, Bool, true, false, List, [], ◌∷◌, ◌++◌, Option, Some, None, ◌⊎◌, inl, inr, Ok, Err, ℤ}
use Rattle.dp_lex.specs.Token.{Lexeme}
use Rattle.dp_tokens.specs.declared.symbol.Symbol.{Symbol}
use Rattle.dp_tokens.specs.declared.symbol.Symbol.TheVariants.{Name, End, Comma}
use Rattle.dp_tokens.specs.Symbols.{symbol, symbol_at, Is}
use Rattle.dp_parse.specs.Rules.{Nonterminal, Part, Word, Number, Of}
use Rattle.dp_parse.specs.Begins.{Allows, Derived, Begins, BeginsParts, nothing, none, within, token, past}
use Rattle.dp_tokens.specs.Steps.{Outcome, Parser, parse_then, ◌>>=◌, pure, same_symbol, expect, eat, sees_symbol, after, many, many_by, separated}
use Rattle.dp_tokens.specs.Steps.{separated_by}
use Rattle.dp_tokens.specs.Steps as step
use Rattle.dp_tokens.specs.Numbers as numbers
use Rattle.dp_parse.proofs.StepLemmas.{pair, took, taking, same_is, differs, after_is, after_other}
use Rattle.dp_parse.proofs.LeafLemmas.{read_name, read_number}

-- what stands before the place begins the parts
abbrev pub Fails : {A : Type 0} → Parser A → List Part → Type 0
Fails p parts = (from to : List Lexeme) → p from ≡ Err to → BeginsParts parts from to

-- what reads one part
pub record Reader {A : Type 0} (p : Parser A) (part : Part) : Type 0 where
  pub stuck : (parts : List Part) (from to : List Lexeme) → p from ≡ Err to → BeginsParts (part ∷ parts) from to
  pub passes : (parts : List Part) (from middle to : List Lexeme) (a : A) → p from ≡ Ok (a, middle) → BeginsParts parts middle to →
      BeginsParts (part ∷ parts) from to

module _ {A B : Type 0} {p : Parser A} {part : Part} {parts : List Part} (r : Reader p part) (f : A → Parser B) (g : (a : A) → Fails (f a) parts) where
  seq_by : (from to : List Lexeme) (o : Outcome A) → p from ≡ o → parse_then o f ≡ Err to → BeginsParts (part ∷ parts) from to
  seq_by from to (Ok x) is e = r.passes parts from x.1 to x.0 is (g x.0 x.1 to e)
  seq_by from to (Err left) is e = let same : left ≡ to = cc e in r.stuck parts from to (is ∙ ap Err same)

  -- one part and then the others
  pub seq : Fails (p >>= f) (part ∷ parts)
  seq from to e = seq_by from to (p from) refl e

-- a relation for what is stuck in a step, and for what is stuck behind it
module _ {A B : Type 0} (p : Parser A) (f : A → Parser B) (R : List Lexeme → List Lexeme → Type 0)
    (stuck : (from to : List Lexeme) → p from ≡ Err to → R from to)
    (behind : (from middle to : List Lexeme) (a : A) → p from ≡ Ok (a, middle) → f a middle ≡ Err to → R from to) where
  cases_by : (from to : List Lexeme) (o : Outcome A) → p from ≡ o → parse_then o f ≡ Err to → R from to
  cases_by from to (Ok x) is e = behind from x.1 to x.0 is e
  cases_by from to (Err left) is e = let same : left ≡ to = cc e in stuck from to (is ∙ ap Err same)

  pub cases : (from to : List Lexeme) → (p >>= f) from ≡ Err to → R from to
  cases from to e = cases_by from to (p from) refl e

pub done : {A : Type 0} {a : A} {parts : List Part} → Fails (pure a) parts
done from to e = absurd (cc)

stuck_by : (b : Bool) (u : Lexeme) (us to : List Lexeme) → taking b u us ≡ Err to → u ∷ us ≡ to
stuck_by true u us to e = absurd (cc)
stuck_by false u us to e = cc e

pub expect_stuck : (s : Symbol) (ts to : List Lexeme) → expect s ts ≡ Err to → ts ≡ to
unfolding expect
expect_stuck s [] to e = cc e
expect_stuck s (u ∷ us) to e = stuck_by (same_symbol (symbol u) s) u us to e

-- nothing was read yet
pub here : {parts : List Part} {from to : List Lexeme} → from ≡ to → BeginsParts parts from to
here e = rw e none

pub token_at : {p : Part} {parts : List Part} {t : Lexeme} {from middle to : List Lexeme} → from ≡ t ∷ middle → Allows p t → BeginsParts parts middle to →
    BeginsParts (p ∷ parts) from to
token_at e a b = rw e (token a b)

pub word : (s : Symbol) → Reader (expect s) (Word s)
word s = record {
  stuck = λ parts from to e. rw (expect_stuck s from to e) none;
  passes = λ parts from middle to a e b. let t = took s from a middle e in rw t.splits (token t.is b);
}

named_by : (from to : List Lexeme) (o : Outcome Lexeme) → expect Name from ≡ o → parse_then o (λ t. pure (Rattle.dp_tokens.specs.Leaves.name_of t))
    ≡ Err to → from ≡ to
named_by from to (Ok x) is e = absurd (cc)
named_by from to (Err left) is e = let same : left ≡ to = cc e in expect_stuck Name from to (is ∙ ap Err same)

pub name_stuck : (from to : List Lexeme) → step.name from ≡ Err to → from ≡ to
unfolding step.name
name_stuck from to e = named_by from to (expect Name from) refl e

pub called : Reader step.name (Word Name)
called = record {
  stuck = λ parts from to e. rw (name_stuck from to e) none;
  passes = λ parts from middle to a e b. let n = read_name from middle a e in rw n.splits (token n.is b);
}

number_by : (from to : List Lexeme) (o : Option ℤ) → numbers.number_by o from ≡ Err to → from ≡ to
number_by from to None e = cc e
number_by from to (Some z) e = absurd (cc)

pub number_stuck : (from to : List Lexeme) → numbers.number from ≡ Err to → from ≡ to
unfolding numbers.number
number_stuck from to e = number_by from to (numbers.number_in_front from) e

pub counted : Reader numbers.number Number
counted = record {
  stuck = λ parts from to e. rw (number_stuck from to e) none;
  passes = λ parts from middle to a e b. let n = read_number from middle a e in rw n.splits (token {p = Number} (n.value, n.is) b);
}

pub reader : {A : Type 0} (n : Nonterminal) (p : Parser A) → ((from to : List Lexeme) (a : A) → p from ≡ Ok (a, to) → Derived n from to) →
    ((from to : List Lexeme) → p from ≡ Err to → Begins n from to) → Reader p (Of n)
reader n p sound fails = record {
  stuck = λ parts from to e. within (fails from to e);
  passes = λ parts from middle to a e b. past (sound from middle a e) b;
}

-- after an `eat`: the symbol was passed, or it didn't come next
pub data Eaten {B : Type 0} (s : Symbol) (f : Bool → Parser B) (ts : List Lexeme) (o : Outcome B) : Type 0 where
  passed : (t : Lexeme) (middle : List Lexeme) → Is s t → ts ≡ t ∷ middle → f true middle ≡ o → Eaten s f ts o
  stayed : (symbol_at ts ≡ s → ⊥) → f false ts ≡ o → Eaten s f ts o

module _ {B : Type 0} (s : Symbol) (f : Bool → Parser B) where
  eaten_by : (o : Outcome B) (ts : List Lexeme) (real : End ≡ s → ⊥) (there : Bool) → sees_symbol s ts ≡ there → f there (after s ts) ≡ o → Eaten s f ts o
  unfolding sees_symbol symbol_at
  eaten_by o [] real true h e = absurd (real (same_is End s h))
  eaten_by o (t ∷ ts) real true h e =
      let is : Is s t = same_is (symbol t) s h in passed t ts is refl (ap (f true) (sym (after_is s t ts is)) ∙ e)
  eaten_by o ts real false h e = stayed (differs (symbol_at ts) s h) (ap (f false) (sym (after_other s ts h)) ∙ e)

  pub eaten : (o : Outcome B) (ts : List Lexeme) (real : End ≡ s → ⊥) → (eat s >>= f) ts ≡ o → Eaten s f ts o
  eaten o ts real e = eaten_by o ts real (sees_symbol s ts) refl e

pub refused : {A : Type 0} {n : Nonterminal} (from to : List Lexeme) → step.refuse {A = A} from ≡ Err to → Begins n from to
refused from to e = let same : from ≡ to = cc e in rw same nothing

-- a reader of the whole parts, of which only the value is changed
module _ {A B : Type 0} {p : Parser A} {parts : List Part} (fails : Fails p parts) (f : A → B) where
  mapped_by : (from to : List Lexeme) (o : Outcome A) → p from ≡ o → parse_then o (λ x. pure (f x)) ≡ Err to → BeginsParts parts from to
  mapped_by from to (Ok x) is e = absurd (cc e)
  mapped_by from to (Err left) is e = let same : left ≡ to = cc e in fails from to (is ∙ ap Err same)

  pub mapped : Fails (p >>= (λ x. pure (f x))) parts
  mapped from to e = mapped_by from to (p from) refl e

-- a reader of several parts, before others
module _ {A B C : Type 0} (f : A → Parser B) (g : B → Parser C) where
  grouped_by : (o : Outcome A) → parse_then (parse_then o f) g ≡ parse_then o (λ x. f x >>= g)
  grouped_by (Ok x) = refl
  grouped_by (Err left) = refl

  pub grouped : (p : Parser A) (ts : List Lexeme) → ((p >>= f) >>= g) ts ≡ (p >>= (λ x. f x >>= g)) ts
  grouped p ts = grouped_by (p ts)

pub regroup : {A B C : Type 0} (p : Parser A) (f : A → Parser B) (g : B → Parser C) {parts : List Part} → Fails (p >>= (λ x. f x >>= g)) parts →
    Fails ((p >>= f) >>= g) parts
regroup p f g fails from to e = fails from to (sym (grouped f g p from) ∙ e)

pub alone_by : {A : Type 0} (o : Outcome A) → parse_then o (λ x. pure x) ≡ o
alone_by (Ok x) = refl
alone_by (Err left) = refl

-- .. or before nothing
pub alone : {A : Type 0} (p : Parser A) {parts : List Part} → Fails (p >>= (λ x. pure x)) parts → Fails p parts
alone p fails from to e = fails from to (alone_by (p from) ∙ e)

-- what stands before the place begins one of two lists of parts
abbrev pub FailsOr : {A : Type 0} → Parser A → List Part → List Part → Type 0
FailsOr p a b = (from to : List Lexeme) → p from ≡ Err to → BeginsParts a from to ⊎ BeginsParts b from to

module _ {A B : Type 0} {p : Parser A} {part : Part} {a b : List Part} (r : Reader p part) (f : A → Parser B) (g : (x : A) → FailsOr (f x) a b) where
  or_by : (from middle to : List Lexeme) (x : A) → p from ≡ Ok (x, middle) → BeginsParts a middle to ⊎ BeginsParts b middle to → BeginsParts (part ∷ a) from to
      ⊎ BeginsParts (part ∷ b) from to
  or_by from middle to x is (inl d) = inl (r.passes a from middle to x is d)
  or_by from middle to x is (inr d) = inr (r.passes b from middle to x is d)

  seq_or_by : (from to : List Lexeme) (o : Outcome A) → p from ≡ o → parse_then o f ≡ Err to → BeginsParts (part ∷ a) from to ⊎ BeginsParts (part ∷ b) from to
  seq_or_by from to (Ok x) is e = or_by from x.1 to x.0 is (g x.0 x.1 to e)
  seq_or_by from to (Err left) is e = let same : left ≡ to = cc e in inl (r.stuck a from to (is ∙ ap Err same))

  pub seq_or : FailsOr (p >>= f) (part ∷ a) (part ∷ b)
  seq_or from to e = seq_or_by from to (p from) refl e

-- ---- lists: the first part is stuck, or one behind others

module _ {A : Type 0} (n : Nonterminal) (item : Parser A) (first : (from to : List Lexeme) → item from ≡ Err to → Begins n from to) where
  module _ (stops : List Lexeme → Bool)
      (next : (from middle to : List Lexeme) (x : A) → item from ≡ Ok (x, middle) → Begins n middle to → Begins n from to) where
    many_at : (again : List A → Parser (List A)) (goes : (found : List A) (from to : List Lexeme) → again found from ≡ Err to → Begins n from to)
        (found : List A) (from to : List Lexeme) (b : Bool) → many_by item again found b from ≡ Err to → Begins n from to
    many_at again goes found from to true h = absurd (cc h)
    many_at again goes found from to false h =
        cases item (λ x. again (found ++ x ∷ [])) (Begins n) first (λ from middle to x e f. next from middle to x e
        (goes (found ++ x ∷ []) middle to f)) from to h

    pub many_stuck : (k : ℕ) (found : List A) (from to : List Lexeme) → many stops item k found from ≡ Err to → Begins n from to
    unfolding many
    many_stuck zero found from to h = refused from to h
    many_stuck (suc k) found from to h = many_at (many stops item k) (many_stuck k) found from to (stops from) h

  -- with commas between them
  module _ (next : (from left to : List Lexeme) (t : Lexeme) (x : A) → item from ≡ Ok (x, t ∷ left) → Is Comma t → Begins n left to → Begins n from to) where
    next_at : (again : List A → Parser (List A)) (goes : (found : List A) (from to : List Lexeme) → again found from ≡ Err to → Begins n from to)
        (from middle to : List Lexeme) (found : List A) (x : A) → item from ≡ Ok (x, middle) → Eaten Comma (separated_by again (found ++ x ∷ [])) middle
        (Err to) → Begins n from to
    next_at again goes from middle to found x e (passed t left is splits h) =
        next from left to t x (e ∙ ap (λ (ts : List Lexeme). Ok (pair x ts)) splits) is (goes (found ++ x ∷ []) left to h)
    next_at again goes from middle to found x e (stayed other h) = absurd (cc h)

    pub separated_stuck : (k : ℕ) (found : List A) (from to : List Lexeme) → separated item k found from ≡ Err to → Begins n from to
    unfolding separated
    separated_stuck zero found from to h = refused from to h
    separated_stuck (suc k) found from to h =
        cases item (λ x. eat Comma >>= separated_by (separated item k) (found ++ x ∷ [])) (Begins n) first
        (λ from middle to x e f. next_at (separated item k) (separated_stuck k) from middle to found x e
        (eaten Comma (separated_by (separated item k) (found ++ x ∷ [])) (Err to) middle (λ k. cc k) f)) from to h
