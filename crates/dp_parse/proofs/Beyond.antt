-- A step of the descent gets at least to the end of what begins its part, whether it answers or is stuck.
use Rattle.std.proofs.Common.{◌≡◌, refl, ap, ℕ, zero, suc, ◌≤◌, Bool, true, false, List, [], ◌∷◌, ◌++◌, length, Ok, Err, arith}
use Rattle.dp_lex.specs.Token.{Lexeme}
use Rattle.dp_tree.specs.declared.raw.Name.{Name as TreeName}
use Rattle.dp_tokens.specs.declared.symbol.Symbol.{Symbol}
use Rattle.dp_tokens.specs.declared.symbol.Symbol.TheVariants.{Name, Comma}
use Rattle.dp_parse.specs.Rules.{Nonterminal, Part, Word, Of}
use Rattle.dp_parse.specs.Begins.{Derived, Begins, BeginsParts}
use Rattle.dp_parse.specs.Begins as begins
use Rattle.dp_tokens.specs.Steps.{Outcome, Parser, parse_then, ◌>>=◌, pure, expect, eat, sees_symbol, after}
use Rattle.dp_tokens.specs.Symbols.{Is}
use Rattle.dp_tokens.specs.Steps as step
use Rattle.dp_tokens.specs.Numbers as numbers
use Rattle.dp_parse.proofs.StepLemmas.{expects, took, after-le}
use Rattle.dp_parse.proofs.LeafLemmas.{reads_name, read_name, read_number}
use Rattle.dp_parse.proofs.Spans.{no_longer}
use Rattle.dp_parse.proofs.Stuck.{expect_stuck, name_stuck, number_stuck}
use Rattle.dp_parse.proofs.Going.{Goes, GoesParts, last, token, within, past, no_goes}

-- no more is left than these
abbrev pub Beyond : {A : Type 0} → Outcome A → List Lexeme → Type 0
Beyond (Ok p) to = length p.1 ≤ length to
Beyond (Err left) to = length left ≤ length to

abbrev pub Shrinks : {A : Type 0} → Parser A → Type 0
Shrinks p = (from : List Lexeme) → Beyond (p from) from

mutual
  pub begins_shorter : {n : Nonterminal} {from to : List Lexeme} → Begins n from to → length to ≤ length from
  begins_shorter begins.nothing = omega arith
  begins_shorter (begins.by r b) = parts_shorter b

  parts_shorter : {parts : List Part} {from to : List Lexeme} → BeginsParts parts from to → length to ≤ length from
  parts_shorter begins.none = omega arith
  parts_shorter (begins.within b) = begins_shorter b
  parts_shorter (begins.token a b) = let h = parts_shorter b in omega arith
  parts_shorter (begins.past {n} {from = from} {middle = middle} d b) = let a = no_longer n from middle d in let h = parts_shorter b in omega arith

-- what is stuck at its first token or behind it, and answers behind it, takes no tokens back
module _ {A : Type 0} (p : Parser A) (ok : (from to : List Lexeme) (a : A) → p from ≡ Ok (a, to) → length to ≤ length from)
    (stuck : (from to : List Lexeme) → p from ≡ Err to → length to ≤ length from) where
  shrinks_by : (from : List Lexeme) (o : Outcome A) → p from ≡ o → Beyond o from
  shrinks_by from (Ok x) is = ok from x.1 x.0 is
  shrinks_by from (Err left) is = stuck from left is

  pub shrinks_if : Shrinks p
  shrinks_if from = shrinks_by from (p from) refl

-- .. such as what reads a nonterminal, and is stuck only behind what begins it
pub shrinks_as : {A : Type 0} (n : Nonterminal) (p : Parser A) → ((from to : List Lexeme) (a : A) → p from ≡ Ok (a, to) → Derived n from to) →
    ((from to : List Lexeme) → p from ≡ Err to → Begins n from to) → Shrinks p
shrinks_as n p sound fails = shrinks_if p (λ from to a is. no_longer n from to (sound from to a is)) (λ from to is. begins_shorter (fails from to is))

module _ {A : Type 0} where
  pub further : (o : Outcome A) (middle to : List Lexeme) → length middle ≤ length to → Beyond o middle → Beyond o to
  further (Ok x) middle to le h = omega arith
  further (Err left) middle to le h = omega arith

  pub ok_beyond : (to : List Lexeme) {o : Outcome A} {a : A} {left : List Lexeme} → o ≡ Ok (a, left) → length left ≤ length to → Beyond o to
  ok_beyond to e le = rw e le

  pub err_beyond : (to : List Lexeme) {o : Outcome A} {left : List Lexeme} → o ≡ Err left → length left ≤ length to → Beyond o to
  err_beyond to e le = rw e le

  pub same_beyond : (to : List Lexeme) {o other : Outcome A} → o ≡ other → Beyond other to → Beyond o to
  same_beyond to e h = rw e h

module _ {A B : Type 0} (p : Parser A) (f : A → Parser B) (shrinks : (a : A) → Shrinks (f a)) where
  then_by : (o : Outcome A) (to : List Lexeme) → Beyond o to → Beyond (parse_then o f) to
  then_by (Ok x) to h = further (f x.0 x.1) x.1 to h (shrinks x.0 x.1)
  then_by (Err left) to h = h

  -- what follows takes nothing back
  pub and_on : (from to : List Lexeme) → Beyond (p from) to → Beyond ((p >>= f) from) to
  and_on from to h = then_by (p from) to h

-- ---- what reads parts, with so many tokens at most

pub record Reading {A : Type 0} (p : Parser A) (n : ℕ) (parts : List Part) : Type 0 where
  pub shrinks : Shrinks p
  pub goes : (from to : List Lexeme) → length from ≤ n → GoesParts parts from to → Beyond (p from) to

-- and one nonterminal, before others
pub record Inner {A : Type 0} (p : Parser A) (k : Nonterminal) (n : ℕ) (parts : List Part) : Type 0 where
  pub shrinks : Shrinks p
  pub goes : (from to : List Lexeme) → length from ≤ n → Goes k from to → Beyond (p from) to
  pub reads : (from middle to : List Lexeme) → length from ≤ n → Derived k from middle → GoesParts parts middle to → (a : A) × (p from ≡ Ok (a, middle))

module _ {A B : Type 0} (p : Parser A) (k : Nonterminal) (n : ℕ) where
  of_goes : (parts : List Part) (inner : Inner p k n parts) (f : A → Parser B) (rest : (a : A) → Reading (f a) n parts) (from to : List Lexeme) →
      length from ≤ n → GoesParts (Of k ∷ parts) from to →
      Beyond ((p >>= f) from) to
  of_goes parts inner f rest from to fits (within g) = and_on p f (λ a. (rest a).shrinks) from to (inner.goes from to fits g)
  of_goes parts inner f rest from to fits (past {middle} d g) =
      let r = inner.reads from middle to fits d g in let less = no_longer k from middle d in
      same_beyond to (ap (λ (o : Outcome A). parse_then o f) r.1) ((rest r.0).goes middle to (omega arith) g)

  pub part_and : (parts : List Part) → Inner p k n parts → (f : A → Parser B) → ((a : A) → Reading (f a) n parts) → Reading (p >>= f) n (Of k ∷ parts)
  part_and parts inner f rest =
      record { shrinks = λ from. and_on p f (λ a. (rest a).shrinks) from from (inner.shrinks from); goes = of_goes parts inner f rest }

pub expect_shrinks : (s : Symbol) → Shrinks (expect s)
expect_shrinks s =
    shrinks_if (expect s) (λ from to a is. let t = took s from a to is in let same = ap length t.splits in
    omega arith) (λ from to is. let same = ap length (expect_stuck s from to is) in omega arith)

pub name_shrinks : Shrinks step.name
name_shrinks =
    shrinks_if step.name (λ from to a is. let r = read_name from to a is in let same = ap length r.splits in
    omega arith) (λ from to is. let same = ap length (name_stuck from to is) in omega arith)

pub number_shrinks : Shrinks numbers.number
number_shrinks =
    shrinks_if numbers.number (λ from to a is. let r = read_number from to a is in let same = ap length r.splits in
    omega arith) (λ from to is. let same = ap length (number_stuck from to is) in omega arith)

pub pure_shrinks : {A : Type 0} (a : A) → Shrinks (pure a)
pure_shrinks a from = omega arith

-- what reads one token, before what reads the other parts with one token less at least
module _ {A B : Type 0} (p : Parser A) (s : Symbol) (own : Shrinks p) (reads : (t : Lexeme) (to : List Lexeme) → Is s t → (a : A) × (p (t ∷ to) ≡ Ok (a, to)))
    (m n : ℕ) (less : m ≤ suc n) where
  token_goes : (parts : List Part) (f : A → Parser B) (rest : (a : A) → Reading (f a) n parts) (from to : List Lexeme) → length from ≤ m →
      GoesParts (Word s ∷ parts) from to → Beyond ((p >>= f) from) to
  token_goes parts f rest from to fits (last {t} a) =
      let r = reads t to a in same_beyond to (ap (λ (o : Outcome A). parse_then o f) r.1) ((rest r.0).shrinks to)
  token_goes parts f rest from to fits (token {t} {from = middle} a g) =
      let r = reads t middle a in same_beyond to (ap (λ (o : Outcome A). parse_then o f) r.1) ((rest r.0).goes middle to (omega arith) g)

  token_and : (parts : List Part) (f : A → Parser B) → ((a : A) → Reading (f a) n parts) → Reading (p >>= f) m (Word s ∷ parts)
  token_and parts f rest = record { shrinks = λ from. and_on p f (λ a. (rest a).shrinks) from from (own from); goes = token_goes parts f rest }

pub word_and : {B : Type 0} (s : Symbol) (n : ℕ) (parts : List Part) (f : Lexeme → Parser B) → ((t : Lexeme) → Reading (f t) n parts) →
    Reading (expect s >>= f) n (Word s ∷ parts)
word_and s n parts f rest = token_and (expect s) s (expect_shrinks s) (λ t to a. (t, expects s t to a)) n n (omega arith) parts f rest

pub word_less : {B : Type 0} (s : Symbol) (n : ℕ) (parts : List Part) (f : Lexeme → Parser B) → ((t : Lexeme) → Reading (f t) n parts) →
    Reading (expect s >>= f) (suc n) (Word s ∷ parts)
word_less s n parts f rest = token_and (expect s) s (expect_shrinks s) (λ t to a. (t, expects s t to a)) (suc n) n (omega arith) parts f rest

pub name_and : {B : Type 0} (n : ℕ) (parts : List Part) (f : TreeName → Parser B) → ((t : TreeName) → Reading (f t) n parts) →
    Reading (step.name >>= f) n (Word Name ∷ parts)
name_and n parts f rest = token_and step.name Name name_shrinks (λ t to a. (_, reads_name t to a)) n n (omega arith) parts f rest

-- nothing is left to read
pub finished : {A : Type 0} (p : Parser A) (n : ℕ) → Shrinks p → Reading p n []
finished p n shrinks = record { shrinks = shrinks; goes = λ from to fits g. absurd (no_goes g) }

pub ends : {A : Type 0} {a : A} {n : ℕ} → Reading (pure a) n []
ends {A} {a} {n} = finished (pure a) n (pure_shrinks a)

-- only the value is changed
module _ {A B : Type 0} (p : Parser A) (n : ℕ) (parts : List Part) (r : Reading p n parts) (f : A → B) where
  pub mapped_and : Reading (p >>= (λ x. pure (f x))) n parts
  mapped_and = record {
    shrinks = λ from. and_on p (λ x. pure (f x)) (λ a. pure_shrinks (f a)) from from (r.shrinks from);
    goes = λ from to fits g. and_on p (λ x. pure (f x)) (λ a. pure_shrinks (f a)) from to (r.goes from to fits g);
  }

-- one reader for another that answers the same
pub same_reading : {A : Type 0} {p q : Parser A} {n : ℕ} {parts : List Part} → ((ts : List Lexeme) → p ts ≡ q ts) → Reading q n parts → Reading p n parts
same_reading same r = record {
  shrinks = λ from. same_beyond from (same from) (r.shrinks from);
  goes = λ from to fits g. same_beyond to (same from) (r.goes from to fits g);
}

-- ---- lists

module _ {A : Type 0} (item : Parser A) (shrinks : Shrinks item) where
  next_shrinks : (again : List A → Parser (List A)) → ((found : List A) → Shrinks (again found)) → (found : List A) (b : Bool) →
      Shrinks (step.separated_by again found b)
  next_shrinks again goes found true from = goes found from
  next_shrinks again goes found false from = omega arith

  pub comma_shrinks : (again : List A → Parser (List A)) → ((found : List A) → Shrinks (again found)) → (found : List A) →
      Shrinks (eat Comma >>= step.separated_by again found)
  comma_shrinks again goes found from =
      further _ (after Comma from) from (after-le Comma from) (next_shrinks again goes found (sees_symbol Comma from) (after Comma from))

  pub separated_shrinks : (k : ℕ) (found : List A) → Shrinks (step.separated item k found)
  unfolding step.separated
  separated_shrinks zero found from = omega arith
  separated_shrinks (suc k) found from =
      and_on item (λ x. eat Comma >>= step.separated_by (step.separated item k) (found ++ x ∷ []))
      (λ x. comma_shrinks (step.separated item k) (separated_shrinks k) (found ++ x ∷ [])) from from (shrinks from)

  -- the first item is begun
  pub separated_first : (k : ℕ) (found : List A) (from to : List Lexeme) → length from ≤ k → Beyond (item from) to →
      Beyond (step.separated item k found from) to
  unfolding step.separated
  separated_first zero found from to fits h = omega arith
  separated_first (suc k) found from to fits h =
      and_on item (λ x. eat Comma >>= step.separated_by (step.separated item k) (found ++ x ∷ []))
      (λ x. comma_shrinks (step.separated item k) (separated_shrinks k) (found ++ x ∷ [])) from to h

  module _ (stops : List Lexeme → Bool) where
    turn_shrinks : (again : List A → Parser (List A)) → ((found : List A) → Shrinks (again found)) → (found : List A) (b : Bool) →
        Shrinks (step.many_by item again found b)
    turn_shrinks again goes found true from = omega arith
    turn_shrinks again goes found false from = and_on item (λ x. again (found ++ x ∷ [])) (λ x. goes (found ++ x ∷ [])) from from (shrinks from)

    pub many_shrinks : (k : ℕ) (found : List A) → Shrinks (step.many stops item k found)
    unfolding step.many
    many_shrinks zero found from = omega arith
    many_shrinks (suc k) found from = turn_shrinks (step.many stops item k) (many_shrinks k) found (stops from) from

    pub many_first : (k : ℕ) (found : List A) (from to : List Lexeme) → length from ≤ k → stops from ≡ false → Beyond (item from) to →
        Beyond (step.many stops item k found from) to
    unfolding step.many
    many_first zero found from to fits on h = omega arith
    many_first (suc k) found from to fits on h =
        same_beyond to (ap (λ (b : Bool). step.many_by item (step.many stops item k) found b from) on)
        (and_on item (λ x. step.many stops item k (found ++ x ∷ [])) (λ x. many_shrinks k (found ++ x ∷ [])) from to h)
