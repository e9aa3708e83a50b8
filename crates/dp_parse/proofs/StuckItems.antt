-- Where a declaration is stuck, the tokens before that place begin one.
use Rattle.std.proofs.Common.{◌≡◌, refl, ap, ◌∙◌, sym, ℕ, zero, ℤ, pos, Bool, true, false, List, [], ◌∷◌, length, Option, Some, Ok, Err}
use Rattle.dp_base.specs.Arithmetic.{is_zero}
use Rattle.dp_lex.specs.Token.{Lexeme}
use Rattle.dp_tree.specs.declared.raw.Name.{Name as TreeName}
use Rattle.dp_tree.specs.declared.raw.RawItem.{RawItem}
use Rattle.dp_tree.specs.declared.raw.RawItem.TheVariants as item
use Rattle.dp_tokens.specs.declared.symbol.Symbol.{Symbol}
use Rattle.dp_tokens.specs.declared.symbol.Symbol.TheVariants.{Name, Int, Void, Minus, Assign, OpenParen, CloseParen, OpenBracket, CloseBracket, Semicolon}
use Rattle.dp_tokens.specs.Symbols.{symbol_at, Is}
use Rattle.dp_tokens.specs.Leaves.{name_of}
use Rattle.dp_parse.specs.Rules.{Part, Word, Number, Length, Of, Names, Params, Item, Block}
use Rattle.dp_parse.specs.Begins.{Begins, BeginsParts, by, none, within, token}
use Rattle.dp_parse.specs.Rules as rule
use Rattle.dp_tokens.specs.Steps.{Outcome, ◌>>=◌, ◌>>◌, pure, parse_then, expect, sees_symbol, rest, given, separated}
use Rattle.dp_tokens.specs.Steps as step
use Rattle.dp_tokens.specs.Numbers as numbers
use Rattle.dp_parse.specs.steps.Statements as statements
use Rattle.dp_parse.specs.steps.Programs as read
use Rattle.dp_parse.proofs.LeafLemmas.{read_name, read_number, sees_of}
use Rattle.dp_parse.proofs.ItemSteps.{read_param}
use Rattle.dp_parse.proofs.ItemSound.{Start, plain, below, read_start, sound_params, nonzero_is}
use Rattle.dp_parse.proofs.ItemComplete.{turns}
use Rattle.dp_parse.proofs.StatementSound.{sound_block, sound_statement}
use Rattle.dp_parse.proofs.Stuck.{Fails, Reader, here, token_at, seq, done, word, called, number_stuck, reader, Eaten, passed, stayed, eaten, separated_stuck}
use Rattle.dp_parse.proofs.StuckStatements.{block_stuck, statement_stuck, if_stuck}

-- ---- parameters

param_fails : (parts : List Part) → Fails read.param (Word Int ∷ Word Name ∷ parts)
unfolding read.param
param_fails parts from to h = seq (word Int) _ (λ _. λ middle end e. called.stuck parts middle end e) from to h

names_stuck : (n : ℕ) (found : List TreeName) (from to : List Lexeme) → separated read.param n found from ≡ Err to → Begins Names from to
names_stuck =
    separated_stuck Names read.param (λ from to e. by rule.last_name (param_fails [] from to e))
    (λ from left to t x e is b. let p = read_param from (t ∷ left) x e in rw p.splits (by rule.more_names (token p.is_int (token p.is (token is (within b))))))

params_eaten : (from to : List Lexeme) → Eaten Void read.named_params_by from (Err to) → Begins Params from to
params_eaten from to (passed t left is splits h) = absurd (cc h)
params_eaten from to (stayed other h) = by rule.params (within (names_stuck (length from) [] from to h))

params_at : (b : Bool) (from to : List Lexeme) → read.params_by b from ≡ Err to → Begins Params from to
params_at true from to h = absurd (cc h)
params_at false from to h = params_eaten from to (eaten Void read.named_params_by (Err to) from (λ k. cc k) h)

pub params_stuck : (from to : List Lexeme) → read.params from ≡ Err to → Begins Params from to
unfolding read.params
params_stuck from to h = params_at (sees_symbol CloseParen from) from to h

given_params : Reader read.params (Of Params)
given_params = reader Params read.params (λ from to a e. (a, sound_params from to a e)) params_stuck

body : Reader (λ ts. statements.block (statements.statement (length ts)) ts) (Of Block)
body = reader Block (λ ts. statements.block (statements.statement (length ts)) ts)
    (λ from to a e. (a, sound_block (statements.statement (length from)) (sound_statement (length from)) from to a e))
    (λ from to e. block_stuck (statements.statement (length from)) (sound_statement (length from)) (statement_stuck (length from))
    (if_stuck (length from)) from to e)

-- a function, behind its `void`
pub function_stuck : (void : Lexeme) (from to : List Lexeme) → Is Void void → read.function from ≡ Err to → Begins Item (void ∷ from) to
unfolding read.function
function_stuck void from to v h =
    by rule.function (token v
    (seq called _ (λ name. seq (word OpenParen) _ (λ _. seq given_params _ (λ params. seq (word CloseParen) _ (λ _. seq body _ (λ body. done))))) from to h))

-- ---- variables at file scope, behind their `int` and their name

-- the semicolon of a declaration that was read so far
ended : {parts : List Part} (found : RawItem) (middle to : List Lexeme) → (expect Semicolon >>= (λ _. pure found)) middle ≡ Err to →
    BeginsParts (Word Semicolon ∷ parts) middle to
ended found middle to h = seq (word Semicolon) _ (λ _. done) middle to h

abbrev finish : Outcome RawItem → Outcome RawItem
finish o = parse_then o (λ found. expect Semicolon >>= (λ _. pure found))

length_at : (name : TreeName) (from to : List Lexeme) (b : Bool) → numbers.sees_zero from ≡ b → finish (read.array_by name b from) ≡ Err to →
    BeginsParts (Length ∷ Word CloseBracket ∷ Word Semicolon ∷ []) from to
length_at name from to true seen h = let same : from ≡ to = cc h in rw same none
length_at name from to false seen h = counted_length (numbers.number from) refl h
  where
    behind : (z : ℤ) (middle to : List Lexeme) → finish ((expect CloseBracket >>= (λ _. pure (item.Array name z))) middle) ≡ Err to →
        BeginsParts (Word CloseBracket ∷ Word Semicolon ∷ []) middle to
    behind z middle to h = closing (expect CloseBracket middle) refl h
      where
        closing : (o : Outcome Lexeme) → expect CloseBracket middle ≡ o → finish (parse_then o (λ _. pure (item.Array name z))) ≡ Err to →
            BeginsParts (Word CloseBracket ∷ Word Semicolon ∷ []) middle to
        closing (Ok x) is h = (word CloseBracket).passes (Word Semicolon ∷ []) middle x.1 to x.0 is (ended (item.Array name z) x.1 to h)
        closing (Err left) is h = let same : left ≡ to = cc h in (word CloseBracket).stuck (Word Semicolon ∷ []) middle to (is ∙ ap Err same)

    counted_length : (o : Outcome ℤ) → numbers.number from ≡ o → finish (parse_then o (λ z. expect CloseBracket >>= (λ _. pure (item.Array name z)))) ≡ Err to →
        BeginsParts (Length ∷ Word CloseBracket ∷ Word Semicolon ∷ []) from to
    counted_length (Ok x) is h =
        let n = read_number from x.1 x.0 is in
        let zero : is_zero (pos n.value) ≡ false = sym (sees_of n.token n.value x.1 n.is) ∙ ap numbers.sees_zero (sym n.splits) ∙ seen in
        rw n.splits (token {p = Length} (n.value, n.is, nonzero_is (pos n.value) n.value refl zero) (behind x.0 x.1 to h))
    counted_length (Err left) is h = let same : left ≡ to = cc h in rw (number_stuck from to (is ∙ ap Err same)) none

array_at : (name : TreeName) (from to : List Lexeme) (o : Outcome Lexeme) → expect OpenBracket from ≡ o →
    finish (parse_then o (λ _. λ ts. read.array_by name (numbers.sees_zero ts) ts)) ≡ Err to →
    BeginsParts (Word OpenBracket ∷ Length ∷ Word CloseBracket ∷ Word Semicolon ∷ []) from to
array_at name from to (Ok x) is h = (word OpenBracket).passes _ from x.1 to x.0 is (length_at name x.1 to (numbers.sees_zero x.1) refl h)
array_at name from to (Err left) is h = let same : left ≡ to = cc h in (word OpenBracket).stuck _ from to (is ∙ ap Err same)

array_fails : (name : TreeName) (from to : List Lexeme) → finish (read.array name from) ≡ Err to →
    BeginsParts (Word OpenBracket ∷ Length ∷ Word CloseBracket ∷ Word Semicolon ∷ []) from to
unfolding read.array
array_fails name from to h = array_at name from to (expect OpenBracket from) refl h

module _ (int name equals : Lexeme) (i : Is Int int) (n : Is Name name) (q : Is Assign equals) where
  abbrev Front : List Lexeme → List Lexeme → Type 0
  Front from to = Begins Item (int ∷ name ∷ equals ∷ from) to

  abbrev of_start : Outcome ℤ → Outcome RawItem
  of_start o = finish (parse_then o (λ z. pure (item.Scalar (name_of name) z)))

  start_read : (from middle to : List Lexeme) (z : ℤ) → Start from middle z → (expect Semicolon >>= (λ _. pure (item.Scalar (name_of name) z))) middle
      ≡ Err to → Front from to
  start_read from middle to z (plain t v h splits same) e =
      by rule.started (token i (token n (token q (token_at {p = Number} splits (v, h) (ended _ middle to e)))))
  start_read from middle to z (below minus t v m h splits same) e =
      by rule.below_zero (token i (token n (token q (token_at splits m (token {p = Number} (v, h) (ended _ middle to e))))))

  turned : (from to : List Lexeme) (o : Outcome ℤ) → numbers.number from ≡ o → parse_then o (λ z. given (numbers.negated z)) ≡ Err to → from ≡ to
  turned from to (Ok x) is h =
      let m = read_number from x.1 x.0 is in
      let good : numbers.negated x.0 ≡ Some _ = ap numbers.negated m.reads ∙ turns m.value m.is.fits in
      let clash = sym (ap (λ (o : Option ℤ). given o x.1) good) ∙ h in absurd (cc clash)
  turned from to (Err left) is h = let same : left ≡ to = cc h in number_stuck from to (is ∙ ap Err same)

  start_eaten : (from to : List Lexeme) → Eaten Minus read.start_by from (Err to) → Front from to
  start_eaten from to (passed t middle m splits h) =
      by rule.below_zero (token i (token n (token q (token_at splits m (here (turned middle to (numbers.number middle) refl h))))))
  start_eaten from to (stayed other h) = by rule.started (token i (token n (token q (here (number_stuck from to h)))))

  start_stuck : (from to : List Lexeme) → read.start from ≡ Err to → Front from to
  unfolding read.start
  start_stuck from to h = start_eaten from to (eaten Minus read.start_by (Err to) from (λ k. cc k) h)

  started_at : (from to : List Lexeme) (o : Outcome ℤ) → read.start from ≡ o → of_start o ≡ Err to → Front from to
  started_at from to (Ok x) is h = start_read from x.1 to x.0 (read_start from x.1 x.0 is) h
  started_at from to (Err left) is h = let same : left ≡ to = cc h in start_stuck from to (is ∙ ap Err same)

assigned : (int name : Lexeme) (from to : List Lexeme) → symbol_at from ≡ Assign → Is Int int → Is Name name →
    finish ((read.start >>= (λ z. pure (item.Scalar (name_of name) z))) (rest from)) ≡ Err to → Begins Item (int ∷ name ∷ from) to
unfolding symbol_at rest
assigned int name [] to at i n h = absurd (cc at)
assigned int name (t ∷ from) to at i n h = started_at int name t i n at from to (read.start from) refl h

variable_at : (int name : Lexeme) (k : Symbol) (from to : List Lexeme) → symbol_at from ≡ k → Is Int int → Is Name name →
    finish (read.variable_by (name_of name) k from) ≡ Err to → Begins Item (int ∷ name ∷ from) to
variable_at int name OpenBracket from to at i n h = by rule.array (token i (token n (array_fails (name_of name) from to h)))
variable_at int name Assign from to at i n h = assigned int name from to at i n h
variable_at int name _ from to at i n h = by rule.variable (token i (token n (ended _ from to h)))

named_at : (int : Lexeme) (from to : List Lexeme) (o : Outcome TreeName) → Is Int int → step.name from ≡ o →
    parse_then o (λ name. step.peek >>= (λ s. read.variable_by name s >>= (λ found. expect Semicolon >>= (λ _. pure found)))) ≡ Err to →
    Begins Item (int ∷ from) to
named_at int from to (Ok x) i is h =
    let n = read_name from x.1 x.0 is in
    rw n.splits (variable_at int n.token (symbol_at x.1) x.1 to refl i n.is (ap (λ (name : TreeName). finish (read.variable_by name (symbol_at x.1) x.1))
    (sym n.called) ∙ h))
named_at int from to (Err left) i is h = let same : left ≡ to = cc h in by rule.variable (token i (called.stuck _ from to (is ∙ ap Err same)))

pub variable_stuck : (int : Lexeme) (from to : List Lexeme) → Is Int int → read.variable from ≡ Err to → Begins Item (int ∷ from) to
unfolding read.variable
variable_stuck int from to i h = named_at int from to (step.name from) i refl h
