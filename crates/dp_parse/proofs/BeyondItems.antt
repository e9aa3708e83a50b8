-- A declaration is read at least to the end of what begins it.
use Rattle.std.proofs.Common.{◌≡◌, ap, ◌∙◌, sym, ℕ, ◌≤◌, ◌-◌, ℤ, pos, Bool, true, false, List, [], ◌∷◌, ◌++◌, length, Option, Some, None, Ok, arith}
use Rattle.dp_lex.specs.Token.{Lexeme}
use Rattle.dp_tree.specs.declared.raw.Name.{Name as TreeName}
use Rattle.dp_tree.specs.declared.raw.RawItem.{RawItem}
use Rattle.dp_tree.specs.declared.raw.RawItem.TheVariants as item
use Rattle.dp_tokens.specs.declared.symbol.Symbol.{Symbol}
use Rattle.dp_tokens.specs.declared.symbol.Symbol.TheVariants.{Name, Int, Void, Minus, Assign, OpenParen, CloseParen, OpenBracket, CloseBracket, Comma}
use Rattle.dp_tokens.specs.declared.symbol.Symbol.TheVariants.{Semicolon}
use Rattle.dp_tokens.specs.Symbols.{symbol_at, Is}
use Rattle.dp_tokens.specs.Leaves.{name_of, IsNumber}
use Rattle.dp_parse.specs.Rules.{Part, Word, Number, Length, Of, Names, Params, Block}
use Rattle.dp_parse.specs.Rules as rule
use Rattle.dp_tokens.specs.Steps.{Outcome, Parser, ◌>>=◌, pure, parse_then, expect, sees_symbol, after, rest, given, separated}
use Rattle.dp_tokens.specs.Steps as step
use Rattle.dp_tokens.specs.Numbers as numbers
use Rattle.dp_parse.specs.steps.Statements as statements
use Rattle.dp_parse.specs.steps.Programs as read
use Rattle.dp_parse.proofs.StepLemmas.{eats, stays, sees_other, sees_is, after-le, after_is, rest-le, unlike}
use Rattle.dp_parse.proofs.LeafLemmas.{reads_name, reads_number, sees_of}
use Rattle.dp_parse.proofs.Lists.{separated_on}
use Rattle.dp_parse.proofs.ItemSound.{sound_params}
use Rattle.dp_parse.proofs.ItemComplete.{names_first, not_zero, reads_plain, reads_below, reads_param, reads_params}
use Rattle.dp_parse.proofs.StatementComplete.{reads_block}
use Rattle.dp_parse.proofs.StuckItems.{params_stuck}
use Rattle.dp_parse.proofs.Going.{Goes, GoesParts, by, last, token, last_number, next_number, last_size, next_size, within, word_first}
use Rattle.dp_parse.proofs.Stuck.{grouped}
use Rattle.dp_parse.proofs.Beyond.{Beyond, Shrinks, shrinks_as, further, ok_beyond, same_beyond, and_on, name_shrinks, number_shrinks, Reading, Inner, part_and}
use Rattle.dp_parse.proofs.Beyond.{word_and, name_and, ends, same_reading, separated_shrinks, separated_first}
use Rattle.dp_parse.proofs.BeyondCalls.{word_splits}
use Rattle.dp_parse.proofs.BeyondStatements.{block, block_goes, statement_goes}

-- ---- parameters

name_alone : (n : ℕ) (from to : List Lexeme) → length from ≤ n → GoesParts (Word Name ∷ []) from to → Beyond (step.name from) to
name_alone n from to fits (last {t} a) = ok_beyond to (reads_name t to a) (omega arith)

param_read : (n : ℕ) → Reading read.param n (Word Int ∷ Word Name ∷ [])
unfolding read.param
param_read n = word_and Int n _ _ (λ _. record { shrinks = name_shrinks; goes = name_alone n })

param_shrinks : Shrinks read.param
param_shrinks = (param_read 0).shrinks

names_goes : {from to : List Lexeme} → Goes Names from to → (k : ℕ) (found : List TreeName) → length from ≤ k → Beyond (separated read.param k found from) to
names_goes (by {from} {to} rule.last_name g) k found fits = separated_first read.param param_shrinks k found from to fits ((param_read k).goes from to fits g)
names_goes (by {from} {to} rule.more_names (last i)) k found fits =
    separated_first read.param param_shrinks k found from to fits ((param_read k).goes from to fits (last i))
names_goes (by {from} {to} rule.more_names (token i (last n))) k found fits =
    separated_first read.param param_shrinks k found from to fits ((param_read k).goes from to fits (token i (last n)))
names_goes (by rule.more_names (token {t = int} i (token {t = name} n (last {t = comma} {to} c)))) k found fits =
    same_beyond to (separated_on read.param k found (int ∷ name ∷ comma ∷ to) (comma ∷ to) (name_of name) (reads_param int name (comma ∷ to) i n) (omega arith)
    fits (sees_is Comma comma to c)
    ∙ ap (separated read.param (k - 1) (found ++ name_of name ∷ [])) (after_is Comma comma to c))
    (separated_shrinks read.param param_shrinks (k - 1) (found ++ name_of name ∷ []) to)
names_goes (by {to} rule.more_names (token {t = int} i (token {t = name} n (token {t = comma} {from = middle} c (within g))))) k found fits =
    same_beyond to (separated_on read.param k found (int ∷ name ∷ comma ∷ middle) (comma ∷ middle) (name_of name) (reads_param int name (comma ∷ middle) i n)
    (omega arith) fits (sees_is Comma comma middle c)
    ∙ ap (separated read.param (k - 1) (found ++ name_of name ∷ [])) (after_is Comma comma middle c))
    (names_goes g (k - 1) (found ++ name_of name ∷ []) (omega arith))

params_goes : (from to : List Lexeme) → Goes Params from to → Beyond (read.params from) to
unfolding read.params
params_goes from to (by rule.void (last {t} w)) =
    ok_beyond to (ap (λ (b : Bool). read.params_by b (t ∷ to)) (sees_other CloseParen (t ∷ to) (unlike t to Void CloseParen w (λ e. cc e)))
    ∙ eats Void read.named_params_by t to w) (omega arith)
params_goes from to (by rule.params (within g)) =
    let at = names_first g in
    same_beyond to (ap (λ (b : Bool). read.params_by b from) (sees_other CloseParen from (λ e. let clash : Int ≡ CloseParen = sym at ∙ e in cc clash))
    ∙ stays Void read.named_params_by from (λ e. let clash : Int ≡ Void = sym at ∙ e in cc clash))
    (names_goes g (length from) [] (omega arith))

given_params : (n : ℕ) (parts : List Part) → Inner read.params Params n (Word CloseParen ∷ parts)
given_params n parts = record {
  shrinks = shrinks_as Params read.params (λ from to a e. (a, sound_params from to a e)) params_stuck;
  goes = λ from to fits g. params_goes from to g;
  reads = λ from middle to fits d g. let w = word_splits CloseParen parts middle to g in (d.0, reads_params d.1 w.0 w.1 w.2 w.3);
}

body : (n : ℕ) (parts : List Part) → Inner (λ ts. statements.block (statements.statement (length ts)) ts) Block n parts
body n parts = record {
  shrinks = λ from. (block (length from) (statement_goes (length from)) parts).shrinks from;
  goes = λ from to fits g. block_goes (length from) (statement_goes (length from)) from to (omega arith) g;
  reads = λ from middle to fits d g. (d.0, reads_block d.1 (length from) (omega arith));
}

pub function_read : (n : ℕ) → Reading read.function n (Word Name ∷ Word OpenParen ∷ Of Params ∷ Word CloseParen ∷ Of Block ∷ [])
unfolding read.function
function_read n = name_and n _ _
    (λ name. word_and OpenParen n _ _ (λ _. part_and read.params Params n _ (given_params n _) _
    (λ params. word_and CloseParen n _ _ (λ _. part_and _ Block n _ (body n _) _ (λ body. ends)))))

-- ---- variables

abbrev finish : RawItem → Parser RawItem
finish found = expect Semicolon >>= (λ _. pure found)

ended : (n : ℕ) (found : RawItem) → Reading (finish found) n (Word Semicolon ∷ [])
ended n found = word_and Semicolon n [] _ (λ _. ends)

closed : (n : ℕ) (name : TreeName) (z : ℤ) → Reading ((expect CloseBracket >>= (λ _. pure (item.Array name z))) >>= finish) n
    (Word CloseBracket ∷ Word Semicolon ∷ [])
closed n name z = same_reading (grouped (λ _. pure (item.Array name z)) finish (expect CloseBracket))
    (word_and CloseBracket n _ _ (λ _. ended n (item.Array name z)))

length_shrinks : (name : TreeName) (b : Bool) → Shrinks (read.array_by name b >>= finish)
length_shrinks name true from = omega arith
length_shrinks name false from =
    same_beyond from (grouped (λ z. expect CloseBracket >>= (λ _. pure (item.Array name z))) finish numbers.number from)
    (and_on numbers.number (λ z. (expect CloseBracket >>= (λ _. pure (item.Array name z))) >>= finish) (λ z. (closed 0 name z).shrinks) from from
    (number_shrinks from))

length_opens : (name : TreeName) (t : Lexeme) (v : ℕ) (from : List Lexeme) → IsNumber t v → 1 ≤ v →
    ((λ ts. read.array_by name (numbers.sees_zero ts) ts) >>= finish) (t ∷ from)
    ≡ ((expect CloseBracket >>= (λ _. pure (item.Array name (pos v)))) >>= finish) from
length_opens name t v from h least =
    ap (λ (b : Bool). parse_then (read.array_by name b (t ∷ from)) finish) (sees_of t v from h ∙ not_zero v least)
    ∙ ap (λ (o : Outcome ℤ). parse_then (parse_then o (λ z. expect CloseBracket >>= (λ _. pure (item.Array name z)))) finish) (reads_number t v from h)

length_goes : (n : ℕ) (name : TreeName) (from to : List Lexeme) → length from ≤ n → GoesParts (Length ∷ Word CloseBracket ∷ Word Semicolon ∷ []) from to →
    Beyond (((λ ts. read.array_by name (numbers.sees_zero ts) ts) >>= finish) from) to
length_goes n name from to fits (last_size {t} a) = same_beyond to (length_opens name t a.0 to a.1 a.2) ((closed n name (pos a.0)).shrinks to)
length_goes n name from to fits (next_size {t} {from = middle} a g) =
    same_beyond to (length_opens name t a.0 middle a.1 a.2) ((closed n name (pos a.0)).goes middle to (omega arith) g)

array_read : (n : ℕ) (name : TreeName) → Reading (read.array name >>= finish) n (Word OpenBracket ∷ Length ∷ Word CloseBracket ∷ Word Semicolon ∷ [])
unfolding read.array
array_read n name =
    same_reading (grouped (λ _. λ ts. read.array_by name (numbers.sees_zero ts) ts) finish (expect OpenBracket))
    (word_and OpenBracket n _ _ (λ _. record { shrinks = λ from. length_shrinks name (numbers.sees_zero from) from; goes = length_goes n name }))

-- start values
given_shrinks : (o : Option ℤ) → Shrinks (given o)
given_shrinks None from = omega arith
given_shrinks (Some z) from = omega arith

start_shrinks_by : (b : Bool) → Shrinks (read.start_by b)
start_shrinks_by true from = and_on numbers.number (λ z. given (numbers.negated z)) (λ z. given_shrinks (numbers.negated z)) from from (number_shrinks from)
start_shrinks_by false from = number_shrinks from

start_shrinks : Shrinks read.start
unfolding read.start
start_shrinks from = further _ (after Minus from) from (after-le Minus from) (start_shrinks_by (sees_symbol Minus from) (after Minus from))

abbrev scalar : TreeName → Parser RawItem
scalar name = (read.start >>= (λ z. pure (item.Scalar name z))) >>= finish

scalar_shrinks : (name : TreeName) → Shrinks (scalar name)
scalar_shrinks name from =
    same_beyond from (grouped (λ z. pure (item.Scalar name z)) finish read.start from)
    (and_on read.start (λ z. finish (item.Scalar name z)) (λ z. (ended 0 (item.Scalar name z)).shrinks) from from (start_shrinks from))

scalar_opens : (name : TreeName) (z : ℤ) (from middle to : List Lexeme) → read.start from ≡ Ok (z, middle) → Beyond (finish (item.Scalar name z) middle) to →
    Beyond (scalar name from) to
scalar_opens name z from middle to e h = same_beyond to (ap (λ (o : Outcome ℤ). parse_then (parse_then o (λ z. pure (item.Scalar name z))) finish) e) h

plain_goes : (n : ℕ) (name : TreeName) (from to : List Lexeme) → length from ≤ n → GoesParts (Number ∷ Word Semicolon ∷ []) from to →
    Beyond (scalar name from) to
plain_goes n name from to fits (last_number {t} a) = scalar_opens name _ (t ∷ to) to to (reads_plain t a.0 to a.1) ((ended n _).shrinks to)
plain_goes n name from to fits (next_number {t} {from = middle} a g) =
    scalar_opens name _ (t ∷ middle) middle to (reads_plain t a.0 middle a.1) ((ended n _).goes middle to (omega arith) g)

minus_opens : (name : TreeName) (t : Lexeme) (to : List Lexeme) → Is Minus t → Beyond (read.start (t ∷ to)) to
unfolding read.start
minus_opens name t to m = same_beyond to (eats Minus read.start_by t to m) (start_shrinks_by true to)

below_goes : (n : ℕ) (name : TreeName) (from to : List Lexeme) → length from ≤ n → GoesParts (Word Minus ∷ Number ∷ Word Semicolon ∷ []) from to →
    Beyond (scalar name from) to
below_goes n name from to fits (last {t} m) =
    same_beyond to (grouped (λ z. pure (item.Scalar name z)) finish read.start (t ∷ to))
    (and_on read.start (λ z. finish (item.Scalar name z)) (λ z. (ended 0 (item.Scalar name z)).shrinks) (t ∷ to) to (minus_opens name t to m))
below_goes n name from to fits (token {t = minus} m (last_number {t} a)) =
    scalar_opens name _ (minus ∷ t ∷ to) to to (reads_below minus t a.0 to m a.1) ((ended n _).shrinks to)
below_goes n name from to fits (token {t = minus} m (next_number {t} {from = middle} a g)) =
    scalar_opens name _ (minus ∷ t ∷ middle) middle to (reads_below minus t a.0 middle m a.1) ((ended n _).goes middle to (omega arith) g)

-- behind a `=`
assign_goes : (n : ℕ) (name : TreeName) (parts : List Part) → ((from to : List Lexeme) → length from ≤ n → GoesParts parts from to →
    Beyond (scalar name from) to) →
    (from to : List Lexeme) → length from ≤ n → GoesParts (Word Assign ∷ parts) from to → Beyond (scalar name (rest from)) to
unfolding rest
assign_goes n name parts goes from to fits (last {t} q) = scalar_shrinks name to
assign_goes n name parts goes from to fits (token {t} {from = middle} q g) = goes middle to (omega arith) g

assigned : (n : ℕ) (name : TreeName) (parts : List Part) → ((from to : List Lexeme) → length from ≤ n → GoesParts parts from to → Beyond (scalar name from) to)
    → Reading (read.variable_by name Assign >>= finish) n (Word Assign ∷ parts)
assigned n name parts goes = record {
  shrinks = λ from. further _ (rest from) from (rest-le from) (scalar_shrinks name (rest from));
  goes = assign_goes n name parts goes;
}

variable_shrinks : (name : TreeName) (k : Symbol) → Shrinks (read.variable_by name k >>= finish)
variable_shrinks name OpenBracket from = (array_read 0 name).shrinks from
variable_shrinks name Assign from = further _ (rest from) from (rest-le from) (scalar_shrinks name (rest from))
variable_shrinks name _ from = (ended 0 _).shrinks from

by_symbol : (n : ℕ) (name : TreeName) (s : Symbol) (parts : List Part) → Reading (read.variable_by name s >>= finish) n (Word s ∷ parts) →
    Reading (step.peek >>= (λ s. read.variable_by name s >>= finish)) n (Word s ∷ parts)
by_symbol n name s parts r = record {
  shrinks = λ from. variable_shrinks name (symbol_at from) from;
  goes = λ from to fits g. same_beyond to (ap (λ (k : Symbol). (read.variable_by name k >>= finish) from) (word_first g)) (r.goes from to fits g);
}

variable_read : (n : ℕ) (s : Symbol) (parts : List Part) → ((name : TreeName) → Reading (read.variable_by name s >>= finish) n (Word s ∷ parts)) →
    Reading read.variable n (Word Name ∷ Word s ∷ parts)
unfolding read.variable
variable_read n s parts r = name_and n _ _ (λ name. by_symbol n name s parts (r name))

pub plain_read : (n : ℕ) → Reading read.variable n (Word Name ∷ Word Semicolon ∷ [])
plain_read n = variable_read n Semicolon [] (λ name. ended n _)

pub started_read : (n : ℕ) → Reading read.variable n (Word Name ∷ Word Assign ∷ Number ∷ Word Semicolon ∷ [])
started_read n = variable_read n Assign _ (λ name. assigned n name _ (plain_goes n name))

pub below_read : (n : ℕ) → Reading read.variable n (Word Name ∷ Word Assign ∷ Word Minus ∷ Number ∷ Word Semicolon ∷ [])
below_read n = variable_read n Assign _ (λ name. assigned n name _ (below_goes n name))

pub bracket_read : (n : ℕ) → Reading read.variable n (Word Name ∷ Word OpenBracket ∷ Length ∷ Word CloseBracket ∷ Word Semicolon ∷ [])
bracket_read n = variable_read n OpenBracket _ (λ name. array_read n name)
