-- Whole programs, read as a function.
use Rattle.std.specs.Prelude.{ℕ, zero, suc, ℤ, pos, Bool, true, false, ◌||◌, List, [], ◌∷◌, ◌++◌, length, Ok, Err}
use Rattle.dp_lex.specs.Token.{Lexeme}
use Rattle.dp_tree.specs.declared.raw.Name.{Name as TreeName}
use Rattle.dp_tree.specs.declared.raw.RawStmt.{RawStmt}
use Rattle.dp_tree.specs.declared.raw.RawItem.{RawItem}
use Rattle.dp_tree.specs.declared.raw.RawItem.TheVariants as item
use Rattle.dp_tree.specs.declared.raw.RawProgram.{RawProgram}
use Rattle.dp_tokens.specs.declared.symbol.Symbol.{Symbol}
use Rattle.dp_tokens.specs.declared.symbol.Symbol.TheVariants.{Mark, Int, Void, Main, Return, Minus, Assign, OpenParen, CloseParen, OpenBracket, CloseBracket}
use Rattle.dp_tokens.specs.declared.symbol.Symbol.TheVariants.{OpenBrace, CloseBrace, Semicolon}
use Rattle.dp_parse.specs.declared.item.Part.{Part}
use Rattle.dp_parse.specs.declared.item.Part.TheVariants.{Item, Main as Body}
use Rattle.dp_tokens.specs.Steps.{Parser, ◌>>=◌, ◌>>◌, ◌<$>◌, pure, refuse, peek, advance, sees_symbol, eat, expect, name, separated, many, given}
use Rattle.dp_tokens.specs.Numbers.{number, sees_zero, negated}
use Rattle.dp_parse.specs.steps.Statements.{statement, block}
use Rattle.dp_parse.specs.steps.Regions.{region}

abbrev pub start_by : Bool → Parser ℤ
start_by true = number >>= (λ z. given (negated z))
start_by false = number

-- the start value after a `=`, with its sign
unfoldable pub start : Parser ℤ
start = eat Minus >>= start_by

abbrev pub array_by : TreeName → Bool → Parser RawItem
array_by called true = refuse
array_by called false = do
  length ← number
  expect CloseBracket
  pure (item.Array called length)

-- an array's length in its brackets
unfoldable pub array : TreeName → Parser RawItem
array name = expect OpenBracket >> (λ ts. array_by name (sees_zero ts) ts)

abbrev pub variable_by : TreeName → Symbol → Parser RawItem
variable_by name OpenBracket = array name
variable_by name Assign = advance >> item.Scalar name <$> start
variable_by name _ = pure (item.Scalar name (pos 0))

-- a variable at file scope, from its name on
unfoldable pub variable : Parser RawItem
variable = do
  name ← name
  s ← peek
  found ← variable_by name s
  expect Semicolon
  pure found

unfoldable pub param : Parser TreeName
param = expect Int >> name

abbrev pub named_params_by : Bool → Parser (List TreeName)
named_params_by true = pure []
named_params_by false = λ ts. separated param (length ts) [] ts

abbrev pub params_by : Bool → Parser (List TreeName)
params_by true = pure []
params_by false = eat Void >>= named_params_by

unfoldable pub params : Parser (List TreeName)
params = λ ts. params_by (sees_symbol CloseParen ts) ts

-- a function, from its name on
unfoldable pub function : Parser RawItem
function = do
  name ← name
  expect OpenParen
  params ← params
  expect CloseParen
  body ← (λ ts. block (statement (length ts)) ts)
  pure (item.Function name params body)

abbrev pub top_by : ℕ → Bool → Parser RawStmt
top_by depth true = region (statement depth)
top_by depth false = statement depth

-- a statement of `main`, which may be a region
unfoldable pub top : Parser RawStmt
top = λ ts. (eat Mark >>= top_by (length ts)) ts

abbrev pub zero_by : Bool → Parser (Unit {0})
zero_by true = do
  number
  expect Semicolon
  pure tt
zero_by false = refuse

abbrev pub returned_by : Bool → Parser (Unit {0})
returned_by true = λ ts. zero_by (sees_zero ts) ts
returned_by false = pure tt

-- a `return 0;` or nothing
unfoldable pub returned : Parser (Unit {0})
returned = eat Return >>= returned_by

-- the end of `main`, with its brace
unfoldable pub end : Parser (Unit {0})
end = do
  returned
  expect CloseBrace
  pure tt

unfoldable pub ends : List Lexeme → Bool
ends ts = sees_symbol Return ts || sees_symbol CloseBrace ts

-- `main`, from its parenthesis on
unfoldable pub main_part : Parser (List RawStmt)
main_part = do
  expect OpenParen
  eat Void
  expect CloseParen
  expect OpenBrace
  body ← (λ ts. many ends top (length ts) [] ts)
  end
  pure body

abbrev pub finished : List RawItem → List RawStmt → Parser RawProgram
finished items main [] = Ok (record { items = items; main = main }, [])
finished items main (t ∷ ts) = Err (t ∷ ts)

abbrev pub global_by : Bool → Parser Part
global_by true = Body <$> main_part
global_by false = Item <$> variable

abbrev pub part_by : Bool → Parser Part
part_by true = Item <$> function
part_by false = expect Int >> (eat Main >>= global_by)

-- a declaration, or `main`
unfoldable pub part : Parser Part
part = eat Void >>= part_by

abbrev pub program_by : (List RawItem → Parser RawProgram) → List RawItem → Part → Parser RawProgram
program_by again items (Item i) = again (items ++ i ∷ [])
program_by again items (Body body) = finished items body

unfoldable pub program_from : ℕ → List RawItem → Parser RawProgram
program_from zero items = refuse
program_from (suc n) items = part >>= program_by (program_from n) items

-- a whole program, after which no token is left
unfoldable pub program : Parser RawProgram
program = λ ts. program_from (length ts) [] ts
