-- What a text gives: its tree, or why it has none.
use Rattle.std.specs.Prelude.{◌≡◌, ℕ, ◌+◌, ◌-◌, ◌≤◌, ◌<◌, List, length, drop, Some, None, Result, Ok, Err}
use Rattle.dp_base.specs.declared.Quantity.{Quantity}
use Rattle.dp_lex.specs.Characters.{Text}
use Rattle.dp_lex.specs.Token.{Lexeme}
use Rattle.dp_lex.specs.Tokens.{Tokens, RefusedAt}
use Rattle.dp_tree.specs.declared.raw.RawProgram.{RawProgram}
use Rattle.dp_parse.specs.declared.fail.ParseFail.{ParseFail}
use Rattle.dp_parse.specs.declared.fail.ParseFail.TheVariants.{Lex, TooDeep, Refused, NoMemory}
use Rattle.dp_tokens.specs.declared.fail.PartFail.{PartFail}
use Rattle.dp_tokens.specs.declared.fail.PartFail.TheVariants as part
use Rattle.dp_parse.specs.Depth.{depth_fault}
use Rattle.dp_parse.specs.Programs.{Derives}
use Rattle.dp_parse.specs.Rules.{Program}
use Rattle.dp_parse.specs.Begins.{Begins}

-- the text's tokens derive the program
pub record ParsesAs (text : Text) (program : RawProgram) : Type 0 where
  pub tokens : List Lexeme
  pub of_text : Tokens text tokens
  pub shallow : depth_fault tokens ≡ None
  pub derives : Derives tokens program

-- a count over the text's tokens is above its number
pub record NestsTooDeep (text : Text) (quantity : Quantity) (count : ℕ) : Type 0 where
  pub tokens : List Lexeme
  pub of_text : Tokens text tokens
  pub deep : depth_fault tokens ≡ Some (quantity, count)

-- the tokens leave the grammar at this one, counted from 0: those before it begin a program, and with it they don't.
-- Where all of them begin one, it is their number.
pub record LeavesAt (tokens : List Lexeme) (token : ℕ) : Type 0 where
  pub within : token ≤ length tokens
  pub begins : (k : ℕ) → k ≤ token → Begins Program tokens (drop k tokens)
  pub leaves : token < length tokens → ¬ Begins Program tokens (drop (token + 1) tokens)

-- the text's tokens derive no program, and leave the grammar at this one
pub record DerivesNothing (text : Text) (token : ℕ) : Type 0 where
  pub tokens : List Lexeme
  pub of_text : Tokens text tokens
  pub shallow : depth_fault tokens ≡ None
  pub none : (program : RawProgram) → ¬ Derives tokens program
  pub place : LeavesAt tokens token

-- the result is the text's, unless memory was wanting
abbrev pub Parses : Text → Result RawProgram ParseFail → Type 0
Parses text (Ok program) = ParsesAs text program
Parses text (Err (Lex place)) = RefusedAt text place
Parses text (Err (TooDeep quantity count)) = NestsTooDeep text quantity count
Parses text (Err (Refused token)) = DerivesNothing text token
Parses text (Err NoMemory) = Unit {0}

-- ---- what the two steps of the reading give

-- why a text's tokens weren't read
abbrev pub Unread : Text → ParseFail → Type 0
Unread text (Lex place) = RefusedAt text place
Unread text (TooDeep quantity count) = ⊥
Unread text (Refused token) = ⊥
Unread text NoMemory = Unit {0}

-- what tokens give
abbrev pub Gives : List Lexeme → Result RawProgram ParseFail → Type 0
Gives tokens (Ok program) = (depth_fault tokens ≡ None) × Derives tokens program
Gives tokens (Err (Lex place)) = ⊥
Gives tokens (Err (TooDeep quantity count)) = depth_fault tokens ≡ Some (quantity, count)
Gives tokens (Err (Refused token)) = (depth_fault tokens ≡ None) × ((program : RawProgram) → ¬ Derives tokens program) × LeavesAt tokens token
Gives tokens (Err NoMemory) = Unit {0}

-- what the descent's answer is for a whole text of so many tokens, of which some are left
abbrev pub outcome_of : ℕ → ℕ → Result RawProgram PartFail → Result RawProgram ParseFail
outcome_of tokens left (Ok program) = Ok program
outcome_of tokens left (Err part.Refused) = Err (Refused (tokens - left))
outcome_of tokens left (Err part.NoMemory) = Err NoMemory
