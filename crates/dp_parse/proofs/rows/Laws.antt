-- What each answer of `parse` says of the text, written out.
use Rattle.std.proofs.Common.{◌≡◌, ◌<◌, ℕ, List, length, Some, None, Ok, Err, arith}
use Rattle.dp_base.specs.declared.Quantity.{Quantity}
use Rattle.dp_lex.specs.Characters.{Text}
use Rattle.dp_lex.specs.Token.{Lexeme}
use Rattle.dp_lex.specs.Tokens.{Tokens, RefusedAt}
use Rattle.dp_tree.specs.declared.raw.RawProgram.{RawProgram}
use Rattle.dp_parse.specs.declared.fail.ParseFail.TheVariants.{Lex, TooDeep, Refused}
use Rattle.dp_parse.specs.Depth.{depth_fault}
use Rattle.dp_parse.specs.Programs.{Derives}
use Rattle.dp_parse.specs.Parses.{Parses, LeavesAt}

module _ (text : Text) (p : RawProgram) where
  a_program : Parses text (Ok p) → (tokens : List Lexeme) × Tokens text tokens × (depth_fault tokens ≡ None) × Derives tokens p
  a_program is = (is.tokens, is.of_text, is.shallow, is.derives)

  no_tokens : (place : ℕ) → Parses text (Err (Lex place)) → RefusedAt text place
  no_tokens place is = is

  too_deep : (quantity : Quantity) (count : ℕ) → Parses text (Err (TooDeep quantity count)) → (tokens : List Lexeme) × Tokens text tokens
      × (depth_fault tokens ≡ Some (quantity, count))
  too_deep quantity count is = (is.tokens, is.of_text, is.deep)

  no_program : (token : ℕ) → Parses text (Err (Refused token)) → (tokens : List Lexeme) × Tokens text tokens × (depth_fault tokens ≡ None)
      × ((q : RawProgram) → ¬ Derives tokens q) × LeavesAt tokens token
  no_program token is = (is.tokens, is.of_text, is.shallow, is.none, is.place)

-- no text is left behind its end
in_the_text : (tokens : List Lexeme) (token : ℕ) → LeavesAt tokens token → ¬ (length tokens < token)
in_the_text tokens token leaves past = let size = leaves.within in omega (arith, size, past)
