-- Where no token is left, no part is read.
use Rattle.std.proofs.Common.{◌≡◌, refl, ℕ, zero, suc, [], Err}
use Rattle.dp_parse.specs.steps.Expressions.{whole, nested}
use Rattle.dp_parse.specs.steps.Statements.{statement, choice}
use Rattle.dp_parse.specs.steps.Regions.{inside}
use Rattle.dp_parse.specs.steps.Programs.{param, top}

pub whole_empty : whole [] ≡ Err []
unfolding whole nested
whole_empty = refl

pub statement_empty : (n : ℕ) → statement n [] ≡ Err []
unfolding statement choice Rattle.dp_tokens.specs.Symbols.symbol_at Rattle.dp_tokens.specs.Steps.expect
statement_empty zero = refl
statement_empty (suc n) = refl

pub inside_empty : (n : ℕ) → inside (statement n) [] ≡ Err []
unfolding inside statement choice Rattle.dp_tokens.specs.Steps.sees_symbol Rattle.dp_tokens.specs.Steps.same_symbol Rattle.dp_tokens.specs.Symbols.symbol_at
    Rattle.dp_tokens.specs.Steps.expect
inside_empty zero = refl
inside_empty (suc n) = refl

pub param_empty : param [] ≡ Err []
unfolding param Rattle.dp_tokens.specs.Steps.expect
param_empty = refl

pub top_empty : top [] ≡ Err []
unfolding top statement Rattle.dp_tokens.specs.Steps.sees_symbol Rattle.dp_tokens.specs.Steps.after Rattle.dp_tokens.specs.Symbols.symbol_at
    Rattle.dp_tokens.specs.Steps.same_symbol
top_empty = refl
