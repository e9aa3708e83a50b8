use Rattle.std.proofs.Common.{rules}
use denote.Enum.Bare.{same_true}
use Rattle.dp_tokens.specs.contracts.symbol.Symbol.{the_type}
use Rattle.dp_tokens.specs.Steps.{same_symbol}
use Rattle.dp_tokens.proofs.symbol.same_symbol.Goals as goal

pub returns-clause-value : goal.returns-clause-value
unfolding same_symbol
returns-clause-value c = search rules

pub returns-clause-same : goal.returns-clause-same
returns-clause-same c is = same_true the_type (search rules) _ _ is
