-- Names and what they mean.
use Rattle.std.specs.Prelude.{ℕ, Bool, List, [], ◌∷◌, Option, Some, None, if◌then◌else◌, nat_eq, codes}
use Rattle.std.specs.Cmp.Lexicographic.{pointwise}
use Rattle.dp_check.specs.declared.names.Meaning.{Meaning}
use Rattle.dp_check.specs.declared.names.Meaning.TheVariants.{Input, InputLen}

-- a name, and what it stands for
pub record Named : Type 0 where
  pub name : List ℕ
  pub meaning : Meaning

-- two names have the same letters
abbrev pub same_name : List ℕ → List ℕ → Bool
same_name = pointwise nat_eq

-- what a name means among these; no two of them are the same
abbrev pub named : List Named → List ℕ → Option Meaning
named [] x = None
named (n ∷ rest) x = if same_name x n.name then Some n.meaning else named rest x

-- the names that stand before every text
abbrev pub predeclared : List Named
predeclared = record { name = codes "input"; meaning = Input } ∷ record { name = codes "input_len"; meaning = InputLen } ∷ []
