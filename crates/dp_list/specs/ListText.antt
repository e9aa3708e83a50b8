-- The text of a list of names.
use Rattle.std.specs.Prelude.{◌≡◌, ℕ, ◌≤◌, List, [], ◌∷◌, ◌++◌, map, length, All, IsUtf8, Contains}

-- a name of a list: 1 to 255 bytes in UTF-8, none of which ends a line
pub record IsListed (name : List ℕ) : Type 0 where
  pub some_byte : 1 ≤ length name
  pub few_bytes : length name ≤ 255
  pub text : IsUtf8 name
  pub one_line : ¬ Contains name 10

-- these are the lines of a list of these names: 1 to 64, each on a line of its own
pub record ListLines (lines : List (List ℕ)) (names : List (List ℕ)) : Type 0 where
  pub written : lines ≡ map (λ name. name ++ 10 ∷ []) names
  pub some_name : 1 ≤ length names
  pub few_names : length names ≤ 64
  pub listed : All IsListed names

-- these are the lines of a list
abbrev pub IsList : List (List ℕ) → Type 0
IsList lines = (names : List (List ℕ)) × ListLines lines names
