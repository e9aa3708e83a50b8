-- A list of the names of inputs, and what these are read as.
use Rattle.std.specs.Prelude.{◌≡◌, ℕ, ◌+◌, ◌≤◌, ◌<◌, List, [], ◌∷◌, ◌++◌, length, ℤ, Option, Some, None, Result, Ok, Err}
use Rattle.dp_base.specs.declared.Quantity.TheVariants.{ListBytes}
use Rattle.dp_base.specs.declared.limits.TheConstants.{LIST_BYTES}
use Rattle.dp_text.specs.Lines.{lines_of}
use Rattle.dp_text.specs.Refused.{IsRefusedAt}
use Rattle.dp_list.specs.ListText.{IsList, ListLines}
use Rattle.dp_refusal.specs.declared.refusal.Refusal.{Refusal}
use Rattle.dp_refusal.specs.declared.refusal.Refusal.TheVariants.{BatchWord, InputWord, Limit, ListLine}
use Rattle.dp_load.specs.Roles.{Contents, HoldsText, ReadsInput}
use Rattle.dp_load.specs.Then.{EachInTurn}

-- The text is read as the list of these names, or refused for the first of the causes that stands: its length, its lines.
pub data ReadsList (text : List ℕ) : Result (List (List ℕ)) Refusal → Type 0 where
  TooLong : LIST_BYTES < length text → ReadsList text (Err (Limit ListBytes (LIST_BYTES + 1)))
  NoList : (line : ℕ) → length text ≤ LIST_BYTES → IsRefusedAt IsList (lines_of text) line → ReadsList text (Err (ListLine line))
  Taken : (names : List (List ℕ)) → length text ≤ LIST_BYTES → ListLines (lines_of text) names → ReadsList text (Ok names)

-- what a list's text under the name is read as
pub record LoadsList (contents : Contents) (name : List ℕ) (read : Result (List (List ℕ)) Refusal) : Type 0 where
  pub text : List ℕ
  pub held : HoldsText contents name text
  pub reads : ReadsList text read

-- the refusal of an input with its number in the list, where a word of it is refused
abbrev pub in_list : ℕ → Result (List ℤ) Refusal → Result (List ℤ) Refusal
in_list number (Err (InputWord word)) = Err (BatchWord number word)
in_list number read = read

-- what the input with this number and name is read as
pub record ReadsListed (contents : Contents) (number : ℕ) (name : List ℕ) (read : Result (List ℤ) Refusal) : Type 0 where
  pub alone : Result (List ℤ) Refusal
  pub reads : ReadsInput contents name alone
  pub is : read ≡ in_list number alone

-- the inputs of a list's names, in turn, from number 1 on: none where no list is named
pub data Inputs (contents : Contents) : Option (List ℕ) → Result (List (List ℤ)) Refusal → Type 0 where
  Unlisted : Inputs contents None (Ok [])
  ListRefused : (name text : List ℕ) (refusal : Refusal) → HoldsText contents name text → ReadsList text (Err refusal) →
      Inputs contents (Some name) (Err refusal)
  Listed : (name text : List ℕ) (names : List (List ℕ)) (read : Result (List (List ℤ)) Refusal) → HoldsText contents name text → ReadsList text (Ok names) →
      EachInTurn (ReadsListed contents) 1 names read →
      Inputs contents (Some name) read

-- This is the name of the list's next input, behind others that are read.
pub record IsNextListed (contents : Contents) (list name : List ℕ) : Type 0 where
  pub text : List ℕ
  pub before : List (List ℕ)
  pub behind : List (List ℕ)
  pub inputs : List (List ℤ)
  pub held : HoldsText contents list text
  pub listed : ReadsList text (Ok (before ++ name ∷ behind))
  pub reads : EachInTurn (ReadsListed contents) 1 before (Ok inputs)
