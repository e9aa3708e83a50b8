-- What inputs give that are read one after the other.
use Rattle.std.specs.Prelude.{◌≡◌, ◌<◌, ℕ, List, ◌∷◌, ◌++◌, ℤ, Ok, Err}
use Rattle.dp_refusal.specs.declared.refusal.Refusal.{Refusal}
use Rattle.dp_refusal.specs.declared.role.Role.TheVariants as role
use Rattle.dp_load.specs.declared.batch.Listed.{Listed}
use Rattle.dp_load.specs.declared.batch.Listed.TheVariants as listed
use Rattle.dp_load.specs.Lists.{ReadsListed}
use Rattle.dp_load.specs.Roles.{Contents}
use Rattle.dp_load.specs.Texts.{FailedNames, with_failed_name}
use Rattle.dp_load.specs.Then.{EachInTurn}

-- What the inputs of these names give, numbered from 1, with the shelf's faults and failed names before and after.
pub data LoadsEach (contents : Contents) (names : List (List ℕ)) (faults after : ℕ) (failed fails : FailedNames) : Listed → Type 0 where
  EachRead : (inputs : List (List ℤ)) → EachInTurn (ReadsListed contents) 1 names (Ok inputs) → after ≡ faults → fails ≡ failed →
      LoadsEach contents names faults after failed fails (listed.Inputs inputs)
  OneUnfit : (refusal : Refusal) → EachInTurn (ReadsListed contents) 1 names (Err refusal) → after ≡ faults → fails ≡ failed →
      LoadsEach contents names faults after failed fails (listed.Refused refusal)
  OneUnread : (before behind : List (List ℕ)) (name : List ℕ) (inputs : List (List ℤ)) → names ≡ before ++ name ∷ behind →
      EachInTurn (ReadsListed contents) 1 before (Ok inputs) → faults < after → fails ≡ with_failed_name name failed →
      LoadsEach contents names faults after failed fails (listed.Failed role.Input)
