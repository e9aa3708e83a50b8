-- What the texts that the words name are loaded as.
use Rattle.std.specs.Prelude.{◌≡◌, ◌<◌, ℕ, List, [], ◌∷◌, ◌++◌, Option, Some, Result, Ok, Err}
use Rattle.std.specs.Option.{option_map}
use Rattle.dp_tree.specs.declared.Program.{Program as Tree}
use Rattle.dp_refusal.specs.declared.refusal.Refusal.{Refusal}
use Rattle.dp_load.specs.declared.load.Loaded.{Loaded}
use Rattle.dp_load.specs.declared.load.Loaded.TheVariants.{Text, Refused, Failed}
use Rattle.dp_load.specs.Roles.{Contents, HoldsText}
use Rattle.dp_load.specs.Program.{Reads, Expands}
use Rattle.dp_plan.specs.declared.Plan.{Plan}
use Rattle.dp_load.specs.Plans.{ReadsPlans}
use Rattle.dp_profile.specs.declared.Profile.{Profile}
use Rattle.dp_load.specs.Profiles.{ReadsProfile}
use Rattle.dp_save.specs.declared.Checkpoint.{Checkpoint}
use Rattle.dp_load.specs.Last.{ReadsCheckpoint, ReadsLog}

-- what a program's text under the name is read as
pub record ReadsProgram (contents : Contents) (name : List ℕ) (read : Result Tree Refusal) : Type 0 where
  pub text : List ℕ
  pub held : HoldsText contents name text
  pub reads : Reads text read

-- what is run for it, or its refusal
abbrev pub LoadsProgram : Contents → List ℕ → Result Tree Refusal → Type 0
LoadsProgram contents name = Expands (ReadsProgram contents name)

-- what a text of plans under the name is read as
pub record LoadsPlans (contents : Contents) (p : Tree) (name : List ℕ) (read : Result (List Plan) Refusal) : Type 0 where
  pub text : List ℕ
  pub held : HoldsText contents name text
  pub reads : ReadsPlans p text read

-- what a profile's text under the name is read as
pub record LoadsProfile (contents : Contents) (p : Tree) (name : List ℕ) (read : Result Profile Refusal) : Type 0 where
  pub text : List ℕ
  pub held : HoldsText contents name text
  pub reads : ReadsProfile p text read

-- what a log's text under the name is read as
pub record LoadsLog (contents : Contents) (name : List ℕ) (read : Result (List ℕ) Refusal) : Type 0 where
  pub text : List ℕ
  pub held : HoldsText contents name text
  pub reads : ReadsLog text read

-- what a checkpoint's text under the name is read as
pub record LoadsCheckpoint (contents : Contents) (p : Tree) (name : List ℕ) (read : Result Checkpoint Refusal) : Type 0 where
  pub text : List ℕ
  pub held : HoldsText contents name text
  pub reads : ReadsCheckpoint p text read

-- What one text was loaded as: what it stands for, or its refusal; or its reading failed.
abbrev pub Loads : {X : Type 0} → (Result X Refusal → Type 0) → Loaded X → Type 0
Loads P (Text x) = P (Ok x)
Loads P (Refused refusal) = P (Err refusal)
Loads P Failed = Unit {0}

-- what it stands for is so, where it gave something
abbrev pub IfText : {X : Type 0} → (X → Type 0) → Loaded X → Type 0
IfText P (Text x) = P x
IfText P (Refused refusal) = Unit {0}
IfText P Failed = Unit {0}

-- the shelf's count of faults rises where reading failed, and else stays
abbrev pub FaultsAfterLoad : {X E : Type 0} → Result (Loaded X) E → ℕ → ℕ → Type 0
FaultsAfterLoad (Ok Failed) old new = old < new
FaultsAfterLoad (Ok (Text x)) old new = new ≡ old
FaultsAfterLoad (Ok (Refused refusal)) old new = new ≡ old
FaultsAfterLoad (Err e) old new = new ≡ old

-- the name is added to the failed names where reading failed, and else nothing is
abbrev pub names_after : {X E : Type 0} → Result (Loaded X) E → List ℕ → List (List ℕ) → List (List ℕ)
names_after (Ok Failed) name names = names ++ name ∷ []
names_after (Ok (Text x)) name names = names
names_after (Ok (Refused refusal)) name names = names
names_after (Err e) name names = names

-- What a text that may be named was loaded as, with the shelf's faults and failed names before and after.
abbrev pub GivesLoaded : {X : Type 0} → (Result X Refusal → Type 0) → Option (List ℕ) → ℕ → ℕ → Option (List (List ℕ)) →
    Option (List (List ℕ)) → Loaded X → Type 0
GivesLoaded P name faults after failed fails (Text x) = P (Ok x) × (after ≡ faults) × (fails ≡ failed)
GivesLoaded P name faults after failed fails (Refused refusal) = P (Err refusal) × (after ≡ faults) × (fails ≡ failed)
GivesLoaded P name faults after failed fails Failed = (n : List ℕ) × (name ≡ Some n) × (faults < after) × (fails ≡ option_map (λ names. names ++ n ∷ []) failed)
