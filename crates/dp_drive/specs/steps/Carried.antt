-- What each part of the program does, on the way to the headline.
use Rattle.std.specs.Prelude.{◌≡◌, ◌<◌, ℕ, List, Option, Result, Ok, Err}
use Rattle.dp_edge.specs.Sink.{appended}
use Rattle.dp_refusal.specs.declared.role.Role.{Role}
use Rattle.dp_edge.specs.declared.writing.WriteFail.{WriteFail}
use Rattle.dp_edge.specs.declared.writing.WriteFail.TheVariants.{NoMemory}
use Rattle.dp_refusal.specs.Refusal.{failed_read_line}
use Rattle.dp_edge.specs.Writing.{WritesFront}
use Rattle.dp_load.specs.Roles.{Contents}
use Rattle.dp_load.specs.Texts.{FailedNames, with_failed_name}
use Rattle.dp_drive.specs.Answer.{Answer, IsRead}

-- The bytes were written and the status is answered, or a front of them was written.
abbrev pub Finishes : ℕ → List ℕ → Option (List ℕ) → Option (List ℕ) → Result ℕ WriteFail → Type 0
Finishes status bytes told tells (Ok answered) = (answered ≡ status) × (tells ≡ appended bytes told)
Finishes status bytes told tells (Err fail) = WritesFront bytes told tells

-- One call of the program: it finished an answer, or the line on a failed read, or found no memory before anything was written.
pub data Carried (words : List (List ℕ)) (contents : Contents) (faults after : ℕ) (failed fails : FailedNames) (told tells : Option (List ℕ))
    (result : Result ℕ WriteFail) : Type 0 where
  OfAnswer : (status : ℕ) (bytes : List ℕ) → Answer words contents status bytes → after ≡ faults → fails ≡ failed → Finishes status bytes told tells result →
      Carried words contents faults after failed fails told tells result
  OfFailedRead : (which : Role) (name : List ℕ) → IsRead words contents which name → faults < after → fails ≡ with_failed_name name failed →
      Finishes 5 (failed_read_line which) told tells result →
      Carried words contents faults after failed fails told tells result
  Starved : result ≡ Err NoMemory → after ≡ faults → fails ≡ failed → tells ≡ told → Carried words contents faults after failed fails told tells result
