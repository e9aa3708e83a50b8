-- What stops early has written a front of its text, or nothing of it.
use Rattle.std.proofs.Common.{◌≡◌, ℕ, List, Option, Result, Ok, Err}
use Rattle.std.specs.Result.{IsErr}
use Rattle.dp_edge.specs.declared.writing.WriteFail.{WriteFail}
use Rattle.dp_edge.specs.Writing.{WritesFront}
use Rattle.dp_edge.proofs.FrontLemmas.{front_nothing}
use Rattle.dp_drive.specs.steps.Carried.{Finishes}

pub stopped_within : (status : ℕ) (bytes : List ℕ) (told tells : Option (List ℕ)) (result : Result ℕ WriteFail) → IsErr result → WritesFront bytes told tells →
    Finishes status bytes told tells result
stopped_within status bytes told tells (Ok answered) h w = absurd (cc)
stopped_within status bytes told tells (Err fail) h w = w

pub stopped_before : (status : ℕ) (bytes : List ℕ) (told tells : Option (List ℕ)) (result : Result ℕ WriteFail) → IsErr result → tells ≡ told →
    Finishes status bytes told tells result
stopped_before status bytes told tells result h same = stopped_within status bytes told tells result h (front_nothing bytes told tells same)
