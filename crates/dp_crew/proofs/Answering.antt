-- Clauses of a result that is matched nowhere.
use Rattle.std.proofs.Common.{Result, Ok, Err, IfOk, OnOk}
use Rattle.std.specs.Result.{IsErr}

pub on_ok : {X E : Type 0} (r : Result X E) (P : Type 0) → P → OnOk r P
on_ok (Ok x) P h = h
on_ok (Err e) P h = tt

-- what follows for each Ok
pub if_ok : {X E : Type 0} (r : Result X E) (P Q : X → Type 0) → ((x : X) → P x → Q x) → IfOk r P → IfOk r Q
if_ok (Ok x) P Q f h = f x h
if_ok (Err e) P Q f h = tt

-- an error says nothing of what was to be Ok
pub err_ok : {X E : Type 0} (r : Result X E) (P : X → Type 0) → IsErr r → IfOk r P
err_ok (Ok x) P is = absurd (cc)
err_ok (Err e) P is = tt
