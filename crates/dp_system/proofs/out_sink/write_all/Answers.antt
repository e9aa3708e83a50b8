use Rattle.std.proofs.Common.{◌≡◌, ℕ, ◌-◌, List, ◌++◌, length, take, drop, sym, ap, ◌∙◌, append_assoc, take-append-drop}
use Rattle.std.proofs.lemmas.List.{take_rest}
use Rattle.std.proofs.KnownBytes.{Appends-trans}
use Rattle.dp_system.proofs.KnownBytes.{front_and_more, front_alone}
use Rattle.dp_system.proofs.out_sink.write_all.Goals as goal

moves_front : (all done rest : List ℕ) (n : ℕ) → all ≡ done ++ rest → all ≡ (done ++ take n rest) ++ take (length rest - n) (drop n rest)
moves_front all done rest n e =
    e ∙ ap (λ l. done ++ l) (sym (take-append-drop n rest)) ∙ sym (append_assoc done (take n rest) (drop n rest))
    ∙ ap (λ l. (done ++ take n rest) ++ l) (sym (take_rest rest n))

pub turns-preserved : goal.turns-preserved
turns-preserved g c =
    let (done, split, appended) = c.turns.invariant in
    (done ++ take c.in-Ok.n c.turns.rest.now, moves_front _ done c.turns.rest.now c.in-Ok.n split, Appends-trans _ _ _ _ _ appended c.in-Ok.ensures.bytes)

pub returns-in-Ok-eq0-clause-err : goal.returns-in-Ok-eq0-clause-err
returns-in-Ok-eq0-clause-err g c =
    let (done, split, appended) = c.turns.invariant in
    front_and_more _ _ _ _ done c.turns.rest.now _ split appended c.in-Ok-eq0.ensures.bytes

pub returns-in-Err-clause-err : goal.returns-in-Err-clause-err
returns-in-Err-clause-err g c =
    let (done, split, appended) = c.turns.invariant in
    front_alone _ _ _ _ done c.turns.rest.now split appended c.in-Err.ensures.bytes
