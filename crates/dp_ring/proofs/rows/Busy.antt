-- What a call has looked at, whose turn hasn't come, or has.
use Rattle.std.proofs.Common.{◌≡◌, ◌≢◌, refl, ap, ℕ, ◌+◌}
use Rattle.dp_ring.specs.declared.view.Standing.{Standing}
use Rattle.dp_ring.specs.Views.{awaited_word, awaited_number, after_take}
use Rattle.dp_ring.specs.Calls.{IsBusy, served}

not_awaited : {Key : Type 0} (word : ℕ) (old new : Standing Key) → IsBusy word old new → word ≢ awaited_number old.size old.view
not_awaited word old new busy = busy.0

looked_once : {Key : Type 0} (word : ℕ) (old new : Standing Key) → IsBusy word old new → (new.view.word ≡ awaited_word old.size old.view)
    × (new.view.value ≡ word) × (new.view.loads ≡ old.view.loads + 1)
looked_once word old new busy = (ap (λ v. v.word) busy.1, ap (λ v. v.value) busy.1, ap (λ v. v.loads) busy.1)

took_after_a_look : {Key : Type 0} (s : Standing Key) → let v = after_take (served s) in
    (v.word ≡ awaited_word s.size s.view) × (v.value ≡ awaited_number s.size s.view) × (v.loads ≡ s.view.loads + 1)
took_after_a_look s = (refl, refl, refl)
