-- The readers of earlier stages.
use Rattle.std.proofs.Common.{◌≡◌, refl, sym, ap, ◌∙◌, ℕ, zero, suc, ◌-◌, List, [], slice_get, Some, arith}
use Rattle.std.proofs.lemmas.Option.{get_or_from_slice_get}
use Rattle.dp_columns.specs.Left.{Left}
use Rattle.dp_columns.proofs.Places.{at_map}
use Rattle.dp_lean_turn.specs.Notes.{kinds_of}
use Rattle.dp_lean_turn.specs.Left.{all_kinds}

-- the kinds of a stage are its reader's
pub kinds_are : (readers : List Left) (stage : ℕ) (reader : Left) → (stage ≡ 0 → ⊥) → slice_get readers (stage - 1) ≡ Some reader →
    kinds_of (all_kinds readers) stage ≡ reader.kinds
kinds_are readers zero reader some at = absurd (some refl)
kinds_are readers (suc t) reader some at =
    let here : suc t - 1 ≡ t = omega arith in
    get_or_from_slice_get (all_kinds readers) t reader.kinds [] (at_map (λ (r : Left). r.kinds) readers t reader (sym (ap (slice_get readers) here) ∙ at))
