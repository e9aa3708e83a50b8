-- Prints that are written bit by bit: what is left where nothing waits.
use Rattle.std.proofs.Common.{◌≡◌, ap, subst, ℕ, List, [], ◌++◌, ℤ, Option}
use Rattle.dp_report.specs.PrintsText.{prints_bytes}
use Rattle.dp_edge.specs.Writing.{WritesFront}
use Rattle.dp_crew.specs.Output.{Emits}
use Rattle.dp_crew.proofs.StreamLemmas.{emits_ahead, emits_front, emits_on, front_ahead}

-- What was to come behind nothing that waits, and what waits, was written up to nothing that waits.
pub emits_flushed : (first waiting left a b : List ℤ) (told mid tells : Option (List ℕ)) → first ≡ [] → left ≡ [] → Emits (first ++ a) (waiting ++ b) told mid →
    Emits waiting left mid tells → Emits a b told tells
emits_flushed first waiting left a b told mid tells none empty e f =
    let whole : Emits (waiting ++ b) (left ++ b) mid tells = emits_ahead waiting left b mid tells f in
    let all : Emits (first ++ a) (left ++ b) told tells = emits_on (first ++ a) (waiting ++ b) (left ++ b) told mid tells e whole in
    subst (λ (xs : List ℤ). Emits xs b told tells) (ap (λ (xs : List ℤ). xs ++ a) none) (subst (λ (xs : List ℤ). Emits (first ++ a) xs told tells)
    (ap (λ (xs : List ℤ). xs ++ b) empty) all)

-- .. and a front of it, where it stopped
pub front_flushed : (first waiting a b : List ℤ) (told mid tells : Option (List ℕ)) → first ≡ [] → Emits (first ++ a) (waiting ++ b) told mid →
    WritesFront (prints_bytes waiting) mid tells → WritesFront (prints_bytes a) told tells
front_flushed first waiting a b told mid tells none e w =
    subst (λ (xs : List ℤ). WritesFront (prints_bytes xs) told tells) (ap (λ (xs : List ℤ). xs ++ a) none)
    (emits_front (first ++ a) (waiting ++ b) told mid tells e (front_ahead waiting b mid tells w))
