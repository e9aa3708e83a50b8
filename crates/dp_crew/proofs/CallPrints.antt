-- What is written of the prints of two calls.
use Rattle.std.proofs.Common.{subst, append_assoc, ℕ, List, ◌++◌, ℤ, Option}
use Rattle.dp_edge.specs.Writing.{WritesFront}
use Rattle.dp_report.specs.PrintsText.{prints_bytes}
use Rattle.dp_crew.specs.Output.{Emits}
use Rattle.dp_crew.proofs.StreamLemmas.{emits_ahead, emits_front, emits_on}

-- the prints of two calls
module _ (w a w1 b : List ℤ) (told mid : Option (List ℕ)) (e : Emits (w ++ a) w1 told mid) where
  pub emits_both : (w2 : List ℤ) (tells : Option (List ℕ)) → Emits (w1 ++ b) w2 mid tells → Emits (w ++ (a ++ b)) w2 told tells
  emits_both w2 tells f =
      subst (λ (xs : List ℤ). Emits xs w2 told tells) (append_assoc w a b) (emits_on ((w ++ a) ++ b) (w1 ++ b) w2 told mid tells
      (emits_ahead (w ++ a) w1 b told mid e) f)

  pub front_both : (tells : Option (List ℕ)) → WritesFront (prints_bytes (w1 ++ b)) mid tells → WritesFront (prints_bytes (w ++ (a ++ b))) told tells
  front_both tells f =
      subst (λ (xs : List ℤ). WritesFront (prints_bytes xs) told tells) (append_assoc w a b) (emits_front ((w ++ a) ++ b) (w1 ++ b) told mid tells
      (emits_ahead (w ++ a) w1 b told mid e) f)
