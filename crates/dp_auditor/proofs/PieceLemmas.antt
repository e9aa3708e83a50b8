-- Pieces of a text that are compared one after the other.
use Rattle.std.proofs.Common.{◌≡◌, refl, sym, ap, ap₂, ◌∙◌, subst₂, arith, ℕ, List, [], ◌++◌, append_assoc, length-append, length, take, drop, Option, Some}
use Rattle.std.proofs.Common.{None, IfNone, IfSome}
use Rattle.std.proofs.Math.Seq.{take-add, take-append_seam}
use Rattle.dp_log.specs.Compared.{DifferFirst}
use Rattle.dp_auditor.specs.Comparing.{Compared, Compares, Fails, PassesPiece}

pub passes_none : (a : Compared) → PassesPiece a a []
passes_none a = record { log = refl; piece_is = refl; place_is = omega arith }

pub passes_join : (a b c : Compared) (x y : List ℕ) → PassesPiece a b x → PassesPiece b c y → PassesPiece a c (x ++ y)
passes_join a b c x y h k = record {
  log = k.log ∙ h.log;
  piece_is = h.piece_is ∙ ap (λ (xs : List ℕ). x ++ xs) (ap (drop b.place) (sym h.log) ∙ k.piece_is ∙ ap (λ (l : List ℕ). y ++ drop c.place l) h.log)
      ∙ sym (append_assoc x y (drop c.place a.log));
  place_is = omega (arith, h.place_is, k.place_is, length-append x y);
}

-- What was compared stands in front.
pub compared_is : (a b : Compared) (x : List ℕ) → PassesPiece a b x → take b.place b.log ≡ take a.place a.log ++ x
compared_is a b x h =
    ap₂ (λ (n : ℕ) (l : List ℕ). take n l) h.place_is h.log ∙ take-add a.place (length x) a.log
    ∙ ap (λ (xs : List ℕ). take a.place a.log ++ take (length x) xs) h.piece_is
    ∙ ap (λ (xs : List ℕ). take a.place a.log ++ xs) (take-append_seam x (drop b.place a.log))

-- a piece that differs behind one that passes
pub fails_behind : (a b : Compared) (x expected : List ℕ) (line : ℕ) → PassesPiece a b x → Fails b expected line → Fails a (x ++ expected) line
fails_behind a b x expected line h f =
    subst₂ (λ (log text : List ℕ). DifferFirst log text line) h.log (ap (λ (xs : List ℕ). xs ++ expected) (compared_is a b x h)
    ∙ append_assoc (take a.place a.log) x expected) f

-- what `take` tells
pub compares_by : (old new : Compared) (piece : List ℕ) (r : Option ℕ) → IfNone r (PassesPiece old new piece) →
    IfSome r (λ line. (later : List ℕ) → Fails old (piece ++ later) line) → Compares old new piece r
compares_by old new piece None h k = h
compares_by old new piece (Some line) h k = k
