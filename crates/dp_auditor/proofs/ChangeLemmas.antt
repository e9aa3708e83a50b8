-- The cells that pass a test, found one after the other.
use Rattle.std.proofs.Common.{◌≡◌, sym, ap, ◌∙◌, append-nil, append_assoc, arith, ℕ, suc, ◌+◌, ◌-◌, ◌<◌, Bool, true, false, if◌then◌else◌, List, [], ◌∷◌, ◌++◌}
use Rattle.std.proofs.Common.{filter}
use Rattle.dp_tree.specs.Numbering.{numbers_from}

pub found_next : (test : ℕ → Bool) (n c : ℕ) (out next all : List ℕ) → c < n → next ≡ out ++ (if test c then c ∷ [] else []) →
    out ++ filter test (numbers_from c (n - c)) ≡ all → next ++ filter test (numbers_from (c + 1) (n - (c + 1))) ≡ all
found_next test n c out next all less is so = ap (λ (xs : List ℕ). xs ++ filter test (numbers_from (c + 1) (n - (c + 1)))) is ∙ by (test c) ∙ sym more ∙ so
  where
    size : n - c ≡ suc (n - (c + 1))
    size = omega (arith, less)

    more : out ++ filter test (numbers_from c (n - c)) ≡ out ++ (if test c then c ∷ filter test (numbers_from (c + 1) (n - (c + 1)))
        else filter test (numbers_from (c + 1) (n - (c + 1))))
    more = ap (λ (k : ℕ). out ++ filter test (numbers_from c k)) size

    by : (b : Bool) → (out ++ (if b then c ∷ [] else [])) ++ filter test (numbers_from (c + 1) (n - (c + 1))) ≡ out
        ++ (if b then c ∷ filter test (numbers_from (c + 1) (n - (c + 1))) else filter test (numbers_from (c + 1) (n - (c + 1))))
    by true = append_assoc out (c ∷ []) (filter test (numbers_from (c + 1) (n - (c + 1))))
    by false = ap (λ (xs : List ℕ). xs ++ filter test (numbers_from (c + 1) (n - (c + 1)))) (append-nil out)
