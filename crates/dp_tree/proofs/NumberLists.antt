-- Numbers in a row.
use Rattle.std.proofs.Common.{◌≡◌, refl, ap, ◌∙◌, ℕ, zero, suc, ◌+◌, ◌∷◌, ◌++◌, length, arith}
use Rattle.dp_tree.specs.Numbering.{numbers_from}

pub length-numbers_from : (k n : ℕ) → length (numbers_from k n) ≡ n
length-numbers_from k zero = refl
length-numbers_from k (suc n) = ap suc (length-numbers_from (k + 1) n)

pub numbers_from-append : (k a b : ℕ) → numbers_from k (a + b) ≡ numbers_from k a ++ numbers_from (k + a) b
numbers_from-append k zero b = let e : 0 + b ≡ b = omega arith in let f : k ≡ k + 0 = omega arith in ap (numbers_from k) e ∙ ap (λ m. numbers_from m b) f
numbers_from-append k (suc a) b =
    let e : suc a + b ≡ suc (a + b) = omega arith in let f : (k + 1) + a ≡ k + suc a = omega arith in
    ap (numbers_from k) e ∙ ap (λ xs. k ∷ xs) (numbers_from-append (k + 1) a b ∙ ap (λ m. numbers_from (k + 1) a ++ numbers_from m b) f)
