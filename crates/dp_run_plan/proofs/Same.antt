-- A list of as many equal items as another has.
use Rattle.std.proofs.Common.{◌≡◌, sym, ap, ◌∙◌, ℕ, suc, ◌+◌, ◌<◌, List, [], ◌∷◌, ◌++◌, map, length, drop, drop-cons, append_assoc, arith}

-- one item more
pub one_more : {A B : Type 0} (b : B) (d : A) (all : List A) (i : ℕ) (made after : List B) → i < length all → after ≡ made ++ b ∷ [] →
    made ++ map (λ (_ : A). b) (drop i all) ≡ map (λ (_ : A). b) all
    → after ++ map (λ (_ : A). b) (drop (i + 1) all) ≡ map (λ (_ : A). b) all
one_more {A} {B} b d all i made after lt pushed so_far =
    let next : i + 1 ≡ suc i = omega arith in
    ap (λ (n : ℕ). after ++ map (λ (_ : A). b) (drop n all)) next
    ∙ ap (λ (l : List B). l ++ map (λ (_ : A). b) (drop (suc i) all)) pushed
    ∙ append_assoc made (b ∷ []) (map (λ (_ : A). b) (drop (suc i) all))
    ∙ ap (λ (l : List A). made ++ map (λ (_ : A). b) l) (sym (drop-cons all i d lt))
    ∙ so_far
