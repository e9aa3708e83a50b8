-- Lists that grow by one item.
use Rattle.std.proofs.Common.{◌≡◌, refl, sym, ap, ◌∙◌, ℕ, zero, suc, ◌+◌, ◌<◌, List, [], ◌∷◌, ◌++◌, append_assoc, append-nil, map, drop, length, arith}

pub same_next : {X Y : Type 0} (b : Y) (xs : List X) (i : ℕ) → i < length xs → map (λ _. b) (drop i xs) ≡ b ∷ map (λ _. b) (drop (suc i) xs)
same_next b [] i h = absurd (omega (arith, h))
same_next b (x ∷ xs) zero h = refl
same_next b (x ∷ xs) (suc i) h = same_next b xs i (omega (arith, h))

-- one item more of a list whose items are all the same
pub pushed_same : {X Y : Type 0} (b : Y) (xs : List X) (i : ℕ) (out new : List Y) (item : Y) (whole : List Y) → i < length xs →
    new ≡ out ++ item ∷ [] → item ≡ b
    → out ++ map (λ _. b) (drop i xs) ≡ whole → new ++ map (λ _. b) (drop (i + 1) xs) ≡ whole
pushed_same b xs i out new item whole h pushed is so =
    let next : i + 1 ≡ suc i = omega arith in
    ap (λ (ys : List _). ys ++ map (λ _. b) (drop (i + 1) xs)) (pushed ∙ ap (λ y. out ++ y ∷ []) is)
    ∙ append_assoc out (b ∷ []) (map (λ _. b) (drop (i + 1) xs))
    ∙ ap (λ k. out ++ b ∷ map (λ _. b) (drop k xs)) next ∙ ap (λ (ys : List _). out ++ ys) (sym (same_next b xs i h)) ∙ so

-- nothing is left to append
pub all_joined : {X : Type 0} (out rest whole : List X) → out ++ rest ≡ whole → rest ≡ [] → out ≡ whole
all_joined out rest whole so none = sym (append-nil out) ∙ ap (λ (ys : List _). out ++ ys) (sym none) ∙ so
