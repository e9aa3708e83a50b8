-- What one side of an `or` says of it.
use Rattle.dp_semantics.proofs.Names.{◌≡◌, refl, sym, ap, ◌∙◌, Bool, true, false, ◌||◌, or-false, or-true}

pub true_or : (a b : Bool) → b ≡ true → (a || b) ≡ true
true_or a b e = ap (λ (c : Bool). a || c) e ∙ or-true a

pub true_left : (a b : Bool) → a ≡ true → (a || b) ≡ true
true_left a b e = ap (λ (c : Bool). c || b) e

pub false_or : (a b : Bool) → a ≡ false → (a || b) ≡ b
false_or a b e = ap (λ (c : Bool). c || b) e

pub or_none : (a b : Bool) → b ≡ false → (a || b) ≡ a
or_none a b e = ap (λ (c : Bool). a || c) e ∙ or-false a

pub clash : {b : Bool} → b ≡ true → b ≡ false → ⊥
clash e f = let q : true ≡ false = sym e ∙ f in absurd (cc q)

pub not_true : (b : Bool) → (b ≡ true → ⊥) → b ≡ false
not_true true e = absurd (e refl)
not_true false e = refl
