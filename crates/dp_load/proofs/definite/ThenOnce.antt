-- What is read one after the other is one thing only, where each text is.
use Rattle.std.proofs.Common.{◌≡◌, ap, ap₂, subst, Result, Ok, Err}
use Rattle.dp_load.specs.Then.{Then, Both, FirstRefused, NextRefused}

-- this holds of one value at most
abbrev pub Once : {X : Type 0} → (X → Type 0) → Type 0
Once {X} P = (a b : X) → P a → P b → a ≡ b

module _ {X Y E : Type 0} {First : Result X E → Type 0} {Next : X → Result Y E → Type 0} (first_once : Once First)
    (next_once : (x : X) → First (Ok x) → Once (Next x)) where
  from_both : {b : Result (X × Y) E} (x : X) (y : Y) → First (Ok x) → Next x (Ok y) → Then First Next b → Ok (x, y) ≡ b
  from_both x y f n (Both z w g m) =
      let same : Ok x ≡ Ok z = first_once (Ok x) (Ok z) f g in
      let one : x ≡ z = cc same in
      let next : Ok y ≡ Ok w = next_once z g (Ok y) (Ok w) (subst (λ (v : X). Next v (Ok y)) one n) m in
      let other : y ≡ w = cc next in
      ap₂ (λ (a : X) (b : Y). Ok (a, b)) one other
  from_both x y f n (FirstRefused e g) = let clash : Ok x ≡ Err e = first_once (Ok x) (Err e) f g in absurd (cc clash)
  from_both x y f n (NextRefused z e g m) =
      let same : Ok x ≡ Ok z = first_once (Ok x) (Ok z) f g in
      let one : x ≡ z = cc same in
      let clash : Ok y ≡ Err e = next_once z g (Ok y) (Err e) (subst (λ (v : X). Next v (Ok y)) one n) m in
      absurd (cc clash)

  from_first : {b : Result (X × Y) E} (e : E) → First (Err e) → Then First Next b → Err e ≡ b
  from_first e f (Both z w g m) = let clash : Err e ≡ Ok z = first_once (Err e) (Ok z) f g in absurd (cc clash)
  from_first e f (FirstRefused d g) = let same : Err e ≡ Err d = first_once (Err e) (Err d) f g in let one : e ≡ d = cc same in ap (λ (x : E). Err x) one
  from_first e f (NextRefused z d g m) = let clash : Err e ≡ Ok z = first_once (Err e) (Ok z) f g in absurd (cc clash)

  from_next : {b : Result (X × Y) E} (x : X) (e : E) → First (Ok x) → Next x (Err e) → Then First Next b → Err e ≡ b
  from_next x e f n (Both z w g m) =
      let same : Ok x ≡ Ok z = first_once (Ok x) (Ok z) f g in
      let one : x ≡ z = cc same in
      let clash : Err e ≡ Ok w = next_once z g (Err e) (Ok w) (subst (λ (v : X). Next v (Err e)) one n) m in
      absurd (cc clash)
  from_next x e f n (FirstRefused d g) = let clash : Ok x ≡ Err d = first_once (Ok x) (Err d) f g in absurd (cc clash)
  from_next x e f n (NextRefused z d g m) =
      let same : Ok x ≡ Ok z = first_once (Ok x) (Ok z) f g in
      let one : x ≡ z = cc same in
      let next : Err e ≡ Err d = next_once z g (Err e) (Err d) (subst (λ (v : X). Next v (Err e)) one n) m in
      let other : e ≡ d = cc next in
      ap (λ (v : E). Err v) other

  pub then_once : Once (Then First Next)
  then_once a b (Both x y f n) k = from_both x y f n k
  then_once a b (FirstRefused e f) k = from_first e f k
  then_once a b (NextRefused x e f n) k = from_next x e f n k
