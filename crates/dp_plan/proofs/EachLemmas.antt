-- What is so of each element of a list.
use Rattle.std.proofs.Common.{◌≡◌, ℕ, zero, suc, List, [], ◌∷◌, ◌++◌, Some, slice_get, map, subst}
use Rattle.dp_plan.specs.Each.{Each}

-- .. where it is so of any
pub every : {X : Type 0} (Q : X → Type 0) → ((x : X) → Q x) → (xs : List X) → Each Q xs
every Q f [] = tt
every Q f (x ∷ xs) = (f x, every Q f xs)

-- .. gives another
pub each_map : {X : Type 0} (Q R : X → Type 0) (f : (x : X) → Q x → R x) (xs : List X) → Each Q xs → Each R xs
each_map Q R f [] h = tt
each_map Q R f (x ∷ xs) h = (f x h.0, each_map Q R f xs h.1)

-- of a list and another, and of one element more
pub each-lists : {A : Type 0} (P : A → Type 0) (xs ys : List A) → Each P xs → Each P ys → Each P (xs ++ ys)
each-lists P [] ys each more = more
each-lists P (x ∷ xs) ys each more = (each.0, each-lists P xs ys each.1 more)

pub each-append : {A : Type 0} (P : A → Type 0) (xs : List A) (x : A) → Each P xs → P x → Each P (xs ++ x ∷ [])
each-append P [] x each p = (p, tt)
each-append P (y ∷ xs) x each p = (each.0, each-append P xs x each.1 p)

-- of the parts of a list
pub each_split : {A : Type 0} (P : A → Type 0) (xs ys : List A) → Each P (xs ++ ys) → Each P xs × Each P ys
each_split P [] ys each = (tt, each)
each_split P (x ∷ xs) ys each = let both = each_split P xs ys each.1 in ((each.0, both.0), both.1)

-- of what is made of each
pub each_made : {A B : Type 0} (P : A → Type 0) (Q : B → Type 0) (f : A → B) → ((x : A) → P x → Q (f x)) → (xs : List A) → Each P xs → Each Q (map f xs)
each_made P Q f one [] each = tt
each_made P Q f one (x ∷ xs) each = (one x each.0, each_made P Q f one xs each.1)

-- at a place
pub each_at : {X : Type 0} (Q : X → Type 0) (xs : List X) → Each Q xs → (j : ℕ) (x : X) → slice_get xs j ≡ Some x → Q x
each_at Q [] h j x e = absurd (cc e)
each_at Q (y ∷ ys) h zero x e = let is : y ≡ x = cc e in subst Q is h.0
each_at Q (y ∷ ys) h (suc j) x e = each_at Q ys h.1 j x e
