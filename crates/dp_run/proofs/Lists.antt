-- Lists behind a seam, and places in them.
use Rattle.std.proofs.Common.{◌≡◌, refl, ap, ◌∙◌, ℕ, suc, ◌+◌, Bool, true, false, not, if◌then◌else◌, List, [], ◌∷◌, map, arith}
use Rattle.std.proofs.lemmas.Bool.{and_parts}
use Rattle.std.specs.List.{list_all}
use Rattle.dp_tree.specs.Iteration.{places}
use Rattle.dp_epoch.specs.RegionRun.{beyond}
use Rattle.std.proofs.lemmas.Simd.{map-map}

pub map_same : {X Y : Type 0} (f g : X → Y) → ((x : X) → f x ≡ g x) → (xs : List X) → map f xs ≡ map g xs
map_same f g h [] = refl
map_same f g h (x ∷ xs) = ap (λ (y : _). y ∷ map f xs) (h x) ∙ ap (λ (ys : List _). g x ∷ ys) (map_same f g h xs)

map_self : {X : Type 0} (f : X → X) → ((x : X) → f x ≡ x) → (xs : List X) → map f xs ≡ xs
map_self f h [] = refl
map_self f h (x ∷ xs) = ap (λ (y : _). y ∷ map f xs) (h x) ∙ ap (λ (ys : List _). x ∷ ys) (map_self f h xs)

-- places moved by nothing, and by two distances
pub beyond_none : (ks : List ℕ) → map (beyond 0) ks ≡ ks
beyond_none ks = map_self (beyond 0) (λ k. omega arith) ks

pub beyond_twice : (a b n : ℕ) → n ≡ a + b → (ks : List ℕ) → map (beyond a) (map (beyond b) ks) ≡ map (beyond n) ks
beyond_twice a b n e ks = map-map (beyond a) (beyond b) ks ∙ map_same (λ k. beyond a (beyond b k)) (beyond n) (λ k. omega (arith, e)) ks

module _ {X : Type 0} (test : X → Bool) where
  off : (k : ℕ) (rest : List X) (t : Bool) → not t ≡ true → (if t then k ∷ places test (suc k) rest else places test (suc k) rest) ≡ places test (suc k) rest
  off k rest false e = refl
  off k rest true e = absurd (cc)

  pub no_places : (k : ℕ) (a : List X) → list_all (λ x. not (test x)) a ≡ true → places test k a ≡ []
  no_places k [] h = refl
  no_places k (x ∷ a) h = let parts = and_parts (not (test x)) (list_all (λ y. not (test y)) a) h in off k a (test x) parts.0 ∙ no_places (suc k) a parts.1

  -- places counted from further on
  pub places_moved : (n k : ℕ) (a : List X) → places test (n + k) a ≡ map (beyond n) (places test k a)
  places_moved n k [] = refl
  places_moved n k (x ∷ a) = by (test x) (let e : suc (n + k) ≡ n + suc k = omega arith in ap (λ (m : ℕ). places test m a) e ∙ places_moved n (suc k) a)
    where
      by : (t : Bool) → places test (suc (n + k)) a ≡ map (beyond n) (places test (suc k) a) →
          (if t then (n + k) ∷ places test (suc (n + k)) a else places test (suc (n + k)) a) ≡ map (beyond n) (if t then k ∷ places test (suc k) a
          else places test (suc k) a)
      by true next = ap (λ (ks : List ℕ). (n + k) ∷ ks) next
      by false next = next
