-- Numbers that go up one by one, as those of a region's sites do, and how a site is found in a list.
use Rattle.dp_semantics.proofs.Names.{◌≡◌, ap, ◌∙◌, ℕ, zero, suc, ◌+◌, ◌<◌, ◌≤◌, List, [], ◌∷◌, length, map, get_or, arith}
pub use Rattle.dp_plan.proofs.Ascent.{Ascends, ascends-numbers_from, ascends_split}
pub use Rattle.dp_plan.proofs.TopStatements.{sites_are}
use Rattle.dp_semantics.proofs.Setting.{Each, each_map}
pub use Rattle.dp_plan.proofs.Found.{has_each as has_fact}

-- what is given for each number stands at its place
pub ascends_get : (f : ℕ → ℕ) (k i : ℕ) (ns : List ℕ) → Ascends k ns → i < length ns → get_or (map f ns) i 0 ≡ f (k + i)
ascends_get f k i [] h low = absurd (omega (arith, low))
ascends_get f k zero (n ∷ ns) h low = let e : n ≡ k + 0 = omega (arith, h.0) in ap f e
ascends_get f k (suc i) (n ∷ ns) h low = let e : suc k + i ≡ k + suc i = omega arith in ascends_get f (suc k) i ns h.1 (omega (arith, low)) ∙ ap f e

abbrev pub Between : ℕ → ℕ → ℕ → Type 0
Between k n site = (k ≤ site) × (site < k + n)

pub ascends_between : (k : ℕ) (ns : List ℕ) → Ascends k ns → Each (Between k (length ns)) ns
ascends_between k [] h = tt
ascends_between k (n ∷ ns) h = (
  (omega (arith, h.0), omega (arith, h.0)),
  each_map (Between (suc k) (length ns)) (Between k (suc (length ns))) (λ m b. (omega (arith, b.0), omega (arith, b.1))) ns (ascends_between (suc k) ns h.1),
)

pub each_of_map : {X Y : Type 0} (Q : Y → Type 0) (f : X → Y) (xs : List X) → Each Q (map f xs) → Each (λ x. Q (f x)) xs
each_of_map Q f [] h = tt
each_of_map Q f (x ∷ xs) h = (h.0, each_of_map Q f xs h.1)
