-- Pieces of native code, one after the other.
use Rattle.std.proofs.Common.{◌≡◌, subst, ℕ, suc, ◌+◌, List, ℤ, arith}
use Rattle.dp_tree.specs.declared.Program.{Program}
use Rattle.dp_tree.specs.Step.{Config}
use Rattle.dp_meaning.specs.steps.PlainSteps.{PlainStep, PlainSteps, none, more}
use Rattle.dp_native.specs.Reaches.{Reaches}

module _ (p : Program) (input : List ℤ) where
  joined : {c d : Config} {x y : List ℤ} {m : ℕ} {e : Config} {z : List ℤ} {n : ℕ} → PlainSteps p input c x d y m → PlainSteps p input d y e z n →
      PlainSteps p input c x e z (m + n)
  joined {c} {d} {x} {y} {m} steps none = let same : m ≡ m + 0 = omega arith in subst (λ (k : ℕ). PlainSteps p input c x d y k) same steps
  joined {c} {d} {x} {y} {m} {e} {z} steps (more {made = k} rest s) = let same : m + k + 1 ≡ m + (k + 1) = omega arith in
      subst (λ (j : ℕ). PlainSteps p input c x e z j) same (more (joined steps rest) s)

  pub reaches_none : (left : ℕ) (out : List ℤ) (c : Config) → Reaches p input left out c left out c
  reaches_none left out c = record { made = 0; spent = omega arith; steps = none }

  pub reaches_on : {l m n : ℕ} {xs ys zs : List ℤ} {c d e : Config} → Reaches p input l xs c m ys d → Reaches p input m ys d n zs e →
      Reaches p input l xs c n zs e
  reaches_on {l} {m} {n} a b =
      record { made = a.made + b.made; spent = (let f = a.spent in let g = b.spent in omega (arith, f, g)); steps = joined a.steps b.steps }

  -- by one step
  pub one : {m : ℕ} {out out' : List ℤ} {c d : Config} → PlainStep p input c d out out' → Reaches p input (suc m) out c m out' d
  one {m} step = record { made = 0 + 1; spent = omega arith; steps = more none step }
