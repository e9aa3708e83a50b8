-- How much is left to translate: what each call on a statement's parts has less of than its caller.
use Rattle.std.proofs.Common.{◌≡◌, refl, ap, ap₂, ℕ, zero, suc, ◌+◌, ◌<◌, Bool, List, [], ◌∷◌, length, get_or, arith}
use Rattle.dp_tree.specs.declared.raw.RawExpr.{RawExpr}
use Rattle.dp_tree.specs.declared.raw.RawStmt.{RawStmt, Row_of-RawStmt, end_of-RawStmt, more_of-RawStmt}
use Rattle.dp_tree.specs.declared.raw.RawStmt.TheVariants as raw
use Rattle.dp_check.proofs.PlaceLemmas.{opened}

unfoldable mutual
  pub weight : RawStmt → ℕ
  weight (raw.If' line cond _ a _ b) = 3 + (weight_in a + weight_in b)
  weight (raw.While' line marked cond _ body) = 3 + weight_in body
  weight (raw.For' line marked _ first cond _ step _ body) = 5 + (weight_in first + (weight_in step + weight_in body))
  weight _ = 0

  pub weight_in : {n : _} → Row_of-RawStmt n → ℕ
  weight_in end_of-RawStmt = 0
  weight_in (more_of-RawStmt s rest) = 1 + (weight s + weight_in rest)

unfoldable pub weight_all : List RawStmt → ℕ
weight_all [] = 0
weight_all (s ∷ rest) = 1 + (weight s + weight_all rest)

weight_hidden : (xs : List RawStmt) → weight_in (Rattle.dp_tree.specs.declared.raw.RawStmt.TheBlock.hidden-the_row-RawStmt-0 xs) ≡ weight_all xs
unfolding weight weight_all opened
weight_hidden [] = refl
weight_hidden (x ∷ xs) = ap (λ (n : ℕ). 1 + (weight x + n)) (weight_hidden xs)

pub weight-If : (line : ℕ) (cond : RawExpr) (a b : List RawStmt) → weight (raw.If line cond a b) ≡ 3 + (weight_all a + weight_all b)
unfolding weight opened
weight-If line cond a b = ap₂ (λ (m n : ℕ). 3 + (m + n)) (weight_hidden a) (weight_hidden b)

pub weight-While : (line : ℕ) (marked : Bool) (cond : RawExpr) (body : List RawStmt) → weight (raw.While line marked cond body) ≡ 3 + weight_all body
unfolding weight opened
weight-While line marked cond body = ap (λ (m : ℕ). 3 + m) (weight_hidden body)

pub weight-For : (line : ℕ) (marked : Bool) (first : List RawStmt) (cond : RawExpr) (step body : List RawStmt)
    → weight (raw.For line marked first cond step body) ≡ 5 + (weight_all first + (weight_all step + weight_all body))
unfolding weight opened
weight-For line marked first cond step body = λ i. 5 + (weight_hidden first i + (weight_hidden step i + weight_hidden body i))

pub weight_item : (xs : List RawStmt) (i : ℕ) (d : RawStmt) → i < length xs → weight (get_or xs i d) < weight_all xs
unfolding weight_all
weight_item [] i d h = absurd (omega arith)
weight_item (x ∷ xs) zero d h = omega arith
weight_item (x ∷ xs) (suc i) d h = let below : i < length xs = omega arith in let e = weight_item xs i d below in omega arith
