-- The entries of a log, as net stores.
use Rattle.std.proofs.Common.{◌≡◌, refl, ap, ◌∙◌, ℕ, zero, suc, ◌==◌, true, false, List, [], ◌∷◌, ◌++◌, length, map, set}
use Rattle.std.proofs.Common.{ℤ, Some, arith, eq-eqb}
use Rattle.dp_net.specs.NetItems.{put}
use Rattle.dp_columns.specs.declared.Pair.{Pair}
use Rattle.dp_columns.specs.Paired.{pair_store}
use Rattle.dp_lean_turn.specs.Logged.{AreOfOtherCells, IsFirstAt}

unwrapped : {X : Type 0} {a b : X} → Some a ≡ Some b → a ≡ b
unwrapped e = cc

rest_others : (cell n : ℕ) (x : Pair) (stores : List Pair) → AreOfOtherCells cell (suc n) (x ∷ stores) → AreOfOtherCells cell n stores
rest_others cell n x stores before k e less at = before (suc k) e (omega (arith, less)) at

-- where an earlier store into the cell stands, it is taken over
pub put_over : (cell place : ℕ) (value : ℤ) (stores : List Pair) → IsFirstAt cell place stores →
    map pair_store (set stores place (record { cell = cell; value = value })) ≡ put cell value (map pair_store stores)
put_over cell place value [] (before, e, at, is) = absurd (cc at)
put_over cell zero value (x ∷ stores) (before, e, at, is) =
    let same : (x.cell == cell) ≡ true = ap (λ (y : Pair). y.cell == cell) (unwrapped at) ∙ ap (λ (c : ℕ). c == cell) is ∙ eq-eqb cell cell refl in
    rw same refl
put_over cell (suc place) value (x ∷ stores) (before, e, at, is) =
    let other : (x.cell == cell) ≡ false = before 0 x (omega arith) refl in
    rw other (ap (λ ys. pair_store x ∷ ys) (put_over cell place value stores (rest_others cell place x stores before, e, at, is)))

-- .. and else it stands behind the others
pub put_behind : (cell : ℕ) (value : ℤ) (stores : List Pair) → AreOfOtherCells cell (length stores) stores →
    map pair_store (stores ++ record { cell = cell; value = value } ∷ []) ≡ put cell value (map pair_store stores)
put_behind cell value [] before = refl
put_behind cell value (x ∷ stores) before =
    let other : (x.cell == cell) ≡ false = before 0 x (omega arith) refl in
    rw other (ap (λ ys. pair_store x ∷ ys) (put_behind cell value stores (rest_others cell (length stores) x stores before)))
