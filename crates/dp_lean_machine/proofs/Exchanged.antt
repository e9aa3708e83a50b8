-- Columns that take the place of others among those of the stages.
use Rattle.dp_semantics.proofs.Names.{◌≡◌, refl, sym, ap, ◌∙◌, arith, ℕ, zero, suc, ◌<◌, List, [], ◌∷◌, ◌++◌, length, map, take, Some, slice_get, slice_set}
use Rattle.dp_semantics.proofs.Names.{get_or}
use Rattle.dp_columns.specs.Left.{Left}
use Rattle.dp_lean_epoch.specs.LeanBatch.{no_columns}
use Rattle.dp_lean_machine.specs.Held.{kinds_in, held_in}
use Rattle.dp_lean_machine.specs.Within.{read_of}
use Rattle.dp_lean_machine.specs.declared.batch.StageColumns.{StageColumns}

pub some_low : (xs : List StageColumns) (s : ℕ) (x : StageColumns) → slice_get xs s ≡ Some x → s < length xs
some_low [] s x is = absurd (cc is)
some_low (y ∷ xs) zero x is = omega arith
some_low (y ∷ xs) (suc s) x is = let low = some_low xs s x is in omega (arith, low)

pub take_put : (xs : List StageColumns) (s : ℕ) (h v : StageColumns) → s < length xs → take (suc s) (slice_set (slice_set xs s h) s v) ≡ take s xs ++ v ∷ []
take_put [] s h v low = absurd (omega (arith, low))
take_put (x ∷ xs) zero h v low = refl
take_put (x ∷ xs) (suc s) h v low = ap (λ (ys : List StageColumns). x ∷ ys) (take_put xs s h v (omega (arith, low)))

pub take_before : (xs : List StageColumns) (s : ℕ) (h : StageColumns) → take s (slice_set xs s h) ≡ take s xs
take_before [] zero h = refl
take_before [] (suc s) h = refl
take_before (x ∷ xs) zero h = refl
take_before (x ∷ xs) (suc s) h = ap (λ (ys : List StageColumns). x ∷ ys) (take_before xs s h)

pub kinds_back : (xs : List StageColumns) (s : ℕ) (h v x : StageColumns) → slice_get xs s ≡ Some x → kinds_in v ≡ kinds_in x →
    map kinds_in (slice_set (slice_set xs s h) s v) ≡ map kinds_in xs
kinds_back [] s h v x is same = absurd (cc is)
kinds_back (y ∷ xs) zero h v x is same = ap (λ (ks : List _). ks ∷ map kinds_in xs) (same ∙ ap kinds_in (sym (some_is is)))
  where
    some_is : {X : Type 0} {x y : X} → Some x ≡ Some y → x ≡ y
    some_is e = cc e
kinds_back (y ∷ xs) (suc s) h v x is same = ap (λ (ks : List _). kinds_in y ∷ ks) (kinds_back xs s h v x is same)

pub kinds_get : (xs : List StageColumns) (s : ℕ) (x : StageColumns) → slice_get xs s ≡ Some x → kinds_in x ≡ get_or (map kinds_in xs) s []
kinds_get [] s x is = absurd (cc is)
kinds_get (y ∷ xs) zero x is = ap kinds_in (some_is is)
  where
    some_is : {X : Type 0} {x y : X} → Some x ≡ Some y → y ≡ x
    some_is e = cc e
kinds_get (y ∷ xs) (suc s) x is = kinds_get xs s x is

pub kinds_taken : (xs : List StageColumns) (s : ℕ) → map kinds_in (take s xs) ≡ take s (map kinds_in xs)
kinds_taken [] zero = refl
kinds_taken [] (suc s) = refl
kinds_taken (x ∷ xs) zero = refl
kinds_taken (x ∷ xs) (suc s) = ap (λ (ks : List _). kinds_in x ∷ ks) (kinds_taken xs s)

-- a stage's reader has all that its columns tell
pub read_all : (cs : List StageColumns) (t : ℕ) (reader : Left) → slice_get (map read_of cs) t ≡ Some reader →
    (get_or (map held_in cs) t no_columns).columns.told ≡ reader.told
read_all [] t reader is = absurd (cc is)
read_all (c ∷ cs) zero reader is = ap (λ (l : Left). l.told) (some_is is)
  where
    some_is : {X : Type 0} {x y : X} → Some x ≡ Some y → x ≡ y
    some_is e = cc e
read_all (c ∷ cs) (suc t) reader is = read_all cs t reader is
