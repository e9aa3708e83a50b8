-- What is put into own columns.
use Rattle.std.proofs.Common.{◌≡◌, sym, ap, subst, ℕ, zero, suc, List, [], ◌∷◌, slice_get, Some}
use Rattle.dp_columns.specs.Columned.{KeepsValues, KeepsElements, KeepsBlocks}
use Rattle.dp_columns.specs.declared.ColumnKind.{ColumnKind}
use Rattle.dp_columns.specs.declared.ColumnKind.TheVariants.{Nothing, Value, Element, Block}
use Rattle.dp_lean_turn.specs.Notes.{kind_at}

-- a kind other than nothing stands there
module _ (kind : ColumnKind) (kept : Nothing ≡ kind → ⊥) where
  pub kind_found : (kinds : List ColumnKind) (place : ℕ) → kind_at kinds place ≡ kind → slice_get kinds place ≡ Some kind
  kind_found [] place e = absurd (kept e)
  kind_found (k ∷ kinds) zero e = ap Some e
  kind_found (k ∷ kinds) (suc place) e = kind_found kinds place e

pub value_found : (kinds : List ColumnKind) (place cell : ℕ) → kind_at kinds place ≡ Value cell → slice_get kinds place ≡ Some (Value cell)
value_found kinds place cell e = kind_found (Value cell) (λ c. cc c) kinds place e

pub keeps_values : (kinds : List ColumnKind) (place cell : ℕ) → kind_at kinds place ≡ Value cell → KeepsValues (slice_get kinds place)
keeps_values kinds place cell e = subst KeepsValues (sym (value_found kinds place cell e)) tt

pub keeps_elements : (kinds : List ColumnKind) (place : ℕ) → kind_at kinds place ≡ Element → KeepsElements (slice_get kinds place)
keeps_elements kinds place e = subst KeepsElements (sym (kind_found Element (λ c. cc c) kinds place e)) tt

pub keeps_blocks : (kinds : List ColumnKind) (place : ℕ) → kind_at kinds place ≡ Block → KeepsBlocks (slice_get kinds place)
keeps_blocks kinds place e = subst KeepsBlocks (sym (kind_found Block (λ c. cc c) kinds place e)) tt
