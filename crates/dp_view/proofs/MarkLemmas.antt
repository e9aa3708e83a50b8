-- Flags that are taken back.
use Rattle.dp_semantics.proofs.Names.{◌≡◌, inl, inr, refl, sym, ◌∙◌, arith, ℕ, Bool, false, List, [], ◌∷◌, length, get_or, slice_set, cases_eq, cases_lt}
use Rattle.dp_semantics.proofs.Names.{length-set, get_or_past, get_or-set_other, get_or-set_at}
use Rattle.dp_plan.specs.Written.{has}
use Rattle.dp_view.specs.Marked.{unset}
use Rattle.dp_view.proofs.CellLemmas.{has_past}

pub unset-length : (cells : List ℕ) (flags : List Bool) → length (unset cells flags) ≡ length flags
unset-length [] flags = refl
unset-length (x ∷ xs) flags = unset-length xs (slice_set flags x false) ∙ length-set flags x false

taken : (flags : List Bool) (y d : ℕ) → y ≡ d → get_or (slice_set flags y false) d false ≡ false
taken flags y d e = elim (cases_lt d (length flags)) [
  | inl h ↦ get_or-set_at flags y d false false (sym e) (omega (arith, e, h))
  | inr h ↦ get_or_past (slice_set flags y false) d false (omega (arith, h, length-set flags y false))
]

unset_most : (xs : List ℕ) (flags : List Bool) → ((c : ℕ) → has c xs ≡ false → get_or flags c false ≡ false) → (c : ℕ) → get_or (unset xs flags) c false ≡ false
unset_most [] flags are c = are c refl
unset_most (y ∷ ys) flags are c = unset_most ys (slice_set flags y false) (λ d out. elim (cases_eq y d) [
  | inl e ↦ taken flags y d e
  | inr e ↦ get_or-set_other flags y d false false (λ f. e (sym f)) ∙ are d (has_past d y ys e ∙ out)
]) c

-- Where those that are set are these cells', none is set behind it.
pub unset_none : (cells : List ℕ) (flags : List Bool) → ((c : ℕ) → get_or flags c false ≡ has c cells) → (c : ℕ) → get_or (unset cells flags) c false ≡ false
unset_none cells flags are c = unset_most cells flags (λ d out. are d ∙ out) c
