-- The stores that clear the body locals of each region.
use Rattle.dp_meaning.proofs.Names.{◌≡◌, refl, ◌∙◌, sym, ap, ℕ, zero, suc, ◌<◌, ◌==◌, Bool, List, [], ◌∷◌, ◌++◌, get_or, length, slice_set}
use Rattle.dp_meaning.proofs.Names.{if◌then◌else◌, inl, inr, eq-eqb, ℤ, pos, StoreOf, VarInfo, is_local_of, clear_locals, with_stores}
use Rattle.std.proofs.lemmas.Bool.{cases_eq, ne_eqb}
use Rattle.std.proofs.lemmas.Grind.{get_or-set_at}
use Rattle.std.proofs.lemmas.List.{get_or-set_other}
use Rattle.dp_tree.specs.declared.VarScope.TheVariants.{Body}

-- a row that is empty is read as one that isn't there
pub empty_row : (rows : List (List StoreOf)) (r : ℕ) → get_or (rows ++ [] ∷ []) r [] ≡ get_or rows r []
empty_row [] zero = refl
empty_row [] (suc r) = refl
empty_row (row ∷ rows) zero = refl
empty_row (row ∷ rows) (suc r) = empty_row rows r

pub ruleset rows_grow = (empty_row)

store_behind : (list : List StoreOf) (s : StoreOf) (cells : List ℤ) → with_stores (list ++ s ∷ []) cells ≡ slice_set (with_stores list cells) s.cell.0 s.value
store_behind [] s cells = refl
store_behind (x ∷ list) s cells = store_behind list s (slice_set cells x.cell.0 x.value)

-- the store that clears a body local of region q goes to the row of that region
pub one_added : (old rows : List (List StoreOf)) (q : ℕ) (x : VarInfo) → x.scope ≡ Body q → q < length rows →
    ((r : ℕ) → get_or rows r [] ≡ get_or old r []) → (r : ℕ) (cells : List ℤ) →
    with_stores (get_or (slice_set rows q (get_or rows q [] ++ record { cell = x.first; value = pos 0 } ∷ [])) r []) cells
    ≡ clear_locals r (x ∷ []) (with_stores (get_or old r []) cells)
one_added old rows q x scope within same r cells = elim (cases_eq r q) [
  | inl e ↦ ap (λ (row : List StoreOf). with_stores row cells) (get_or-set_at rows q r (get_or rows q [] ++ s ∷ []) [] e within)
      ∙ store_behind (get_or rows q []) s cells
      ∙ ap (λ (row : List StoreOf). slice_set (with_stores row cells) x.first.0 (pos 0)) (same q ∙ ap (λ (k : ℕ). get_or old k []) (sym e))
      ∙ sym (by (eq-eqb q r (sym e)))
  | inr e ↦ ap (λ (row : List StoreOf). with_stores row cells) (get_or-set_other rows q r (get_or rows q [] ++ s ∷ []) [] e ∙ same r)
      ∙ sym (by (ne_eqb q r (λ f. e (sym f))))
]
  where
    s : StoreOf
    s = record { cell = x.first; value = pos 0 }

    by : {b : Bool} → (q == r) ≡ b → clear_locals r (x ∷ []) (with_stores (get_or old r []) cells)
        ≡ (if b then slice_set (with_stores (get_or old r []) cells) x.first.0 (pos 0) else with_stores (get_or old r []) cells)
    by e = ap (λ (t : Bool). if t then slice_set (with_stores (get_or old r []) cells) x.first.0 (pos 0) else with_stores (get_or old r []) cells)
        (ap (is_local_of r) scope ∙ e)
