-- Pages with a last one behind them.
use Rattle.std.proofs.Common.{◌≡◌, ℕ, ℤ, ◌+◌, ◌<◌, ◌≤◌, List, [], ◌∷◌, ◌++◌, length, Some, sym, ap, ◌∙◌, subst, length-append, slice_get, get_or, arith}
use Rattle.std.proofs.Math.ListN.{set}
use Rattle.std.proofs.lemmas.Option.{slice_get_within, get_or_from_slice_get}
use Rattle.dp_memory.specs.Pieces.{HasCell, with_cell}
use Rattle.dp_memory.proofs.Pieces.{get_right, set_left, set_right}
use Rattle.std.proofs.lemmas.List.{get_or_append_left}

module _ (pages : List (List ℤ)) (last : List ℤ) where
  abbrev all : List (List ℤ)
  all = pages ++ last ∷ []

  pub all_count : length all ≡ length pages + 1
  all_count = length-append pages (last ∷ [])

  module _ (number : ℕ) where
    pub last_there : number ≡ length pages → slice_get all number ≡ Some last
    last_there e = get_right pages (last ∷ []) number 0 (omega arith)

    module _ (place : ℕ) where
      pub at_last : HasCell all number place → length pages ≤ number → number ≡ length pages
      at_last cell le =
          let within = slice_get_within all number cell.0 cell.1 in
          let count = all_count in
          omega arith

      pub cell_in_last : HasCell all number place → length pages ≤ number → place < length last
      cell_in_last cell le =
          let both : Some last ≡ Some cell.0 = sym (last_there (at_last cell le)) ∙ cell.1 in
          let same : last ≡ cell.0 = cc both in
          subst (λ r. place < length r) (sym same) cell.2

      pub set_before : (value : ℤ) → number < length pages → with_cell all number place value ≡ with_cell pages number place value ++ last ∷ []
      set_before value lt =
          let written : List ℤ → List ℤ = λ (r : List ℤ). set r place value in
          ap (λ r. set all number (written r)) (get_or_append_left pages (last ∷ []) [] number lt)
          ∙ set_left pages (last ∷ []) number (written (get_or pages number [])) lt

      pub set_last : (value : ℤ) → number ≡ length pages → with_cell all number place value ≡ pages ++ set last place value ∷ []
      set_last value e =
          let page : get_or all number [] ≡ last = get_or_from_slice_get all number last [] (last_there e) in
          ap (λ r. set all number (set r place value)) page ∙ set_right pages (last ∷ []) number 0 (set last place value) (omega arith)
