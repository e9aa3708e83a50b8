-- Where the cells of a log's entries lead.
use Rattle.std.proofs.Common.{◌≡◌, refl, sym, ap, ◌∙◌, ℕ, zero, suc, ◌<◌, List, [], ◌∷◌, ◌++◌, length, set, slice_get, Some, ◌⊎◌, inl, inr, eq-eqb}
use Rattle.std.proofs.lemmas.Option.{slice_get_within}
use Rattle.dp_room.proofs.ListLemmas.{get_pushed, get_before, get_set_same}
use Rattle.dp_columns.specs.declared.Pair.{Pair}
use Rattle.dp_lean_turn.specs.Leading.{LeadBack}
use Rattle.dp_lean_turn.specs.Logged.{AreOfOtherCells}

-- what stands at one place stays where another one is set
get_set_other : {X : Type 0} (xs : List X) (i k : ℕ) (y : X) → (k ≡ i → ⊥) → slice_get (set xs i y) k ≡ slice_get xs k
get_set_other [] i k y apart = refl
get_set_other (x ∷ xs) zero zero y apart = absurd (apart refl)
get_set_other (x ∷ xs) zero (suc k) y apart = refl
get_set_other (x ∷ xs) (suc i) zero y apart = refl
get_set_other (x ∷ xs) (suc i) (suc k) y apart = get_set_other xs i k y (λ same. apart (ap suc same))

-- there are more places
pub leads_further : (entries : List Pair) (old new : List ℕ) → ((more : List ℕ) × (new ≡ old ++ more)) → LeadBack entries old → LeadBack entries new
leads_further entries old new (more, is) leads k e at = ap (λ (ps : List ℕ). slice_get ps e.cell) is ∙ get_before old more e.cell k (leads k e at)

-- an entry more, of a cell that none had
pub leads_added : (entries : List Pair) (places : List ℕ) (x : Pair) → AreOfOtherCells x.cell (length entries) entries → x.cell < length places →
    LeadBack entries places →
    LeadBack (entries ++ x ∷ []) (set places x.cell (length entries))
leads_added entries places x others within leads k e at = by_place (get_pushed entries x k e at)
  where
    by_place : (slice_get entries k ≡ Some e) ⊎ ((k ≡ length entries) × (x ≡ e)) → slice_get (set places x.cell (length entries)) e.cell ≡ Some k
    by_place (inl there) =
        let apart : (e.cell ≡ x.cell) → ⊥ = λ same. cc (sym (eq-eqb e.cell x.cell same) ∙ others k e (slice_get_within entries k e there) there) in
        get_set_other places x.cell e.cell (length entries) apart ∙ leads k e there
    by_place (inr last) =
        ap (λ (y : Pair). slice_get (set places x.cell (length entries)) y.cell) (sym last.1) ∙ get_set_same places x.cell (length entries) within
        ∙ ap Some (sym last.0)
