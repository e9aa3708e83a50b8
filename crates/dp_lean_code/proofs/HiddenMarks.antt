-- The marks of hidden cells, set one after the other.
use Rattle.dp_semantics.proofs.Names.{◌≡◌, refl, sym, ap, ◌∙◌, ℕ, ◌+◌, ◌<◌, ◌≤◌, ◌==◌, ◌&&◌, ◌||◌, Bool, true, false, List, ◌∷◌, length, drop, get_or, Option}
use Rattle.dp_semantics.proofs.Names.{Program, Plan, first_cell}
use Rattle.std.proofs.Common.{add-one, drop-cons}
use Rattle.std.proofs.Math.Bool.{or-false}
use Rattle.std.proofs.Math.ListN.{drop_of_length-le}
use Rattle.dp_lean_code.specs.Known.{AreTablesOf, paying_marks}
use Rattle.dp_lean_code.specs.declared.tables.LeanTables.{LeanTables}
use Rattle.dp_lean_code.specs.steps.Runs.{is_home}
unfoldable use Rattle.dp_lean_code.specs.steps.Runs.{hides_from}
use Rattle.dp_lean_code.proofs.HidesRight.{hides_is}

module _ (p : Program) (plan : Plan) (t c : ℕ) (homes : List (Option ℕ)) (i : ℕ) where
  -- so far the marks are right
  abbrev pub SoFar : Bool → ℕ → Type 0
  SoFar mark k = (mark || hides_from p plan t c k (drop k homes)) ≡ hides_from p plan t c 0 homes

  module _ (d : Option ℕ) (h : i < length homes) (mark : Bool) (before : SoFar mark i) where
    next_home : hides_from p plan t c i (drop i homes) ≡ ((is_home t (get_or homes i d) && (first_cell p (record { 0 = i }) == c)) || hides_from p plan t c
        (i + 1) (drop (i + 1) homes))
    unfolding hides_from
    next_home =
        let cons : drop i homes ≡ get_or homes i d ∷ drop (i + 1) homes = rw add-one (drop-cons homes i d h) in
        ap (λ (hs : List (Option ℕ)). hides_from p plan t c i hs) cons

    -- the next variable is at home in the stage, and its cell is marked
    pub marks_on : (new : Bool) → is_home t (get_or homes i d) ≡ true → new ≡ ((first_cell p (record { 0 = i }) == c) || mark) → SoFar new (i + 1)
    marks_on new at_home is =
        ap (λ b. b || hides_from p plan t c (i + 1) (drop (i + 1) homes)) is
        ∙ by (first_cell p (record { 0 = i }) == c) mark (hides_from p plan t c (i + 1) (drop (i + 1) homes))
        ∙ sym (ap (λ b. mark || b) (next_home
        ∙ ap (λ b. (b && (first_cell p (record { 0 = i }) == c)) || hides_from p plan t c (i + 1) (drop (i + 1) homes)) at_home))
        ∙ before
      where
        by : (e f g : Bool) → ((e || f) || g) ≡ (f || (e || g))
        by true true g = refl
        by true false g = refl
        by false f g = refl

    -- .. or it isn't
    pub marks_stay : is_home t (get_or homes i d) ≡ false → SoFar mark (i + 1)
    marks_stay away =
        sym (ap (λ b. mark || b) (next_home
        ∙ ap (λ b. (b && (first_cell p (record { 0 = i }) == c)) || hides_from p plan t c (i + 1) (drop (i + 1) homes)) away))
        ∙ before

  -- all are gone through
  pub marks_done : (mark : Bool) → SoFar mark i → length homes ≤ i → mark ≡ hides_from p plan t c 0 homes
  unfolding hides_from
  marks_done mark before past =
      sym (or-false mark) ∙ sym (ap (λ hs. mark || hides_from p plan t c i hs) (drop_of_length-le homes past)) ∙ before

-- the tables' homes tell which cells are hidden
pub hidden_told : (p : Program) (plan : Plan) (tables : LeanTables) → AreTablesOf p plan tables → (t c : ℕ) →
    hides_from p plan t c 0 tables.homes ≡ (paying_marks p plan).hides t c
hidden_told p plan tables known t c = hides_is p plan tables.homes known.homes t c
