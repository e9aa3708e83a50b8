-- A word is in a table where the test says so, and what holds of each entry holds of it.
use Rattle.std.proofs.Common.{◌≡◌, Bool, true, List, get_or, bytes_eq, Contains, refl, subst}
use Rattle.std.specs.List.{list_all}
use Rattle.std.proofs.lemmas.Slice.Eq.{bytes_eq-Decides}
use Rattle.std.proofs.lemmas.List.Folds.{Any-from_list_any, list_any-from_Any}
use Rattle.std.proofs.lemmas.List.Sums.{AllPass-from_list_all}
use Rattle.dp_lex.specs.Characters.{Text}
use Rattle.dp_lex.specs.Scan.{is_one_of}

pub contains_from_test : (table : List Text) (w : Text) → is_one_of table w ≡ true → Contains table w
unfolding is_one_of
contains_from_test table w e =
    let found = Any-from_list_any (λ (entry : Text). bytes_eq entry w) table e in
    let same : found.1 ≡ w = (bytes_eq-Decides found.1 w).0 found.4 in
    (found.0, found.2, subst (λ (x : Text). get_or table found.0 x ≡ x) same found.3)

pub test_from_contains : (table : List Text) (w : Text) → Contains table w → is_one_of table w ≡ true
unfolding is_one_of
test_from_contains table w h =
    list_any-from_Any (λ (entry : Text). bytes_eq entry w) table (h.0, w, h.1, h.2, (bytes_eq-Decides w w).1 refl)

-- what passes for each entry passes for a word of the table
pub table_has : (p : Text → Bool) (table : List Text) (w : Text) → list_all p table ≡ true → Contains table w → p w ≡ true
table_has p table w all h =
    let at : p (get_or table h.0 w) ≡ true = AllPass-from_list_all p table all h.0 w h.1 in
    subst (λ (x : Text). p x ≡ true) h.2 at
