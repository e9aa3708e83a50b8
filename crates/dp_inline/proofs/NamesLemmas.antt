-- The names so far, searched from the latest one on.
use Rattle.std.proofs.Common.{◌≡◌, refl, ap, ◌∙◌, ℕ, ◌+◌, ◌<◌, ◌==◌, Bool, true, false, if◌then◌else◌, List, [], ◌∷◌, ◌++◌, Option, Some, length, take, get_or}
use Rattle.std.proofs.Common.{arith}
use Rattle.std.proofs.lemmas.Bool.Decides.{nat_tests}
use Rattle.std.proofs.lemmas.List.{take_more}
use Rattle.dp_calls.specs.Renaming.{Renamed, named_in}
use Rattle.dp_inline.specs.declared.names.Named.{Named}
use Rattle.dp_inline.specs.Named.{renamed_names}

pub names_of-push : (rows : List Named) (n : Named) → renamed_names (rows ++ n ∷ []) ≡ record { source = n.source; target = n.target } ∷ renamed_names rows
names_of-push [] n = refl
names_of-push (m ∷ rows) n = ap (λ (xs : List Renamed). xs ++ record { source = m.source; target = m.target } ∷ []) (names_of-push rows n)

-- one name more
-- the names before number k + 1, searched for x
pub found_before : (rows : List Named) (k : ℕ) (d : Named) (x : ℕ) → k < length rows →
    named_in (renamed_names (take (k + 1) rows)) x ≡ (if (get_or rows k d).source == x then Some (get_or rows k d).target
    else named_in (renamed_names (take k rows)) x)
found_before rows k d x below = ap (λ (l : List Named). named_in (renamed_names l) x) (take_more rows k d below)
    ∙ ap (λ (xs : List Renamed). named_in xs x) (names_of-push (take k rows) (get_or rows k d))

equal : (a b : ℕ) → a ≡ b → (a == b) ≡ true
equal a b e = grind (arith, nat_tests)

unequal : (a b : ℕ) → (a ≡ b → ⊥) → (a == b) ≡ false
unequal a b h = grind (arith, nat_tests)

pub found_here : (a x : ℕ) (y : Option ℕ) (before : Option ℕ) → a ≡ x → (if a == x then y else before) ≡ y
found_here a x y before e = ap (λ (b : Bool). if b then y else before) (equal a x e)

pub found_not : (a x : ℕ) (y : Option ℕ) (before : Option ℕ) → (a ≡ x → ⊥) → (if a == x then y else before) ≡ before
found_not a x y before h = ap (λ (b : Bool). if b then y else before) (unequal a x h)
