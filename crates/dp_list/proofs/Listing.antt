-- Lines that list names, and lists that begin with them.
use Rattle.std.proofs.Common.{◌≡◌, refl, sym, ap, subst, ◌∙◌, ℕ, zero, suc, ◌<◌, ◌≤◌, List, [], ◌∷◌, ◌++◌, map, length, take, All, IsAscii, Some, None, lt-ltb}
use Rattle.std.proofs.Common.{append_assoc, arith}
use Rattle.std.proofs.lemmas.List.{length-map, take-append-le}
use Rattle.std.proofs.lemmas.Str.{IsUtf8-from_ascii}
use Rattle.std.proofs.lemmas.List.Elements.{All-nil, All-cons, All-head, All-tail}
use Rattle.dp_text.specs.Lines.{chomped, after_line}
use Rattle.dp_text.specs.Refused.{BeginsText}
use Rattle.dp_text.proofs.RefusedOnce.{text_begins}
use Rattle.dp_text.proofs.Runs.{chomped-line}
use Rattle.dp_list.specs.ListText.{IsList, IsListed, ListLines}
use Rattle.dp_list.specs.steps.Naming.{with_name}
use Rattle.dp_list.proofs.NameLemmas.{named}
use Rattle.dp_list.proofs.OneLine.{no_line_end}

-- the lines of these names
abbrev pub named_lines : List (List ℕ) → List (List ℕ)
named_lines names = map (λ (name : List ℕ). name ++ 10 ∷ []) names

ascii_letter : IsAscii (97 ∷ [])
ascii_letter zero = omega arith
ascii_letter (suc i) = omega arith

one_letter : IsListed (97 ∷ [])
one_letter = record { some_byte = omega arith; few_bytes = omega arith; text = IsUtf8-from_ascii (97 ∷ []) ascii_letter; one_line = no_line_end (97 ∷ []) refl }

-- a list begins with nothing
begins_empty : BeginsText IsList []
begins_empty = (
  named_lines ((97 ∷ []) ∷ []),
  (
    (97 ∷ []) ∷ [],
    record {
      written = refl;
      some_name = omega arith;
      few_names = omega arith;
      listed = All-cons IsListed (97 ∷ []) [] one_letter (All-nil IsListed);
    },
  ),
)

-- .. and with the lines of up to 64 names
pub begins_named : (names : List (List ℕ)) → length names ≤ 64 → All IsListed names → (k : ℕ) → k ≤ length names → (rest : List (List ℕ)) →
    BeginsText IsList (take k (named_lines names ++ rest))
begins_named [] few all k le rest =
    let none : k ≡ 0 = omega (arith, le) in
    subst (λ (j : ℕ). BeginsText IsList (take j rest)) (sym none) begins_empty
begins_named (name ∷ names) few all k le rest =
    let long : length (named_lines (name ∷ names)) ≡ length (name ∷ names) = length-map (name ∷ names) (λ (n : List ℕ). n ++ 10 ∷ []) in
    subst (BeginsText IsList) (sym (take-append-le k (named_lines (name ∷ names)) rest (omega (arith, le, long))))
    (text_begins IsList k (named_lines (name ∷ names)) (name ∷ names, record { written = refl; some_name = omega arith; few_names = few; listed = all }))

-- the name on a line of a list
record NameThere (piece : List ℕ) (before all : ℕ) : Type 0 where
  pub name : List ℕ
  pub is : piece ≡ name ++ 10 ∷ []
  pub fits : IsListed name
  pub within : before < all

name_there : (front : List (List ℕ)) (piece : List ℕ) (more names : List (List ℕ)) → front ++ piece ∷ more ≡ named_lines names → All IsListed names →
    NameThere piece (length front) (length names)
name_there [] piece more [] e all = absurd (cc e)
name_there (line ∷ front) piece more [] e all = absurd (cc e)
name_there [] piece more (name ∷ names) e all =
    record { name = name; is = cc e; fits = All-head IsListed name names all; within = omega arith }
name_there (line ∷ front) piece more (name ∷ names) e all =
    let rest : front ++ piece ∷ more ≡ named_lines names = cc e in
    let there = name_there front piece more names rest (All-tail IsListed name names all) in
    record { name = there.name; is = there.is; fits = there.fits; within = omega (arith, there.within) }

-- behind these names a line of a list adds another
goes_on : (names : List (List ℕ)) (piece : List ℕ) (more all : List (List ℕ)) → ListLines ((named_lines names ++ piece ∷ []) ++ more) all →
    (later : List (List ℕ)) × (after_line with_name names (chomped piece) ≡ Some later)
goes_on names piece more all t =
    let there = name_there (named_lines names) piece more all (sym (append_assoc (named_lines names) (piece ∷ []) more) ∙ t.written) t.listed in
    let long : length (named_lines names) ≡ length names = length-map names (λ (n : List ℕ). n ++ 10 ∷ []) in
    let few : length names < 64 = omega (arith, there.within, long, t.few_names) in (
      names ++ there.name ∷ [],
      ap (λ (l : List ℕ). after_line with_name names (chomped l)) there.is ∙ ap (after_line with_name names) (chomped-line there.name)
          ∙ rw (lt-ltb (length names) 64 few, named there.name there.fits) refl,
    )

-- no list begins with the names and a line that can't stand behind them
pub not_begun : (names : List (List ℕ)) (piece : List ℕ) → after_line with_name names (chomped piece) ≡ None →
    ¬ BeginsText IsList (named_lines names ++ piece ∷ [])
not_begun names piece h b = let on = goes_on names piece b.0 b.1.0 b.1.1 in cc (sym h ∙ on.1)
