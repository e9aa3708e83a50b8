-- What the lines of a text are read as, one after the other.
use Rattle.std.proofs.Common.{◌≡◌, refl, sym, ap, subst, ◌∙◌, ℕ, ◌+◌, ◌≤◌, ◌<◌, ◌&&◌, Bool, true, false, List, [], ◌∷◌, ◌++◌, length, take, All, Option, Some}
use Rattle.std.proofs.Common.{None, ltb-true, nat_lt, append_assoc, append-nil, length-append, arith}
use Rattle.std.specs.Prelude.{if◌then◌else◌}
use Rattle.std.proofs.Math.Seq.{take-append_seam}
use Rattle.std.proofs.lemmas.List.{length-map, map-append}
use Rattle.std.proofs.lemmas.List.Elements.{All-nil, All-push}
use Rattle.dp_text.specs.declared.lines.Reading.{Reading}
use Rattle.dp_text.specs.declared.lines.Reading.TheVariants.{Over, Refused}
use Rattle.dp_text.specs.Each.{Each}
use Rattle.dp_text.specs.Lines.{lines_of, chomped, after_line, go_on, read_from}
use Rattle.dp_text.specs.Refused.{BeginsText, IsRefusedAt, at_line, at_end}
use Rattle.dp_text.proofs.Runs.{chomped-sound}
use Rattle.dp_text.proofs.Tests.{both}
use Rattle.dp_list.specs.ListText.{IsList, IsListed, ListLines}
use Rattle.dp_list.specs.Refused.{ReadsAsList}
use Rattle.dp_list.specs.steps.Ending.{IsShort, finished}
use Rattle.dp_list.specs.steps.Naming.{has_name, is_name, with_name}
use Rattle.dp_list.proofs.OneLine.{SaysOneLine, say_one_line}
use Rattle.dp_list.proofs.NameLemmas.{listed, not_empty}
use Rattle.dp_list.proofs.Listing.{named_lines, begins_named, not_begun}

-- it is refused, at one of the first 65 lines
abbrev RefusedSoon : List (List ℕ) → ℕ → Type 0
RefusedSoon lines number = (number ≤ 65) × IsRefusedAt IsList lines number

-- what these lines are read as: the names that they list, or refused
abbrev AreRead : List (List ℕ) → Reading (List (List ℕ)) → Type 0
AreRead lines (Over names) = ListLines lines names
AreRead lines (Refused number) = RefusedSoon lines number

-- lines that aren't there list none
pub no_names : (names : List (List ℕ)) → [] ≡ named_lines names → length names < 1
no_names [] e = omega arith
no_names (name ∷ rest) e = absurd (cc e)

-- the number of the line behind these names
abbrev Numbered : List (List ℕ) → ℕ → Type 0
Numbered names number = number ≡ length names + 1

module _ (lines : List (List ℕ)) where
  -- the next line can't stand
  refused_at : (names : List (List ℕ)) (piece : List ℕ) (rest : List (List ℕ)) (number : ℕ) → length names ≤ 64 → All IsListed names →
      lines ≡ named_lines names ++ piece ∷ rest → Numbered names number
      → after_line with_name names (chomped piece) ≡ None → RefusedSoon lines number
  refused_at names piece rest number few all split count h =
      let done = named_lines names in
      let named_count : length (named_lines names) ≡ length names = length-map names (λ (n : List ℕ). n ++ 10 ∷ []) in
      let whole : lines ≡ (named_lines names ++ piece ∷ []) ++ rest = split ∙ sym (append_assoc done (piece ∷ []) rest) in
      let long : length (named_lines names ++ piece ∷ []) ≡ length (named_lines names) + 1 = length-append done (piece ∷ []) in
      let full : length lines ≡ length (named_lines names ++ piece ∷ []) + length rest = ap length whole ∙ length-append (done ++ piece ∷ []) rest in
      let is : number ≡ length (named_lines names ++ piece ∷ []) = omega (arith, count, named_count, long) in
      let front : take number lines ≡ named_lines names ++ piece ∷ [] = ap (λ k. take k lines) is ∙ ap (take (length (done ++ piece ∷ []))) whole
      ∙ take-append_seam (done ++ piece ∷ []) rest in (
        omega (arith, few, count),
        at_line number (omega (arith, count)) (omega (arith, full, is))
            (λ k lt. subst (λ (ls : List (List ℕ)). BeginsText IsList (take k ls)) (sym split)
            (begins_named names few all k (omega (arith, lt, count)) (piece ∷ rest)))
            (subst (λ (ls : List (List ℕ)). ¬ BeginsText IsList ls) (sym front) (not_begun names piece h)),
      )

  -- the text ends there
  end_case : (names : List (List ℕ)) (number : ℕ) → length names ≤ 64 → All IsListed names → lines ≡ named_lines names → Numbered names number →
      AreRead lines (if has_name names then Over names else Refused number)
  end_case [] number few all is count =
      let none : length lines ≡ 0 = ap length is in (
        omega (arith, count),
        at_end number (omega (arith, count, none))
            (λ k lt. subst (λ (ls : List (List ℕ)). BeginsText IsList (take k ls)) (sym is) (begins_named [] few all k (omega (arith, lt, count)) []))
            (λ t. let no = no_names t.0 (sym is ∙ t.1.written) in omega (arith, no, t.1.some_name)),
      )
  end_case (name ∷ names) number few all is count =
      let list : ListLines lines (name ∷ names) = record { written = is; some_name = omega arith; few_names = few; listed = all } in
      subst (λ (some : Bool). AreRead lines (if some then Over (name ∷ names) else Refused number)) (sym (not_empty name names)) list

  -- behind the names that are read
  abbrev ReadsOn : List (List ℕ) → ℕ → List (List ℕ) → Type 0
  ReadsOn rest number names = AreRead lines (read_from with_name has_name number names rest)

  -- a line that says this
  name_case : (names : List (List ℕ)) (piece text : List ℕ) (rest : List (List ℕ)) (number : ℕ) (is : Bool) → (nat_lt (length names) 64 && is_name text) ≡ is →
      chomped piece ≡ Some text → SaysOneLine piece
      → length names ≤ 64 → All IsListed names → lines ≡ named_lines names ++ piece ∷ rest → Numbered names number
      → ((later : List (List ℕ)) → length later ≤ 64 → All IsListed later → lines ≡ named_lines later ++ rest → Numbered later (number + 1) →
      ReadsOn rest (number + 1) later)
      → AreRead lines (go_on number (if is then Some (names ++ text ∷ []) else None) (λ later. read_from with_name has_name (number + 1) later rest))
  name_case names piece text rest number true e says one few all split count more =
      let tests = both (nat_lt (length names) 64) (is_name text) e in
      let room : length names < 64 = ltb-true (length names) 64 tests.first in
      let long : length (names ++ text ∷ []) ≡ length names + 1 = length-append names (text ∷ []) in
      let line : piece ≡ text ++ 10 ∷ [] = chomped-sound piece text says in
      let grown : named_lines (names ++ text ∷ []) ≡ named_lines names ++ (text ++ 10 ∷ []) ∷ [] = map-append (λ (n : List ℕ). n ++ 10 ∷ [])
      names (text ∷ []) in
      more (names ++ text ∷ []) (omega (arith, room, long)) (All-push IsListed names text all (listed text (one text says) tests.second))
      (split ∙ ap (λ (l : List ℕ). named_lines names ++ l ∷ rest) line ∙ sym (append_assoc (named_lines names) ((text ++ 10 ∷ []) ∷ []) rest)
      ∙ ap (λ (ls : List (List ℕ)). ls ++ rest) (sym grown))
      (omega (arith, count, long))
  name_case names piece text rest number false e says one few all split count more =
      refused_at names piece rest number few all split count (ap (after_line with_name names) says ∙ rw e refl)

  line_case : (names : List (List ℕ)) (piece : List ℕ) (rest : List (List ℕ)) (number : ℕ) (said : Option (List ℕ)) → chomped piece ≡ said → SaysOneLine piece
      → length names ≤ 64 → All IsListed names → lines ≡ named_lines names ++ piece ∷ rest → Numbered names number
      → ((later : List (List ℕ)) → length later ≤ 64 → All IsListed later → lines ≡ named_lines later ++ rest → Numbered later (number + 1) →
      ReadsOn rest (number + 1) later)
      → AreRead lines (go_on number (after_line with_name names said) (λ later. read_from with_name has_name (number + 1) later rest))
  line_case names piece rest number None says one few all split count more =
      refused_at names piece rest number few all split count (ap (after_line with_name names) says)
  line_case names piece rest number (Some text) says one few all split count more =
      name_case names piece text rest number (nat_lt (length names) 64 && is_name text) refl says one few all split count more

  read_on : (rest names : List (List ℕ)) (number : ℕ) → Each SaysOneLine rest → length names ≤ 64 → All IsListed names → lines ≡ named_lines names ++ rest →
      Numbered names number → ReadsOn rest number names
  read_on [] names number each few all split count = end_case names number few all (split ∙ append-nil (named_lines names)) count
  read_on (piece ∷ rest) names number each few all split count =
      line_case names piece rest number (chomped piece) refl each.0 few all split count (λ later some fit is next. read_on rest later (number + 1)
      each.1 some fit is next)

are_read : (bytes : List ℕ) → AreRead (lines_of bytes) (read_from with_name has_name 1 [] (lines_of bytes))
are_read bytes = read_on (lines_of bytes) (lines_of bytes) [] 1 (say_one_line bytes) (omega arith) (All-nil IsListed) refl refl

module _ (bytes : List ℕ) where
  short_case : (r : Reading (List (List ℕ))) → AreRead (lines_of bytes) r → IsShort r
  short_case (Over names) h = tt
  short_case (Refused number) h = h.0

  ended_case : (r : Reading (List (List ℕ))) → AreRead (lines_of bytes) r → ReadsAsList bytes (finished r)
  ended_case (Over names) h = h
  ended_case (Refused number) h = h.1

  -- a refused line is among the first 65
  pub read_short : (r : Reading (List (List ℕ))) → r ≡ read_from with_name has_name 1 [] (lines_of bytes) → IsShort r
  read_short r e = short_case r (subst (AreRead (lines_of bytes)) (sym e) (are_read bytes))

  -- what the text is read as
  pub text_read : (r : Reading (List (List ℕ))) → r ≡ read_from with_name has_name 1 [] (lines_of bytes) → ReadsAsList bytes (finished r)
  text_read r e = ended_case r (subst (AreRead (lines_of bytes)) (sym e) (are_read bytes))
