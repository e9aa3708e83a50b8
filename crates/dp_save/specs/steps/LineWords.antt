-- What a line's words say.
use Rattle.std.specs.Prelude.{ℕ, ◌+◌, ◌-◌, ◌^◌, ◌==◌, min, if◌then◌else◌, Bool, true, false, ◌&&◌, nat_le, nat_lt, List, [], ◌∷◌, length, codes, ℤ, pos, neg_ℤ}
use Rattle.std.specs.Prelude.{Option, Some, None}
use Rattle.std.specs.Str.{bytes_eq}
use Rattle.dp_base.specs.Arithmetic.{fits}
use Rattle.dp_base.specs.declared.RegionReport.{RegionReport}
use Rattle.dp_base.specs.declared.limits.TheConstants.{FUEL, LISTED}
use Rattle.dp_text.specs.Lines.{onto_text}
use Rattle.dp_text.specs.Words.{small_number, number_upto}
use Rattle.dp_save.specs.declared.line.Place.{Place}

-- a line of a text; that of the memory has its words and the values that they write
pub data Line : Type 0 where
  Head : Line
  At : Place → Line
  Cells : List (List ℕ) → List ℤ → Line
  Report : RegionReport → Line
  End : Line

-- a count of steps or iterations
abbrev pub count : List ℕ → Option ℕ
count word = number_upto FUEL word

-- an element in front of others
abbrev pub onto_list : {X : Type 0} → X → Option (List X) → Option (List X)
onto_list x None = None
onto_list x (Some xs) = Some (x ∷ xs)

-- an element before later ones
abbrev pub before : {X : Type 0} → Option X → Option (List X) → Option (List X)
before None later = None
before (Some x) later = onto_list x later

-- what each word says, where each says something
abbrev pub each_read : {X : Type 0} → (List ℕ → Option X) → List (List ℕ) → Option (List X)
each_read read [] = Some []
each_read read (word ∷ rest) = before (read word) (each_read read rest)

-- ---- the place

-- these are the labels of a place's numbers
abbrev pub are_labels : List ℕ → List ℕ → List ℕ → Bool
are_labels a s f = bytes_eq a (codes "after") && (bytes_eq s (codes "steps") && bytes_eq f (codes "fuel"))

abbrev pub place_from : Option ℕ → Option ℕ → Option ℕ → Option ℕ → Option Place
place_from None after steps fuel = None
place_from (Some region) None steps fuel = None
place_from (Some region) (Some after) None fuel = None
place_from (Some region) (Some after) (Some steps) None = None
place_from (Some region) (Some after) (Some steps) (Some fuel) = Some (record { region = region; after = after; steps = steps; fuel = fuel })

abbrev pub place_of : List (List ℕ) → Option Place
place_of (region ∷ a ∷ after ∷ s ∷ steps ∷ f ∷ fuel ∷ []) =
    if are_labels a s f then place_from (small_number region) (count after) (count steps) (count fuel) else None
place_of _ = None

-- ---- a value

-- the number with this sign, where it lies in 64 bits
abbrev pub in_64_bits : (ℕ → ℤ) → Option ℕ → Option ℤ
in_64_bits sign None = None
in_64_bits sign (Some n) = if fits (sign n) then Some (sign n) else None

-- the value of a word: its number, or the negative one behind a minus
abbrev pub value_of : List ℕ → Option ℤ
value_of [] = None
value_of (byte ∷ rest) =
    if byte == 45 then in_64_bits (λ n. neg_ℤ (pos n)) (number_upto (2 ^ 64 - 1) rest) else in_64_bits pos (number_upto (2 ^ 64 - 1) (byte ∷ rest))

-- ---- a report

-- what stands before a colon at the end
abbrev pub before_colon : List ℕ → Option (List ℕ)
before_colon [] = None
before_colon (byte ∷ []) = if byte == 58 then Some [] else None
before_colon (byte ∷ next ∷ rest) = onto_text byte (before_colon (next ∷ rest))

abbrev pub count_in : Option (List ℕ) → Option ℕ
count_in None = None
count_in (Some digits) = count digits

-- a count, which has a colon where numbers follow it
abbrev pub counted : List ℕ → List (List ℕ) → Option ℕ
counted word [] = count word
counted word (number ∷ rest) = count_in (before_colon word)

-- the numbers ascend strictly, from `low` on and below `high`
abbrev pub ascends : ℕ → ℕ → List ℕ → Bool
ascends low high [] = true
ascends low high (i ∷ rest) = nat_le low i && (nat_lt i high && ascends (i + 1) high rest)

-- the counts of a report fit each other and the numbers that are listed
abbrev pub counts_fit : RegionReport → Bool
counts_fit r = nat_le r.recovered_count r.iterations && ((length r.recovered == min r.recovered_count LISTED) && ascends 0 r.iterations r.recovered)

-- a report, where its counts fit
abbrev pub fitting : RegionReport → Option RegionReport
fitting r = if counts_fit r then Some r else None

abbrev pub report_from : Option ℕ → Option ℕ → Option ℕ → Option (List ℕ) → Option RegionReport
report_from None iterations again numbers = None
report_from (Some region) None again numbers = None
report_from (Some region) (Some iterations) None numbers = None
report_from (Some region) (Some iterations) (Some again) None = None
report_from (Some region) (Some iterations) (Some again) (Some numbers) =
    fitting (record { region = region; iterations = iterations; recovered_count = again; recovered = numbers; causes = [] })

-- the report of these words and the numbers behind them
abbrev pub report_by : List ℕ → List ℕ → List ℕ → List (List ℕ) → Option RegionReport
report_by region iterations again numbers = report_from (small_number region) (count iterations) (counted again numbers) (each_read count numbers)

abbrev pub report_of : List (List ℕ) → Option RegionReport
report_of (region ∷ i ∷ iterations ∷ r ∷ again ∷ numbers) =
    if bytes_eq i (codes "iterations") && bytes_eq r (codes "recovered") then report_by region iterations again numbers else None
report_of _ = None

-- ---- lines

abbrev pub is_version : List (List ℕ) → Bool
is_version (version ∷ []) = bytes_eq version (codes "1")
is_version _ = false

abbrev pub head_line : List (List ℕ) → Option Line
head_line words = if is_version words then Some Head else None

abbrev pub place_line : Option Place → Option Line
place_line None = None
place_line (Some place) = Some (At place)

abbrev pub cells_line : List (List ℕ) → Option (List ℤ) → Option Line
cells_line words None = None
cells_line words (Some values) = Some (Cells words values)

abbrev pub report_line : Option RegionReport → Option Line
report_line None = None
report_line (Some report) = Some (Report report)

abbrev pub end_line : List (List ℕ) → Option Line
end_line [] = Some End
end_line _ = None

-- the line with this first word
abbrev pub labelled_line : List ℕ → List (List ℕ) → Option Line
labelled_line label rest =
    if bytes_eq label (codes "report") then report_line (report_of rest) else
    (if bytes_eq label (codes "cells") then cells_line rest (each_read value_of rest) else
    (if bytes_eq label (codes "region") then place_line (place_of rest) else
    (if bytes_eq label (codes "checkpoint") then head_line rest else
    (if bytes_eq label (codes "end") then end_line rest else None))))

-- the line that these words are, if they are one
unfoldable pub line_of : List (List ℕ) → Option Line
line_of [] = None
line_of (label ∷ rest) = labelled_line label rest
