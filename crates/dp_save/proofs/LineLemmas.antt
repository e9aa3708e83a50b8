-- Each line that fits is read from its words, and words that are read as a line are the words of that line.
use Rattle.std.proofs.Common.{◌≡◌, ℕ, ◌^◌, ◌<◌, ◌≤◌, Bool, true, false, ◌&&◌, List, [], ◌∷◌, codes, decimal, ℤ, Option, Some, None, refl, sym, ap, ◌∙◌, rules}
use Rattle.std.proofs.Common.{arith}
use Rattle.std.specs.Prelude.{if◌then◌else◌}
use Rattle.std.specs.Str.{bytes_eq}
use Rattle.dp_base.specs.declared.RegionReport.{RegionReport}
use Rattle.dp_base.specs.declared.limits.TheConstants.{FUEL}
use Rattle.dp_text.specs.Each.{Each}
use Rattle.dp_text.specs.Words.{small_number}
use Rattle.dp_text.proofs.JoinLemmas.{AreWords, decimal_word}
use Rattle.dp_text.proofs.NumberText.{number-sound, number_of-decimal}
use Rattle.dp_text.proofs.Runs.{WordsOf, same_word, choice}
use Rattle.dp_text.proofs.Tests.{taken}
use Rattle.dp_save.specs.declared.line.Place.{Place}
use Rattle.dp_save.specs.CheckpointText.{WriteAll, head_words, place_words, cells_words, report_words, end_words}
use Rattle.dp_save.specs.steps.LineWords.{Line, Head, At, Cells, Report, End, are_labels, count, each_read, place_from, place_of, place_line, cells_line}
use Rattle.dp_save.specs.steps.LineWords.{report_line, report_of, head_line, is_version, end_line, line_of, value_of}
use Rattle.dp_save.specs.steps.Reading.{stopped}
use Rattle.dp_save.proofs.ReportLemmas.{ReportLineFits, ReportSays, report_are_words, report_rest, report_sound}
use Rattle.dp_save.proofs.ValueLemmas.{AreValues, Wide, count-decimal, count_sound, values_sound, values_written, written_words}

abbrev pub words_of : Line → List (List ℕ)
words_of Head = head_words
words_of (At place) = place_words (stopped place [] [])
words_of (Cells words values) = cells_words words
words_of (Report r) = report_words r
words_of End = end_words

-- the numbers of a line fit
abbrev pub LineFits : Line → Type 0
LineFits Head = Unit {0}
LineFits (At place) = (place.region < 2 ^ 32) × (place.after ≤ FUEL) × (place.steps ≤ FUEL) × (place.fuel ≤ FUEL)
LineFits (Cells words values) = WriteAll words values × Each Wide values
LineFits (Report r) = ReportLineFits r
LineFits End = Unit {0}

pub line-words : (l : Line) → LineFits l → line_of (words_of l) ≡ Some l
unfolding line_of
line-words Head fits = refl
line-words (At place) fits =
    ap (λ (o : Option ℕ). place_line (place_from o (count (decimal place.after)) (count (decimal place.steps)) (count (decimal place.fuel))))
    (number_of-decimal place.region fits.0)
    ∙ ap (λ (o : Option ℕ). place_line (place_from (Some place.region) o (count (decimal place.steps)) (count (decimal place.fuel))))
    (count-decimal place.after fits.1)
    ∙ ap (λ (o : Option ℕ). place_line (place_from (Some place.region) (Some place.after) o (count (decimal place.fuel)))) (count-decimal place.steps fits.2)
    ∙ ap (λ (o : Option ℕ). place_line (place_from (Some place.region) (Some place.after) (Some place.steps) o)) (count-decimal place.fuel fits.3)
line-words (Cells words values) fits = ap (cells_line words) (values_written words values fits.0 fits.1)
line-words (Report r) fits = ap report_line (report_rest r fits)
line-words End fits = refl

pub are_words : (l : Line) → LineFits l → AreWords (words_of l)
are_words Head fits = ((refl, refl), ((refl, refl), tt))
are_words (At place) fits = (
  (refl, refl),
  (
    decimal_word place.region (omega
        (arith, fits.0)),
    (
      (refl, refl),
      (
        decimal_word place.after (omega
            (arith, fits.1)),
        ((refl, refl), (decimal_word place.steps (omega (arith, fits.2)), ((refl, refl), (decimal_word place.fuel (omega (arith, fits.3)), tt)))),
      ),
    ),
  ),
)
are_words (Cells words values) fits = ((refl, refl), written_words words values fits.0 fits.1)
are_words (Report r) fits = report_are_words r fits
are_words End fits = ((refl, refl), tt)

-- ---- words that are a line's

abbrev pub IsLine : List (List ℕ) → Line → Type 0
IsLine = WordsOf words_of LineFits

place_made : (a b c d : List ℕ) (region after steps fuel : ℕ) (l : Line) → small_number a ≡ Some region → count b ≡ Some after →
    count c ≡ Some steps → count d ≡ Some fuel
    → place_line (Some (record { region = region; after = after; steps = steps; fuel = fuel })) ≡ Some l →
    IsLine (codes "region" ∷ a ∷ codes "after" ∷ b ∷ codes "steps" ∷ c ∷ codes "fuel" ∷ d ∷ []) l
place_made a b c d region after steps fuel l p q s t h =
    let is : At (record { region = region; after = after; steps = steps; fuel = fuel }) ≡ l = cc h in
    let wa = number-sound 4294967295 (omega arith) a region p in let wb = count_sound b after q in let wc = count_sound c steps s in
    let wd = count_sound d fuel t in
    rw (← is) (record {
      are =
          ap (λ (x : List ℕ). codes "region" ∷ x ∷ codes "after" ∷ b ∷ codes "steps" ∷ c ∷ codes "fuel" ∷ d ∷ []) wa.is
          ∙ ap (λ (x : List ℕ). codes "region" ∷ decimal region ∷ codes "after" ∷ x ∷ codes "steps" ∷ c ∷ codes "fuel" ∷ d ∷ []) wb.is
          ∙ ap (λ (x : List ℕ). codes "region" ∷ decimal region ∷ codes "after" ∷ decimal after ∷ codes "steps" ∷ x ∷ codes "fuel" ∷ d ∷ []) wc.is
          ∙ ap (λ (x : List ℕ). codes "region" ∷ decimal region ∷ codes "after" ∷ decimal after ∷ codes "steps" ∷ decimal steps ∷ codes "fuel" ∷ x ∷ []) wd.is;
      fits = (omega (arith, wa.small), wb.small, wc.small, wd.small);
    })

place_case : (a b c d : List ℕ) (region after steps fuel : Option ℕ) (l : Line) → small_number a ≡ region → count b ≡ after → count c ≡ steps → count d ≡ fuel
    → place_line (place_from region after steps fuel) ≡ Some l → IsLine (codes "region" ∷ a ∷ codes "after" ∷ b ∷ codes "steps" ∷ c ∷ codes "fuel" ∷ d ∷ []) l
place_case a b c d (Some region) (Some after) (Some steps) (Some fuel) l p q s t h = place_made a b c d region after steps fuel l p q s t h
place_case a b c d None after steps fuel l p q s t h = absurd (cc h)
place_case a b c d (Some region) None steps fuel l p q s t h = absurd (cc h)
place_case a b c d (Some region) (Some after) None fuel l p q s t h = absurd (cc h)
place_case a b c d (Some region) (Some after) (Some steps) None l p q s t h = absurd (cc h)

labels_case : (a x b y c z d : List ℕ) (i j k : Bool) (l : Line) → bytes_eq x (codes "after") ≡ i → bytes_eq y (codes "steps") ≡ j →
    bytes_eq z (codes "fuel") ≡ k
    → place_line (if i && (j && k) then place_from (small_number a) (count b) (count c) (count d) else None) ≡ Some l →
    IsLine (codes "region" ∷ a ∷ x ∷ b ∷ y ∷ c ∷ z ∷ d ∷ []) l
labels_case a x b y c z d true true true l p q s h =
    rw (same_word x (codes "after") p, same_word y (codes "steps") q, same_word z (codes "fuel") s) (place_case a b c d (small_number a) (count b) (count c)
    (count d) l refl refl refl refl h)
labels_case a x b y c z d true true false l p q s h = absurd (cc h)
labels_case a x b y c z d true false k l p q s h = absurd (cc h)
labels_case a x b y c z d false j k l p q s h = absurd (cc h)

place_sound : (ws : List (List ℕ)) (l : Line) → place_line (place_of ws) ≡ Some l → IsLine (codes "region" ∷ ws) l
place_sound (a ∷ x ∷ b ∷ y ∷ c ∷ z ∷ d ∷ []) l h =
    labels_case a x b y c z d (bytes_eq x (codes "after")) (bytes_eq y (codes "steps")) (bytes_eq z (codes "fuel")) l refl refl refl h
place_sound _ l h = absurd (cc h)

cells_case : (ws : List (List ℕ)) (o : Option (List ℤ)) (l : Line) → each_read value_of ws ≡ o → cells_line ws o ≡ Some l → IsLine (codes "cells" ∷ ws) l
cells_case ws None l e h = absurd (cc h)
cells_case ws (Some values) l e h =
    let is : Cells ws values ≡ l = cc h in let a = values_sound ws values e in
    rw (← is) (record { are = refl; fits = (a.write, a.wide) })

report_case : (ws : List (List ℕ)) (o : Option RegionReport) (l : Line) → report_of ws ≡ o → report_line o ≡ Some l → IsLine (codes "report" ∷ ws) l
report_case ws None l e h = absurd (cc h)
report_case ws (Some r) l e h =
    let is : Report r ≡ l = cc h in let s : ReportSays ws r = report_sound ws r e in
    rw (← is) (record { are = ap (λ (xs : List (List ℕ)). codes "report" ∷ xs) s.are; fits = s.fits })

version_case : (a : List ℕ) (is : Bool) (l : Line) → bytes_eq a (codes "1") ≡ is → (if is then Some Head else None) ≡ Some l →
    IsLine (codes "checkpoint" ∷ a ∷ []) l
version_case a true l e h =
    let is : Head ≡ l = cc h in rw (← is) (record { are = ap (λ x. codes "checkpoint" ∷ x ∷ []) (same_word a (codes "1") e); fits = tt })
version_case a false l e h = absurd (cc h)

head_sound : (ws : List (List ℕ)) (l : Line) → head_line ws ≡ Some l → IsLine (codes "checkpoint" ∷ ws) l
head_sound [] l h = absurd (cc h)
head_sound (a ∷ []) l h = version_case a (bytes_eq a (codes "1")) l refl h
head_sound (a ∷ b ∷ rest) l h = absurd (cc h)

end_sound : (ws : List (List ℕ)) (l : Line) → end_line ws ≡ Some l → IsLine (codes "end" ∷ ws) l
end_sound [] l h = let is : End ≡ l = cc h in rw (← is) (record { are = refl; fits = tt })
end_sound (a ∷ rest) l h = absurd (cc h)

pub line_sound : (ws : List (List ℕ)) (l : Line) → line_of ws ≡ Some l → IsLine ws l
unfolding line_of
line_sound [] l h = absurd (cc h)
line_sound (label ∷ ws) l h =
    choice IsLine label (codes "report") ws l (bytes_eq label (codes "report")) _ _ refl (report_case ws (report_of ws) l refl)
    (choice IsLine label (codes "cells") ws l (bytes_eq label (codes "cells")) _ _ refl (cells_case ws (each_read value_of ws) l refl)
    (choice IsLine label (codes "region") ws l (bytes_eq label (codes "region")) _ _ refl (place_sound ws l)
    (choice IsLine label (codes "checkpoint") ws l (bytes_eq label (codes "checkpoint")) _ _ refl (head_sound ws l)
    (choice IsLine label (codes "end") ws l (bytes_eq label (codes "end")) _ None refl (end_sound ws l) (λ none. absurd (cc none)))))) h
