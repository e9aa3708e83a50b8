-- The line of a report: its words, and the report that they say.
use Rattle.std.proofs.Common.{◌≡◌, ℕ, zero, suc, ◌+◌, ◌^◌, ◌<◌, ◌≤◌, ◌==◌, min, Bool, true, false, not, ◌&&◌, nat_le, nat_lt, List, [], ◌∷◌, ◌++◌, map, length}
use Rattle.std.proofs.Common.{codes, decimal, Option, Some, None, refl, sym, ap, subst, ◌∙◌, rules, arith, tests, eqb-true}
use Rattle.std.specs.Prelude.{if◌then◌else◌}
use Rattle.std.specs.Str.{bytes_eq}
use Rattle.dp_base.specs.declared.RegionReport.{RegionReport}
use Rattle.dp_base.specs.declared.limits.TheConstants.{FUEL, LISTED}
use Rattle.dp_text.specs.Each.{Each}
use Rattle.dp_text.specs.Words.{small_number}
use Rattle.dp_text.proofs.JoinLemmas.{IsWord, AreWords, decimal_word, lacks}
use Rattle.dp_text.proofs.NumberText.{number-sound, number_of-decimal}
use Rattle.dp_text.proofs.Runs.{same_word}
use Rattle.dp_text.proofs.Tests.{both, taken}
use Rattle.dp_save.specs.CheckpointText.{counted_words, report_words}
use Rattle.dp_save.specs.Fits.{AscendWithin, ReportFits}
use Rattle.dp_save.specs.steps.LineWords.{ascends, before_colon, count, count_in, counted, counts_fit, each_read, fitting, report_by, report_from, report_of}
use Rattle.dp_save.proofs.ColonLemmas.{colon_last, colon_sound}
use Rattle.dp_save.proofs.ValueLemmas.{AreCounts, IsCount, count-decimal, count_sound, count_words, counts-decimal, counts_sound}

-- ---- numbers that ascend

ascend_case : (low high i : ℕ) (rest : List ℕ) → (nat_le low i && (nat_lt i high && ascends (i + 1) high rest)) ≡ true →
    (ascends (i + 1) high rest ≡ true → AscendWithin (suc i) high rest) → AscendWithin low high (i ∷ rest)
ascend_case low high i rest h more =
    let a = both (nat_le low i) (nat_lt i high && ascends (i + 1) high rest) h in let b = both (nat_lt i high) (ascends (i + 1) high rest) a.second in
    (let e : nat_le low i ≡ true = a.first in search rules, let e : nat_lt i high ≡ true = b.first in search rules, more b.second)

pub ascend_sound : (low high : ℕ) (ns : List ℕ) → ascends low high ns ≡ true → AscendWithin low high ns
ascend_sound low high [] h = tt
ascend_sound low high (i ∷ rest) h =
    let plus : i + 1 ≡ suc i = omega arith in
    ascend_case low high i rest h (λ e. ascend_sound (suc i) high rest (ap (λ (k : ℕ). ascends k high rest) (sym plus) ∙ e))

pub ascend_tested : (low high : ℕ) (ns : List ℕ) → AscendWithin low high ns → ascends low high ns ≡ true
ascend_tested low high [] h = refl
ascend_tested low high (i ∷ rest) h =
    let plus : i + 1 ≡ suc i = omega arith in
    let a : nat_le low i ≡ true = let le : low ≤ i = h.0 in search rules in
    let b : nat_lt i high ≡ true = let lt : i < high = h.1 in search rules in
    let c : ascends (i + 1) high rest ≡ true = ap (λ (k : ℕ). ascends k high rest) plus ∙ ascend_tested (suc i) high rest h.2 in
    rw (a, b, c) refl

pub below : (low high : ℕ) (ns : List ℕ) → high ≤ FUEL → AscendWithin low high ns → Each IsCount ns
below low high [] top h = tt
below low high (i ∷ rest) top h = (omega (arith, h.1, top), below (suc i) high rest top h.2)

-- ---- the count

pub record CountWords (n : ℕ) (ns : List ℕ) : Type 0 where
  pub word : List ℕ
  pub are : counted_words n ns ≡ word ∷ map decimal ns
  pub reads : counted word (map decimal ns) ≡ Some n
  pub is_word : IsWord word

lacks_case : (b : ℕ) (rest : List ℕ) (is : Bool) → (not is && lacks b rest) ≡ true → (lacks b rest ≡ true → lacks b (rest ++ codes ":") ≡ true) →
    (not is && lacks b (rest ++ codes ":")) ≡ true
lacks_case b rest true e more = absurd (cc e)
lacks_case b rest false e more = more e

lacks_colon : (b : ℕ) (word : List ℕ) → lacks b word ≡ true → lacks b (codes ":") ≡ true → lacks b (word ++ codes ":") ≡ true
lacks_colon b [] h k = k
lacks_colon b (byte ∷ rest) h k = lacks_case b rest (byte == b) h (λ e. lacks_colon b rest e k)

-- a count above 0 has a colon
pub counted_some : (n : ℕ) (ns : List ℕ) → counted_words (suc n) ns ≡ (decimal (suc n) ++ codes ":") ∷ map decimal ns
counted_some n ns = let other : (suc n == 0) ≡ false = search (rules, tests) in rw other refl

count_of_words : (n : ℕ) (ns : List ℕ) → n ≤ FUEL → length ns ≡ min n LISTED → CountWords n ns
count_of_words zero [] small long = record { word = decimal 0; are = refl; reads = count-decimal 0 (omega arith); is_word = decimal_word 0 (omega arith) }
count_of_words zero (k ∷ ns) small long = absurd (cc long)
count_of_words (suc n) [] small long = absurd (omega (arith, long))
count_of_words (suc n) (k ∷ ns) small long = record {
  word = decimal (suc n) ++ codes ":";
  are = counted_some n (k ∷ ns);
  reads = ap count_in (colon_last (decimal (suc n)) 58) ∙ count-decimal (suc n) small;
  is_word = let w = decimal_word (suc n) (omega (arith, small)) in (lacks_colon 32 (decimal (suc n)) w.0 refl, lacks_colon 10 (decimal (suc n)) w.1 refl);
}

-- ---- the words of a report that fits

pub record ReportLineFits (r : RegionReport) : Type 0 where
  pub numbered : r.region < 2 ^ 32
  pub fits : ReportFits r

tested : (r : RegionReport) → ReportFits r → counts_fit r ≡ true
tested r f =
    let a : nat_le r.recovered_count r.iterations ≡ true = let le = f.again in search rules in
    let b : (length r.recovered == min r.recovered_count LISTED) ≡ true = let e = f.listed in search (rules, tests) in
    let c : ascends 0 r.iterations r.recovered ≡ true = ascend_tested 0 r.iterations r.recovered f.ascend in
    rw (a, b, c) refl

without_causes : (r : RegionReport) → ReportFits r →
    record { region = r.region; iterations = r.iterations; recovered_count = r.recovered_count; recovered = r.recovered; causes = [] } ≡ r
without_causes r f =
    ap (λ cs. record { region = r.region; iterations = r.iterations; recovered_count = r.recovered_count; recovered = r.recovered; causes = cs })
    (sym f.uncaused)

module _ (r : RegionReport) (l : ReportLineFits r) where
  f : ReportFits r
  f = l.fits

  counted_so : CountWords r.recovered_count r.recovered
  counted_so = count_of_words r.recovered_count r.recovered (omega (arith, l.fits.again, l.fits.few)) l.fits.listed

  pub report_rest : report_of (decimal r.region ∷ codes "iterations" ∷ decimal r.iterations ∷ codes "recovered" ∷ counted_words r.recovered_count
      r.recovered) ≡ Some r
  report_rest =
      let g = counted_so in let ns = r.recovered in
      ap (λ (ws : List (List ℕ)). report_of (decimal r.region ∷ codes "iterations" ∷ decimal r.iterations ∷ codes "recovered" ∷ ws)) g.are
      ∙ ap (λ (o : Option ℕ). report_from o (count (decimal r.iterations)) (counted g.word (map decimal ns)) (each_read count (map decimal ns)))
      (number_of-decimal r.region l.numbered)
      ∙ ap (λ (o : Option ℕ). report_from (Some r.region) o (counted g.word (map decimal ns)) (each_read count (map decimal ns)))
      (count-decimal r.iterations l.fits.few)
      ∙ ap (λ (o : Option ℕ). report_from (Some r.region) (Some r.iterations) o (each_read count (map decimal ns))) g.reads
      ∙ ap (λ (o : Option (List ℕ)). report_from (Some r.region) (Some r.iterations) (Some r.recovered_count) o)
      (counts-decimal ns (below 0 r.iterations ns l.fits.few l.fits.ascend))
      ∙ ap fitting (without_causes r l.fits)
      ∙ (let t = tested r l.fits in rw t refl)

  pub report_are_words : AreWords (report_words r)
  report_are_words =
      let g = counted_so in (
        (refl, refl),
        (
          decimal_word r.region (omega (arith, l.numbered)),
          (
            (refl, refl),
            (
              decimal_word r.iterations (omega (arith, l.fits.few)),
              (
                (refl, refl),
                subst (Each IsWord) (sym g.are) (g.is_word, count_words r.recovered (below 0 r.iterations r.recovered l.fits.few l.fits.ascend)),
              ),
            ),
          ),
        ),
      )

-- ---- words that are a report's

pub record ReportSays (rest : List (List ℕ)) (r : RegionReport) : Type 0 where
  pub are : rest ≡ decimal r.region ∷ codes "iterations" ∷ decimal r.iterations ∷ codes "recovered" ∷ counted_words r.recovered_count r.recovered
  pub fits : ReportLineFits r

colon_case : (word : List ℕ) (o : Option (List ℕ)) (n : ℕ) → before_colon word ≡ o → count_in o ≡ Some n → word ≡ decimal n ++ codes ":"
colon_case word None n e h = absurd (cc h)
colon_case word (Some digits) n e h = colon_sound word digits e ∙ ap (λ (d : List ℕ). d ++ codes ":") (count_sound digits n h).is

listed_words : (n : ℕ) (k : ℕ) (ns : List ℕ) → length (k ∷ ns) ≡ min n LISTED → counted_words n (k ∷ ns) ≡ (decimal n ++ codes ":") ∷ map decimal (k ∷ ns)
listed_words zero k ns long = absurd (cc long)
listed_words (suc n) k ns long = counted_some n (k ∷ ns)

none_listed : (n : ℕ) → length {A = ℕ} [] ≡ min n LISTED → counted_words n [] ≡ decimal n ∷ []
none_listed zero long = refl
none_listed (suc n) long = absurd (omega (arith, long))

count_case : (word : List ℕ) (words : List (List ℕ)) (n : ℕ) (ns : List ℕ) → AreCounts words ns → counted word words ≡ Some n → length ns ≡ min n LISTED →
    word ∷ words ≡ counted_words n ns
count_case word [] n [] a h long = ap (λ (w : List ℕ). w ∷ []) (count_sound word n h).is ∙ sym (none_listed n long)
count_case word [] n (k ∷ ns) a h long = let bad : [] ≡ decimal k ∷ map decimal ns = a.are in absurd (cc bad)
count_case word (w ∷ words) n [] a h long = let bad : w ∷ words ≡ [] = a.are in absurd (cc bad)
count_case word (w ∷ words) n (k ∷ ns) a h long =
    ap (λ (x : List ℕ). x ∷ w ∷ words) (colon_case word (before_colon word) n refl h) ∙ ap (λ (xs : List (List ℕ)). (decimal n ++ codes ":") ∷ xs) a.are
    ∙ sym (listed_words n k ns long)

-- the report, by tests that it passes
report_tested : (r : RegionReport) → r.iterations ≤ FUEL → r.causes ≡ [] → counts_fit r ≡ true → ReportFits r
report_tested r few none h =
    let a = both (nat_le r.recovered_count r.iterations) ((length r.recovered == min r.recovered_count LISTED) && ascends 0 r.iterations r.recovered) h in
    let b = both (length r.recovered == min r.recovered_count LISTED) (ascends 0 r.iterations r.recovered) a.second in
    record {
      few = few;
      again = let e : nat_le r.recovered_count r.iterations ≡ true = a.first in search rules;
      listed = eqb-true (length r.recovered) (min r.recovered_count LISTED) b.first;
      ascend = ascend_sound 0 r.iterations r.recovered b.second;
      uncaused = none;
    }

abbrev made : ℕ → ℕ → ℕ → List ℕ → RegionReport
made region iterations again ns = record { region = region; iterations = iterations; recovered_count = again; recovered = ns; causes = [] }

made_case : (a b c : List ℕ) (words : List (List ℕ)) (region iterations again : ℕ) (ns : List ℕ) (r : RegionReport) → small_number a ≡ Some region →
    count b ≡ Some iterations → counted c words ≡ Some again → each_read count words ≡ Some ns
    → fitting (record { region = region; iterations = iterations; recovered_count = again; recovered = ns; causes = [] }) ≡ Some r →
    ReportSays (a ∷ codes "iterations" ∷ b ∷ codes "recovered" ∷ c ∷ words) r
made_case a b c words region iterations again ns r p q s t h =
    let k = taken (counts_fit (made region iterations again ns)) (made region iterations again ns) r h in
    let wa = number-sound 4294967295 (omega arith) a region p in let wb = count_sound b iterations q in
    let f : ReportFits (made region iterations again ns) = report_tested (made region iterations again ns) wb.small refl k.0 in
    subst (ReportSays (a ∷ codes "iterations" ∷ b ∷ codes "recovered" ∷ c ∷ words)) k.1 (record {
      are =
          ap (λ (x : List ℕ). x ∷ codes "iterations" ∷ b ∷ codes "recovered" ∷ c ∷ words) wa.is
          ∙ ap (λ (x : List ℕ). decimal region ∷ codes "iterations" ∷ x ∷ codes "recovered" ∷ c ∷ words) wb.is
          ∙ ap (λ (xs : List (List ℕ)). decimal region ∷ codes "iterations" ∷ decimal iterations ∷ codes "recovered" ∷ xs)
          (count_case c words again ns (counts_sound words ns t) s f.listed);
      fits = record { numbered = omega (arith, wa.small); fits = f };
    })

from_case : (a b c : List ℕ) (words : List (List ℕ)) (region iterations again : Option ℕ) (ns : Option (List ℕ)) (r : RegionReport) → small_number a ≡ region →
    count b ≡ iterations → counted c words ≡ again → each_read count words ≡ ns
    → report_from region iterations again ns ≡ Some r → ReportSays (a ∷ codes "iterations" ∷ b ∷ codes "recovered" ∷ c ∷ words) r
from_case a b c words (Some region) (Some iterations) (Some again) (Some ns) r p q s t h = made_case a b c words region iterations again ns r p q s t h
from_case a b c words None iterations again ns r p q s t h = absurd (cc h)
from_case a b c words (Some region) None again ns r p q s t h = absurd (cc h)
from_case a b c words (Some region) (Some iterations) None ns r p q s t h = absurd (cc h)
from_case a b c words (Some region) (Some iterations) (Some again) None r p q s t h = absurd (cc h)

labels_case : (a i b j c : List ℕ) (words : List (List ℕ)) (x y : Bool) (r : RegionReport) → bytes_eq i (codes "iterations") ≡ x →
    bytes_eq j (codes "recovered") ≡ y
    → (if x && y then report_by a b c words else None) ≡ Some r → ReportSays (a ∷ i ∷ b ∷ j ∷ c ∷ words) r
labels_case a i b j c words true true r p q h =
    rw (same_word i (codes "iterations") p, same_word j (codes "recovered") q) (from_case a b c words (small_number a) (count b) (counted c words)
    (each_read count words) r refl refl refl refl h)
labels_case a i b j c words true false r p q h = absurd (cc h)
labels_case a i b j c words false y r p q h = absurd (cc h)

pub report_sound : (rest : List (List ℕ)) (r : RegionReport) → report_of rest ≡ Some r → ReportSays rest r
report_sound (a ∷ i ∷ b ∷ j ∷ c ∷ words) r h = labels_case a i b j c words (bytes_eq i (codes "iterations")) (bytes_eq j (codes "recovered")) r refl refl h
report_sound _ r h = absurd (cc h)
