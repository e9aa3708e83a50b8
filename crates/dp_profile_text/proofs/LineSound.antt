-- Words that are read as a line are the words of that line.
use Rattle.std.proofs.Common.{◌≡◌, ℕ, ◌<◌, ◌≤◌, Bool, true, false, nat_lt, nat_le, List, [], ◌∷◌, Option, Some, None, codes, decimal, refl, ap, ◌∙◌, rules}
use Rattle.std.proofs.Common.{arith}
use Rattle.std.specs.Prelude.{if◌then◌else◌}
use Rattle.std.specs.Str.{bytes_eq}
use Rattle.dp_text.specs.Words.{small_number}
use Rattle.dp_text.proofs.NumberText.{Writes, number-sound}
use Rattle.dp_profile_text.specs.declared.line.Line.{Line}
use Rattle.dp_profile_text.specs.declared.line.Line.TheVariants as line
use Rattle.dp_profile.specs.ProfileFits.{most_count}
use Rattle.dp_profile_text.specs.ProfileText.{flow_word, profile_words}
use Rattle.dp_profile_text.specs.steps.LineWords.{count, kind, region_of, region_line, runs_of, runs_line, flow_of, flow_line, head_line, end_line, line_of}
use Rattle.dp_profile_text.proofs.LineComplete.{LineFits}
use Rattle.dp_profile.proofs.KnownSites.{top}
use Rattle.dp_text.proofs.Runs.{WordsOf, same_word, choice}

abbrev pub IsLine : List (List ℕ) → Line → Type 0
IsLine = WordsOf profile_words LineFits

short_sound : (word : List ℕ) (n : ℕ) → small_number word ≡ Some n → Writes top word n
short_sound word n h = number-sound top (omega arith) word n h

count_sound : (word : List ℕ) (n : ℕ) → count word ≡ Some n → Writes most_count word n
count_sound word n h = number-sound most_count (omega arith) word n h

region_case : (a : List ℕ) (r : Option ℕ) (l : Line) → small_number a ≡ r → region_of r ≡ Some l → IsLine (codes "region" ∷ a ∷ []) l
region_case a None l p h = absurd (cc h)
region_case a (Some r) l p h =
    let is : line.Region r ≡ l = cc h in
    let w = short_sound a r p in
    rw (← is) (record { are = ap (λ x. codes "region" ∷ x ∷ []) w.is; fits = w.small })

region_sound : (ws : List (List ℕ)) (l : Line) → region_line ws ≡ Some l → IsLine (codes "region" ∷ ws) l
region_sound [] l h = absurd (cc h)
region_sound (a ∷ []) l h = region_case a (small_number a) l refl h
region_sound (a ∷ b ∷ rest) l h = absurd (cc h)

fewer_case : (a b c : List ℕ) (site runs nonzero : ℕ) (l : Line) (le : Bool) → small_number a ≡ Some site → count b ≡ Some runs → count c ≡ Some nonzero →
    nat_le nonzero runs ≡ le
    → (if le then Some (line.Runs (record { 0 = site }) (record { runs = runs; nonzero = nonzero })) else None) ≡ Some l →
    IsLine (codes "runs" ∷ a ∷ b ∷ c ∷ []) l
fewer_case a b c site runs nonzero l true p q r e h =
    let is : line.Runs (record { 0 = site }) (record { runs = runs; nonzero = nonzero }) ≡ l = cc h in
    let wa = short_sound a site p in let wb = count_sound b runs q in let wc = count_sound c nonzero r in
    let le : nonzero ≤ runs = search rules in
    rw (← is) (record {
      are = ap (λ x. codes "runs" ∷ x ∷ b ∷ c ∷ []) wa.is ∙ ap (λ x. codes "runs" ∷ decimal site ∷ x ∷ c ∷ []) wb.is
          ∙ ap (λ x. codes "runs" ∷ decimal site ∷ decimal runs ∷ x ∷ []) wc.is;
      fits = (wa.small, wb.small, le);
    })
fewer_case a b c site runs nonzero l false p q r e h = absurd (cc h)

runs_case : (a b c : List ℕ) (site runs nonzero : Option ℕ) (l : Line) → small_number a ≡ site → count b ≡ runs → count c ≡ nonzero →
    runs_of site runs nonzero ≡ Some l → IsLine (codes "runs" ∷ a ∷ b ∷ c ∷ []) l
runs_case a b c None runs nonzero l p q r h = absurd (cc h)
runs_case a b c (Some site) None nonzero l p q r h = absurd (cc h)
runs_case a b c (Some site) (Some runs) None l p q r h = absurd (cc h)
runs_case a b c (Some site) (Some runs) (Some nonzero) l p q r h = fewer_case a b c site runs nonzero l (nat_le nonzero runs) p q r refl h

runs_sound : (ws : List (List ℕ)) (l : Line) → runs_line ws ≡ Some l → IsLine (codes "runs" ∷ ws) l
runs_sound [] l h = absurd (cc h)
runs_sound (a ∷ []) l h = absurd (cc h)
runs_sound (a ∷ b ∷ []) l h = absurd (cc h)
runs_sound (a ∷ b ∷ c ∷ []) l h = runs_case a b c (small_number a) (count b) (count c) l refl refl refl h
runs_sound (a ∷ b ∷ c ∷ d ∷ rest) l h = absurd (cc h)

kind_case : (word : List ℕ) (intra other : Bool) (carried : Bool) → bytes_eq word (codes "intra") ≡ intra → bytes_eq word (codes "carried") ≡ other
    → (if intra then Some false else (if other then Some true else None)) ≡ Some carried → word ≡ flow_word carried
kind_case word true other carried e f h =
    let is : false ≡ carried = cc h in same_word word (codes "intra") e ∙ ap flow_word is
kind_case word false true carried e f h =
    let is : true ≡ carried = cc h in same_word word (codes "carried") f ∙ ap flow_word is
kind_case word false false carried e f h = absurd (cc h)

kind_sound : (word : List ℕ) (carried : Bool) → kind word ≡ Some carried → word ≡ flow_word carried
kind_sound word carried h = kind_case word _ _ carried refl refl h

shown_case : (a b k c : List ℕ) (from to : ℕ) (carried : Bool) (shown : ℕ) (l : Line) (some : Bool) → small_number a ≡ Some from → small_number b ≡ Some to →
    kind k ≡ Some carried → count c ≡ Some shown → nat_lt 0 shown ≡ some
    → (if some then Some (line.Flow (record { from = record { 0 = from }; to = record { 0 = to }; carried = carried; shown = shown })) else None) ≡ Some l →
    IsLine (codes "flow" ∷ a ∷ b ∷ k ∷ c ∷ []) l
shown_case a b k c from to carried shown l true p q s r e h =
    let is : line.Flow (record { from = record { 0 = from }; to = record { 0 = to }; carried = carried; shown = shown }) ≡ l = cc h in
    let wa = short_sound a from p in let wb = short_sound b to q in let wc = count_sound c shown r in
    let lt : 0 < shown = search rules in
    rw (← is) (record {
      are = ap (λ x. codes "flow" ∷ x ∷ b ∷ k ∷ c ∷ []) wa.is ∙ ap (λ x. codes "flow" ∷ decimal from ∷ x ∷ k ∷ c ∷ []) wb.is
          ∙ ap (λ x. codes "flow" ∷ decimal from ∷ decimal to ∷ x ∷ c ∷ []) (kind_sound k carried s)
          ∙ ap (λ x. codes "flow" ∷ decimal from ∷ decimal to ∷ flow_word carried ∷ x ∷ []) wc.is;
      fits = (wa.small, wb.small, lt, wc.small);
    })
shown_case a b k c from to carried shown l false p q s r e h = absurd (cc h)

flow_case : (a b k c : List ℕ) (from to : Option ℕ) (carried : Option Bool) (shown : Option ℕ) (l : Line) → small_number a ≡ from → small_number b ≡ to →
    kind k ≡ carried → count c ≡ shown
    → flow_of from to carried shown ≡ Some l → IsLine (codes "flow" ∷ a ∷ b ∷ k ∷ c ∷ []) l
flow_case a b k c None to carried shown l p q s r h = absurd (cc h)
flow_case a b k c (Some from) None carried shown l p q s r h = absurd (cc h)
flow_case a b k c (Some from) (Some to) None shown l p q s r h = absurd (cc h)
flow_case a b k c (Some from) (Some to) (Some carried) None l p q s r h = absurd (cc h)
flow_case a b k c (Some from) (Some to) (Some carried) (Some shown) l p q s r h = shown_case a b k c from to carried shown l (nat_lt 0 shown) p q s r refl h

flow_sound : (ws : List (List ℕ)) (l : Line) → flow_line ws ≡ Some l → IsLine (codes "flow" ∷ ws) l
flow_sound [] l h = absurd (cc h)
flow_sound (a ∷ []) l h = absurd (cc h)
flow_sound (a ∷ b ∷ []) l h = absurd (cc h)
flow_sound (a ∷ b ∷ k ∷ []) l h = absurd (cc h)
flow_sound (a ∷ b ∷ k ∷ c ∷ []) l h = flow_case a b k c (small_number a) (small_number b) (kind k) (count c) l refl refl refl refl h
flow_sound (a ∷ b ∷ k ∷ c ∷ d ∷ rest) l h = absurd (cc h)

version_case : (a : List ℕ) (is : Bool) (l : Line) → bytes_eq a (codes "1") ≡ is → (if is then Some line.Head else None) ≡ Some l →
    IsLine (codes "profile" ∷ a ∷ []) l
version_case a true l e h =
    let is : line.Head ≡ l = cc h in
    rw (← is) (record { are = ap (λ x. codes "profile" ∷ x ∷ []) (same_word a (codes "1") e); fits = tt })
version_case a false l e h = absurd (cc h)

head_sound : (ws : List (List ℕ)) (l : Line) → head_line ws ≡ Some l → IsLine (codes "profile" ∷ ws) l
head_sound [] l h = absurd (cc h)
head_sound (a ∷ []) l h = version_case a (bytes_eq a (codes "1")) l refl h
head_sound (a ∷ b ∷ rest) l h = absurd (cc h)

end_sound : (ws : List (List ℕ)) (l : Line) → end_line ws ≡ Some l → IsLine (codes "end" ∷ ws) l
end_sound [] l h = let is : line.End ≡ l = cc h in rw (← is) (record { are = refl; fits = tt })
end_sound (a ∷ rest) l h = absurd (cc h)

pub line_sound : (ws : List (List ℕ)) (l : Line) → line_of ws ≡ Some l → IsLine ws l
unfolding line_of
line_sound [] l h = absurd (cc h)
line_sound (label ∷ ws) l h =
    choice IsLine label (codes "flow") ws l (bytes_eq label (codes "flow")) _ _ refl (flow_sound ws l)
    (choice IsLine label (codes "runs") ws l (bytes_eq label (codes "runs")) _ _ refl (runs_sound ws l)
    (choice IsLine label (codes "region") ws l (bytes_eq label (codes "region")) _ _ refl (region_sound ws l)
    (choice IsLine label (codes "profile") ws l (bytes_eq label (codes "profile")) _ _ refl (head_sound ws l)
    (choice IsLine label (codes "end") ws l (bytes_eq label (codes "end")) _ None refl (end_sound ws l) (λ none. absurd (cc none)))))) h
