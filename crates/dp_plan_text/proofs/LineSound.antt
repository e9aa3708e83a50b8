-- Words that are read as a line are the words of that line.
use Rattle.std.proofs.Common.{◌≡◌, ℕ, ◌<◌, ◌≤◌, ◌==◌, Bool, true, false, ◌&&◌, nat_lt, nat_le, List, [], ◌∷◌, map, Option, Some, None, codes, decimal, refl}
use Rattle.std.proofs.Common.{sym, ap, ◌∙◌, rules, arith, tests}
use Rattle.std.specs.Prelude.{if◌then◌else◌}
use Rattle.std.specs.Str.{bytes_eq}
use Rattle.std.proofs.lemmas.Fmt.{decimal_digit}
use Rattle.dp_plan.specs.declared.StageKind.{StageKind}
use Rattle.dp_plan.specs.declared.StageKind.TheVariants.{Seq, Par}
use Rattle.dp_plan_text.specs.declared.line.Line.{Line}
use Rattle.dp_plan_text.specs.declared.line.Line.TheVariants as line
use Rattle.dp_plan_text.specs.PlanText.{kind_word, outcome_number, plan_words}
use Rattle.dp_plan.specs.Each.{AscendAbove}
use Rattle.dp_text.specs.Words.{small_number}
use Rattle.dp_plan_text.specs.steps.LineWords.{above, onto_sites, site_before, sites_above, stage_line, region_of, region_line, outcome, assume_of, assume_line}
use Rattle.dp_plan_text.specs.steps.LineWords.{head_line, end_line, line_of}
use Rattle.dp_text.proofs.NumberText.{Writes, number-sound}
use Rattle.dp_plan_text.proofs.LineComplete.{LineFits}
use Rattle.dp_text.proofs.Runs.{WordsOf, same_word, choice}

abbrev pub IsLine : List (List ℕ) → Line → Type 0
IsLine = WordsOf plan_words LineFits

-- ---- sites

record Above (low : ℕ) (word : List ℕ) (site : ℕ) : Type 0 where
  writes : Writes 4294967295 word site
  higher : low < site

above_case : (low : ℕ) (word : List ℕ) (n site : ℕ) (lt : Bool) → nat_lt low n ≡ lt → small_number word ≡ Some n →
    (if lt then Some n else None) ≡ Some site → Above low word site
above_case low word n site true e w h =
    let same : n ≡ site = cc h in
    record { writes = number-sound 4294967295 (omega arith) word site (w ∙ ap Some same); higher = let lt : low < n = search rules in omega (arith, lt, same) }
above_case low word n site false e w h = absurd (cc h)

above_sound : (low : ℕ) (word : List ℕ) (o : Option ℕ) (site : ℕ) → small_number word ≡ o → above low o ≡ Some site → Above low word site
above_sound low word None site w h = absurd (cc h)
above_sound low word (Some n) site w h = above_case low word n site (nat_lt low n) refl w h

pub record AreSites (low : ℕ) (ws : List (List ℕ)) (sites : List ℕ) : Type 0 where
  pub are : ws ≡ map decimal sites
  pub ascend : AscendAbove low sites

onto_case : (site : ℕ) (later : Option (List ℕ)) (sites : List ℕ) → onto_sites site later ≡ Some sites → (rest : List ℕ) × (later ≡ Some rest)
    × (sites ≡ site ∷ rest)
onto_case site None sites h = absurd (cc h)
onto_case site (Some rest) sites h = (rest, refl, cc h)

sites_case : (low : ℕ) (word : List ℕ) (ws : List (List ℕ)) (o : Option ℕ) (sites : List ℕ) → above low (small_number word) ≡ o →
    site_before o (λ s. sites_above s ws) ≡ Some sites
    → ((site : ℕ) (rest : List ℕ) → sites_above site ws ≡ Some rest → AreSites site ws rest) → AreSites low (word ∷ ws) sites
sites_case low word ws None sites e h more = absurd (cc h)
sites_case low word ws (Some site) sites e h more =
    let a : Above low word site = above_sound low word (small_number word) site refl e in
    let o = onto_case site (sites_above site ws) sites h in let m : AreSites site ws o.0 = more site o.0 o.1 in
    record {
      are = ap (λ w. w ∷ ws) a.writes.is ∙ ap (λ r. decimal site ∷ r) m.are ∙ ap (map decimal) (sym o.2);
      ascend = rw o.2 (a.higher, omega (arith, a.writes.small), m.ascend);
    }

pub sites_sound : (low : ℕ) (ws : List (List ℕ)) (sites : List ℕ) → sites_above low ws ≡ Some sites → AreSites low ws sites
sites_sound low [] sites h = let none : sites ≡ [] = cc h in rw none (record { are = refl; ascend = tt })
sites_sound low (word ∷ ws) sites h = sites_case low word ws (above low (small_number word)) sites refl h (λ site rest. sites_sound site ws rest)

-- ---- each kind of line

stage_case : (kind : StageKind) (ws : List (List ℕ)) (o : Option (List ℕ)) (l : Line) → sites_above 0 ws ≡ o → stage_line kind o ≡ Some l →
    IsLine (kind_word kind ∷ ws) l
stage_case kind ws (Some (site ∷ rest)) l e h =
    let is : line.Stage (record { kind = kind; sites = site ∷ rest }) ≡ l = cc h in
    let s : AreSites 0 ws (site ∷ rest) = sites_sound 0 ws (site ∷ rest) e in
    rw (← is) (record { are = ap (λ r. kind_word kind ∷ r) s.are; fits = (omega arith, s.ascend) })
stage_case kind ws _ l e h = absurd (cc h)

within_case : (a b : List ℕ) (r w : ℕ) (l : Line) (low high : Bool) → small_number a ≡ Some r → small_number b ≡ Some w → nat_le 16 w ≡ low →
    nat_le w 4096 ≡ high
    → (if low && high then Some (line.Region r w) else None) ≡ Some l → IsLine (codes "region" ∷ a ∷ codes "words" ∷ b ∷ []) l
within_case a b r w l true true p q e f h =
    let is : line.Region r w ≡ l = cc h in
    let wr = number-sound 4294967295 (omega arith) a r p in let ww = number-sound 4294967295 (omega arith) b w q in
    let low : 16 ≤ w = search rules in let high : w ≤ 4096 = search rules in
    rw (← is) (record {
      are = ap (λ x. codes "region" ∷ x ∷ codes "words" ∷ b ∷ []) wr.is ∙ ap (λ x. codes "region" ∷ decimal r ∷ codes "words" ∷ x
          ∷ []) ww.is;
      fits = (omega (arith, wr.small), low, high);
    })
within_case a b r w l true false p q e f h = absurd (cc h)
within_case a b r w l false high p q e f h = absurd (cc h)

region_case : (a b : List ℕ) (r w : Option ℕ) (l : Line) → small_number a ≡ r → small_number b ≡ w → region_of r w ≡ Some l →
    IsLine (codes "region" ∷ a ∷ codes "words" ∷ b ∷ []) l
region_case a b (Some r) (Some w) l p q h = within_case a b r w l (nat_le 16 w) (nat_le w 4096) p q refl refl h
region_case a b _ _ l p q h = absurd (cc h)

label_case : (a b label : List ℕ) (is : Bool) (l : Line) → bytes_eq label (codes "words") ≡ is →
    (if is then region_of (small_number a) (small_number b) else None) ≡ Some l
    → IsLine (codes "region" ∷ a ∷ label ∷ b ∷ []) l
label_case a b label true l e h = rw (same_word label (codes "words") e) (region_case a b (small_number a) (small_number b) l refl refl h)
label_case a b label false l e h = absurd (cc h)

region_sound : (ws : List (List ℕ)) (l : Line) → region_line ws ≡ Some l → IsLine (codes "region" ∷ ws) l
region_sound (a ∷ label ∷ b ∷ []) l h = label_case a b label (bytes_eq label (codes "words")) l refl h
region_sound _ l h = absurd (cc h)

outcome_case : (n : ℕ) (zero_is one_is : Bool) (taken : Bool) → (n == 0) ≡ zero_is → (n == 1) ≡ one_is →
    (if zero_is then Some false else (if one_is then Some true else None)) ≡ Some taken → n ≡ outcome_number taken
outcome_case n true one_is taken e f h =
    let is : false ≡ taken = cc h in let none : n ≡ 0 = search (rules, tests) in none ∙ ap outcome_number is
outcome_case n false true taken e f h =
    let is : true ≡ taken = cc h in let one : n ≡ 1 = search (rules, tests) in one ∙ ap outcome_number is
outcome_case n false false taken e f h = absurd (cc h)

outcome_sound : (b : List ℕ) (o : Option ℕ) (taken : Bool) → small_number b ≡ o → outcome o ≡ Some taken → b ≡ decimal (outcome_number taken)
outcome_sound b None taken e h = absurd (cc h)
outcome_sound b (Some n) taken e h = (number-sound 4294967295 (omega arith) b n e).is ∙ ap decimal (outcome_case n (n == 0) (n == 1) taken refl refl h)

assume_case : (a b : List ℕ) (site : Option ℕ) (taken : Option Bool) (l : Line) → above 0 (small_number a) ≡ site → outcome (small_number b) ≡ taken →
    assume_of site taken ≡ Some l
    → IsLine (codes "assume" ∷ a ∷ b ∷ []) l
assume_case a b (Some site) (Some taken) l p q h =
    let is : line.Assume (record { site = record { 0 = site }; taken = taken }) ≡ l = cc h in
    let s : Above 0 a site = above_sound 0 a (small_number a) site refl p in
    rw (← is) (record {
      are = ap (λ x. codes "assume" ∷ x ∷ b ∷ []) s.writes.is ∙ ap (λ x. codes "assume" ∷ decimal site ∷ x
          ∷ []) (outcome_sound b (small_number b) taken refl q);
      fits = (s.higher, omega (arith, s.writes.small));
    })
assume_case a b _ _ l p q h = absurd (cc h)

assume_sound : (ws : List (List ℕ)) (l : Line) → assume_line ws ≡ Some l → IsLine (codes "assume" ∷ ws) l
assume_sound (a ∷ b ∷ []) l h = assume_case a b (above 0 (small_number a)) (outcome (small_number b)) l refl refl h
assume_sound _ l h = absurd (cc h)

second_case : (a : List ℕ) (is : Bool) (l : Line) → bytes_eq a (codes "2") ≡ is → (if is then Some (line.Head true) else None) ≡ Some l →
    IsLine (codes "plan" ∷ a ∷ []) l
second_case a true l e h =
    let is : line.Head true ≡ l = cc h in
    rw (← is) (record { are = ap (λ x. codes "plan" ∷ x ∷ []) (same_word a (codes "2") e ∙ sym (decimal_digit 2 (omega arith))); fits = tt })
second_case a false l e h = absurd (cc h)

version_case : (a : List ℕ) (is : Bool) (l : Line) → bytes_eq a (codes "1") ≡ is →
    (if is then Some (line.Head false) else (if bytes_eq a (codes "2") then Some (line.Head true) else None)) ≡ Some l → IsLine (codes "plan" ∷ a ∷ []) l
version_case a true l e h =
    let is : line.Head false ≡ l = cc h in
    rw (← is) (record { are = ap (λ x. codes "plan" ∷ x ∷ []) (same_word a (codes "1") e ∙ sym (decimal_digit 1 (omega arith))); fits = tt })
version_case a false l e h = second_case a (bytes_eq a (codes "2")) l refl h

head_sound : (ws : List (List ℕ)) (l : Line) → head_line ws ≡ Some l → IsLine (codes "plan" ∷ ws) l
head_sound (a ∷ []) l h = version_case a (bytes_eq a (codes "1")) l refl h
head_sound _ l h = absurd (cc h)

end_sound : (ws : List (List ℕ)) (l : Line) → end_line ws ≡ Some l → IsLine (codes "end" ∷ ws) l
end_sound [] l h = let is : line.End ≡ l = cc h in rw (← is) (record { are = refl; fits = tt })
end_sound (a ∷ rest) l h = absurd (cc h)

pub line_sound : (ws : List (List ℕ)) (l : Line) → line_of ws ≡ Some l → IsLine ws l
unfolding line_of
line_sound [] l h = absurd (cc h)
line_sound (label ∷ ws) l h =
    choice IsLine label (codes "seq") ws l (bytes_eq label (codes "seq")) _ _ refl (stage_case Seq ws (sites_above 0 ws) l refl)
    (choice IsLine label (codes "par") ws l (bytes_eq label (codes "par")) _ _ refl (stage_case Par ws (sites_above 0 ws) l refl)
    (choice IsLine label (codes "assume") ws l (bytes_eq label (codes "assume")) _ _ refl (assume_sound ws l)
    (choice IsLine label (codes "region") ws l (bytes_eq label (codes "region")) _ _ refl (region_sound ws l)
    (choice IsLine label (codes "plan") ws l (bytes_eq label (codes "plan")) _ _ refl (head_sound ws l)
    (choice IsLine label (codes "end") ws l (bytes_eq label (codes "end")) _ None refl (end_sound ws l) (λ none. absurd (cc none))))))) h
