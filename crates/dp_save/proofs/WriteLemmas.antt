-- The lines of a checkpoint, part by part.
use Rattle.std.proofs.Common.{◌≡◌, ℕ, zero, suc, ◌==◌, List, [], ◌∷◌, ◌++◌, map, codes, decimal, ℤ, refl, sym, ap, ◌∙◌, append_assoc, append-nil, false, rules}
use Rattle.std.proofs.Common.{tests}
use Rattle.std.specs.Prelude.{if◌then◌else◌}
use Rattle.std.specs.Fmt.{signed_decimal}
use Rattle.std.specs.List.{flat_map}
use Rattle.std.proofs.lemmas.Grind.{flat_map-append}
use Rattle.dp_base.specs.declared.RegionReport.{RegionReport}
use Rattle.dp_text.specs.Labels.{labelled, spaced}
use Rattle.dp_text.specs.Words.{joined_words}
use Rattle.dp_save.specs.declared.Checkpoint.{Checkpoint}
use Rattle.dp_save.specs.CheckpointText.{cells_words, checkpoint_lines, counted_words, end_words, line_bytes, place_words, report_words}
use Rattle.dp_save.proofs.ReportLemmas.{counted_some}
use Rattle.dp_save.specs.WrittenText.{cells_text, checkpoint_bytes, listed_text, place_text, report_text, reports_text, value_text, values_text}

-- each word behind a space
abbrev behind_spaces : List (List ℕ) → List ℕ
behind_spaces [] = []
behind_spaces (word ∷ words) = 32 ∷ (word ++ behind_spaces words)

joined_more : (word : List ℕ) (words : List (List ℕ)) → joined_words (word ∷ words) ≡ word ++ behind_spaces words
joined_more word [] = sym (append-nil word)
joined_more word (next ∷ words) = ap (λ (t : List ℕ). word ++ 32 ∷ t) (joined_more next words)

-- ---- the memory

values_behind : (values : List ℤ) → behind_spaces (map signed_decimal values) ≡ values_text values
unfolding value_text
values_behind [] = refl
values_behind (z ∷ values) = ap (λ (t : List ℕ). 32 ∷ (signed_decimal z ++ t)) (values_behind values)

cells_line : (cells : List ℤ) → cells_text cells ≡ line_bytes (cells_words (map signed_decimal cells))
cells_line cells =
    sym (append_assoc (codes "cells") (values_text cells) (10 ∷ []))
    ∙ ap (λ (t : List ℕ). (codes "cells" ++ t) ++ 10 ∷ []) (sym (values_behind cells))
    ∙ ap (λ (t : List ℕ). t ++ 10 ∷ []) (sym (joined_more (codes "cells") (map signed_decimal cells)))

-- ---- the place

pub place_grew : (out one two three four five : List ℕ) (c : Checkpoint) → one ≡ out ++ labelled (codes "region ") c.region →
    two ≡ one ++ labelled (codes " after ") c.after → three ≡ two ++ labelled (codes " steps ") c.steps
    → four ≡ three ++ labelled (codes " fuel ") c.fuel → five ≡ four ++ 10 ∷ [] → five ≡ out ++ place_text c
unfolding labelled place_text
place_grew out one two three four five c p q r s t = t ∙ rw (s, r, q, p) (simp append_assoc)

-- ---- a report

numbers_behind : (ns : List ℕ) → behind_spaces (map decimal ns) ≡ spaced ns
unfolding labelled
numbers_behind [] = refl
numbers_behind (n ∷ ns) = ap (λ (t : List ℕ). 32 ∷ (decimal n ++ t)) (numbers_behind ns)

listed_some : (n : ℕ) (ns : List ℕ) → listed_text (suc n) ns ≡ codes ":" ++ spaced ns
listed_some n ns = let other : (suc n == 0) ≡ false = search (rules, tests) in rw other refl

-- the count and the numbers behind it
counted_text : (n : ℕ) (ns : List ℕ) → joined_words (counted_words n ns) ≡ decimal n ++ listed_text n ns
counted_text zero ns = sym (append-nil (decimal 0))
counted_text (suc n) ns =
    ap joined_words (counted_some n ns)
    ∙ joined_more (decimal (suc n) ++ codes ":") (map decimal ns) ∙ ap (λ (t : List ℕ). (decimal (suc n) ++ codes ":") ++ t) (numbers_behind ns)
    ∙ append_assoc (decimal (suc n)) (codes ":") (spaced ns) ∙ ap (λ (t : List ℕ). decimal (suc n) ++ t) (sym (listed_some n ns))

counted_behind : (n : ℕ) (ns : List ℕ) → behind_spaces (counted_words n ns) ≡ 32 ∷ joined_words (counted_words n ns)
counted_behind zero ns = ap (λ (t : List ℕ). 32 ∷ t) (append-nil (decimal 0))
counted_behind (suc n) ns =
    ap behind_spaces (counted_some n ns) ∙ ap (λ (t : List ℕ). 32 ∷ t) (sym (joined_more (decimal (suc n) ++ codes ":") (map decimal ns)))
    ∙ ap (λ (ws : List (List ℕ)). 32 ∷ joined_words ws) (sym (counted_some n ns))

report_line : (r : RegionReport) → report_text r ≡ line_bytes (report_words r)
unfolding labelled
report_line r =
    let n = r.recovered_count in let ns = r.recovered in
    let words : joined_words (report_words r) ≡ codes "report" ++ 32
    ∷ (decimal r.region ++ 32
    ∷ (codes "iterations" ++ 32
    ∷ (decimal r.iterations ++ 32 ∷ (codes "recovered" ++ 32 ∷ (decimal r.recovered_count ++ listed_text r.recovered_count r.recovered))))) =
    joined_more (codes "report") (decimal r.region ∷ codes "iterations" ∷ decimal r.iterations ∷ codes "recovered" ∷ counted_words n ns)
    ∙ ap (λ (t : List ℕ). codes "report" ++ 32
    ∷ (decimal r.region ++ 32 ∷ (codes "iterations" ++ 32 ∷ (decimal r.iterations ++ 32 ∷ (codes "recovered" ++ t))))) (counted_behind n ns
    ∙ ap (λ (t : List ℕ). 32 ∷ t) (counted_text n ns)) in
    let listed = listed_text n ns in
    (simp append_assoc) ∙ ap (λ (t : List ℕ). t ++ 10 ∷ []) (sym words)

reports_lines : (reports : List RegionReport) → reports_text reports ≡ flat_map line_bytes (map report_words reports)
reports_lines [] = refl
reports_lines (r ∷ reports) =
    ap (λ (t : List ℕ). t ++ reports_text reports) (report_line r) ∙ ap (λ (t : List ℕ). line_bytes (report_words r) ++ t) (reports_lines reports)

pub report_grew : (out one two three four five : List ℕ) (r : RegionReport) → one ≡ out ++ labelled (codes "report ") r.region →
    two ≡ one ++ labelled (codes " iterations ") r.iterations → three ≡ two ++ labelled (codes " recovered ") r.recovered_count
    → four ≡ three ++ listed_text r.recovered_count r.recovered → five ≡ four ++ 10 ∷ [] → five ≡ out ++ report_text r
report_grew out one two three four five r p q s t u = u ∙ rw (t, s, q, p) (simp append_assoc)

-- ---- the text

parts : (one two three four head place cells reports end : List ℕ) → four ≡ three ++ reports → three ≡ two ++ cells → two ≡ one ++ place → one ≡ [] ++ head →
    four ++ end ≡ head ++ (place ++ (cells ++ (reports ++ end)))
parts one two three four head place cells reports end s r q p = rw (s, r, q, p) (simp append_assoc)

pub checkpoint_grew : (one two three four five : List ℕ) (c : Checkpoint) → one ≡ [] ++ codes "checkpoint 1\n" → two ≡ one ++ place_text c →
    three ≡ two ++ cells_text c.cells → four ≡ three ++ reports_text c.reports → five ≡ four ++ codes "end\n"
    → five ≡ checkpoint_bytes c
unfolding place_text checkpoint_bytes
checkpoint_grew one two three four five c p q r s t =
    let written = map signed_decimal c.cells in
    let lines : reports_text c.reports ++ codes "end\n" ≡ flat_map line_bytes (map report_words c.reports ++ end_words ∷ []) =
    ap (λ (x : List ℕ). x ++ codes "end\n") (reports_lines c.reports) ∙ sym (flat_map-append line_bytes (map report_words c.reports) (end_words ∷ [])) in
    t ∙ parts one two three four (codes "checkpoint 1\n") (line_bytes (place_words c)) (cells_text c.cells) (reports_text c.reports) (codes "end\n") s r q p
    ∙ ap (λ (x : List ℕ). codes "checkpoint 1\n" ++ (line_bytes (place_words c) ++ (cells_text c.cells ++ x))) lines
    ∙ ap (λ (x : List ℕ). codes "checkpoint 1\n" ++ (line_bytes (place_words c) ++ (x ++ flat_map line_bytes (map report_words c.reports ++ end_words ∷ []))))
    (cells_line c.cells)
