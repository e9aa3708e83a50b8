-- What the scan skips at the front of a text is white space or a comment.
use Rattle.std.proofs.Common.{◌≡◌, ℕ, suc, ◌+◌, ◌<◌, true, not, ◌||◌, ◌⊎◌, ◌==◌, if◌then◌else◌, inl, inr, [], ◌∷◌, ◌++◌, length, take, drop, slice_index, codes}
use Rattle.std.proofs.Common.{Option, Some, None, refl, sym, ◌∙◌, ap, append_assoc, length-append, take_at, take-append-drop, get_or-drop, add-zero, arith}
use Rattle.std.specs.List.{prefix_len}
use Rattle.std.proofs.lemmas.Bool.{cases_lt, and_parts, and_from, eqb-true, eq-eqb, not-true, not-false, cond_both, or_cases, or_left, or_right, eqb-false}
use Rattle.std.proofs.lemmas.List.{drop_all}
use Rattle.std.proofs.lemmas.List.Sums.{prefix_len_stops}
use Rattle.dp_lex.specs.declared.front.Class.TheVariants as class
use Rattle.dp_lex.specs.Characters.{Text, is_white, is_line_end}
use Rattle.dp_lex.specs.Scan.{closing, block_len, opens_comment, skipped, is_in}
use Rattle.dp_lex.specs.Front.{Skips, OpensComment}
use Rattle.dp_lex.proofs.Runs.{run_passes}
use Rattle.dp_lex.proofs.Skipping.{Splits, closing_splits}

-- ---- the scan's piece is skipped

blank_skips : (z : Text) → is_white (slice_index z 0) ≡ true → Skips z (take 1 z)
blank_skips [] white = absurd (cc white)
blank_skips (b ∷ z) white = record { rest = z; splits = refl; skipped = inl (record { byte = b; white = white; spelled = refl }) }

line_ends_there : (z : Text) → (drop (prefix_len (is_in class.Comment) z) z ≡ [])
    ⊎ (is_line_end (slice_index (drop (prefix_len (is_in class.Comment) z) z) 0) ≡ true)
line_ends_there z =
    let n = prefix_len (is_in class.Comment) z in
    elim (cases_lt n (length z)) [
      | inl h ↦ inr (rw (get_or-drop n z 0 0, add-zero n) (not-false _ (prefix_len_stops (is_in class.Comment) z 0 h)))
      | inr h ↦ inl (drop_all n z h)
    ]

line_skips_at : (z : Text) → Skips (47 ∷ 47 ∷ z) (take (prefix_len (is_in class.Comment) (47 ∷ 47 ∷ z)) (47 ∷ 47 ∷ z))
line_skips_at z =
    let n = prefix_len (is_in class.Comment) z in let long : 1 + (1 + n) ≡ suc (suc n) = omega arith in
    let inside = run_passes (is_in class.Comment) z n refl in
    rw long (record {
      rest = drop n z;
      splits = ap (λ (x : Text). 47 ∷ 47 ∷ x) (sym (take-append-drop n z));
      skipped = inr (inl (record {
        body = take n z;
        inside = λ k d h. not-true _ (inside k d h);
        spelled = refl;
        ends = line_ends_there z;
      }));
    })

line_skips : (z : Text) → slice_index z 0 ≡ 47 → slice_index z 1 ≡ 47 → Skips z (take (prefix_len (is_in class.Comment) z) z)
line_skips [] a b = absurd (omega (arith, a))
line_skips (x ∷ []) a b = absurd (omega (arith, b))
line_skips (x ∷ y ∷ z) a b = rw (a, b) (line_skips_at z)

block_skips_at : (z : Text) (n : ℕ) → Splits z n → Skips (47 ∷ 42 ∷ z) (take (2 + n) (47 ∷ 42 ∷ z))
block_skips_at z n s =
    let long : 2 + n ≡ suc (suc n) = omega arith in
    let cut : z ≡ (s.body ++ codes "*/") ++ s.rest = s.splits ∙ sym (append_assoc s.body (codes "*/") s.rest) in
    let end : length (s.body ++ codes "*/") ≡ n = length-append s.body (codes "*/") ∙ sym s.long in
    let front : take n z ≡ s.body ++ codes "*/" = rw cut (take_at (s.body ++ codes "*/") s.rest n end) in
    rw (long, front) (record {
      rest = s.rest;
      splits = ap (λ (x : Text). 47 ∷ 42 ∷ x) cut;
      skipped = inr (inr (record { body = s.body; first = s.clear; spelled = refl }));
    })

block_skips_found : (z : Text) (found : Option ℕ) → closing z ≡ found → 0 < block_len found → Skips (47 ∷ 42 ∷ z) (take (block_len found) (47 ∷ 42 ∷ z))
block_skips_found z None e more = absurd (omega (arith, more))
block_skips_found z (Some n) e more = block_skips_at z n (closing_splits z n e)

block_skips : (z : Text) → slice_index z 0 ≡ 47 → slice_index z 1 ≡ 42 → 0 < block_len (closing (drop 2 z)) → Skips z (take (block_len (closing (drop 2 z))) z)
block_skips [] a b more = absurd (omega (arith, a))
block_skips (x ∷ []) a b more = absurd (omega (arith, b))
block_skips (x ∷ y ∷ z) a b more = rw (a, b) (block_skips_found z (closing z) refl more)

-- the test of a comment's first two bytes
pub opens_from_test : (z : Text) → opens_comment z ≡ true → OpensComment z
unfolding opens_comment
opens_from_test z t =
    let parts = and_parts (slice_index z 0 == 47) (slice_index z 1 == 47 || slice_index z 1 == 42) t in (
      eqb-true _ 47 parts.0,
      elim (or_cases (slice_index z 1 == 47) (slice_index z 1 == 42) parts.1) [
        | inl h ↦ inl (eqb-true _ 47 h)
        | inr h ↦
            inr (eqb-true _ 42 h)
      ],
    )

pub test_from_opens : (z : Text) → OpensComment z → opens_comment z ≡ true
unfolding opens_comment
test_from_opens z o =
    and_from _ _ (eq-eqb _ 47 o.0) (elim o.1 [ inl h ↦ or_left _ _ (eq-eqb _ 47 h) | inr h ↦ or_right _ _ (eq-eqb _ 42 h) ])

-- where the scan skips something, that is a piece
pub skipped_skips : (z : Text) → 0 < skipped z → Skips z (take (skipped z) z)
unfolding skipped
skipped_skips z =
    let P : ℕ → Type 0 = λ n. 0 < n → Skips z (take n z) in let line_len = prefix_len (is_in class.Comment) z in
    let closed_len = block_len (closing (drop 2 z)) in
    cond_both (is_white (slice_index z 0)) 1 (if not (opens_comment z) then 0 else (if slice_index z 1 == 47 then line_len else closed_len)) P
    (λ white more. blank_skips z white)
    (λ dark. cond_both (not (opens_comment z)) 0 (if slice_index z 1 == 47 then line_len else closed_len) P
    (λ other more. absurd (omega (arith, more)))
    (λ opens. let o = opens_from_test z (not-false (opens_comment z) opens) in
    cond_both (slice_index z 1 == 47) line_len closed_len P
    (λ line more. line_skips z o.0 (eqb-true _ 47 line))
    (λ star more. block_skips z o.0 (elim o.1 [ inl e ↦ absurd (eqb-false _ 47 star e) | inr e ↦ e ]) more)))
