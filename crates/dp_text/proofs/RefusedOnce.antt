-- A text is of a grammar or refused, at one line.
use Rattle.std.proofs.Common.{◌≡◌, sym, subst, ◌∙◌, inl, inr, ℕ, ◌<◌, List, take, drop, arith}
use Rattle.std.proofs.lemmas.Bool.{cases_order}
use Rattle.std.proofs.lemmas.List.{take-append-drop}
use Rattle.dp_text.specs.Refused.{BeginsText, IsRefusedAt, at_line, at_end}

-- there is one first number of which something isn't so
one_first : (So : ℕ → Type 0) {n m : ℕ} → ((k : ℕ) → k < n → So k) → ¬ So n → ((k : ℕ) → k < m → So k) → ¬ So m → n ≡ m
one_first So {n} {m} before here before2 here2 = elim (cases_order n m) [
  | inl same ↦ same
  | inr (inl less) ↦ absurd (here (before2 n less))
  | inr (inr more) ↦ absurd (here2 (before m more))
]

module _ (IsText : List (List ℕ) → Type 0) where
  -- a text begins with its first lines
  pub text_begins : (k : ℕ) (lines : List (List ℕ)) → IsText lines → BeginsText IsText (take k lines)
  text_begins k lines t = (drop k lines, subst IsText (sym (take-append-drop k lines)) t)

  pub unrefused : (lines : List (List ℕ)) (line : ℕ) → IsText lines → IsRefusedAt IsText lines line → ⊥
  unrefused lines line t (at_line _ low high before here) = here (text_begins line lines t)
  unrefused lines line t (at_end _ is before none) = none t

  pub one_line : (lines : List (List ℕ)) {line other : ℕ} → IsRefusedAt IsText lines line → IsRefusedAt IsText lines other → line ≡ other
  one_line lines (at_line line low high before here) (at_line other low2 high2 before2 here2) =
      one_first (λ n. BeginsText IsText (take n lines)) before here before2 here2
  one_line lines (at_line line low high before here) (at_end other is before2 none) = absurd (here (before2 line (omega (arith, high, is))))
  one_line lines (at_end line is before none) (at_line other low high before2 here) = absurd (here (before other (omega (arith, high, is))))
  one_line lines (at_end line is before none) (at_end other is2 before2 none2) = is ∙ sym is2
