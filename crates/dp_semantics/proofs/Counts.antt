-- Tests of each number of a range, and the number of an event's words.
use Rattle.dp_semantics.proofs.Names.{◌≡◌, inl, inr, ℕ, zero, suc, ◌+◌, ◌<◌, ◌≤◌, Bool, true, List, [], ◌∷◌, length, length-append, ap, refl, arith, cases_eq}
use Rattle.dp_semantics.proofs.Names.{list_all, Program, Plan, Load, Event, is_checked, event_words, numbers_from, load_words, done_word, words_of, and_parts}
use Rattle.dp_semantics.proofs.Names.{and_from, cases_Bool}

-- a test of each number from k on, n of them
pub all_count : (test : ℕ → Bool) (n k s : ℕ) → list_all test (numbers_from k n) ≡ true → k ≤ s → s < k + n → test s ≡ true
all_count test zero k s e low high = absurd (omega (arith, low, high))
all_count test (suc n) k s e low high =
    let parts = and_parts (test k) (list_all test (numbers_from (k + 1) n)) e in
    elim (cases_eq k s) [ inl q ↦ rw (← q) parts.0 | inr q ↦ all_count test n (k + 1) s parts.1 (omega (arith, low, q)) (omega (arith, high)) ]

pub count_all : (test : ℕ → Bool) (n k : ℕ) → ((s : ℕ) → k ≤ s → s < k + n → test s ≡ true) → list_all test (numbers_from k n) ≡ true
count_all test zero k h = refl
count_all test (suc n) k h = and_from (test k) (list_all test (numbers_from (k + 1) n)) (h k (omega arith) (omega arith))
    (count_all test n (k + 1) (λ s low high. h s (omega (arith, low)) (omega (arith, high))))

load_words-length : (site : ℕ) (loads : List Load) → length (load_words site loads) ≡ length loads
load_words-length site [] = refl
load_words-length site (l ∷ rest) = ap (λ (n : ℕ). suc n) (load_words-length site rest)

module _ (p : Program) (plan : Plan) where
  pub event_words-length : (event : Event) → length (words_of p plan event) ≡ event_words p plan event
  event_words-length event = elim (cases_Bool (is_checked p plan event.site)) [
    | inl e ↦ rw e (omega (
      arith,
      length-append (load_words event.site event.loads) (done_word event.site event.effect
          ∷ []),
      load_words-length event.site event.loads,
    ))
    | inr e ↦ rw e
  ]
