-- The memories are brought forward from one iteration to the next.
use Rattle.dp_semantics.proofs.Names.{◌≡◌, refl, sym, ap, ◌∙◌, subst, arith, ℕ, zero, suc, ◌+◌, ◌<◌, if◌then◌else◌, Bool, false, List, [], ◌∷◌, length, ℤ}
use Rattle.dp_semantics.proofs.Names.{get_or, cases_Bool, inl, inr, length-replicate, get_or-replicate, Program, Plan, Event, clear_locals, is_replicated, last}
use Rattle.dp_semantics.proofs.Names.{Past, Epoch, word_count}
use Rattle.std.specs.Prelude.{replicate}
use Rattle.dp_semantics.proofs.Setting.{Fit, size}
use Rattle.dp_theorem.proofs.Seeing.{Sees}
use Rattle.dp_theorem.proofs.Memory.{AllBefore, Cleared, sees_next, sees_replicated}
use Rattle.dp_semantics.specs.CauseWalk.{Watch, view_of, count_of, next_from, no_words, next_watch, first_watch}
use Rattle.dp_theorem.proofs.Watching.{Watches}
use Rattle.dp_tree.proofs.InMain.{cleared_length}

module _ (p : Program) (plan : Plan) where
  abbrev clear : List ℤ → List ℤ
  clear cells = clear_locals plan.region p.vars cells

  next_zero : (before : List ℤ) (views : List (List ℤ)) → 0 < length views → is_replicated plan 1 ≡ false →
      get_or (next_from p plan 1 before views) 0 [] ≡ clear (get_or views 0 [])
  next_zero before [] h seq = absurd (omega (arith, h))
  next_zero before (view ∷ rest) h seq = ap (λ (b : Bool). if b then before else clear view) seq

  next_suc : (a j : ℕ) (before : List ℤ) (views : List (List ℤ)) → suc j < length views →
      get_or (next_from p plan a before views) (suc j) [] ≡ (if is_replicated plan (a + suc j) then get_or (next_from p plan a before views) j []
      else clear (get_or views (suc j) []))
  next_suc a j before [] h = absurd (omega (arith, h))
  next_suc a zero before (v ∷ []) h = absurd (omega (arith, h))
  next_suc a zero before (v ∷ u ∷ rest) h =
      let e : suc a ≡ a + 1 = omega arith in
      let own = if is_replicated plan a then before else clear v in
      ap (λ (n : ℕ). if is_replicated plan n then own else clear u) e
  next_suc a (suc j) before (v ∷ rest) h =
      let e : suc a + suc j ≡ a + suc (suc j) = omega arith in
      let own = if is_replicated plan a then before else clear v in
      next_suc (suc a) j own rest (omega (arith, h)) ∙ ap (λ (n : ℕ). if is_replicated plan n then get_or (next_from p plan (suc a) own rest) j []
      else clear (get_or rest (suc j) [])) e

  next-length : (a : ℕ) (before : List ℤ) (views : List (List ℤ)) → length (next_from p plan a before views) ≡ length views
  next-length a before [] = refl
  next-length a before (v ∷ rest) = ap (λ (n : ℕ). suc n) (next-length (suc a) (if is_replicated plan a then before else clear v) rest)

  words-length : (counts : List ℕ) → length (no_words counts) ≡ length counts
  words-length [] = refl
  words-length (n ∷ rest) = ap (λ (m : ℕ). suc m) (words-length rest)

  none_yet : (counts : List ℕ) (s : ℕ) → count_of (no_words counts) s ≡ 0
  none_yet counts zero = refl
  none_yet [] (suc s) = refl
  none_yet (n ∷ rest) (suc zero) = refl
  none_yet (n ∷ rest) (suc (suc s)) = none_yet rest (suc s)

module _ {k : Epoch} (ok : Fit k) where
  open k use {program, plan, input, base}

  -- what a stage's memory is where the iteration starts
  record Starts (i s : ℕ) (earlier : List Past) (view : List ℤ) : Type 0 where
    sees : Sees k s i earlier view
    size_is : length view ≡ size program

  pub watches_first : (i : ℕ) → length base ≡ size program → Watches ok i [] [] (first_watch plan base)
  watches_first i size_is = record {
    views_are = length-replicate (length plan.stages) base;
    counts_are = length-replicate (length plan.stages) 0;
    sees = λ s real early. subst (λ (view : List ℤ). Sees k s i [] view) (sym (base_view s real early)) (λ c. refl);
    sizes = λ s real early. ap length (base_view s real early) ∙ size_is;
    counts = λ s real early. zero_count s real early;
  }
    where
      base_view : (s : ℕ) → 0 < s → s < last plan → view_of (replicate (length plan.stages) base) s ≡ base
      base_view zero real early = absurd (omega (arith, real))
      base_view (suc s) real early = get_or-replicate (length plan.stages) s base [] (omega (arith, early))

      zero_count : (s : ℕ) → 0 < s → s < last plan → count_of (replicate (length plan.stages) 0) s ≡ word_count program plan [] s
      zero_count zero real early = refl
      zero_count (suc s) real early = get_or-replicate (length plan.stages) s 0 0 (omega (arith, early))

  pub watches_onward : (i : ℕ) (earlier : List Past) (done : List Event) (w : Watch) → Cleared program plan base → AllBefore (suc i) earlier →
      Watches ok i earlier done w → Watches ok (suc i) earlier [] (next_watch program plan w)
  watches_onward i earlier done w clean before b = record {
    views_are = next-length program plan 1 [] w.views ∙ b.views_are;
    counts_are = words-length program plan w.counts ∙ b.counts_are;
    sees = λ s real early. (starts s real early).sees;
    sizes = λ s real early. (starts s real early).size_is;
    counts = λ s real early. none_yet program plan w.counts s;
  }
    where
      cleared_view : (s : ℕ) (view : List ℤ) → 0 < s → s < last plan → is_replicated plan s ≡ false →
          view ≡ clear_locals plan.region program.vars (view_of w.views s) → Starts (suc i) s earlier view
      cleared_view s view real early seq e = record {
        sees = subst (λ (v : List ℤ). Sees k s (suc i) earlier v) (sym e) (sees_next k s i earlier (view_of w.views s) seq clean before (b.sees s real early));
        size_is = ap length e ∙ cleared_length plan.region program.vars (view_of w.views s) ∙ b.sizes s real early;
      }

      starts : (s : ℕ) → 0 < s → s < last plan → Starts (suc i) s earlier (view_of (next_from program plan 1 [] w.views) s)
      starts zero real early = absurd (omega (arith, real))
      starts (suc zero) real early =
          cleared_view 1 _ real early ok.accepted.sequential (next_zero program plan [] w.views (omega (arith, b.views_are, early)) ok.accepted.sequential)
      starts (suc (suc s)) real early =
          let e : 1 + suc s ≡ suc (suc s) = omega arith in
          let is = next_suc program plan 1 s [] w.views (omega (arith, b.views_are, early))
          ∙ ap (λ (n : ℕ). if is_replicated plan n then get_or (next_from program plan 1 [] w.views) s [] else clear_locals plan.region program.vars
          (get_or w.views (suc s) [])) e in
          by (suc s) (omega arith) early (get_or (next_from program plan 1 [] w.views) (suc s) []) (starts (suc s) (omega arith) (omega (arith, early))) is
        where
          by : (t : ℕ) → 0 < t → suc t < last plan → (view : List ℤ) → {before_view : List ℤ} → Starts (suc i) t earlier before_view →
              view ≡ (if is_replicated plan (suc t) then before_view else clear_locals plan.region program.vars (view_of w.views (suc t))) →
              Starts (suc i) (suc t) earlier view
          by t real early view {before_view = before_view} from is = elim (cases_Bool (is_replicated plan (suc t))) [
            | inl rep ↦
                let same : view ≡ before_view = is
                ∙ ap (λ (u : Bool). if u then before_view else clear_locals plan.region program.vars (view_of w.views (suc t))) rep in
                record {
                  sees = subst (λ (v : List ℤ). Sees k (suc t) (suc i) earlier v) (sym same) (sees_replicated k t (suc i) earlier before_view
                      (ok.accepted.apart t rep) rep before from.sees);
                  size_is = ap length same ∙ from.size_is;
                }
            | inr seq ↦ cleared_view (suc t) view (omega arith) early seq (is
                ∙ ap (λ (u : Bool). if u then before_view else clear_locals plan.region program.vars (view_of w.views (suc t))) seq)
          ]
