-- The verdicts on a batch, one more behind those that were told.
use Rattle.dp_semantics.proofs.Names.{◌≡◌, refl, sym, ap, subst, arith, ℕ, zero, suc, ◌+◌, ◌≤◌, ◌⊎◌, inl, inr, true, List, [], ◌∷◌, ◌++◌, length, Some}
use Rattle.dp_semantics.proofs.Names.{slice_get}
use Rattle.dp_semantics.specs.EpochVerdicts.{verdict_at}
use Rattle.dp_net.specs.NetVerdicts.{GoesOnTo}
use Rattle.dp_judge.specs.Told.{SaysDecided, goes_on_behind}
use Rattle.dp_judge.specs.declared.verdict.Verdict.{Verdict}
use Rattle.dp_lean_region.specs.LeanEpoch.{LeanEpoch, begin_in, size_in}
use Rattle.dp_judge.specs.Verdicts.{AreTold, EachGoesOn}

-- what stands at a place of a list with one item more: one that was there, or the last
last_or : {X : Type 0} (xs : List X) (v : X) (i : ℕ) (w : X) → slice_get (xs ++ v ∷ []) i ≡ Some w → (slice_get xs i ≡ Some w) ⊎ ((i ≡ length xs) × (v ≡ w))
last_or [] v zero w is = inr (refl, cc is)
last_or [] v (suc i) w is = absurd (cc is)
last_or (x ∷ xs) v zero w is = inl is
last_or (x ∷ xs) v (suc i) w is = elim (last_or xs v i w is) [
  | inl there ↦ inl there
  | inr last ↦ inr (ap suc last.0, last.1)
]

pub one_longer : {X : Type 0} (xs : List X) (v : X) → length (xs ++ v ∷ []) ≡ suc (length xs)
one_longer [] v = refl
one_longer (x ∷ xs) v = ap suc (one_longer xs v)

-- the last one stands behind the others
pub last_there : {X : Type 0} (xs : List X) (v : X) → slice_get (xs ++ v ∷ []) (length xs) ≡ Some v
last_there [] v = refl
last_there (x ∷ xs) v = last_there xs v

pub go_on_too : (vs : List Verdict) (v : Verdict) → EachGoesOn vs → goes_on_behind v ≡ true → EachGoesOn (vs ++ v ∷ [])
go_on_too vs v all goes i w is = elim (last_or vs v i w is) [
  | inl there ↦ all i w there
  | inr last ↦ subst (λ (x : Verdict). goes_on_behind x ≡ true) last.1 goes
]

module _ (e : LeanEpoch) (b : ℕ) where
  pub told_none : AreTold e b []
  told_none = record {
    each = λ i v is. absurd (cc is);
    onward = λ i v is more. absurd (cc is);
    few = omega arith;
  }

  pub told_more : (vs : List Verdict) → AreTold e b vs → EachGoesOn vs → length vs ≤ size_in e b → GoesOnTo e.key (begin_in e b + length vs) →
      (v : Verdict) → SaysDecided e.key v (verdict_at e.key (begin_in e b + length vs)) → AreTold e b (vs ++ v ∷ [])
  told_more vs told all low goes v says = record {
    each = λ i w is. elim (last_or vs v i w is) [
      | inl there ↦ told.each i w there
      | inr last ↦ (
        subst (λ (n : ℕ). GoesOnTo e.key (begin_in e b + n)) (sym last.0) goes,
        subst (λ (n : ℕ). SaysDecided e.key w (verdict_at e.key (begin_in e b + n))) (sym last.0)
            (subst (λ (x : Verdict). SaysDecided e.key x (verdict_at e.key (begin_in e b + length vs))) last.1 says),
      )
    ];
    onward = λ i w is more. elim (last_or vs v i w is) [
      | inl there ↦ all i w there
      | inr last ↦ (let at = last.0 in let longer = one_longer vs v in absurd (omega (arith, at, longer, more)))
    ];
    few = (let longer = one_longer vs v in omega (arith, longer, low));
  }
