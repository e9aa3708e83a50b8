-- The memory of a worker beside that of the stage before it, in the cells of what the worker's stage loads and what outlives the iteration.
use Rattle.dp_semantics.proofs.Names.{◌≡◌, inl, inr, refl, sym, ap, ◌∙◌, subst, arith, cases_eq, cases_lt, eq-eqb, ℕ, ◌==◌, Bool, true, false, ◌&&◌, List, ℤ}
use Rattle.dp_semantics.proofs.Names.{pos, length, length-set, get_or, get_or_past, get_or-set_at, get_or-set_other, slice_set, Some, Stmt, Stmt-F, Assign}
use Rattle.dp_semantics.proofs.Names.{Store, Print, If, While, Region, Break, Call, Program, Plan, Effect, Stored, Printed, Decided, Tried, stored, site_of}
use Rattle.dp_semantics.proofs.Names.{stage_of, is_cell_of}
use Rattle.dp_semantics.proofs.Evaluation.{Form, InVar, head_stores}
use Rattle.dp_semantics.proofs.Heads.{head_access}
use Rattle.dp_semantics.proofs.Setting.{Laid, Sound}
use Rattle.dp_lean.proofs.Wanted.{in_var}
use Rattle.dp_lean_epoch.specs.Steps.{is_fed, feeds, feeds_itself}

module _ (p : Program) (plan : Plan) (w : ℕ) where
  -- Memories of one size, with the same values in these cells.
  pub record Beside (a b : List ℤ) : Type 0 where
    pub size : length b ≡ length a
    pub same : (x c : ℕ) → is_fed p plan w (Some x) ≡ true → is_cell_of p (record { 0 = x }) c ≡ true → get_or b c (pos 0) ≡ get_or a c (pos 0)

  pub beside_self : (a : List ℤ) → Beside a a
  beside_self a = record { size = refl; same = λ x c fed i. refl }

  -- a store into both
  set_both : (a b : List ℤ) (d c : ℕ) (z : ℤ) → length b ≡ length a → get_or b c (pos 0) ≡ get_or a c (pos 0) →
      get_or (slice_set b d z) c (pos 0) ≡ get_or (slice_set a d z) c (pos 0)
  set_both a b d c z size same = elim (cases_eq c d) [
    | inl here ↦ elim (cases_lt c (length a)) [
      | inl within ↦ get_or-set_at b d c z (pos 0) here (omega (arith, within, here, size))
          ∙ sym (get_or-set_at a d c z (pos 0) here (omega (arith, within, here)))
      | inr past ↦ get_or_past (slice_set b d z) c (pos 0) (let l = length-set b d z in omega (arith, past, size, l))
          ∙ sym (get_or_past (slice_set a d z) c (pos 0) (let l = length-set a d z in omega (arith, past, l)))
    ]
    | inr other ↦ get_or-set_other b d c z (pos 0) other ∙ same ∙ sym (get_or-set_other a d c z (pos 0) other)
  ]

  pub beside_both : (effect : Effect) (a b : List ℤ) → Beside a b → Beside (stored effect a) (stored effect b)
  beside_both (Stored d z) a b ab = record {
    size = let la = length-set a d z in let lb = length-set b d z in let e = ab.size in omega (arith, la, lb, e);
    same = λ x c fed i. set_both a b d c z ab.size (ab.same x c fed i);
  }
  beside_both (Printed z) a b ab = ab
  beside_both (Decided z) a b ab = ab
  beside_both (Tried z) a b ab = ab

  module _ (laid : Laid p plan) where
    -- the worker's own store into another variable
    set_beside : (a b : List ℤ) (y d : ℕ) (z : ℤ) → InVar p y d → is_fed p plan w (Some y) ≡ false → Beside a b → Beside a (slice_set b d z)
    set_beside a b y d z inside none ab = record {
      size = let lb = length-set b d z in let e = ab.size in omega (arith, lb, e);
      same = λ x c fed i. get_or-set_other b d c z (pos 0) (λ here. clash x c fed i here) ∙ ab.same x c fed i;
    }
      where
        clash : (x c : ℕ) → is_fed p plan w (Some x) ≡ true → is_cell_of p (record { 0 = x }) c ≡ true → c ≡ d → ⊥
        clash x c fed i here =
            let same : x ≡ y = laid.apart x y d (subst (λ (k : ℕ). InVar p x k) here (in_var p plan x c i)) inside in
            let no_more : true ≡ false = sym fed ∙ ap (λ (v : ℕ). is_fed p plan w (Some v)) same ∙ none in absurd (cc no_more)

    pub beside_own : (h : Stmt-F Stmt) (effect : Effect) (a b : List ℤ) → Form p h effect → is_fed p plan w (head_stores h) ≡ false → Beside a b →
        Beside a (stored effect b)
    beside_own (Assign site v e) (Stored d z) a b f none ab = set_beside a b v.0 d z f none ab
    beside_own (Store site v i e) (Stored d z) a b f none ab = set_beside a b v.0 d z f none ab
    beside_own (Print site e) (Stored d z) a b f none ab = absurd f
    beside_own (If site e x y) (Stored d z) a b f none ab = absurd f
    beside_own (While site e x) (Stored d z) a b f none ab = absurd f
    beside_own (Region r site e x) (Stored d z) a b f none ab = absurd f
    beside_own (Break site e) (Stored d z) a b f none ab = absurd f
    beside_own (Call f1 l x) (Stored d z) a b f none ab = absurd f
    beside_own h (Printed z) a b f none ab = ab
    beside_own h (Decided z) a b f none ab = ab
    beside_own h (Tried z) a b f none ab = ab

  -- an own site of a stage that doesn't feed itself
  pub not_fed : feeds_itself p plan w ≡ false → (h : Stmt-F Stmt) → Sound p plan (head_access h) → stage_of p plan (site_of h).0 ≡ w →
      is_fed p plan w (head_stores h) ≡ false
  not_fed none h sound here = by (is_fed p plan w (head_stores h)) (sound.listed (feeds p plan w) none)
    where
      by : (b : Bool) → ((stage_of p plan (site_of h).0 == w) && b) ≡ false → b ≡ false
      by false e = refl
      by true e = sym (ap (λ (t : Bool). t && true) (eq-eqb (stage_of p plan (site_of h).0) w here)) ∙ e
