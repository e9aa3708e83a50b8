-- A turn's bound of steps never decides: each step adds a word of the plan's number, or takes one of the lists.
use Rattle.dp_semantics.proofs.Names.{◌≡◌, refl, sym, ap, ◌∙◌, arith, length-append, ℕ, zero, suc, ◌+◌, ◌-◌, ◌<◌, ◌≤◌, ◌==◌, ◌++◌, List, [], ◌∷◌, length, ℤ, Ok}
use Rattle.dp_semantics.proofs.Names.{Err, Result, nat_le, leb-true, sum_by, slice_set, cases_lt, inl, inr, cases_Bool, Word, Stmt, Stmt-F, out-Stmt, Program}
use Rattle.dp_semantics.proofs.Names.{Plan, Evaluated, Event, Effect, site_of, evaluated, words_of, Full, Taken, taken_from, Void, Turn, TurnEnd, turned}
use Rattle.dp_semantics.proofs.Names.{turn_at, turn_begin, turn_by, turn_step, own_step, consumed, consumed_step, stage_at, words_left}
unfoldable use Rattle.dp_semantics.proofs.Names.{turn_from}
use Rattle.dp_semantics.specs.TurnBound.{BoundNeverDecides}
use Rattle.dp_semantics.proofs.Shorter.{lists_shorter, some_word, taken_shorter}

module _ (p : Program) (plan : Plan) (input : List ℤ) (s : ℕ) where
  -- the own words fit, and n steps suffice for what may still come
  record Enough (n : ℕ) (c : Turn) : Type 0 where
    fits : length c.own ≤ plan.words
    left : plan.words + sum_by length c.lists < n + length c.own

  module _ (n : ℕ) (c : Turn) (enough : Enough (suc n) c) (x : Stmt) (rest : List Stmt) (head : Stmt-F Stmt) where
    own_left : (d : Turn) (r : Evaluated Effect) → own_step p plan c x rest head r ≡ Ok d → Enough n d
    own_left d (Err kind) e = absurd (cc e)
    own_left d (Ok v) e = elim (cases_Bool (nat_le (length own) plan.words)) [
      | inl q ↦
          let is : turned p plan c x rest head v.value own c.lists ≡ d = cc (rw q at e) in
          let low = leb-true (length own) plan.words q in
          let many = length-append c.own (words_of p plan event) in
          let some = some_word p plan event in
          let own_is : length own ≡ length d.own = ap (λ (t : Turn). length t.own) is in
          let lists_are : sum_by length c.lists ≡ sum_by length d.lists = ap (λ (t : Turn). sum_by length t.lists) is in
          record { fits = omega (arith, low, own_is); left = omega (arith, enough.left, many, some, own_is, lists_are) }
      | inr q ↦ let clash : Err Full ≡ Ok d = rw q at e in absurd (cc clash)
    ]
      where
        event : Event
        event = record { site = (site_of head).0; loads = v.loads; effect = v.value }

        own : List Word
        own = c.own ++ words_of p plan event

    taken_left : (d : Turn) (r : Result Taken Void) → taken_from p head (words_left p plan c head) ≡ r →
        consumed_step p plan c x rest head r ≡ Ok d → Enough n d
    taken_left d (Err why) is e = absurd (cc e)
    taken_left d (Ok w) is e =
        let same : consumed p plan c x rest head w ≡ d = cc e in
        let fewer = lists_shorter c.lists (stage_at p plan head) w.rest (taken_shorter p head (words_left p plan c head) w is) in
        let own_is : length c.own ≡ length d.own = ap (λ (t : Turn). length t.own) same in
        let lists_are : sum_by length (slice_set c.lists (stage_at p plan head - 1) w.rest) ≡ sum_by length d.lists = ap
        (λ (t : Turn). sum_by length t.lists) same in
        record { fits = omega (arith, enough.fits, own_is); left = omega (arith, enough.left, fewer, own_is, lists_are) }

    step_left : (d : Turn) → turn_step p plan input s c x rest head ≡ Ok d → Enough n d
    step_left d e = elim (cases_Bool (stage_at p plan head == s)) [
      | inl q ↦ own_left d (evaluated p input c.cells head) (rw q at e)
      | inr q ↦ taken_left d (taken_from p head (words_left p plan c head)) refl (rw q at e)
    ]

  same_on : (n : ℕ) (go more : Turn → TurnEnd) → ((d : Turn) → Enough n d → go d ≡ more d) → (c : Turn) → Enough (suc n) c → (xs : List Stmt) →
      turn_at p plan input s go c xs ≡ turn_at p plan input s more c xs
  same_on n go more same c enough [] = refl
  same_on n go more same c enough (x ∷ rest) = by (turn_step p plan input s c x rest (out-Stmt x)) refl
    where
      by : (r : Result Turn Void) → turn_step p plan input s c x rest (out-Stmt x) ≡ r → turn_by go r ≡ turn_by more r
      by (Err why) e = refl
      by (Ok d) e = same d (step_left n c enough x rest (out-Stmt x) d e)

  -- one step more makes no difference
  one_more : (n : ℕ) (c : Turn) → Enough n c → turn_from p plan input s n c ≡ turn_from p plan input s (suc n) c
  unfolding turn_from
  one_more zero c enough = absurd (omega (arith, enough.fits, enough.left))
  one_more (suc n) c enough = same_on n (turn_from p plan input s n) (turn_from p plan input s (suc n)) (one_more n) c enough c.to_do

pub bound_idle : (p : Program) (plan : Plan) → BoundNeverDecides p plan
bound_idle p plan input s zero cells lists many = absurd (omega (arith, many))
bound_idle p plan input s (suc n) cells lists many = elim (cases_lt (plan.words + sum_by length lists) n) [
  | inl more ↦ sym (one_more p plan input s n (turn_begin p plan s cells lists) (record { fits = omega arith; left = omega (arith, more) }))
      ∙ bound_idle p plan input s n cells lists more
  | inr few ↦ let e : suc n ≡ plan.words + sum_by length lists + 1 = omega (arith, many, few) in
      ap (λ (k : ℕ). turn_from p plan input s k (turn_begin p plan s cells lists)) e
]
