-- What a turn that came to its end says of its steps.
use Rattle.dp_semantics.proofs.Names.{◌≡◌, refl, sym, ap, ◌∙◌, append_assoc, ℕ, zero, suc, ◌<◌, ◌≤◌, ◌==◌, List, [], ◌∷◌, ◌++◌, ℤ, length, nat_le, Result, Ok}
use Rattle.dp_semantics.proofs.Names.{Err, arith, leb-true, eq-eqb, append-nil, Word, Stmt, out-Stmt, Stmt-F, Program, Plan, WithLoads, Evaluated, Effect}
use Rattle.dp_semantics.proofs.Names.{evaluated, Void, Full, Taken, words_of, Turn, TurnEnd, Ended, own_step, stage_at, consumed_step, turn_step, turn_by}
use Rattle.dp_semantics.proofs.Names.{turn_at, turn_from, inl, inr, cases_Bool}
use Rattle.dp_theorem.proofs.Stepping.{event_of}

-- the words only grow
abbrev pub Grows : List Word → List Word → Type 0
Grows own words = (more : List Word) × (words ≡ own ++ more)

module _ (p : Program) (plan : Plan) (input : List ℤ) (s : ℕ) where
  abbrev GrowsBy : Turn → Result Turn Void → Type 0
  GrowsBy c (Ok next) = Grows c.own next.own
  GrowsBy c (Err why) = Unit {0}

  grows_own : (c : Turn) (y : Stmt) (ys : List Stmt) (h : Stmt-F Stmt) (r : Evaluated Effect) → GrowsBy c (own_step p plan c y ys h r)
  grows_own c y ys h (Err kind) = tt
  grows_own c y ys h (Ok v) = elim (cases_Bool (nat_le (length (c.own ++ words_of p plan (event_of h v))) plan.words)) [
    | inl e ↦ rw e (words_of p plan (event_of h v), refl)
    | inr e ↦ rw e tt
  ]

  grows_consumed : (c : Turn) (y : Stmt) (ys : List Stmt) (h : Stmt-F Stmt) (r : Result Taken Void) → GrowsBy c (consumed_step p plan c y ys h r)
  grows_consumed c y ys h (Err why) = tt
  grows_consumed c y ys h (Ok w) = ([], sym (append-nil c.own))

  grows_step : (c : Turn) (y : Stmt) (ys : List Stmt) (h : Stmt-F Stmt) → GrowsBy c (turn_step p plan input s c y ys h)
  grows_step c y ys h = elim (cases_Bool (stage_at p plan h == s)) [
    | inl e ↦ rw e (grows_own c y ys h (evaluated p input c.cells h))
    | inr e ↦ rw e (grows_consumed c y ys h _)
  ]

  -- where what follows a step grows, all does
  abbrev Growing : (Turn → TurnEnd) → Type 0
  Growing go = (d : Turn) (e : Ended) → go d ≡ Ok e → Grows d.own e.own

  grows_by : (go : Turn → TurnEnd) → Growing go → (c : Turn) (r : Result Turn Void) → GrowsBy c r → (e : Ended) → turn_by go r ≡ Ok e → Grows c.own e.own
  grows_by go later c (Ok next) g e q = let r = later next e q in (g.0 ++ r.0, r.1 ∙ ap (λ ws. ws ++ r.0) g.1 ∙ append_assoc c.own g.0 r.0)
  grows_by go later c (Err why) g e q = absurd (cc)

  grows_at : (go : Turn → TurnEnd) → Growing go → (c : Turn) (to_do : List Stmt) (e : Ended) → turn_at p plan input s go c to_do ≡ Ok e → Grows c.own e.own
  grows_at go later c [] e q = let same : record { own = c.own; cells = c.cells; closing = c.closing } ≡ e = cc in
      ([], ap (λ (d : Ended). d.own) (sym same) ∙ sym (append-nil c.own))
  grows_at go later c (y ∷ ys) e q = grows_by go later c (turn_step p plan input s c y ys (out-Stmt y)) (grows_step c y ys (out-Stmt y)) e q

  turn_grows : (n : ℕ) → Growing (turn_from p plan input s n)
  unfolding turn_from
  turn_grows zero c e q = absurd (cc)
  turn_grows (suc n) c e q = grows_at (turn_from p plan input s n) (turn_grows n) c c.to_do e q

  -- it was given steps
  pub some_steps : (n : ℕ) (c : Turn) (e : Ended) → turn_from p plan input s n c ≡ Ok e → 0 < n
  unfolding turn_from
  some_steps zero c e q = absurd (cc)
  some_steps (suc n) c e q = omega arith

  -- at an own site its evaluation gave a value, and the words had room
  pub record Own (c : Turn) (h : Stmt-F Stmt) (e : Ended) : Type 0 where
    pub v : WithLoads Effect
    pub gave : evaluated p input c.cells h ≡ Ok v
    pub room : length (c.own ++ words_of p plan (event_of h v)) ≤ plan.words
    pub grew : Grows (c.own ++ words_of p plan (event_of h v)) e.own

  own_value : (n : ℕ) (c : Turn) (y : Stmt) (ys : List Stmt) (h : Stmt-F Stmt) (e : Ended) (r : Evaluated Effect) → evaluated p input c.cells h ≡ r →
      turn_by (turn_from p plan input s n) (own_step p plan c y ys h r) ≡ Ok e → Own c h e
  own_value n c y ys h e (Ok v) gave q = elim (cases_Bool (nat_le (length (c.own ++ words_of p plan (event_of h v))) plan.words)) [
    | inl fits ↦ record { v = v; gave = gave; room = leb-true _ _ fits; grew = turn_grows n _ e (rw fits at q) }
    | inr full ↦ let clash : Err Full ≡ Ok e = rw full at q in absurd (cc clash)
  ]
  own_value n c y ys h e (Err kind) gave q = absurd (cc)

  pub own_back : (n : ℕ) (c : Turn) (y : Stmt) (ys : List Stmt) (h : Stmt-F Stmt) (e : Ended) → c.to_do ≡ y ∷ ys → out-Stmt y ≡ h → stage_at p plan h ≡ s →
      turn_from p plan input s n c ≡ Ok e → Own c h e
  unfolding turn_from
  own_back zero c y ys h e at o here q = absurd (cc)
  own_back (suc n) c y ys h e at o here q = own_value n c y ys h e (evaluated p input c.cells h) refl (rw (at, o, eq-eqb _ s here) at q)
