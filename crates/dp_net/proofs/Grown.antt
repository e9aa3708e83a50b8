-- A turn only adds words of its own.
use Rattle.dp_semantics.proofs.Names.{◌≡◌, refl, sym, ap, ◌∙◌, append_assoc, append-nil, ℕ, zero, suc, ◌-◌, ◌==◌, Bool, true, false, if◌then◌else◌, List, []}
use Rattle.dp_semantics.proofs.Names.{◌∷◌, ◌++◌, ℤ, length, Ok, Err, Result, nat_le, slice_set, Stmt, out-Stmt, Stmt-F, Program, Plan, Word, Evaluated}
use Rattle.dp_semantics.proofs.Names.{evaluated, Event, Effect, words_of, Full, Void, Taken, taken_from, Turn, Ended, turned, turn_by, turn_at, turn_step}
use Rattle.dp_semantics.proofs.Names.{own_step, consumed_step, stage_at, words_left}
unfoldable use Rattle.dp_semantics.proofs.Names.{turn_from}
use Rattle.dp_semantics.proofs.Ways.{event_of}

module _ (p : Program) (plan : Plan) (input : List ℤ) (s : ℕ) where
  abbrev pub Grown : Turn → List Word → Type 0
  Grown c words = (more : List Word) × (words ≡ c.own ++ more)

  step_grows : (c d : Turn) (x : Stmt) (rest : List Stmt) (h : Stmt-F Stmt) → turn_step p plan input s c x rest h ≡ Ok d → Grown c d.own
  step_grows c d x rest h e = by (stage_at p plan h == s) e
    where
      produced_grows : (event : Event) (b : Bool) →
          (if b then Ok (turned p plan c x rest h event.effect (c.own ++ words_of p plan event) c.lists) else Err Full) ≡ Ok d → Grown c d.own
      produced_grows event true e =
          let same : turned p plan c x rest h event.effect (c.own ++ words_of p plan event) c.lists ≡ d = cc e in
          (words_of p plan event, ap (λ (t : Turn). t.own) (sym same))
      produced_grows event false e = absurd (cc e)

      own_grows : (r : Evaluated Effect) → own_step p plan c x rest h r ≡ Ok d → Grown c d.own
      own_grows (Err kind) e = absurd (cc e)
      own_grows (Ok v) e = produced_grows (event_of h v) (nat_le (length (c.own ++ words_of p plan (event_of h v))) plan.words) e

      taken_grows : (r : Result Taken Void) → consumed_step p plan c x rest h r ≡ Ok d → Grown c d.own
      taken_grows (Err why) e = absurd (cc e)
      taken_grows (Ok w) e =
          let same : turned p plan c x rest h w.effect c.own (slice_set c.lists (stage_at p plan h - 1) w.rest) ≡ d = cc e in (
            [],
            ap (λ (t : Turn). t.own)
                (sym same) ∙ sym (append-nil c.own),
          )

      by : (b : Bool) →
          (if b then own_step p plan c x rest h (evaluated p input c.cells h) else consumed_step p plan c x rest h (taken_from p h (words_left p plan c h)))
          ≡ Ok d → Grown c d.own
      by true e = own_grows (evaluated p input c.cells h) e
      by false e = taken_grows (taken_from p h (words_left p plan c h)) e

  pub grows : (n : ℕ) (c : Turn) (e : Ended) → turn_from p plan input s n c ≡ Ok e → Grown c e.own
  unfolding turn_from
  grows zero c e q = absurd (cc q)
  grows (suc n) c e q = at (λ d r. grows n d e r) c.to_do q
    where
      at : ((d : Turn) → turn_from p plan input s n d ≡ Ok e → Grown d e.own) → (xs : List Stmt) →
          turn_at p plan input s (turn_from p plan input s n) c xs ≡ Ok e → Grown c e.own
      at later [] q = let same : record { own = c.own; cells = c.cells; closing = c.closing } ≡ e = cc q in (
        [],
        ap (λ (u : Ended). u.own) (sym same)
            ∙ sym (append-nil c.own),
      )
      at later (x ∷ rest) q = by (turn_step p plan input s c x rest (out-Stmt x)) refl q
        where
          by : (r : Result Turn Void) → turn_step p plan input s c x rest (out-Stmt x) ≡ r → turn_by (turn_from p plan input s n) r ≡ Ok e → Grown c e.own
          by (Err why) is q = absurd (cc q)
          by (Ok d) is q =
              let one = step_grows c d x rest (out-Stmt x) is in
              let two = later d q in
              (one.0 ++ two.0, two.1 ∙ ap (λ (ws : List Word). ws ++ two.0) one.1 ∙ append_assoc c.own one.0 two.0)
