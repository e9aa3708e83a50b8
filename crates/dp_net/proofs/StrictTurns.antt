-- A turn that breaks off at a wrong assumption goes on as the other, or breaks off.
use Rattle.dp_semantics.proofs.Names.{◌≡◌, ◌⊎◌, inl, inr, refl, ℕ, zero, suc, ◌==◌, Bool, true, false, ◌&&◌, if◌then◌else◌, List, [], ◌∷◌, ◌++◌, ℤ, length, Ok}
use Rattle.dp_semantics.proofs.Names.{Err, Result, nat_le, Stmt, out-Stmt, Stmt-F, Program, Plan, Evaluated, evaluated, Event, Effect, event_as_assumed}
use Rattle.dp_semantics.proofs.Names.{words_of, Full, Void, Taken, taken_from, Turn, TurnEnd, turned, turn_by, turn_at, own_step, consumed_step, stage_at}
use Rattle.dp_semantics.proofs.Names.{words_left}
unfoldable use Rattle.dp_semantics.proofs.Names.{turn_from}
use Rattle.dp_net.proofs.Strict.{strict_own_step, strict_at}
unfoldable use Rattle.dp_net.proofs.Strict.{strict_from}

module _ (p : Program) (plan : Plan) (input : List ℤ) (s : ℕ) where
  abbrev pub SameOrOff : TurnEnd → TurnEnd → Type 0
  SameOrOff strict turn = (strict ≡ turn) ⊎ ((why : Void) × (strict ≡ Err why))

  pub same_or_off : (n : ℕ) (c : Turn) → SameOrOff (strict_from p plan input s n c) (turn_from p plan input s n c)
  unfolding strict_from turn_from
  same_or_off zero c = inl refl
  same_or_off (suc n) c = at (λ d. same_or_off n d) c.to_do
    where
      at : ((d : Turn) → SameOrOff (strict_from p plan input s n d) (turn_from p plan input s n d)) → (xs : List Stmt) →
          SameOrOff (strict_at p plan input s (strict_from p plan input s n) c xs) (turn_at p plan input s (turn_from p plan input s n) c xs)
      at go [] = inl refl
      at go (x ∷ rest) = by (stage_at p plan (out-Stmt x) == s)
        where
          h : Stmt-F Stmt
          h = out-Stmt x

          fits : (event : Event) (a b : Bool) → SameOrOff
              (turn_by (strict_from p plan input s n)
              (if a && b then Ok (turned p plan c x rest (out-Stmt x) event.effect (c.own ++ words_of p plan event) c.lists) else Err Full))
              (turn_by (turn_from p plan input s n)
              (if b then Ok (turned p plan c x rest (out-Stmt x) event.effect (c.own ++ words_of p plan event) c.lists) else Err Full))
          fits event true true = go (turned p plan c x rest (out-Stmt x) event.effect (c.own ++ words_of p plan event) c.lists)
          fits event true false = inl refl
          fits event false b = inr (Full, refl)

          own : (r : Evaluated Effect) →
              SameOrOff (turn_by (strict_from p plan input s n) (strict_own_step p plan c x rest (out-Stmt x) r))
              (turn_by (turn_from p plan input s n) (own_step p plan c x rest (out-Stmt x) r))
          own (Err kind) = inl refl
          own (Ok v) = fits (Rattle.dp_semantics.proofs.Ways.event_of (out-Stmt x) v)
              (event_as_assumed p plan (Rattle.dp_semantics.proofs.Ways.event_of (out-Stmt x) v))
              (nat_le (length (c.own ++ words_of p plan (Rattle.dp_semantics.proofs.Ways.event_of (out-Stmt x) v))) plan.words)

          taken : (r : Result Taken Void) →
              SameOrOff (turn_by (strict_from p plan input s n) (consumed_step p plan c x rest (out-Stmt x) r))
              (turn_by (turn_from p plan input s n) (consumed_step p plan c x rest (out-Stmt x) r))
          taken (Err why) = inl refl
          taken (Ok w) = go (Rattle.dp_semantics.specs.StageRun.consumed p plan c x rest (out-Stmt x) w)

          by : (b : Bool) → SameOrOff
              (turn_by (strict_from p plan input s n) (if b then strict_own_step p plan c x rest (out-Stmt x)
              (evaluated p input c.cells (out-Stmt x)) else consumed_step p plan c x rest (out-Stmt x)
              (taken_from p (out-Stmt x) (words_left p plan c (out-Stmt x)))))
              (turn_by (turn_from p plan input s n) (if b then own_step p plan c x rest (out-Stmt x)
              (evaluated p input c.cells (out-Stmt x)) else consumed_step p plan c x rest (out-Stmt x)
              (taken_from p (out-Stmt x) (words_left p plan c (out-Stmt x)))))
          by true = own (evaluated p input c.cells (out-Stmt x))
          by false = taken (taken_from p (out-Stmt x) (words_left p plan c (out-Stmt x)))
