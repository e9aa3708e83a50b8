-- A worker's turn beside that of the stage before it, from the same memory: they end in memories that are beside each other.
use Rattle.dp_semantics.proofs.Names.{◌≡◌, ◌⊎◌, inl, inr, sym, ap, subst, arith, cases_order, ℕ, zero, suc, ◌<◌, Bool, false, List, [], ◌∷◌, ℤ, Ok, Stmt}
use Rattle.dp_semantics.proofs.Names.{out-Stmt, Stmt-F, Program, Plan, Word, site_of, stage_of, Turn, Ended}
unfoldable use Rattle.dp_semantics.proofs.Names.{turn_from}
use Rattle.dp_semantics.proofs.Evaluation.{head_stores}
use Rattle.dp_semantics.proofs.Heads.{head_access}
use Rattle.dp_semantics.proofs.Setting.{Sound, Laid}
unfoldable use Rattle.dp_net.proofs.Strict.{strict_from}
use Rattle.dp_lean_epoch.specs.Steps.{is_fed}
use Rattle.dp_lean_epoch.proofs.WorkerSteps.{Near, before, NearIn, head_kept, at_earlier, at_before, at_worker}

module _ (p : Program) (plan : Plan) (input : List ℤ) (s : ℕ) (low : 0 < s) (laid : Laid p plan)
    (unfed : (h : Stmt-F Stmt) → Sound p plan (head_access h) → stage_of p plan (site_of h).0 ≡ suc s → is_fed p plan (suc s) (head_stores h) ≡ false) where
  never : (c : Turn) (e : Ended) → turn_from p plan input s zero c ≡ Ok e → ⊥
  unfolding turn_from
  never c e q = absurd (cc q)

  ended_before : (k : ℕ) (cells : List ℤ) (lists : List (List Word)) (own : List Word) (closing : Bool) (e : Ended) →
      turn_from p plan input s k (before p plan input s low laid unfed [] cells lists own closing) ≡ Ok e → e.cells ≡ cells
  unfolding turn_from
  ended_before zero cells lists own closing e q = absurd (cc q)
  ended_before (suc k) cells lists own closing e q =
      let same : record { own = own; cells = cells; closing = closing } ≡ e = cc q in ap (λ (u : Ended). u.cells) (sym same)

  -- Both come to their ends in memories that are so.
  pub near_in : (n : ℕ) → NearIn p plan input s low laid unfed n
  unfolding strict_from
  near_in zero k xs text cells lists own closing mem taken made shut e f facing near q r = absurd (cc r)
  near_in (suc n) k [] text cells lists own closing mem taken made shut e f facing near q r =
      let same : record { own = made; cells = mem; closing = shut } ≡ f = cc r in
      subst (λ (b : List ℤ). Near p plan input s low laid unfed e.cells b) (ap (λ (u : Ended). u.cells) same)
      (subst (λ (a : List ℤ). Near p plan input s low laid unfed a mem) (sym (ended_before k cells lists own closing e q)) near)
  near_in (suc n) k (x ∷ rest) text cells lists own closing mem taken made shut e f facing near q r =
      at_statement (near_in n) k q (cases_order (stage_of p plan (site_of (out-Stmt x)).0) s)
    where
      at_statement : NearIn p plan input s low laid unfed n → (k : ℕ) →
          turn_from p plan input s k (before p plan input s low laid unfed (x ∷ rest) cells lists own closing) ≡ Ok e →
          (stage_of p plan (site_of (out-Stmt x)).0 ≡ s) ⊎ ((stage_of p plan (site_of (out-Stmt x)).0 < s) ⊎
          (s < stage_of p plan (site_of (out-Stmt x)).0)) → Near p plan input s low laid unfed e.cells f.cells
      at_statement go zero q (inl here) = absurd (never (before p plan input s low laid unfed (x ∷ rest) cells lists own closing) e q)
      at_statement go zero q (inr (inl past)) = absurd (never (before p plan input s low laid unfed (x ∷ rest) cells lists own closing) e q)
      at_statement go (suc k) q (inl here) =
          at_before p plan input s low laid unfed n go k x rest text cells lists own closing mem taken made shut e f facing near here q r
      at_statement go (suc k) q (inr (inl past)) =
          at_earlier p plan input s low laid unfed n go k x rest text cells lists own closing mem taken made shut e f facing near past q r
      at_statement go k q (inr (inr late)) =
          let kept = head_kept p plan input s low laid unfed x rest text in let reach = kept.1 in
          at_worker p plan input s low laid unfed n go k x rest text cells lists own closing mem taken made shut e f facing near
          (omega (arith, late, reach)) q r
