-- An own block comes to the same in memories that agree on what the stage wants.
use Rattle.dp_semantics.proofs.Names.{◌≡◌, sym, ◌∙◌, subst, ℕ, zero, suc, true, false, List, [], ◌∷◌, ℤ, and_parts, Stmt, out-Stmt, Program, Plan, Event}
use Rattle.dp_semantics.proofs.Names.{Evaluated, evaluated, WithLoads, Effect, value_of, stored, followed, Access, accesses, well_nested}
use Rattle.dp_semantics.proofs.Each.{Each, each_split}
use Rattle.dp_semantics.proofs.Heads.{accesses_all, accesses_out, all_well, well_at, well_out}
use Rattle.dp_semantics.proofs.Setting.{Sound}
use Rattle.dp_semantics.proofs.Followed.{followed_has, all_joins}
use Rattle.dp_semantics.proofs.Ways.{event_of}
use Rattle.dp_theorem.proofs.Source.{well_parts, each_joins, each_parts, head_fact}
use Rattle.dp_net.specs.Quiet.{BlockOutcome, Through, Broke, with_event, quiet_by}
unfoldable use Rattle.dp_net.specs.Quiet.{quiet_from}
use Rattle.dp_net.proofs.Blocks.{onward, head_of}
use Rattle.dp_net.proofs.Projections.{Kept, AllKept}
use Rattle.dp_net.proofs.Ready.{SameEval, same_value, same_fault}
use Rattle.dp_net.proofs.Silent.{AllQuiet}
use Rattle.dp_lean.specs.Needed.{is_judge}
use Rattle.dp_lean.specs.Laws.{AgreesOn}
use Rattle.dp_lean.proofs.Wanted.{agree_both, eval_alike}

module _ (p : Program) (plan : Plan) (s : ℕ) where
  pub data SameOutcome : BlockOutcome → BlockOutcome → Type 0 where
    same_through : (events : List Event) (a b : List ℤ) → AgreesOn p plan s a b → SameOutcome (Through events a) (Through events b)
    same_broke : SameOutcome Broke Broke

  module _ (input : List ℤ) (real : is_judge p plan s ≡ false) where
    more : (event : Event) (o u : BlockOutcome) → SameOutcome o u → SameOutcome (with_event event o) (with_event event u)
    more event o u (same_through events c d cd) = same_through (event ∷ events) c d cd
    more event o u same_broke = same_broke

    onwards : (x : Stmt) (rest : List Stmt) (a b : List ℤ) (go : List Stmt → List ℤ → BlockOutcome) (u w : Evaluated Effect) → SameEval u w →
        ((v : WithLoads Effect) → SameOutcome (go (followed x rest (out-Stmt x) (value_of v.value)) (stored v.value a))
        (go (followed x rest (out-Stmt x) (value_of v.value)) (stored v.value b))) →
        SameOutcome (quiet_by go x rest a (out-Stmt x) u) (quiet_by go x rest b (out-Stmt x) w)
    onwards x rest a b go u w (same_value v) next = more (event_of (out-Stmt x) v) _ _ (next v)
    onwards x rest a b go u w (same_fault k l) next = same_broke

    pub outcome_alike : (n : ℕ) (to_do : List Stmt) (a b : List ℤ) → all_well p plan to_do ≡ true → AllKept p plan s (Sound p plan) to_do →
        AllQuiet p plan s to_do → AgreesOn p plan s a b → SameOutcome (quiet_from p input n to_do a) (quiet_from p input n to_do b)
    unfolding quiet_from
    outcome_alike zero [] a b well sites q ab = same_through [] a b ab
    outcome_alike zero (x ∷ rest) a b well sites q ab = same_broke
    outcome_alike (suc n) [] a b well sites q ab = same_through [] a b ab
    outcome_alike (suc n) (x ∷ rest) a b well sites q ab =
        let h = out-Stmt x in
        let parts = and_parts (well_nested p plan x) (all_well p plan rest) well in
        let head_well : well_at p plan h ≡ true = sym (well_out p plan x) ∙ parts.0 in
        let both = each_split (Kept p plan s (Sound p plan)) (accesses x) (accesses_all rest) sites in
        let here = subst (λ (l : List Access). Each (Kept p plan s (Sound p plan)) l) (accesses_out x) both.0 in
        let own = head_fact (Kept p plan s (Sound p plan)) p plan h head_well here in
        onwards x rest a b (quiet_from p input n) (evaluated p input a h) (evaluated p input b h)
        (eval_alike p plan s input real h own.0 (head_of p plan s x rest q).stage a b ab)
        (λ v. outcome_alike n (followed x rest h (value_of v.value)) (stored v.value a) (stored v.value b)
        (followed_has (λ (xs : List Stmt). all_well p plan xs ≡ true) (all_joins (well_nested p plan)) x rest h (value_of v.value) well parts.1
        (well_parts p plan h head_well))
        (followed_has (AllKept p plan s (Sound p plan)) (each_joins (Kept p plan s (Sound p plan))) x rest h (value_of v.value) sites both.1
        (each_parts (Kept p plan s (Sound p plan)) h here))
        (onward p plan s x rest (value_of v.value) q) (agree_both p plan s (v.value ∷ []) a b ab))
