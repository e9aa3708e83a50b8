-- Turns that break off: at wrong assumptions, and where the words of an earlier stage aren't there.
use Rattle.dp_semantics.proofs.Names.{◌≡◌, inl, inr, refl, sym, ap, ◌∙◌, ne_eqb, ℕ, suc, ◌≤◌, Bool, true, List, ◌∷◌, ℤ, Ok, Err, Stmt, out-Stmt, roll-Stmt}
use Rattle.dp_semantics.proofs.Names.{out-roll-Stmt, Stmt-F, Program, Plan, Word, site_of, stage_of, word_list, Void, taken_from, Turn, turn_by, turn_step}
use Rattle.dp_semantics.proofs.Names.{consumed_step, Ended, project_all}
unfoldable use Rattle.dp_semantics.proofs.Names.{turn_from}
use Rattle.dp_semantics.proofs.Heads.{all_well, well_at}
use Rattle.dp_theorem.proofs.Projected.{proj_head}
use Rattle.dp_theorem.proofs.Stepping.{site_proj}
unfoldable use Rattle.dp_net.proofs.Strict.{strict_from}
use Rattle.dp_net.proofs.StrictTurns.{same_or_off}
use Rattle.dp_net.proofs.Blocks.{at_turn}
use Rattle.dp_net.proofs.Stepped.{text_is, taken_proj}

-- a turn that ends though it breaks off at wrong assumptions does so too where it doesn't break off there
pub ends_too : (p : Program) (plan : Plan) (input : List ℤ) (s n : ℕ) (c : Turn) (e : Ended) → strict_from p plan input s n c ≡ Ok e →
    turn_from p plan input s n c ≡ Ok e
ends_too p plan input s n c e q = elim (same_or_off p plan input s n c) [
  | inl same ↦ sym same ∙ q
  | inr off ↦ let clash : Err off.0 ≡ Ok e = sym off.1 ∙ q in absurd (cc clash)
]

-- where the words of an earlier stage's site aren't there, the turn breaks off
module _ (p : Program) (plan : Plan) (input : List ℤ) (x : Stmt) (rest : List Stmt) (well : well_at p plan (out-Stmt x) ≡ true)
    (behind : all_well p plan rest ≡ true) (s : ℕ)
    (reach : stage_of p plan (site_of (out-Stmt x)).0 ≤ s) (cells : List ℤ) (lists : List (List Word)) (own : List Word) (closing : Bool) where
  abbrev hs : Stmt-F Stmt
  hs = proj_head p plan s (out-Stmt x)

  abbrev opened : Turn
  opened = at_turn (roll-Stmt hs ∷ project_all p plan s rest) cells lists own closing

  opens : (n : ℕ) → turn_from p plan input s (suc n) (at_turn (project_all p plan s (x ∷ rest)) cells lists own closing)
      ≡ turn_by (turn_from p plan input s n) (turn_step p plan input s opened (roll-Stmt hs) (project_all p plan s rest) hs)
  unfolding turn_from
  opens n = rw (text_is p plan input x rest well behind s reach)
      (ap (λ (g : Stmt-F Stmt). turn_by (turn_from p plan input s n) (turn_step p plan input s opened (roll-Stmt hs) (project_all p plan s rest) g))
      (out-roll-Stmt hs))

  pub strays : (why : Void) → (stage_of p plan (site_of (out-Stmt x)).0 ≡ s → ⊥) →
      taken_from p (out-Stmt x) (word_list lists (stage_of p plan (site_of (out-Stmt x)).0)) ≡ Err why → (n : ℕ) →
      turn_from p plan input s (suc n) (at_turn (project_all p plan s (x ∷ rest)) cells lists own closing) ≡ Err why
  strays why other none n = opens n
      ∙ ap (turn_by (turn_from p plan input s n)) (step ∙ ap (consumed_step p plan opened (roll-Stmt hs) (project_all p plan s rest) hs) none)
    where
      step : turn_step p plan input s opened (roll-Stmt hs) (project_all p plan s rest) hs
          ≡ consumed_step p plan opened (roll-Stmt hs) (project_all p plan s rest) hs
          (taken_from p (out-Stmt x) (word_list lists (stage_of p plan (site_of (out-Stmt x)).0)))
      step = rw (
        taken_proj p plan s (out-Stmt x) (word_list lists (stage_of p plan (site_of hs).0)),
        site_proj p plan s (out-Stmt x),
        ne_eqb
            (stage_of p plan (site_of (out-Stmt x)).0) s other,
      ) refl
