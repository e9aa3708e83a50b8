-- Memories that agree go on to the next iteration, and to the workers of a replicated stage.
use Rattle.dp_semantics.proofs.Names.{◌≡◌, inl, inr, refl, sym, ap, ◌∙◌, arith, le-ltb, ℕ, suc, ◌≤◌, Bool, true, false, ◌||◌, ◌&&◌, if◌then◌else◌, List, ℤ}
use Rattle.dp_semantics.proofs.Names.{length, list_any, or-true, cases_Bool, Program, Plan, is_replicated, region_accesses, is_local_cell, clear_locals}
use Rattle.dp_semantics.proofs.Names.{fits_plan}
use Rattle.dp_semantics.proofs.Setting.{Accepted}
use Rattle.dp_theorem.proofs.Fitting.{accepted}
use Rattle.dp_theorem.proofs.Memory.{clear-at, clear-other}
use Rattle.dp_net.proofs.Sent.{clear_size}
use Rattle.dp_lean.specs.Needed.{is_loaded_in, compares, wanted}
use Rattle.dp_lean.specs.Laws.{AgreesOn, MemoriesGoOn}

module _ (p : Program) (plan : Plan) where
  cleared : (s : ℕ) (a b : List ℤ) → AgreesOn p plan s a b → AgreesOn p plan s (clear_locals plan.region p.vars a) (clear_locals plan.region p.vars b)
  cleared s a b ab = record {
    size = clear_size plan.region p.vars b ∙ ab.size ∙ sym (clear_size plan.region p.vars a);
    same = λ x c w i. elim (cases_Bool (list_any (is_local_cell plan.region c) p.vars)) [
      | inl e ↦ clear-at plan.region c p.vars b (inl e) ∙ sym (clear-at plan.region c p.vars a (inl e))
      | inr e ↦ clear-other plan.region c p.vars b e ∙ ab.same x c w i ∙ sym (clear-other plan.region c p.vars a e)
    ];
  }

  module _ (ok : Accepted p plan) (s : ℕ) (next : suc s ≤ length plan.stages) (workers : is_replicated plan (suc s) ≡ true) where
    real : (t : ℕ) → t ≤ length plan.stages → (x : ℕ) →
        wanted p plan t x ≡ (is_loaded_in p plan t x || (is_replicated plan (suc t) && is_loaded_in p plan (suc t) x))
    real t low x = ap (λ (b : Bool). if b then list_any (compares p plan x) (region_accesses p plan)
        else (is_loaded_in p plan t x || (is_replicated plan (suc t) && is_loaded_in p plan (suc t) x)))
        (le-ltb (length plan.stages) t low)

    -- no replicated stage follows
    alone : is_replicated plan (suc (suc s)) ≡ false
    alone = by (is_replicated plan (suc (suc s))) refl
      where
        by : (b : Bool) → is_replicated plan (suc (suc s)) ≡ b → b ≡ false
        by false e = refl
        by true e = sym workers ∙ ok.apart (suc s) e

    loaded : (x : ℕ) → wanted p plan (suc s) x ≡ true → is_loaded_in p plan (suc s) x ≡ true
    loaded x w = by (is_loaded_in p plan (suc s) x)
        (sym (real (suc s) next x ∙ ap (λ (b : Bool). is_loaded_in p plan (suc s) x || (b && is_loaded_in p plan (suc (suc s)) x)) alone) ∙ w)
      where
        by : (b : Bool) → (b || false) ≡ true → b ≡ true
        by true e = refl
        by false e = e

    wanted_before : (x : ℕ) → wanted p plan (suc s) x ≡ true → wanted p plan s x ≡ true
    wanted_before x w = real s (omega (arith, next)) x
        ∙ ap (λ (b : Bool). is_loaded_in p plan s x || (b && is_loaded_in p plan (suc s) x)) workers
        ∙ ap (λ (b : Bool). is_loaded_in p plan s x || b) (loaded x w) ∙ or-true (is_loaded_in p plan s x)

    for_workers : (a b : List ℤ) → AgreesOn p plan s a b → AgreesOn p plan (suc s) a b
    for_workers a b ab = record { size = ab.size; same = λ x c w i. ab.same x c (wanted_before x w) i }

pub memories_go_on : (p : Program) (plan : Plan) → fits_plan p plan ≡ true → MemoriesGoOn p plan
memories_go_on p plan fits s a b ab = (cleared p plan s a b ab, λ next workers. for_workers p plan (accepted p plan fits) s next workers a b ab)
