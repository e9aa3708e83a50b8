-- A batch has at most one iteration where some stage doesn't keep its memory; and laws of all epochs of a program and a plan.
use Rattle.dp_semantics.proofs.Names.{◌≡◌, inl, inr, refl, sym, ap, ◌∙◌, subst, arith, cases_lt, ℕ, zero, suc, ◌+◌, ◌-◌, ◌<◌, ◌≤◌, Bool, true, false, not, ◌||◌}
use Rattle.dp_semantics.proofs.Names.{if◌then◌else◌, list_all, length, List, slice_get_past, numbers_from, Stmt, Program, Plan, is_par, is_replicated}
use Rattle.dp_semantics.proofs.Names.{fits_plan}
use Rattle.std.specs.Prelude.{min, max}
use Rattle.dp_tree.specs.Inlined.{IsInlined}
use Rattle.dp_semantics.specs.EpochKey.{EpochKey}
use Rattle.dp_semantics.proofs.Counts.{all_count}
use Rattle.dp_net.specs.NetItems.{Marks}
use Rattle.dp_net.specs.Hidden.{marks_of}
use Rattle.dp_net.specs.Batches.{batch_begin, batch_size}
use Rattle.dp_lean_epoch.specs.Steps.{feeds_itself, keeps_memory, lean_cap}
use Rattle.dp_lean_epoch.specs.Laws.{InEpochs, BatchesAreKept}

single : (key : EpochKey) (cap b : ℕ) → cap ≤ 1 → batch_size key cap b ≤ 1
single key cap b low = at_most (suc key.fuel - (key.first + batch_begin key cap b)) (batch_begin key cap b)
  where
    at_most : (x k : ℕ) → min x (max 1 (min cap k)) ≤ 1
    at_most x k = omega (arith, low)

module _ (p : Program) (plan : Plan) where
  -- only a stage of the plan may be replicated
  among : (s : ℕ) → keeps_memory p plan s ≡ false → (0 < s) × (s ≤ length plan.stages)
  among zero loses = absurd (cc loses)
  among (suc t) loses = elim (cases_lt t (length plan.stages)) [
    | inl low ↦ (omega arith, omega (arith, low))
    | inr past ↦
        let none : is_replicated plan (suc t) ≡ false = ap is_par (slice_get_past plan.stages t past) in
        let clash : true ≡ false = sym (ap (λ (b : Bool). not b || not (feeds_itself p plan (suc t))) none) ∙ loses in absurd (cc clash)
  ]

  capped : (cap s : ℕ) → keeps_memory p plan s ≡ false → lean_cap p plan cap ≤ 1
  capped cap s loses = by (list_all (keeps_memory p plan) (numbers_from 1 (length plan.stages))) refl
    where
      by : (all : Bool) → list_all (keeps_memory p plan) (numbers_from 1 (length plan.stages)) ≡ all → (if all then cap else 1) ≤ 1
      by false e = omega arith
      by true e =
          let range = among s loses in
          let keeps = all_count (keeps_memory p plan) (length plan.stages) 1 s e (omega (arith, range)) (omega (arith, range)) in
          let clash : true ≡ false = sym keeps ∙ loses in absurd (cc clash)

pub batches_kept : (m : Marks) (key : EpochKey) → BatchesAreKept m key
batches_kept m key = record { cap = capped key.program key.plan; single = single key }

-- what is so of each program and plan of an epoch is so of those that it has
pub in_epochs : (law : Marks → EpochKey → Type 0) (p : Program) (plan : Plan) → fits_plan p plan ≡ true →
    ((key : EpochKey) → fits_plan key.program key.plan ≡ true → (pays : List Stmt → Bool) → law (marks_of key.program key.plan pays) key) → InEpochs law p plan
in_epochs law p plan fits each key same_program same_plan pays = each key (rw (same_program, same_plan) fits) pays

pub in_inlined : (law : Marks → EpochKey → Type 0) (p : Program) (plan : Plan) → IsInlined p → fits_plan p plan ≡ true →
    ((key : EpochKey) → IsInlined key.program → fits_plan key.program key.plan ≡ true → (pays : List Stmt → Bool) →
    law (marks_of key.program key.plan pays) key) → InEpochs law p plan
in_inlined law p plan inlined fits each key same_program same_plan pays =
    each key (subst IsInlined (sym same_program) inlined) (rw (same_program, same_plan) fits) pays
