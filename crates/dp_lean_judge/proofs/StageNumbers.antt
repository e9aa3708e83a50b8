-- A written plan's sites are of its stages.
use Rattle.std.proofs.Common.{◌≡◌, refl, ℕ, zero, suc, ◌+◌, ◌-◌, ◌<◌, Bool, true, false, List, [], ◌∷◌, length, map, nat_le, slice_index, inl, inr, arith}
use Rattle.std.proofs.lemmas.Bool.{cases_Bool}
use Rattle.std.proofs.lemmas.List.{length-map}
use Rattle.dp_tree.specs.declared.Program.{Program}
use Rattle.dp_plan.specs.declared.WrittenStage.{WrittenStage}
use Rattle.dp_plan.specs.declared.WrittenPlan.{WrittenPlan}
use Rattle.dp_plan.specs.Access.{first_site}
use Rattle.dp_plan.specs.Written.{plan_of, stage_from, written_stage, has, region_sites, kind_in}
use Rattle.dp_semantics.specs.Judge.{last}
use Rattle.dp_lean_judge.specs.Stages.{HasStages}

stage_within : (k : ℕ) (lines : List WrittenStage) (site : ℕ) → 0 < k → stage_from k lines site < k + length lines
stage_within k [] site h = omega (arith, h)
stage_within k (line ∷ rest) site h = elim (cases_Bool (has site line.sites)) [
  | inl q ↦ rw q (omega (arith, h))
  | inr q ↦ rw q (let e = stage_within (suc k) rest site (omega arith) in omega (arith, e))
]

entry_within : (f : ℕ → ℕ) (n : ℕ) → ((x : ℕ) → f x < n) → (sites : List ℕ) (j : ℕ) → slice_index (map f sites) j < n
entry_within f n h [] j = let some = h 0 in omega (arith, some)
entry_within f n h (x ∷ rest) zero = h x
entry_within f n h (x ∷ rest) (suc j) = entry_within f n h rest j

pub written_has_stages : (p : Program) (proved : Bool) (w : WrittenPlan) → HasStages p (plan_of p proved w)
written_has_stages p proved w site e = by (nat_le (first_site p (plan_of p proved w)) site) refl
  where
    below : slice_index (map (written_stage w) (region_sites p w.region)) (site - first_site p (plan_of p proved w)) < suc (length w.stages)
    below = entry_within (written_stage w) (suc (length w.stages)) (λ x. let h = stage_within 1 w.stages x (omega arith) in
        omega (arith, h)) (region_sites p w.region) (site - first_site p (plan_of p proved w))

    by : (b : Bool) → nat_le (first_site p (plan_of p proved w)) site ≡ b → ⊥
    by true q = let is : slice_index (map (written_stage w) (region_sites p w.region)) (site - first_site p (plan_of p proved w)) ≡ last (plan_of p proved w) =
        rw q at e in omega (arith, is, below, length-map w.stages kind_in)
    by false q = let is : 0 ≡ last (plan_of p proved w) = rw q at e in omega (arith, is)
