-- How the number of an epoch's units grows, stage by stage.
use Rattle.std.proofs.Common.{◌≡◌, refl, sym, ap, ◌∙◌, ℕ, zero, suc, ◌+◌, ◌-◌, ◌<◌, ◌≤◌, Bool, true, false, List, [], ◌∷◌, length, drop, Some, slice_get, arith}
use Rattle.std.proofs.Math.ListN.{drop_of_length-le}
use Rattle.dp_tree.specs.declared.Program.{Program}
use Rattle.dp_plan.specs.declared.Plan.{Plan}
use Rattle.dp_plan.specs.declared.StageKind.{StageKind}
use Rattle.dp_plan.specs.declared.StageKind.TheVariants.{Seq, Par}
use Rattle.dp_plan.specs.Access.{is_par, is_replicated}
use Rattle.dp_semantics.specs.Fits.{fits_plan}
use Rattle.dp_theorem.proofs.Fitting.{accepted}
use Rattle.dp_pipeline.specs.UnitCount.{unit_count_of, unit_count_all}

sequential_at : (kinds : List StageKind) (k : ℕ) → k < length kinds → is_par (slice_get kinds k) ≡ false → slice_get kinds k ≡ Some Seq
sequential_at [] k low e = absurd (omega (arith, low))
sequential_at (Seq ∷ kinds) zero low e = refl
sequential_at (Par ∷ kinds) zero low e = absurd (cc e)
sequential_at (kind ∷ kinds) (suc k) low e = sequential_at kinds k (omega (arith, low)) e

replicated_at : (kinds : List StageKind) (k : ℕ) → is_par (slice_get kinds k) ≡ true → slice_get kinds k ≡ Some Par
replicated_at [] k e = absurd (cc e)
replicated_at (Par ∷ kinds) zero e = refl
replicated_at (Seq ∷ kinds) zero e = absurd (cc e)
replicated_at (kind ∷ kinds) (suc k) e = replicated_at kinds k e

one_of : (workers : ℕ) (kinds : List StageKind) (k : ℕ) (kind : StageKind) → slice_get kinds k ≡ Some kind
    → unit_count_all workers (drop k kinds) ≡ unit_count_of workers kind + unit_count_all workers (drop (suc k) kinds)
one_of workers [] k kind e = absurd (cc e)
one_of workers (x ∷ kinds) zero kind e = let is : x ≡ kind = cc e in ap (λ (q : StageKind). unit_count_of workers q + unit_count_all workers kinds) is
one_of workers (x ∷ kinds) (suc k) kind e = one_of workers kinds k kind e

-- so many units run the stages before this one, and the others those from it on
abbrev pub Staffed : ℕ → Plan → ℕ → ℕ → Type 0
Staffed workers plan stage count = count + unit_count_all workers (drop (stage - 1) plan.stages) ≡ unit_count_all workers plan.stages

module _ (workers : ℕ) (plan : Plan) where
  -- none yet, before the first stage
  pub none_staffed : (s count : ℕ) → s ≡ 1 → count ≡ 0 → Staffed workers plan s count
  none_staffed s count is none =
      let all : unit_count_all workers (drop (s - 1) plan.stages) ≡ unit_count_all workers plan.stages = ap
      (λ (j : ℕ). unit_count_all workers (drop (j - 1) plan.stages)) is in omega (arith, all, none)

  -- a unit more, that of a stage which isn't replicated
  pub stage_more : (s count : ℕ) → 0 < s → s ≤ length plan.stages → is_replicated plan s ≡ false → Staffed workers plan s count →
      Staffed workers plan (s + 1) (count + 1)
  stage_more zero count low high e was = absurd (omega (arith, low))
  stage_more (suc k) count low high e was =
      let here : suc k - 1 ≡ k = omega arith in
      let next : suc k + 1 - 1 ≡ suc k = omega arith in
      let begun : count + unit_count_all workers (drop k plan.stages) ≡ unit_count_all workers plan.stages = ap
      (λ (j : ℕ). count + unit_count_all workers (drop j plan.stages)) (sym here) ∙ was in
      let one = one_of workers plan.stages k Seq (sequential_at plan.stages k (omega (arith, high)) e) in
      ap (λ (j : ℕ). count + 1 + unit_count_all workers (drop j plan.stages)) next ∙ omega (arith, begun, one)

  -- .. and the workers of the replicated stage behind it
  pub workers_more : (s count : ℕ) → 0 < s → s ≤ length plan.stages → is_replicated plan s ≡ false → is_replicated plan (suc s) ≡ true →
      Staffed workers plan s count
      → Staffed workers plan (s + 1 + 1) (count + (workers + 1))
  workers_more s count low high e par was =
      let one = stage_more s count low high e was in
      let here : s + 1 - 1 ≡ s = omega arith in
      let next : s + 1 + 1 - 1 ≡ suc s = omega arith in
      let begun : count + 1 + unit_count_all workers (drop s plan.stages) ≡ unit_count_all workers plan.stages = ap
      (λ (j : ℕ). count + 1 + unit_count_all workers (drop j plan.stages)) (sym here) ∙ one in
      let more = one_of workers plan.stages s Par (replicated_at plan.stages s par) in
      ap (λ (j : ℕ). count + (workers + 1) + unit_count_all workers (drop j plan.stages)) next ∙ omega (arith, begun, more)

  -- behind the last stage all its units are there
  pub all_staffed : (stage count : ℕ) → stage ≡ length plan.stages + 1 → Staffed workers plan stage count → count ≡ unit_count_all workers plan.stages
  all_staffed stage count is was =
      let none = ap (unit_count_all workers) (drop_of_length-le plan.stages {i = stage - 1} (omega (arith, is))) in omega (arith, none, was)

-- no replicated stage stands behind another
module _ (p : Program) (plan : Plan) (fits : fits_plan p plan ≡ true) where
  pub behind_replicated : (s : ℕ) → is_replicated plan (suc s) ≡ true → is_replicated plan (s + 1 + 1) ≡ false
  behind_replicated s par = by (is_replicated plan (s + 1 + 1)) refl
    where
      by : (b : Bool) → is_replicated plan (s + 1 + 1) ≡ b → b ≡ false
      by false e = refl
      by true e =
          let next : s + 1 + 1 ≡ suc (suc s) = omega arith in
          let clash : true ≡ false = sym par ∙ (accepted p plan fits).apart (suc s) (ap (is_replicated plan) (sym next) ∙ e) in absurd (cc clash)
