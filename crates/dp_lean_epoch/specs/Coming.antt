-- What comes to a stage, or to the judge, in the queues of the sites that it reads; and the memory with which it begins an iteration.
use Rattle.std.specs.Prelude.{◌≡◌, ℕ, suc, true, List, ◌++◌, ℤ, length}
use Rattle.std.specs.List.{flat_map}
use Rattle.dp_tree.specs.Numbering.{numbers_from}
use Rattle.dp_tree.specs.Eval.{Load}
use Rattle.dp_plan.specs.Checked.{is_checked}
use Rattle.dp_semantics.specs.Judge.{last}
use Rattle.dp_semantics.specs.EpochKey.{EpochKey}
use Rattle.dp_semantics.specs.EpochVerdicts.{state_at}
use Rattle.dp_net.specs.NetItems.{Marks}
use Rattle.dp_lean.specs.Queues.{Told}
use Rattle.dp_lean.specs.Laws.{AgreesOn, is_read}
use Rattle.dp_lean_epoch.specs.Own.{at_stage, told_upto, loads_upto}

module _ (m : Marks) (key : EpochKey) where
  -- The queue of each site that stage s + 1 reads begins with what the stages up to s told at the n-th iteration. `more` is behind.
  abbrev pub Brought : ℕ → ℕ → (ℕ → List Told) → (ℕ → List Told) → Type 0
  Brought s n queues more = (y : ℕ) → is_read key.program key.plan m (suc s) y ≡ true → queues y ≡ told_upto m key s y n ++ more y

  -- .. at the j iterations from the k-th on
  abbrev pub QueuesBring : ℕ → ℕ → ℕ → (ℕ → List Told) → (ℕ → List Told) → Type 0
  QueuesBring s k j queues more =
      (y : ℕ) → is_read key.program key.plan m (suc s) y ≡ true → queues y ≡ flat_map (told_upto m key s y) (numbers_from k j) ++ more y

  -- the same of the loads of checked sites, for the judge
  abbrev pub LoadsBrought : ℕ → (ℕ → List (List Load)) → (ℕ → List (List Load)) → Type 0
  LoadsBrought n loads more = (y : ℕ) → is_read key.program key.plan m (last key.plan) y ≡ true → is_checked key.program key.plan y ≡ true →
      loads y ≡ loads_upto m key (length key.plan.stages) y n ++ more y

  abbrev pub LoadsComing : ℕ → ℕ → (ℕ → List (List Load)) → (ℕ → List (List Load)) → Type 0
  LoadsComing k j loads more = (y : ℕ) → is_read key.program key.plan m (last key.plan) y ≡ true → is_checked key.program key.plan y ≡ true →
      loads y ≡ flat_map (loads_upto m key (length key.plan.stages) y) (numbers_from k j) ++ more y

  -- The memory agrees with the one that stage s has before the n-th iteration on what the stage wants.
  abbrev pub LeanStands : ℕ → ℕ → List ℤ → Type 0
  LeanStands s n memory = AgreesOn key.program key.plan s (at_stage m key s n).before memory

-- .. with the committed memory before the n-th iteration on what the judge wants.
abbrev pub LeanJudges : EpochKey → ℕ → List ℤ → Type 0
LeanJudges key n memory = AgreesOn key.program key.plan (last key.plan) (state_at key n).cells memory
