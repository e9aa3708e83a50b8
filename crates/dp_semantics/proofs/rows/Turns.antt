-- Turns of stages, computed.
use Rattle.std.proofs.Common.{◌≡◌, refl, ℕ, false, List, [], ◌∷◌, ℤ, pos, negsuc, replicate, Some, None, Ok, Err}
use Rattle.dp_base.specs.declared.Word.{Word}
use Rattle.dp_base.specs.declared.WordKind.TheVariants as word
use Rattle.dp_base.specs.declared.FaultKind.TheVariants.{Divide}
use Rattle.dp_tree.proofs.Build.{tree_opened}
use Rattle.dp_tree.proofs.Programs.{sum_loop, stale_read, skip_negative, stale_step, stale_divisor}
use Rattle.dp_plan.proofs.Plans.{sum_loop_one_stage, stale_read_plan, skip_negative_plan, stale_step_plan, stale_divisor_plan}
use Rattle.dp_semantics.specs.Words.{Astray, Faults, Full}
use Rattle.dp_semantics.specs.StageRun.{TurnEnd, turn_from, stage_run}

abbrev own_of : TurnEnd → List Word
own_of (Ok e) = e.own
own_of (Err why) = []

abbrev input : List ℤ
input = negsuc 0 ∷ pos 5 ∷ pos 3 ∷ []

abbrev base : List ℤ
base = pos 0 ∷ pos 0 ∷ pos 0 ∷ []

abbrev done : ℕ → ℕ → ℤ → Word
done site index z = record { site = record { 0 = site }; kind = word.Done; index = index; value = z }

abbrev load : ℕ → ℕ → ℤ → Word
load site index z = record { site = record { 0 = site }; kind = word.Load; index = index; value = z }

-- a store's word has its cell, and that of a print or of a condition 0
words_of_all_kinds : stage_run sum_loop sum_loop_one_stage [] 1 (pos 3 ∷ pos 2 ∷ []) []
    ≡ Ok (record { own = done 2 0 (pos 1) ∷ done 3 0 (pos 5) ∷ done 4 0 (pos 5) ∷ done 5 1 (pos 3) ∷ []; cells = pos 5 ∷ pos 3 ∷ []; closing = false })
unfolding tree_opened turn_from
words_of_all_kinds = refl

-- site 3 is checked: its loads come before what it does
words_of_loads : stage_run stale_read stale_read_plan [] 1 (pos 7 ∷ replicate 9 (pos 0)) []
    ≡ Ok (record {
      own = done 2 0 (pos 1) ∷ load 3 8 (pos 0) ∷ load 3 9 (pos 0) ∷ load 3 0 (pos 7) ∷ done 3 8 (pos 7) ∷ done 4 9 (pos 1) ∷ [];
      cells = pos 7 ∷ pos 0 ∷ pos 0 ∷ pos 0 ∷ pos 0 ∷ pos 0 ∷ pos 0 ∷ pos 0 ∷ pos 7 ∷ pos 1 ∷ [];
      closing = false;
    })
unfolding tree_opened turn_from
words_of_loads = refl

first_turn : stage_run skip_negative skip_negative_plan input 1 base [] ≡ Ok
    (record { own = done 2 0 (pos 1) ∷ done 6 1 (pos 1) ∷ []; cells = pos 0 ∷ pos 1 ∷ pos 0 ∷ []; closing = false })
unfolding tree_opened turn_from
first_turn = refl

-- the assumption is broken: stage 2 takes the branch, and finds the next word at its first site
astray : stage_run skip_negative skip_negative_plan input 2 base (own_of (stage_run skip_negative skip_negative_plan input 1 base []) ∷ []) ≡ Err
    (Astray 5 (Some (done 6 1 (pos 1))))
unfolding tree_opened turn_from
astray = refl

-- on a stale step of 0 the inner loop goes on until its words are spent
stale_loop : stage_run stale_step (stale_step_plan 64) [] 1 (pos 0 ∷ pos 0 ∷ pos 1 ∷ pos 0 ∷ []) [] ≡ Err Full
unfolding tree_opened turn_from
stale_loop = refl

-- a stale divisor faults in the stage, in the line of its site
stale_division : stage_run stale_divisor stale_divisor_plan [] 1 (pos 0 ∷ pos 0 ∷ pos 1 ∷ []) [] ≡ Err (Faults (record { kind = Divide; line = 8 }))
unfolding tree_opened turn_from
stale_division = refl

-- the word's cell is none of the variable's
foreign_cell : stage_run stale_step (stale_step_plan 64) [] 2 (replicate 4 (pos 0)) ((done 2 0 (pos 1) ∷ done 3 0 (pos 0) ∷ []) ∷ []) ≡ Err
    (Astray 3 (Some (done 3 0 (pos 0))))
unfolding tree_opened turn_from
foreign_cell = refl

-- no word is left for the first site
no_word : stage_run stale_step (stale_step_plan 64) [] 2 (replicate 4 (pos 0)) ([] ∷ []) ≡ Err (Astray 2 None)
unfolding tree_opened turn_from
no_word = refl
